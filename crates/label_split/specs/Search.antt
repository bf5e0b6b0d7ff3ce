-- What a search for a label has still to look at, and what it has found.
use Rattle.std.specs.Prelude.{◌≡◌, ◌<◌, ◌⊎◌, ℕ, Bool, not, Option, Some, None, List, [], ◌∷◌, ◌++◌, length, map, All, IsTrue, slice_set}
use Rattle.model_tree.specs.Label.{Label}
use Rattle.model_tree.specs.Formula.{formula_holds}
use Rattle.label_core.specs.Formula.{plain_formula}
use Rattle.label_core.specs.Meaning.{Meaning, IsChainOver}
use Rattle.label_core.specs.Verdict.{Decides, OnlyFar}
use Rattle.label_core.specs.declared.formula.Formula.{Formula}
use Rattle.label_core.specs.declared.theory.Verdict.{Verdict}
use Rattle.label_core.specs.declared.theory.Verdict.TheVariants.{Sat, Unsat, Wide}
use Rattle.label_split.specs.Known.{known_at, Follows, Forces}
use Rattle.label_split.specs.Numbers.{truths_at, HaveSigns}
use Rattle.label_split.specs.Signs.{atoms_in_each}
use Rattle.label_split.specs.Weights.{weight}
use Rattle.label_split.specs.declared.known.Known.{Known}
use Rattle.label_split.specs.declared.search.Look.{Look}
use Rattle.label_split.specs.declared.search.Look.TheVariants.{Found, Closed, TooWide, Again, Turn}

abbrev pub branch_lists : List Known → List (List (Option Bool))
branch_lists branches = map (λ known. known.signs.items) branches

-- the truth values follow what is known in one of these
abbrev pub Covers : List (List (Option Bool)) → List Bool → Type 0
Covers [] truths = ⊥
Covers (known ∷ rest) truths = Follows known truths ⊎ Covers rest truths

module _ {A V W : Type 0} {label_of : V → Label} {holds : A → Label → Bool} (M : Meaning label_of holds W) where
  -- the verdict on the conjunction of the formulas
  abbrev pub DecidesEach : List (Formula A) → Verdict V W → Type 0
  DecidesEach formulas = Decides M (λ l. All (λ f. IsTrue (formula_holds (λ a. holds a l) (plain_formula f))) formulas) (IsChainOver M (atoms_in_each formulas))

  module _ (atoms : List A) where
    -- the verdict on whether formulas over the numbers of the atoms have these signs
    abbrev pub DecidesSigns : List (Formula ℕ) → List Bool → Verdict V W → Type 0
    DecidesSigns formulas signs = Decides M (λ l. HaveSigns formulas signs (truths_at holds atoms l)) (IsChainOver M atoms)

    -- the verdict on whether the truth values of the atoms follow what is known
    abbrev pub DecidesKnown : List (Option Bool) → Verdict V W → Type 0
    DecidesKnown known = Decides M (λ l. Follows known (truths_at holds atoms l)) (IsChainOver M atoms)

    module _ (asked : Label → Type 0) where
      -- each label that is as asked is among those that are left; or there is a chain, and where it is far, each kept one is
      abbrev pub IsLeft : Option W → (Label → Type 0) → Type 0
      IsLeft None left = (l : Label) → M.has l → asked l → left l
      IsLeft (Some w) left = (IsChainOver M atoms w × M.passes w) × (M.is_far w → ((l : Label) × M.has l × asked l) × ((l : Label) → M.keeps l → asked l → left l))

      -- the answer for the labels that follow what is known; or an atom that wasn't known and is, or isn't
      abbrev pub Looks : List (Option Bool) → List (Option Bool) → Look V W → Type 0
      Looks old known (Found v) = M.keeps (label_of v) × asked (label_of v)
      Looks old known Closed = (l : Label) → M.has l → Follows known (truths_at holds atoms l) → ¬ asked l
      Looks old known (TooWide w) = (IsChainOver M atoms w × M.passes w) × (M.is_far w → OnlyFar M (λ l. Follows known (truths_at holds atoms l) × asked l))
      Looks old known (Again formula atom) = (known_at old atom ≡ None) × (known_at known atom ≡ None → ⊥)
      Looks old known (Turn formula atom sign) = (atom < length known) × (known_at known atom ≡ None)

      -- of the labels that are as asked, a value's; or that those among the branches before are among those after; or a chain, and where it is far, the same of those that are kept
      abbrev pub Answers : (Label → Type 0) → (Label → Type 0) → Verdict V W → Type 0
      Answers left new (Sat v) = M.keeps (label_of v) × asked (label_of v)
      Answers left new Unsat = (l : Label) → M.has l → asked l → left l → new l
      Answers left new (Wide w) = (IsChainOver M atoms w × M.passes w) × (M.is_far w → ((l : Label) × M.has l × asked l) × ((l : Label) → M.keeps l → asked l → left l → new l))

      -- the verdict on a branch that was taken, but for what it leaves
      pub record IsTaken (old new : List (List (Option Bool))) (verdict : Verdict V W) : Type 0 where
        pub less : weight new < weight old
        pub many : All (λ k. length k ≡ length atoms) new
        pub answers : Answers (λ l. Covers old (truths_at holds atoms l)) (λ l. Covers new (truths_at holds atoms l)) verdict

    -- what is found in a branch, of whose atoms more is known then
    pub record IsLooked (signs : List Bool → Type 0) (old known : List (Option Bool)) (look : Look V W) : Type 0 where
      pub forces : Forces signs old known
      pub looks : Looks (λ l. signs (truths_at holds atoms l)) old known look

-- a branch for each sign of the atom, the given one last
abbrev pub with_both_signs : List (List (Option Bool)) → List (Option Bool) → ℕ → Bool → List (List (Option Bool))
with_both_signs branches known atom sign = (branches ++ slice_set known atom (Some (not sign)) ∷ []) ++ slice_set known atom (Some sign) ∷ []

-- the atom whose signs are to be looked at is one of those of which something may be known
abbrev pub MayFollow : {V W : Type 0} → List (Option Bool) → Look V W → Type 0
MayFollow known (Found v) = Unit {0}
MayFollow known Closed = Unit {0}
MayFollow known (TooWide w) = Unit {0}
MayFollow known (Again formula atom) = Unit {0}
MayFollow known (Turn formula atom sign) = atom < length known

-- the verdict that says what was found, and the branches that come to the others
abbrev pub IsFollowed : {V W : Type 0} → List (Option Bool) → List (List (Option Bool)) → List (List (Option Bool)) → Look V W → Verdict V W → Type 0
IsFollowed known old new (Found v) verdict = (verdict ≡ Sat v) × (new ≡ old)
IsFollowed known old new Closed verdict = (verdict ≡ Unsat) × (new ≡ old)
IsFollowed known old new (TooWide w) verdict = (verdict ≡ Wide w) × (new ≡ old)
IsFollowed known old new (Again formula atom) verdict = (verdict ≡ Unsat) × (new ≡ old ++ known ∷ [])
IsFollowed known old new (Turn formula atom sign) verdict = (verdict ≡ Unsat) × (new ≡ with_both_signs old known atom sign)

-- whether the formula has said more of the atom, or both signs of it are to be looked at
abbrev pub IsNext : {V W : Type 0} → ℕ → ℕ → Bool → List (Option Bool) → Look V W → Type 0
IsNext number atom sign known (Found v) = ⊥
IsNext number atom sign known Closed = ⊥
IsNext number atom sign known (TooWide w) = ⊥
IsNext number atom sign known (Again n a) = (a ≡ atom) × (known_at known atom ≡ None → ⊥)
IsNext number atom sign known (Turn n a s) = (a ≡ atom) × (known_at known atom ≡ None)

-- of two chains the first, unless there is none or it is far
abbrev pub IsNearer : {W : Type 0} → (W → Type 0) → Option W → W → W → Type 0
IsNearer far None second w = w ≡ second
IsNearer far (Some first) second w = ((w ≡ second) × far first) ⊎ ((w ≡ first) × ¬ far first)
