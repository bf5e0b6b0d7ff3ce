-- What the least automaton of a language is.
use Rattle.std.specs.Prelude.{ℕ, ◌≡◌, ◌<◌, Bool, List, [], get_or, All, Contains}
use Rattle.std.specs.List.{AllPairs}
use Rattle.model_tree.specs.Label.{Label}
use Rattle.model_tree.specs.Tree.{Tree}
use Rattle.model_sta.specs.Automaton.{Rule, rules_of}
use Rattle.model_sta.specs.Operations.{Auto}
use Rattle.model_sta.specs.Sets.{set_of, Fits}
use Rattle.label_core.specs.Meaning.{Meaning}
use Rattle.sta_core.specs.declared.Lang.{Lang}
use Rattle.sta_ops.specs.Languages.{auto_of, IsMadeOfBoth}
use Rattle.sta_theory.specs.Kinds.{OneKind}
use Rattle.sta_theory.specs.Minimal.{IsLeast}
use Rattle.sta_min.specs.declared.least.Minimal.{Minimal}

module _ {L : Type 0} (ranks : List ℕ) (D : L → Type 0) where
  -- no rule tells trees apart as children there
  abbrev pub HasOneKind : List (List (Rule L)) → ℕ → ℕ → Type 0
  HasOneKind rules c j = (s t : Tree L) → Fits ranks D s → Fits ranks D t → OneKind rules c j (set_of rules s) (set_of rules t)

  -- and rules of the other automaton demand nothing there
  abbrev pub DemandsLittle : Auto L → Auto L → Type 0
  DemandsLittle a c = (i : ℕ) (r : Rule L) → Contains (rules_of c.rules i) r → (j : ℕ) → HasOneKind a.rules r.constructor j → get_or r.demands j [] ≡ []

-- the final ones of the first states, in ascending order, so each once
abbrev pub ListsFinals : {A : Type 0} → Minimal A → Type 0
ListsFinals m = All (λ i. i < m.count) m.finals.items × AllPairs (λ i j. i < j) m.finals.items

module _ {A V W : Type 0} {label_of : V → Label} {holds : A → Label → Bool} (M : Meaning label_of holds W) where
  -- the least automaton of the language, as many states before the last one, and which of these are final
  abbrev pub HasLeast : Lang A → Minimal A → Type 0
  HasLeast a m = IsLeast a.sta.ranks M.has (auto_of holds a) (auto_of holds m.lang) m.count m.finals.items

  abbrev pub HasLittle : Lang A → Minimal A → Type 0
  HasLittle a m = DemandsLittle a.sta.ranks M.has (auto_of holds a) (auto_of holds m.lang)

  pub record IsMinimalOf (fits : A → Type 0) (a : Lang A) (m : Minimal A) : Type 0 where
    pub least : HasLeast a m
    pub little : HasLittle a m
    pub made : IsMadeOfBoth M fits a a m.lang
    pub finals : ListsFinals m
