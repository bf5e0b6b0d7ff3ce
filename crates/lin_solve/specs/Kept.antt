-- Literals of which none is given twice.
use Rattle.std.specs.Prelude.{◌≡◌, Bool, true, false, cond, ◌&&◌, List, [], ◌∷◌, All, IsTrue}
use Rattle.std.specs.Bool.{beq}
use Rattle.std.specs.List.{list_all}
use Rattle.model_sta.specs.EachTwo.{EachTwo}
use Rattle.model_chain.specs.Literals.{needs_side}
use Rattle.label_core.specs.Atoms.{has_equal, EachHasEqual}
use Rattle.label_core.specs.declared.theory.Lit.{Lit}
use Rattle.lin_solve.specs.declared.compare.Compare.{Compare}
use Rattle.lin_solve.specs.Plain.{plain_literal}

-- whether those that are negated equalities stand behind all others: behind one of them, each is one
abbrev pub stand_last : List (Lit Compare) → Bool
stand_last [] = true
stand_last (l ∷ ls) = cond (needs_side (plain_literal l)) (list_all (λ m. needs_side (plain_literal m)) ls) (stand_last ls)

module _ (E : Compare → Compare → Bool) where
  -- whether they say the same of equal comparisons
  abbrev pub is_same : Lit Compare → Lit Compare → Bool
  is_same l m = beq l.sign m.sign && E l.atom m.atom

  -- no two of them are the same
  abbrev pub AreDifferent : List (Lit Compare) → Type 0
  AreDifferent ls = EachTwo (λ l m. is_same l m ≡ false) ls

  -- the second are some of the first, none twice
  abbrev pub AreSome : List (Lit Compare) → List (Lit Compare) → Type 0
  AreSome ls ks = EachHasEqual is_same ks ls × AreDifferent ks

  -- each of the first once: they are the same literals, but no two of the second are the same
  pub record AreKept (ls ks : List (Lit Compare)) : Type 0 where
    pub among : EachHasEqual is_same ks ls
    pub each : EachHasEqual is_same ls ks
    pub once : AreDifferent ks

  -- those of the first that are negated equalities, or that are none, came to the others; of these none was lost
  pub record Keeps (ls : List (Lit Compare)) (sided : Bool) (old ks : List (Lit Compare)) : Type 0 where
    pub among : EachHasEqual is_same old ls → EachHasEqual is_same ks ls
    pub each : All (λ l. needs_side (plain_literal l) ≡ sided → IsTrue (has_equal is_same ks l)) ls
    pub grown : (l : Lit Compare) → IsTrue (has_equal is_same old l) → IsTrue (has_equal is_same ks l)
    pub once : AreDifferent old → AreDifferent ks
