-- The guards of rules.
use Rattle.std.specs.Prelude.{ℕ, ◌==◌, ◌&&◌, Bool, List, [], ◌∷◌, ◌++◌, map, filter, All}
use Rattle.model_tree.specs.Label.{Label}
use Rattle.model_tree.specs.Formula.{Formula, formula_holds, EveryAtom, formulas_of}
use Rattle.label_core.specs.Formula.{atoms_in_all}
use Rattle.model_sta.specs.Sets.{Row, rows_meet}
use Rattle.sta_core.specs.Machine.{PlainRule}

module _ {A : Type 0} where
  -- the guards of the rules with this constructor that children with these sets let fire
  abbrev pub firing_guards : ℕ → List Row → List (PlainRule A) → List (Formula A)
  firing_guards c qs rs = map (λ r. r.guard) (filter (λ r. (r.constructor == c) && rows_meet qs r.demands) rs)

  -- the guards of all rules
  abbrev pub all_guards : List (List (PlainRule A)) → List (Formula A)
  all_guards [] = []
  all_guards (rs ∷ rules) = map (λ r. r.guard) rs ++ all_guards rules

  -- their atoms, from the left
  abbrev pub atoms_of_all : List (Formula A) → List A
  atoms_of_all guards = atoms_in_all (formulas_of guards)

  -- the truth value of each guard at the label
  abbrev pub truths : (A → Label → Bool) → List (Formula A) → Label → List Bool
  truths holds guards l = map (λ g. formula_holds (λ a. holds a l) g) guards

  -- each atom of each guard fits
  abbrev pub GuardsFit : (A → Type 0) → List (List (PlainRule A)) → Type 0
  GuardsFit fits rules = All (λ rs. All (λ r. EveryAtom fits r.guard) rs) rules
