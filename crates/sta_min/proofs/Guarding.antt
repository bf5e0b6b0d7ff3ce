-- A disjunction of guards holds over the labels of any of them.
use Rattle.std.proofs.Common.{ℕ, zero, suc, ◌+◌, ◌≡◌, ◌<◌, ◌||◌, Bool, true, false, IsTrue, List, [], ◌∷◌, ◌++◌, map, get_or, length, Contains, refl, sym, ap, subst, ◌∙◌, arith}
use Rattle.std.proofs.lemmas.Bool.{or_right}
use Rattle.std.proofs.lemmas.List.{map-append}
use Rattle.model_tree.specs.Label.{Label}
use Rattle.model_tree.specs.Formula.{Formula, yes, some_of, formulas_of, formula_holds, some_hold, EveryAtom}
use Rattle.model_sta.proofs.Reached.{same_default}
use Rattle.label_core.specs.Atoms.{has_equal}
use Rattle.label_core.specs.Formula.{plain_formula}
use Rattle.label_core.specs.declared.formula.Formula as code
use Rattle.label_split.proofs.SameAtoms.{all_atoms, every_atom}
use Rattle.sta_classes.specs.Guards.{all_guards, atoms_of_all}
use Rattle.sta_classes.specs.Plain.{PlainTable, class_row}
use Rattle.sta_classes.proofs.Atoms.{of_each_formula}
use Rattle.sta_theory.proofs.Lists.{none_in, first_in, later_in}
use Rattle.sta_ops.proofs.Atoms.{in_each}
use Rattle.sta_min.specs.Targets.{IsGuardOf, IsGuardOfAny}
use Rattle.sta_min.proofs.Made.{AreMade, made_more}

module _ {A : Type 0} (holds : A → Bool) where
  pub some_true : (gs : List (Formula A)) → some_hold holds (formulas_of gs) ≡ true → (f : Formula A) × Contains gs f × (formula_holds holds f ≡ true)
  some_true [] e = absurd (cc)
  some_true (g ∷ gs) e = by (λ h. (let (f, at, is) = some_true gs h in (f, later_in g f gs at, is))) (formula_holds holds g) refl
    where
      by : (some_hold holds (formulas_of gs) ≡ true → (f : Formula A) × Contains (g ∷ gs) f × (formula_holds holds f ≡ true)) → (b : Bool) → formula_holds holds g ≡ b → (f : Formula A) × Contains (g ∷ gs) f × (formula_holds holds f ≡ true)
      by rest true is = (g, first_in g gs, is)
      by rest false is = rest (sym (ap (λ b. b || some_hold holds (formulas_of gs)) is) ∙ e)

  pub true_some : (gs : List (Formula A)) (f : Formula A) → Contains gs f → formula_holds holds f ≡ true → some_hold holds (formulas_of gs) ≡ true
  true_some [] f at is = absurd (none_in f at)
  true_some (g ∷ gs) f (zero, low, same) is = ap (λ b. b || some_hold holds (formulas_of gs)) (ap (formula_holds holds) same ∙ is)
  true_some (g ∷ gs) f (suc k, low, same) is = or_right (formula_holds holds g) (some_hold holds (formulas_of gs)) (true_some gs f (k, omega arith, same) is)

module _ {A V : Type 0} (eq : A → A → Bool) (holds : A → Label → Bool) (t : PlainTable A V) (c : ℕ) (children : List ℕ) (classes : List ℕ) where
  abbrev pub Guards : ℕ → List (Formula A) → Type 0
  Guards = AreMade yes (λ i f. IsGuardOf eq holds t c children (get_or classes i 0) f)

  pub more_guards : (i k : ℕ) → k ≡ get_or classes i 0 → (old new : List (code.Formula A)) (f : code.Formula A) → Guards i (map plain_formula old) → IsGuardOf eq holds t c children k (plain_formula f) → new ≡ old ++ f ∷ [] → Guards (i + 1) (map plain_formula new)
  more_guards i k at old new f are is put =
      made_more yes (λ i f. IsGuardOf eq holds t c children (get_or classes i 0) f) i (map plain_formula old) (map plain_formula new) (plain_formula f) are (subst (λ x. IsGuardOf eq holds t c children x (plain_formula f)) at is) (ap (map plain_formula) put ∙ map-append plain_formula old (f ∷ []))

  module _ (guards : List (Formula A)) (are : Guards (length classes) guards) where
    guard_at : (f : Formula A) → Contains guards f → (i : ℕ) × (i < length classes) × IsGuardOf eq holds t c children (get_or classes i 0) f
    guard_at f (i, low, is) =
        let within : i < length classes = omega (arith, low, are.many) in
        (i, within, subst (IsGuardOf eq holds t c children (get_or classes i 0)) (same_default guards i yes f low ∙ is) (are.each i within))

    pub any_guard : IsGuardOfAny eq holds t c children classes (some_of (formulas_of guards))
    any_guard = record {
      holds_there = λ l. (
        (λ h.
            let (f, at, is) = some_true (λ a. holds a l) guards h in
            let (i, low, guard) = guard_at f at in
            (get_or classes i 0, (i, low, same_default classes i (get_or classes i 0) 0 low), (guard.holds_there l).0 is)),
        (λ w.
            let (k, at, row) = w in
            let (i, low, is) = at in
            let here : get_or classes i 0 ≡ k = same_default classes i 0 k low ∙ is in
            let guard : IsGuardOf eq holds t c children (get_or classes i 0) (get_or guards i yes) = are.each i low in
            true_some (λ a. holds a l) guards (get_or guards i yes) (i, omega (arith, low, are.many), same_default guards i (get_or guards i yes) yes (omega (arith, low, are.many))) ((guard.holds_there l).1 (row ∙ sym (ap (class_row t) here)))),
      );
      atoms =
          all_atoms (λ a. IsTrue (has_equal eq (atoms_of_all (all_guards t.machine.rules)) a)) (some_of (formulas_of guards))
          (of_each_formula (λ a. IsTrue (has_equal eq (atoms_of_all (all_guards t.machine.rules)) a)) guards
          (in_each (EveryAtom (λ a. IsTrue (has_equal eq (atoms_of_all (all_guards t.machine.rules)) a))) guards (λ f at.
          (let (i, low, guard) = guard_at f at in every_atom (λ a. IsTrue (has_equal eq (atoms_of_all (all_guards t.machine.rules)) a)) f guard.atoms))));
    }
