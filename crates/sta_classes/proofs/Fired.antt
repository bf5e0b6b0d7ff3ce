-- The formula of a row: which labels it holds of, and its atoms.
use Rattle.std.proofs.Common.{ℕ, zero, suc, ◌≡◌, ◌<◌, ◌+◌, ◌==◌, ◌&&◌, ◌||◌, ◌↔◌, not, Bool, true, false, IsTrue, cond, get_or, ◌++◌, arith, add-one, List, [], ◌∷◌, map, filter, length, take, refl, sym, ap, ap₂, ◌∙◌}
use Rattle.std.specs.Cmp.{IsEquivalence}
use Rattle.std.specs.List.{list_any}
use Rattle.model_tree.specs.Label.{Label}
use Rattle.model_tree.specs.Formula.{Formula, formulas_of, formula_holds, some_hold, EveryAtom, EveryAtomOfAll}
use Rattle.model_sta.specs.Sets.{Row, Each, rows_meet, fires, step}
use Rattle.label_core.specs.Atoms.{has_equal, EachHasEqual}
use Rattle.label_core.specs.Formula.{atoms_in}
use Rattle.label_split.proofs.SameAtoms.{all_atoms}
use Rattle.sta_core.specs.Machine.{PlainRule}
use Rattle.sta_core.specs.Sta.{rule_meaning}
use Rattle.sta_classes.specs.Rules.{meaning_of}
use Rattle.sta_classes.specs.Guards.{firing_guards, all_guards, atoms_of_all}
use Rattle.sta_classes.specs.RowFormula.{signed, some_fires, state_formulas, row_formula}
use Rattle.sta_classes.proofs.Kept.{each_split, each_kept}
use Rattle.sta_classes.proofs.Atoms.{of_each_formula, guards_among}

both_true : (x y : Bool) → IsTrue (x && y) ↔ (IsTrue x × IsTrue y)
both_true true y = ((λ h. (refl, h)), (λ h. h.1))
both_true false y = ((λ h. absurd cc), (λ h. absurd (let s : false ≡ true = h.0 in cc)))

module _ {A : Type 0} (c : ℕ) (qs : List Row) where
  taken : {X : Type 0} (f : X → List (PlainRule A)) (xs : List X) (row : Row) (i : ℕ) (x : X) (b : Bool) → i < length xs → length row ≡ length xs → x ≡ get_or xs i x → b ≡ get_or row i b
      → state_formulas c qs (map f (take (suc i) xs)) (take (suc i) row) ≡ state_formulas c qs (map f (take i xs)) (take i row) ++ signed b (some_fires c qs (f x)) ∷ []
  taken f [] row i x b low n at bit = absurd (omega arith)
  taken f (y ∷ xs) [] i x b low n at bit = absurd (omega arith)
  taken f (y ∷ xs) (d ∷ row) zero x b low n at bit = λ j. signed (sym bit j) (some_fires c qs (f (sym at j))) ∷ []
  taken f (y ∷ xs) (d ∷ row) (suc i) x b low n at bit = ap (λ z. signed d (some_fires c qs (f y)) ∷ z) (taken f xs row i x b (omega arith) (omega arith) at bit)

  -- one more of the formulas
  pub formulas_taken : {X : Type 0} (f : X → List (PlainRule A)) (xs : List X) (row : Row) (i : ℕ) (x : X) (b : Bool) → i < length xs → length row ≡ length xs → x ≡ get_or xs i x → b ≡ get_or row i b
      → state_formulas c qs (map f (take (i + 1) xs)) (take (i + 1) row) ≡ state_formulas c qs (map f (take i xs)) (take i row) ++ signed b (some_fires c qs (f x)) ∷ []
  formulas_taken f xs row i x b low n at bit = ap (λ k. state_formulas c qs (map f (take k xs)) (take k row)) (add-one i) ∙ taken f xs row i x b low n at bit

  module _ (holds : A → Label → Bool) (l : Label) where
    and_true : (x : Bool) → (x && true) ≡ x
    and_true true = refl
    and_true false = refl

    and_false : (x : Bool) → (x && false) ≡ false
    and_false true = refl
    and_false false = refl

    abbrev at : Formula A → Bool
    at g = formula_holds (λ a. holds a l) g

    one_fires : (b m : Bool) (r : PlainRule A) (rs : List (PlainRule A)) (rest : Bool) → rest ≡ some_hold (λ a. holds a l) (formulas_of (map (λ x. x.guard) rs)) → ((b && (at r.guard && m)) || rest) ≡ some_hold (λ a. holds a l) (formulas_of (map (λ x. x.guard) (cond (b && m) (r ∷ rs) rs)))
    one_fires true true r rs rest e = λ i. and_true (at r.guard) i || e i
    one_fires true false r rs rest e = λ i. and_false (at r.guard) i || e i
    one_fires false m r rs rest e = e

    -- a rule fires exactly where one of these guards holds
    pub fires_where : (rs : List (PlainRule A)) → list_any (fires c l qs) (map (rule_meaning holds) rs) ≡ at (some_fires c qs rs)
    fires_where [] = refl
    fires_where (r ∷ rs) = one_fires (r.constructor == c) (rows_meet qs r.demands) r (filter (λ s. (s.constructor == c) && rows_meet qs s.demands) rs) (list_any (fires c l qs) (map (rule_meaning holds) rs)) (fires_where rs)

    signed_holds : (d b : Bool) (f : Formula A) → b ≡ at f → IsTrue (at (signed d f)) ↔ (b ≡ d)
    signed_holds true b f e = ((λ h. e ∙ h), (λ h. sym e ∙ h))
    signed_holds false b f e = turned (at f) b e
      where
        turned : (x b : Bool) → b ≡ x → IsTrue (not x) ↔ (b ≡ false)
        turned true b e = ((λ h. absurd cc), (λ h. absurd (let s : true ≡ false = sym e ∙ h in cc)))
        turned false b e = ((λ h. e), (λ h. refl))

    -- the formula of a row holds exactly where the set is the row
    pub row_holds : (rules : List (List (PlainRule A))) (row : Row) → length row ≡ length rules → IsTrue (at (row_formula c qs rules row)) ↔ (step (meaning_of holds rules) c l qs ≡ row)
    row_holds [] [] n = ((λ h. refl), (λ h. refl))
    row_holds [] (d ∷ row) n = absurd (omega arith)
    row_holds (rs ∷ rules) [] n = absurd (omega arith)
    row_holds (rs ∷ rules) (d ∷ row) n =
        let fired : Bool = list_any (fires c l qs) (map (rule_meaning holds) rs) in
        let here = signed_holds d fired (some_fires c qs rs) (fires_where rs) in
        let rest = row_holds rules row (omega arith) in
        let both = both_true (at (signed d (some_fires c qs rs))) (at (row_formula c qs rules row)) in (
          (λ h. let (first, others) = both.0 h in ap₂ (λ b bs. b ∷ bs) (here.0 first) (rest.0 others)),
          (λ e.
              let first : fired ≡ d = cc in
              let others : step (meaning_of holds rules) c l qs ≡ row = cc in
              both.1 (here.1 first, rest.1 others)),
        )

  module _ (P : A → Type 0) where
    signed_atoms : (d : Bool) (f : Formula A) → EveryAtom P f → EveryAtom P (signed d f)
    signed_atoms true f h = h
    signed_atoms false f h = h

    formulas_atoms : (rules : List (List (PlainRule A))) (row : Row) → Each (EveryAtom P) (all_guards rules) → EveryAtomOfAll P (formulas_of (state_formulas c qs rules row))
    formulas_atoms [] row h = tt
    formulas_atoms (rs ∷ rules) [] h = tt
    formulas_atoms (rs ∷ rules) (d ∷ row) h =
        let (first, others) = each_split (EveryAtom P) (map (λ r. r.guard) rs) (all_guards rules) h in
        (signed_atoms d (some_fires c qs rs) (of_each_formula P (firing_guards c qs rs) (each_kept (EveryAtom P) (λ r. (r.constructor == c) && rows_meet qs r.demands) rs first)), formulas_atoms rules row others)

  -- its atoms are those of guards
  pub row_atoms : (eq : A → A → Bool) → IsEquivalence eq → (rules : List (List (PlainRule A))) (row : Row) → EachHasEqual eq (atoms_in (row_formula c qs rules row)) (atoms_of_all (all_guards rules))
  row_atoms eq laws rules row =
      all_atoms (λ a. IsTrue (has_equal eq (atoms_of_all (all_guards rules)) a)) (row_formula c qs rules row)
      (formulas_atoms (λ a. IsTrue (has_equal eq (atoms_of_all (all_guards rules)) a)) rules row (guards_among eq laws (all_guards rules)))
