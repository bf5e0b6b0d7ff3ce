-- Parts of two formulas that are compared one by one.
use Rattle.std.proofs.Common.{◌≡◌, ℕ, suc, ◌+◌, ◌<◌, ◌≤◌, Bool, true, false, ◌&&◌, List, [], ◌∷◌, map, length, drop, get_or, Vec, Global, refl, ap, sym, ◌∙◌}
use Rattle.std.proofs.lemmas.List.{at_drop_more, at_drop_all}
use Rattle.model_tree.specs.Formula.{formulas_of}
use Rattle.label_core.specs.Formula.{plain_formula}
use Rattle.label_core.specs.SameFormula.{same_formula, same_formulas}
use Rattle.label_core.specs.declared.formula.Formula.{Formula}
use Rattle.label_core.specs.declared.formula.Formula.TheVariants.{And, Or}
use Rattle.label_core.proofs.Formulas.{plain_and, plain_or}

module _ {A : Type 0} (eq : A → A → Bool) where
  abbrev pub same_lists : List (Formula A) → List (Formula A) → Bool
  same_lists fs gs = same_formulas eq (formulas_of (map plain_formula fs)) (formulas_of (map plain_formula gs))

  pub same_many : (fs gs : List (Formula A)) → (length fs ≡ length gs → ⊥) → same_lists fs gs ≡ false
  same_many [] [] h = absurd (h refl)
  same_many [] (g ∷ gs) h = refl
  same_many (f ∷ fs) [] h = refl
  same_many (f ∷ fs) (g ∷ gs) h = (λ i. same_formula eq (plain_formula f) (plain_formula g) && same_many fs gs (λ e. h (ap suc e)) i) ∙ neither (same_formula eq (plain_formula f) (plain_formula g))
    where
      neither : (b : Bool) → (b && false) ≡ false
      neither true = refl
      neither false = refl

  module _ (fs gs : List (Formula A)) (i : ℕ) (f g : Formula A) (low : i < length fs) (low' : i < length gs) (f_is : f ≡ get_or fs i f) (g_is : g ≡ get_or gs i g) where
    here : same_lists (drop i fs) (drop i gs) ≡ (same_formula eq (plain_formula f) (plain_formula g) && same_lists (drop (i + 1) fs) (drop (i + 1) gs))
    here =
        at_drop_more (λ us. same_lists us (drop i gs)) fs i f low
        ∙ at_drop_more (λ vs. same_lists (get_or fs i f ∷ drop (i + 1) fs) vs) gs i g low'
        ∙ (λ j. same_formula eq (plain_formula (sym f_is j)) (plain_formula (sym g_is j)) && same_lists (drop (i + 1) fs) (drop (i + 1) gs))

    pub same_more : same_formula eq (plain_formula f) (plain_formula g) ≡ true → same_lists fs gs ≡ same_lists (drop i fs) (drop i gs) → same_lists fs gs ≡ same_lists (drop (i + 1) fs) (drop (i + 1) gs)
    same_more is before = before ∙ here ∙ ap (λ b. b && same_lists (drop (i + 1) fs) (drop (i + 1) gs)) is

    pub same_not : same_formula eq (plain_formula f) (plain_formula g) ≡ false → same_lists fs gs ≡ same_lists (drop i fs) (drop i gs) → same_lists fs gs ≡ false
    same_not is before = before ∙ here ∙ ap (λ b. b && same_lists (drop (i + 1) fs) (drop (i + 1) gs)) is

  pub same_all : (fs gs : List (Formula A)) (i : ℕ) → length fs ≤ i → length gs ≤ i → same_lists fs gs ≡ same_lists (drop i fs) (drop i gs) → same_lists fs gs ≡ true
  same_all fs gs i h h' before = before ∙ at_drop_all (λ us. same_lists us (drop i gs)) fs i h ∙ at_drop_all (λ vs. same_lists [] vs) gs i h'

  pub same_and : (f g : Formula A) (v w : Vec (Formula A) Global) (fs gs : List (Formula A)) → f ≡ And v → g ≡ And w → fs ≡ v.items → gs ≡ w.items → same_lists fs gs ≡ same_formula eq (plain_formula f) (plain_formula g)
  same_and f g v w fs gs f_is g_is fs_is gs_is = (λ i. same_lists (fs_is i) (gs_is i)) ∙ sym (λ i. same_formula eq ((ap plain_formula f_is ∙ plain_and v) i) ((ap plain_formula g_is ∙ plain_and w) i))

  pub same_or : (f g : Formula A) (v w : Vec (Formula A) Global) (fs gs : List (Formula A)) → f ≡ Or v → g ≡ Or w → fs ≡ v.items → gs ≡ w.items → same_lists fs gs ≡ same_formula eq (plain_formula f) (plain_formula g)
  same_or f g v w fs gs f_is g_is fs_is gs_is = (λ i. same_lists (fs_is i) (gs_is i)) ∙ sym (λ i. same_formula eq ((ap plain_formula f_is ∙ plain_or v) i) ((ap plain_formula g_is ∙ plain_or w) i))
