-- Guards of which no label has all.
use Rattle.std.specs.Prelude.{IsTrue}
use Rattle.std.proofs.Common.{◌≡◌, ◌&&◌, Bool, true, false, List, [], ◌∷◌, All, refl, sym, subst, ap₂, ◌∙◌}
use Rattle.std.proofs.lemmas.List.Elements.{All-nil, All-cons}
use Rattle.model_tree.specs.Label.{Label}
use Rattle.model_tree.specs.Formula.{Formula, formula_holds}
use Rattle.label_core.specs.Formula.{plain_formula}
use Rattle.label_core.specs.declared.formula.Formula as code
use Rattle.sttr_preimage.specs.Apart.{AreApart}

module _ {A : Type 0} (holds : A → Label → Bool) (D : Label → Type 0) where
  abbrev Holds : Label → code.Formula A → Type 0
  Holds l h = IsTrue (formula_holds (λ a. holds a l) (plain_formula h))

  pub apart_of : (guards : List (code.Formula A)) (x y : code.Formula A) → guards ≡ x ∷ y ∷ [] → (f g : Formula A) → plain_formula x ≡ f → plain_formula y ≡ g → ((l : Label) → D l → ¬ (All (Holds l) guards)) → AreApart holds D f g
  apart_of guards x y e f g is is' none l d =
      ap₂ (λ h k. formula_holds (λ a. holds a l) h && formula_holds (λ a. holds a l) k) (sym is) (sym is')
      ∙ by (formula_holds (λ a. holds a l) (plain_formula x)) (formula_holds (λ a. holds a l) (plain_formula y)) (λ p q. none l d (subst (All (Holds l)) (sym e) (All-cons (Holds l) x (y ∷ []) p (All-cons (Holds l) y [] q (All-nil (Holds l))))))
    where
      by : (a b : Bool) → (IsTrue a → IsTrue b → ⊥) → (a && b) ≡ false
      by true true no_both = absurd (no_both refl refl)
      by true false no_both = refl
      by false b no_both = refl
