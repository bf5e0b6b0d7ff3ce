-- Labels that give guards one truth value each.
use Rattle.std.proofs.Common.{◌≡◌, Bool, List, [], ◌∷◌, refl, ap₂}
use Rattle.model_tree.specs.Label.{Label}
use Rattle.model_tree.specs.Formula.{Formula, formula_holds}
use Rattle.model_sta.specs.Sets.{Each}
use Rattle.sta_classes.specs.Guards.{truths}

cons_eq : {X : Type 0} (x y : X) (xs ys : List X) → x ∷ xs ≡ y ∷ ys → (x ≡ y) × (xs ≡ ys)
cons_eq x y xs ys e = (cc, cc)

module _ {A : Type 0} (holds : A → Label → Bool) (l m : Label) where
  -- the guard has one truth value at both labels
  abbrev pub Same : Formula A → Type 0
  Same g = formula_holds (λ a. holds a l) g ≡ formula_holds (λ a. holds a m) g

  pub same_truths : (gs : List (Formula A)) → truths holds gs l ≡ truths holds gs m → Each Same gs
  same_truths [] e = tt
  same_truths (g ∷ gs) e = let (a, b) = cons_eq _ _ _ _ e in (a, same_truths gs b)

  pub truths_same : (gs : List (Formula A)) → Each Same gs → truths holds gs l ≡ truths holds gs m
  truths_same [] h = refl
  truths_same (g ∷ gs) h = ap₂ (λ x y. x ∷ y) h.0 (truths_same gs h.1)
