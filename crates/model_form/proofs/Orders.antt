-- Lists that are put in order, by a total order in which only equals tie.
use Rattle.std.proofs.Common.{◌≡◌, ◌⊎◌, inl, inr, List, [], ◌∷◌, Bool, true, false, cond, refl, ap, sym, ◌∙◌}
use Rattle.std.specs.declared.cmp.Ordering.{Ordering}
use Rattle.std.specs.declared.cmp.Ordering.TheVariants.{Less, Equal, Greater}
use Rattle.std.specs.Ordering.{is_gt, ordering_reverse}
use Rattle.std.specs.Cmp.{IsTotalOrder}
use Rattle.std.proofs.lemmas.Cmp.{upto}
use Rattle.model_form.specs.Same.{put}

module _ {A : Type 0} (R : A → A → Ordering) (o : IsTotalOrder R) (exact : (x y : A) → R x y ≡ Equal → x ≡ y) where
  -- of two, one is not above the other, and two that are not are equal
  pub compared : (x y : A) → (x ≡ y) ⊎ ((is_gt (R x y) ≡ true) × (is_gt (R y x) ≡ false) ⊎ (is_gt (R x y) ≡ false) × (is_gt (R y x) ≡ true))
  compared x y = by (R x y) (R y x) refl refl (o.antisymm x y)
    where
      by : (p q : Ordering) → R x y ≡ p → R y x ≡ q → R x y ≡ ordering_reverse (R y x) → (x ≡ y) ⊎ ((is_gt (R x y) ≡ true) × (is_gt (R y x) ≡ false) ⊎ (is_gt (R x y) ≡ false) × (is_gt (R y x) ≡ true))
      by Equal q e f g = inl (exact x y e)
      by Less Less e f g = absurd (let h : Less ≡ Greater = sym e ∙ g ∙ ap ordering_reverse f in cc)
      by Less Equal e f g = inl (sym (exact y x f))
      by Less Greater e f g = inr (inr (ap is_gt e, ap is_gt f))
      by Greater Less e f g = inr (inl (ap is_gt e, ap is_gt f))
      by Greater Equal e f g = inl (sym (exact y x f))
      by Greater Greater e f g = absurd (let h : Greater ≡ Less = sym e ∙ g ∙ ap ordering_reverse f in cc)

  pub above_on : (x y z : A) → is_gt (R x z) ≡ true → is_gt (R y z) ≡ false → is_gt (R x y) ≡ true
  above_on x y z p q = by (is_gt (R x y)) refl
    where
      by : (b : Bool) → is_gt (R x y) ≡ b → is_gt (R x y) ≡ true
      by true e = e
      by false e = absurd (let h : true ≡ false = sym p ∙ upto o x y z e q in cc)

  put_front : (x y : A) (ys : List A) → is_gt (R x y) ≡ false → put R x (y ∷ ys) ≡ x ∷ y ∷ ys
  put_front x y ys e = ap (λ b. cond b (y ∷ put R x ys) (x ∷ y ∷ ys)) e

  put_on : (x y : A) (ys : List A) → is_gt (R x y) ≡ true → put R x (y ∷ ys) ≡ y ∷ put R x ys
  put_on x y ys e = ap (λ b. cond b (y ∷ put R x ys) (x ∷ y ∷ ys)) e

  -- two that are put in are put in either order
  pub put_both : (x y : A) (zs : List A) → put R x (put R y zs) ≡ put R y (put R x zs)
  put_both x y [] = by (compared x y)
    where
      by : (x ≡ y) ⊎ ((is_gt (R x y) ≡ true) × (is_gt (R y x) ≡ false) ⊎ (is_gt (R x y) ≡ false) × (is_gt (R y x) ≡ true)) → put R x (y ∷ []) ≡ put R y (x ∷ [])
      by (inl e) = λ i. put R (e i) (sym e i ∷ [])
      by (inr (inl p)) = put_on x y [] p.0 ∙ sym (put_front y x [] p.1)
      by (inr (inr p)) = put_front x y [] p.0 ∙ sym (put_on y x [] p.1)
  put_both x y (z ∷ zs) = by (put_both x y zs) (is_gt (R x z)) (is_gt (R y z)) refl refl
    where
      swap : (x ≡ y) ⊎ ((is_gt (R x y) ≡ true) × (is_gt (R y x) ≡ false) ⊎ (is_gt (R x y) ≡ false) × (is_gt (R y x) ≡ true)) → is_gt (R x z) ≡ false → is_gt (R y z) ≡ false → put R x (y ∷ z ∷ zs) ≡ put R y (x ∷ z ∷ zs)
      swap (inl e) p q = λ i. put R (e i) (sym e i ∷ z ∷ zs)
      swap (inr (inl h)) p q = put_on x y (z ∷ zs) h.0 ∙ ap (λ t. y ∷ t) (put_front x z zs p) ∙ sym (put_front y x (z ∷ zs) h.1)
      swap (inr (inr h)) p q = put_front x y (z ∷ zs) h.0 ∙ ap (λ t. x ∷ t) (sym (put_front y z zs q)) ∙ sym (put_on y x (z ∷ zs) h.1)

      by : put R x (put R y zs) ≡ put R y (put R x zs) → (a b : Bool) → is_gt (R x z) ≡ a → is_gt (R y z) ≡ b → put R x (put R y (z ∷ zs)) ≡ put R y (put R x (z ∷ zs))
      by rest true true p q = ap (put R x) (put_on y z zs q) ∙ put_on x z (put R y zs) p ∙ ap (λ t. z ∷ t) rest ∙ sym (ap (put R y) (put_on x z zs p) ∙ put_on y z (put R x zs) q)
      by rest true false p q = ap (put R x) (put_front y z zs q) ∙ put_on x y (z ∷ zs) (above_on x y z p q) ∙ ap (λ t. y ∷ t) (put_on x z zs p) ∙ sym (ap (put R y) (put_on x z zs p) ∙ put_front y z (put R x zs) q)
      by rest false true p q = ap (put R x) (put_on y z zs q) ∙ put_front x z (put R y zs) p ∙ ap (λ t. x ∷ t) (sym (put_on y z zs q)) ∙ sym (ap (put R y) (put_front x z zs p) ∙ put_on y x (z ∷ zs) (above_on y x z q p))
      by rest false false p q = ap (put R x) (put_front y z zs q) ∙ swap (compared x y) p q ∙ sym (ap (put R y) (put_front x z zs p))
