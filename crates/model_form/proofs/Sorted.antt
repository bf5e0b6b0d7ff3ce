-- Two lists without doubles are the same in order where they are as long and each member of the one is in the other.
use Rattle.std.proofs.Common.{◌≡◌, suc, ◌⊎◌, inl, inr, List, [], ◌∷◌, length, Bool, true, false, cond, refl, ap, sym, ◌∙◌, subst, arith}
use Rattle.std.specs.declared.cmp.Ordering.{Ordering}
use Rattle.std.specs.declared.cmp.Ordering.TheVariants.{Equal}
use Rattle.std.specs.Ordering.{is_gt}
use Rattle.std.specs.Cmp.{IsTotalOrder}
use Rattle.model_form.specs.Same.{IsIn, put}
use Rattle.model_form.proofs.Orders.{put_both}

module _ {A : Type 0} where
  -- each of the one is in the other
  abbrev pub AreIn : List A → List A → Type 0
  AreIn [] ys = Unit {0}
  AreIn (x ∷ xs) ys = IsIn x ys × AreIn xs ys

  -- none twice
  abbrev pub AreOnce : List A → Type 0
  AreOnce [] = Unit {0}
  AreOnce (x ∷ xs) = (IsIn x xs → ⊥) × AreOnce xs

  -- zs is ys without one x
  abbrev pub Without : A → List A → List A → Type 0
  Without x [] zs = ⊥
  Without x (y ∷ ys) zs = ((x ≡ y) × (zs ≡ ys)) ⊎ ((ws : List A) × (zs ≡ y ∷ ws) × Without x ys ws)

  pub taken : (x : A) (ys : List A) → IsIn x ys → (zs : List A) × Without x ys zs
  taken x [] h = absurd h
  taken x (y ∷ ys) (inl e) = (ys, inl (e, refl))
  taken x (y ∷ ys) (inr h) = let r = taken x ys h in (y ∷ r.0, inr (r.0, refl, r.1))

  pub one_less : (x : A) (ys zs : List A) → Without x ys zs → length ys ≡ suc (length zs)
  one_less x [] zs h = absurd h
  one_less x (y ∷ ys) zs (inl p) = let e = ap length p.1 in omega arith
  one_less x (y ∷ ys) zs (inr p) = let e = ap length p.1 in let r = one_less x ys p.0 p.2 in omega arith

  pub still_in : (x w : A) (ys zs : List A) → Without x ys zs → IsIn w ys → (w ≡ x → ⊥) → IsIn w zs
  still_in x w [] zs h i n = absurd h
  still_in x w (y ∷ ys) zs (inl p) (inl e) n = absurd (n (e ∙ sym p.0))
  still_in x w (y ∷ ys) zs (inl p) (inr i) n = subst (IsIn w) (sym p.1) i
  still_in x w (y ∷ ys) zs (inr p) (inl e) n = subst (IsIn w) (sym p.1) (inl e)
  still_in x w (y ∷ ys) zs (inr p) (inr i) n = subst (IsIn w) (sym p.1) (inr (still_in x w ys p.0 p.2 i n))

  pub all_still_in : (x : A) (xs ys zs : List A) → Without x ys zs → AreIn xs ys → (IsIn x xs → ⊥) → AreIn xs zs
  all_still_in x [] ys zs h i n = tt
  all_still_in x (w ∷ xs) ys zs h i n = (still_in x w ys zs h i.0 (λ e. n (inl (sym e))), all_still_in x xs ys zs h i.1 (λ j. n (inr j)))

  pub all_in_more : (xs ys : List A) (y : A) → AreIn xs ys → AreIn xs (y ∷ ys)
  all_in_more [] ys y h = tt
  all_in_more (x ∷ xs) ys y h = (inr h.0, all_in_more xs ys y h.1)

  pub all_in_own : (xs : List A) → AreIn xs xs
  all_in_own [] = tt
  all_in_own (x ∷ xs) = (inl refl, all_in_more xs xs x (all_in_own xs))

module _ {A : Type 0} (R : A → A → Ordering) where
  abbrev pub sorted : List A → List A
  sorted [] = []
  sorted (x ∷ xs) = put R x (sorted xs)

  -- putting in changes no membership and adds one to the length
  pub in_put : (w x : A) (ys : List A) → (w ≡ x) ⊎ IsIn w ys → IsIn w (put R x ys)
  in_put w x [] h = h
  in_put w x (y ∷ ys) h = by (is_gt (R x y)) h (λ k. in_put w x ys k)
    where
      by : (b : Bool) → (w ≡ x) ⊎ ((w ≡ y) ⊎ IsIn w ys) → ((w ≡ x) ⊎ IsIn w ys → IsIn w (put R x ys)) → IsIn w (cond b (y ∷ put R x ys) (x ∷ y ∷ ys))
      by false h k = h
      by true (inl e) k = inr (k (inl e))
      by true (inr (inl e)) k = inl e
      by true (inr (inr i)) k = inr (k (inr i))

  pub out_put : (w x : A) (ys : List A) → IsIn w (put R x ys) → (w ≡ x) ⊎ IsIn w ys
  out_put w x [] h = h
  out_put w x (y ∷ ys) h = by (is_gt (R x y)) h (λ k. out_put w x ys k)
    where
      by : (b : Bool) → IsIn w (cond b (y ∷ put R x ys) (x ∷ y ∷ ys)) → (IsIn w (put R x ys) → (w ≡ x) ⊎ IsIn w ys) → (w ≡ x) ⊎ ((w ≡ y) ⊎ IsIn w ys)
      by false h k = h
      by true (inl e) k = inr (inl e)
      by true (inr i) k = elim (k i) as (λ _. (w ≡ x) ⊎ ((w ≡ y) ⊎ IsIn w ys)) [ inl e ↦ inl e | inr j ↦ inr (inr j) ]

  pub length-put : (x : A) (ys : List A) → length (put R x ys) ≡ suc (length ys)
  length-put x [] = refl
  length-put x (y ∷ ys) = by (is_gt (R x y)) (length-put x ys)
    where
      by : (b : Bool) → length (put R x ys) ≡ suc (length ys) → length (cond b (y ∷ put R x ys) (x ∷ y ∷ ys)) ≡ suc (suc (length ys))
      by false e = refl
      by true e = ap suc e

  pub in_sorted : (w : A) (xs : List A) → IsIn w xs → IsIn w (sorted xs)
  in_sorted w [] h = h
  in_sorted w (x ∷ xs) (inl e) = in_put w x (sorted xs) (inl e)
  in_sorted w (x ∷ xs) (inr h) = in_put w x (sorted xs) (inr (in_sorted w xs h))

  pub out_sorted : (w : A) (xs : List A) → IsIn w (sorted xs) → IsIn w xs
  out_sorted w [] h = h
  out_sorted w (x ∷ xs) h = elim (out_put w x (sorted xs) h) as (λ _. (w ≡ x) ⊎ IsIn w xs) [ inl e ↦ inl e | inr i ↦ inr (out_sorted w xs i) ]

  pub length-sorted : (xs : List A) → length (sorted xs) ≡ length xs
  length-sorted [] = refl
  length-sorted (x ∷ xs) = length-put x (sorted xs) ∙ ap suc (length-sorted xs)

  pub sorted_in : (xs ys : List A) → sorted xs ≡ sorted ys → (zs : List A) → AreIn zs xs → AreIn zs ys
  sorted_in xs ys e [] h = tt
  sorted_in xs ys e (z ∷ zs) h = (out_sorted z ys (subst (IsIn z) e (in_sorted z xs h.0)), sorted_in xs ys e zs h.1)

  module _ (o : IsTotalOrder R) (exact : (x y : A) → R x y ≡ Equal → x ≡ y) where
    sorted-without : (x : A) (ys zs : List A) → Without x ys zs → sorted ys ≡ put R x (sorted zs)
    sorted-without x [] zs h = absurd h
    sorted-without x (y ∷ ys) zs (inl p) = λ i. put R (sym p.0 i) (sorted (sym p.1 i))
    sorted-without x (y ∷ ys) zs (inr p) = ap (put R y) (sorted-without x ys p.0 p.2) ∙ put_both R o exact y x (sorted p.0) ∙ ap (λ t. put R x (sorted t)) (sym p.1)

    pub sorted_once : (xs ys : List A) → AreOnce xs → length xs ≡ length ys → AreIn xs ys → sorted xs ≡ sorted ys
    sorted_once [] [] n l h = refl
    sorted_once [] (y ∷ ys) n l h = absurd (omega arith)
    sorted_once (x ∷ xs) ys n l h =
        let t = taken x ys h.0 in
        let less = one_less x ys t.0 t.1 in
        let rest = sorted_once xs t.0 n.1 (omega arith) (all_still_in x xs ys t.0 t.1 h.1 n.0) in
        ap (put R x) rest ∙ sym (sorted-without x ys t.0 t.1)
