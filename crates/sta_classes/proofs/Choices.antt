-- Facts on lists of classes for the places of a constructor.
use Rattle.std.proofs.Common.{ℕ, zero, suc, ◌≡◌, ◌+◌, inl, inr, ◌↔◌, List, [], ◌∷◌, ◌++◌, take, get_or, length, Contains, refl, sym, ap, subst, ◌∙◌, arith}
use Rattle.std.proofs.lemmas.Bool.{cases_lt}
use Rattle.std.proofs.lemmas.List.{length_push, take_more, take_all}
use Rattle.sta_classes.specs.Lists.{MayStand, IsListWith}
use Rattle.sta_classes.proofs.Places.{old_at, new_at}

none_long : (ks : List ℕ) → length ks ≡ 0 → [] ≡ ks
none_long [] e = refl
none_long (k ∷ ks) e = absurd (omega (arith, e))

only : {X : Type 0} (x y : X) → Contains (x ∷ []) y → x ≡ y
only x y (zero, low, is) = is
only x y (suc k, low, is) = absurd (omega arith)

module _ (classes : List (List ℕ)) (place class : ℕ) where
  pub lists_first : (lists : List (List ℕ)) → lists ≡ [] ∷ [] → (ks : List ℕ) → Contains lists ks ↔ IsListWith classes place class 0 ks
  lists_first lists e ks = (
    (λ at. (ap length (sym (only [] ks (subst (λ z. Contains z ks) e at))), λ j low. absurd (omega arith))),
    (λ h. subst (λ z. Contains z ks) (sym e) (0, omega arith, none_long ks h.0)),
  )

  module _ (j : ℕ) (lists lists' : List (List ℕ)) (before : (ks : List ℕ) → Contains lists ks ↔ IsListWith classes place class j ks)
      (longer : (ks : List ℕ) → Contains lists' ks ↔ ((front : List ℕ) × Contains lists front × (k : ℕ) × (Contains (get_or classes j []) k × MayStand place class j k) × (front ++ k ∷ [] ≡ ks))) where
    put : (front ks : List ℕ) (k : ℕ) → IsListWith classes place class j front → Contains (get_or classes j []) k × MayStand place class j k → front ++ k ∷ [] ≡ ks → IsListWith classes place class (j + 1) ks
    put front ks k h may e =
        subst (IsListWith classes place class (j + 1)) e (
          omega (arith, h.0, length_push front k),
          λ i low. elim (cases_lt i j) [
            | inl below ↦ subst (λ z. Contains (get_or classes i []) z × MayStand place class i z) (sym (old_at front k 0 i (omega (arith, below, h.0)))) (h.1 i below)
            | inr past ↦
                let here : i ≡ j = omega (arith, past, low) in
                subst (λ z. Contains (get_or classes i []) z × MayStand place class i z) (sym (new_at front k 0 i (omega (arith, here, h.0)))) (subst (λ n. Contains (get_or classes n []) k × MayStand place class n k) (sym here) may)
          ],
        )

    cut : (ks : List ℕ) → length ks ≡ j + 1 → take j ks ++ get_or ks j 0 ∷ [] ≡ ks
    cut ks n = sym (take_more ks j 0 (omega (arith, n))) ∙ take_all (j + 1) ks (omega (arith, n))

    front_long : (ks : List ℕ) → length ks ≡ j + 1 → length (take j ks) ≡ j
    front_long ks n = omega (arith, ap length (cut ks n), length_push (take j ks) (get_or ks j 0), n)

    pub lists_more : (ks : List ℕ) → Contains lists' ks ↔ IsListWith classes place class (j + 1) ks
    lists_more ks = (
      (λ at. (let (front, there, k, chose, e) = (longer ks).0 at in put front ks k ((before front).0 there) chose e)),
      (λ h.
          let e : take j ks ++ get_or ks j 0 ∷ [] ≡ ks = cut ks h.0 in
          (longer ks).1 (
            take j ks,
            (before (take j ks)).1 (
              front_long ks h.0,
              λ i low. subst (λ z. Contains (get_or classes i []) z × MayStand place class i z) (ap (λ l. get_or l i 0) (sym e) ∙ old_at (take j ks) (get_or ks j 0) 0 i (omega (arith, low, front_long ks h.0))) (h.1 i (omega arith)),
            ),
            get_or ks j 0,
            h.1 j (omega arith),
            e,
          )),
    )
