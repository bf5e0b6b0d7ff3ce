-- A text that is put piece by piece.
use Rattle.std.proofs.Common.{ℕ, ◌≡◌, ◌≤◌, ◌+◌, ◌-◌, List, [], ◌∷◌, ◌++◌, Option, take, drop, append_assoc, zero, suc, ap, ◌∙◌, sym, subst, refl, arith}
use Rattle.fast_fault.specs.Written.{Appends, AppendsPrefix}
use Rattle.fast_tool.proofs.Runs.{appends_both}

take_on : (n m : ℕ) (xs : List ℕ) → take n xs ++ take m (drop n xs) ≡ take (n + m) xs
take_on zero m xs = let on : m ≡ zero + m = omega arith in ap (λ k. take k xs) on
take_on (suc n) zero [] = let on : suc n ≡ suc n + zero = omega arith in ap (λ k. take {A = ℕ} k []) on
take_on (suc n) (suc m) [] = let on : suc (n + suc m) ≡ suc n + suc m = omega arith in ap (λ k. take {A = ℕ} k []) on
take_on (suc n) m (x ∷ xs) = let on : suc (n + m) ≡ suc n + m = omega arith in ap (λ k. x ∷ k) (take_on n m xs) ∙ ap (λ k. take k (x ∷ xs)) on

cut_in : (n m : ℕ) (xs : List ℕ) → take n xs ++ (take m (drop n xs) ++ drop m (drop n xs)) ≡ xs
cut_in zero zero xs = refl
cut_in zero (suc m) [] = refl
cut_in zero (suc m) (x ∷ xs) = ap (λ k. x ∷ k) (cut_in zero m xs)
cut_in (suc n) zero [] = refl
cut_in (suc n) (suc m) [] = refl
cut_in (suc n) m (x ∷ xs) = ap (λ k. x ∷ k) (cut_in n m xs)

module _ (before middle after : Option (List ℕ)) (n k : ℕ) (xs : List ℕ) (so_far : Appends before middle (take n xs)) where
  -- the next piece was put
  pub put_more : n ≤ k → Appends middle after (take (k - n) (drop n xs)) → Appends before after (take k xs)
  put_more low put =
      let on : n + (k - n) ≡ k = omega (arith, low) in
      subst (λ ys. Appends before after ys) (take_on n (k - n) xs ∙ ap (λ j. take j xs) on) (appends_both before middle after (take n xs) (take (k - n) (drop n xs)) so_far put)

  -- only a front of the next piece was put
  pub put_partly : AppendsPrefix middle after (take (k - n) (drop n xs)) → AppendsPrefix before after xs
  put_partly (front, back, is, put) =
      let rest = drop (k - n) (drop n xs) in (
        take n xs ++ front,
        back ++ rest,
        append_assoc (take n xs) front (back ++ rest) ∙ (ap (λ ys. take n xs ++ ys) (sym (append_assoc front back rest) ∙ ap (λ ys. ys ++ rest) is) ∙ cut_in n (k - n) xs),
        appends_both before middle after (take n xs) front so_far put,
      )
