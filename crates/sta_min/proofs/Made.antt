-- Lists that are made element by element.
use Rattle.std.proofs.Common.{ℕ, ◌+◌, ◌≡◌, ◌<◌, ◌≤◌, inl, inr, Vec, List, [], ◌∷◌, ◌++◌, get_or, length, sym, ap, subst, ◌∙◌, arith}
use Rattle.std.proofs.lemmas.Bool.{cases_lt}
use Rattle.std.proofs.lemmas.List.{get_or_append_left, get_or_at, length_push}
use Rattle.sta_classes.specs.Rows.{lists_of}
use Rattle.sta_classes.proofs.Rows.{lists_push}

-- there are n elements, each as its number asks
pub record AreMade {X : Type 0} (d : X) (P : ℕ → X → Type 0) (n : ℕ) (xs : List X) : Type 0 where
  pub many : length xs ≡ n
  pub each : (k : ℕ) → k < n → P k (get_or xs k d)

module _ {X : Type 0} (d : X) (P : ℕ → X → Type 0) where
  pub none_made : (n : ℕ) → n ≡ 0 → AreMade d P n []
  none_made n e = record { many = sym e; each = λ k low. absurd (omega (arith, low, e)) }

  pub made_more : (n : ℕ) (xs new : List X) (x : X) → AreMade d P n xs → P n x → new ≡ xs ++ x ∷ [] → AreMade d P (n + 1) new
  made_more n xs new x is here put = subst (AreMade d P (n + 1)) (sym put) (record {
    many = omega (arith, length_push xs x, is.many);
    each = λ k low. elim (cases_lt k n) [
      | inl before ↦ subst (P k) (sym (get_or_append_left xs (x ∷ []) d k (omega (arith, before, is.many)))) (is.each k before)
      | inr after ↦ (let last : n ≡ k = omega (arith, low, after) in subst (P k) (sym (get_or_at xs x [] d k (is.many ∙ last))) (subst (λ i. P i x) last here))
    ];
  })

  pub all_made : (n m : ℕ) (xs : List X) → n ≤ m → m ≤ n → AreMade d P n xs → AreMade d P m xs
  all_made n m xs up down is = let e : n ≡ m = omega (arith, up, down) in subst (λ k. AreMade d P k xs) e is

-- the same of a list of lists
pub lists_made : {X G : Type 0} (P : ℕ → List X → Type 0) (n : ℕ) (vs new : List (Vec X G)) (v : Vec X G) → AreMade [] P n (lists_of vs) → P n v.items → new ≡ vs ++ v ∷ [] → AreMade [] P (n + 1) (lists_of new)
lists_made P n vs new v is here put = made_more [] P n (lists_of vs) (lists_of new) v.items is here (ap lists_of put ∙ lists_push vs v)
