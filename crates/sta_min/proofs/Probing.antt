-- Probes that are added, value by value, list by list, place by place.
use Rattle.std.proofs.Common.{ℕ, zero, suc, ◌+◌, ◌≡◌, ◌<◌, ◌≤◌, ◌↔◌, inl, inr, Vec, List, [], ◌∷◌, ◌++◌, take, length, Contains, refl, sym, ap, subst, arith}
use Rattle.std.proofs.lemmas.Bool.{cases_lt}
use Rattle.sta_classes.specs.Grow.{Grown, Some}
use Rattle.sta_classes.specs.Rows.{lists_of}
use Rattle.sta_classes.proofs.Grown.{grown_none, grown_then, grown_same}
use Rattle.sta_theory.proofs.Lists.{map_member, in_map}
use Rattle.sta_min.specs.Lists.{IsListOf}
use Rattle.sta_min.specs.Probes.{PlainProbe, with_one, IsProbeWith, IsProbeAt}

-- what one of the first n wants
abbrev pub UpTo : {Y : Type 0} → (ℕ → Y → Type 0) → ℕ → Y → Type 0
UpTo P n p = (i : ℕ) × (i < n) × P i p

module _ {Y : Type 0} (P : ℕ → Y → Type 0) where
  pub up_none : (a b : List Y) (n : ℕ) → n ≡ 0 → b ≡ a → Grown a b (UpTo P n)
  up_none a b n e is = subst (λ l. Grown a l (UpTo P n)) (sym is) (grown_none a (UpTo P n) (λ p w. (let (i, low, want) = w in omega (arith, low, e))))

  pub up_more : (a b c : List Y) (n : ℕ) → Grown a b (UpTo P n) → Grown b c (P n) → Grown a c (UpTo P (n + 1))
  up_more a b c n f g =
      grown_then a b c (UpTo P n) (P n) (UpTo P (n + 1)) f g
      (λ p w. (let (i, low, want) = w in elim (cases_lt i n) [ inl less ↦ inl (i, less, want) | inr past ↦ inr (let e : i ≡ n = omega (arith, low, past) in subst (λ k. P k p) e want) ]))
      (λ p w. (let (i, low, want) = w in (i, omega (arith, low), want)))
      (λ p w. (n, omega arith, w))

  pub up_all : (a b : List Y) (n m : ℕ) → n ≤ m → m ≤ n → Grown a b (UpTo P n) → Grown a b (UpTo P m)
  up_all a b n m up down f = let e : n ≡ m = omega (arith, up, down) in subst (λ k. Grown a b (UpTo P k)) e f

-- the choices, one place more
pub one_here : (xs : List (List ℕ)) (k : List ℕ) (place : ℕ) → length xs ≡ place → with_one (xs ++ k ∷ []) place ≡ with_one xs place ++ take 1 k ∷ []
one_here [] k zero e = refl
one_here [] k (suc place) e = absurd (omega (arith, e))
one_here (x ∷ xs) k zero e = absurd (omega (arith, e))
one_here (x ∷ xs) k (suc place) e = ap (λ l. x ∷ l) (one_here xs k place (omega (arith, e)))

pub one_other : (xs : List (List ℕ)) (k : List ℕ) (place : ℕ) → ¬ (length xs ≡ place) → with_one (xs ++ k ∷ []) place ≡ with_one xs place ++ k ∷ []
one_other [] k zero e = absurd (e refl)
one_other [] k (suc place) e = refl
one_other (x ∷ xs) k zero e = refl
one_other (x ∷ xs) k (suc place) e = ap (λ l. x ∷ l) (one_other xs k place (λ h. e (ap suc h)))

-- probes over lists are probes at the place
pub of_lists : {G : Type 0} (c values place : ℕ) (kinds : List (List ℕ)) (lists : List (Vec ℕ G)) → ((ks : List ℕ) → Contains (lists_of lists) ks ↔ IsListOf (with_one kinds place) (length (with_one kinds place)) ks) → (a b : List PlainProbe)
    → Grown a b (Some (λ v. IsProbeWith c place values v.items) lists) → Grown a b (IsProbeAt c values kinds place)
of_lists c values place kinds lists are a b f =
    grown_same a b (Some (λ v. IsProbeWith c place values v.items) lists) (IsProbeAt c values kinds place) f
    (λ p w. (let (v, at, is) = w in (v.items, (are v.items).0 (in_map (λ z. z.items) lists v at), is)))
    (λ p w. (let (ks, of_choices, is) = w in let (v, at, same) = map_member (λ z. z.items) lists ks ((are ks).1 of_choices) in (v, at, subst (λ l. IsProbeWith c place values l p) (sym same) is)))
