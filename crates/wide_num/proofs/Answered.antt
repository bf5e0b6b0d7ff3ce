-- What an optional answer says, from what another one says.
use Rattle.std.proofs.Common.{◌≡◌, ℕ, ◌≤◌, ◌^◌, arith, ap, sym, subst, Option, Some, None, MatchOption}
use Rattle.std.proofs.Math.IntN.{ℤ, pos}
use Rattle.std.specs.Int.{IsGcd}
use Rattle.std.specs.Prelude.{◌≤ℤ◌, unsigned_abs}
use Rattle.std.specs.Option.{SomeIff}
use Rattle.std.proofs.lemmas.Int.{ints}
use Rattle.std.proofs.lemmas.Nat.Gcd.{same_from_IsGcd}
use Rattle.math_int.specs.Whole.{IsLcm}
use Rattle.math_int.proofs.Lcms.{lcm_once}

pub match_both : {A : Type 0} (o : Option A) (P R : Type 0) (Q S : A → Type 0) → (P → R) → ((x : A) → Q x → S x) → MatchOption o P Q → MatchOption o R S
match_both None P R Q S f g h = f h
match_both (Some x) P R Q S f g h = g x h

pub match_iff : {A : Type 0} (o : Option A) (P R : Type 0) (v : A) (S : A → Type 0) → ((P → ⊥) → R) → (P → S v) → SomeIff o P v → MatchOption o R S
match_iff None P R v S f g h = f h
match_iff (Some x) P R v S f g h = subst S (sym h.1) (g h.0)

pub gcd_answer : (a b : ℤ) (x y g : ℕ) (o : Option ℤ) → x ≡ unsigned_abs a → y ≡ unsigned_abs b → IsGcd x y g → MatchOption o (2 ^ 127 ≤ g) (λ r. r ≡ pos g)
    → MatchOption o ((k : ℕ) → IsGcd (unsigned_abs a) (unsigned_abs b) k → 2 ^ 127 ≤ k) (λ r. (pos 0 ≤ℤ r) × IsGcd (unsigned_abs a) (unsigned_abs b) (unsigned_abs r))
gcd_answer a b x y g o ea eb f h =
    let f2 : IsGcd (unsigned_abs a) (unsigned_abs b) g = subst (λ n. IsGcd (unsigned_abs a) n g) eb (subst (λ n. IsGcd n y g) ea f) in
    match_both o (2 ^ 127 ≤ g) ((k : ℕ) → IsGcd (unsigned_abs a) (unsigned_abs b) k → 2 ^ 127 ≤ k) (λ r. r ≡ pos g) (λ r. (pos 0 ≤ℤ r) × IsGcd (unsigned_abs a) (unsigned_abs b) (unsigned_abs r))
    (λ big k q. subst (λ n. 2 ^ 127 ≤ n) (same_from_IsGcd _ _ g k f2 q) big)
    (λ r e. (omega (arith, ints), subst (λ n. IsGcd (unsigned_abs a) (unsigned_abs b) n) (sym (ap unsigned_abs e)) f2))
    h

pub lcm_answer : (a b : ℤ) (x y l : ℕ) (o : Option ℤ) → x ≡ unsigned_abs a → y ≡ unsigned_abs b → IsLcm x y l → MatchOption o (2 ^ 127 ≤ l) (λ r. r ≡ pos l)
    → MatchOption o ((k : ℕ) → IsLcm (unsigned_abs a) (unsigned_abs b) k → 2 ^ 127 ≤ k) (λ r. (pos 0 ≤ℤ r) × IsLcm (unsigned_abs a) (unsigned_abs b) (unsigned_abs r))
lcm_answer a b x y l o ea eb f h =
    let f2 : IsLcm (unsigned_abs a) (unsigned_abs b) l = subst (λ n. IsLcm (unsigned_abs a) n l) eb (subst (λ n. IsLcm n y l) ea f) in
    match_both o (2 ^ 127 ≤ l) ((k : ℕ) → IsLcm (unsigned_abs a) (unsigned_abs b) k → 2 ^ 127 ≤ k) (λ r. r ≡ pos l) (λ r. (pos 0 ≤ℤ r) × IsLcm (unsigned_abs a) (unsigned_abs b) (unsigned_abs r))
    (λ big k q. subst (λ n. 2 ^ 127 ≤ n) (lcm_once _ _ l k f2 q) big)
    (λ r e. (omega (arith, ints), subst (λ n. IsLcm (unsigned_abs a) (unsigned_abs b) n) (sym (ap unsigned_abs e)) f2))
    h
