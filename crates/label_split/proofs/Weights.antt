-- What a search has left becomes less.
use Rattle.std.proofs.Common.{◌≡◌, Bool, Option, Some, None, IsSome, List, [], ◌∷◌, ◌++◌, length, ℕ, zero, suc, ◌+◌, ◌*◌, ◌^◌, ◌<◌, ◌≤◌, refl, sym, arith}
use Rattle.std.proofs.Math.ListN.{set}
use Rattle.std.proofs.Math.Nat.{pow-suc}
use Rattle.label_split.specs.Known.{known_at}
use Rattle.label_split.specs.Weights.{count_open, open_weight, weight}

-- of no atom less is known
abbrev Grown : List (Option Bool) → List (Option Bool) → Type 0
Grown old new = (i : ℕ) → IsSome (known_at old i) → known_at new i ≡ known_at old i

rest_grown : (x y : Option Bool) (old new : List (Option Bool)) → Grown (x ∷ old) (y ∷ new) → Grown old new
rest_grown x y old new g i s = g (suc i) s

some_other : (b : Bool) → ¬ (None ≡ Some b)
some_other b e = cc

pub open_falls : (old new : List (Option Bool)) → length new ≡ length old → Grown old new → count_open new ≤ count_open old
open_falls [] [] e g = omega arith
open_falls [] (y ∷ new) e g = absurd (omega arith)
open_falls (x ∷ old) [] e g = absurd (omega arith)
open_falls (None ∷ old) (None ∷ new) e g = let rest = open_falls old new (omega arith) (rest_grown None None old new g) in omega arith
open_falls (None ∷ old) (Some b ∷ new) e g = let rest = open_falls old new (omega arith) (rest_grown None (Some b) old new g) in omega arith
open_falls (Some a ∷ old) (None ∷ new) e g = let no : None ≡ Some a = g 0 refl in absurd (some_other a no)
open_falls (Some a ∷ old) (Some b ∷ new) e g = open_falls old new (omega arith) (rest_grown (Some a) (Some b) old new g)

pub open_falls_more : (old new : List (Option Bool)) (k : ℕ) → length new ≡ length old → Grown old new → known_at old k ≡ None → (known_at new k ≡ None → ⊥) → count_open new < count_open old
open_falls_more [] [] k e g was now = absurd (now refl)
open_falls_more [] (y ∷ new) k e g was now = absurd (omega arith)
open_falls_more (x ∷ old) [] k e g was now = absurd (omega arith)
open_falls_more (None ∷ old) (None ∷ new) zero e g was now = absurd (now refl)
open_falls_more (None ∷ old) (None ∷ new) (suc k) e g was now = let rest = open_falls_more old new k (omega arith) (rest_grown None None old new g) was now in omega arith
open_falls_more (None ∷ old) (Some b ∷ new) zero e g was now = let rest = open_falls old new (omega arith) (rest_grown None (Some b) old new g) in omega arith
open_falls_more (None ∷ old) (Some b ∷ new) (suc k) e g was now = let rest = open_falls_more old new k (omega arith) (rest_grown None (Some b) old new g) was now in omega arith
open_falls_more (Some a ∷ old) (None ∷ new) k e g was now = let no : None ≡ Some a = g 0 refl in absurd (some_other a no)
open_falls_more (Some a ∷ old) (Some b ∷ new) zero e g was now = absurd (some_other a (sym was))
open_falls_more (Some a ∷ old) (Some b ∷ new) (suc k) e g was now = open_falls_more old new k (omega arith) (rest_grown (Some a) (Some b) old new g) was now

-- one atom more is known
pub open_set : (known : List (Option Bool)) (k : ℕ) (b : Bool) → k < length known → known_at known k ≡ None → count_open (set known k (Some b)) + 1 ≡ count_open known
open_set [] k b low unknown = absurd (omega arith)
open_set (None ∷ known) zero b low unknown = omega arith
open_set (None ∷ known) (suc k) b low unknown = let rest = open_set known k b (omega arith) unknown in omega arith
open_set (Some a ∷ known) zero b low unknown = absurd (some_other a (sym unknown))
open_set (Some a ∷ known) (suc k) b low unknown = open_set known k b (omega arith) unknown

pow_pos : (n : ℕ) → 0 < 3 ^ n
pow_pos zero = omega arith
pow_pos (suc n) = let rest = pow_pos n in omega (arith, pow-suc 3 n)

pub weight_pos : (known : List (Option Bool)) → 0 < open_weight known
weight_pos known = pow_pos (count_open known)

pow_up : (m n : ℕ) → m ≤ n → 3 ^ m ≤ 3 ^ n
pow_up zero n l = pow_pos n
pow_up (suc m) zero l = absurd (omega arith)
pow_up (suc m) (suc n) l = let rest = pow_up m n (omega arith) in omega (arith, pow-suc 3 m, pow-suc 3 n)

pub weight_falls : (old new : List (Option Bool)) → count_open new ≤ count_open old → open_weight new ≤ open_weight old
weight_falls old new l = pow_up (count_open new) (count_open old) l

pow_less : (m n : ℕ) → m < n → 3 * 3 ^ m ≤ 3 ^ n
pow_less m zero l = absurd (omega arith)
pow_less m (suc n) l = let rest = pow_up m n (omega arith) in omega (arith, pow-suc 3 n)

-- two branches with one atom more
pub weight_falls_more : (old new : List (Option Bool)) → count_open new < count_open old → 3 * open_weight new ≤ open_weight old
weight_falls_more old new l = pow_less (count_open new) (count_open old) l

pub weight_append : (xs : List (List (Option Bool))) (known : List (Option Bool)) → weight (xs ++ known ∷ []) ≡ weight xs + open_weight known
weight_append [] known = omega arith
weight_append (x ∷ xs) known = let rest = weight_append xs known in omega arith
