-- What literals say of values, and reaches within which values are.
use Rattle.std.proofs.Common.{◌≡◌, ℕ, zero, suc, ◌<◌, ◌⊎◌, inl, inr, List, [], ◌∷◌, ◌++◌, length, get_or, replicate, Bool, true, false, None, refl, ap, sym, subst, arith, length-append}
use Rattle.std.proofs.Math.ListN.{set}
use Rattle.std.proofs.Math.IntN.{ℤ, pos, ◌-ℤ◌}
use Rattle.std.proofs.lemmas.Int.{ints}
use Rattle.std.proofs.lemmas.List.{get_or-replicate, length-replicate}
use Rattle.model_chain.specs.Literals.{related}
use Rattle.model_chain.specs.Sides.{HoldsOn}
use Rattle.model_chain.proofs.Sided.{on_in}
use Rattle.lin_solve.specs.declared.compare.Relation.{Relation}
use Rattle.lin_solve.specs.declared.compare.Relation.TheVariants.{Less, AtMost, Equal}
use Rattle.lin_solve.specs.declared.said.Fact.{Fact}
use Rattle.lin_solve.specs.Plain.{plain_relation}
use Rattle.lin_solve.specs.declared.said.Reach.{Reach}
use Rattle.lin_solve.specs.Said.{Reaches, AreWithin, Says, said_at, IsParted, IsSo}

after_set : (rs : List Reach) (p k : ℕ) (new d : Reach) → k < length (set rs p new) → ((k ≡ p) × (get_or (set rs p new) k d ≡ new)) ⊎ ((k < length rs) × (get_or (set rs p new) k d ≡ get_or rs k d))
after_set [] p k new d h = absurd (omega arith)
after_set (r ∷ rs) zero zero new d h = inl (refl, refl)
after_set (r ∷ rs) zero (suc k) new d h = inr (omega arith, refl)
after_set (r ∷ rs) (suc p) zero new d h = inr (omega arith, refl)
after_set (r ∷ rs) (suc p) (suc k) new d h = elim (after_set rs p k new d (omega arith)) as (λ _. ((suc k ≡ suc p) × (get_or (set rs p new) k d ≡ new)) ⊎ ((suc k < length (r ∷ rs)) × (get_or (set rs p new) k d ≡ get_or rs k d))) [
  | inl x ↦ inl (ap suc x.0, x.1)
  | inr x ↦ inr ((let l = x.0 in omega arith), x.1)
]

-- one reach is narrowed
pub within_set : (rs : List Reach) (vs : List ℤ) (p : ℕ) (new : Reach) → AreWithin rs vs → Reaches new (get_or vs p (pos 0)) → AreWithin (set rs p new) vs
within_set rs vs p new h n = λ k d l. elim (after_set rs p k new d l) as (λ _. Reaches (get_or (set rs p new) k d) (get_or vs k (pos 0))) [
  | inl x ↦ subst (λ r. Reaches r (get_or vs k (pos 0))) (sym x.1) (subst (λ q. Reaches new (get_or vs q (pos 0))) (sym x.0) n)
  | inr x ↦ subst (λ r. Reaches r (get_or vs k (pos 0))) (sym x.1) (h k d x.0)
]

-- at the start all numbers are within
pub within_all : (n : ℕ) (vs : List ℤ) → AreWithin (replicate n (record { low = None; high = None })) vs
within_all zero vs = λ k d l. absurd (omega arith)
within_all (suc n) vs = λ k d l. go (suc n) k d l
  where
    go : (n k : ℕ) (d : Reach) → k < length (replicate n (let r : Reach = record { low = None; high = None } in r)) → Reaches (get_or (replicate n (let r : Reach = record { low = None; high = None } in r)) k d) (get_or vs k (pos 0))
    go n k d l = subst (λ r. Reaches r (get_or vs k (pos 0))) (sym (get_or-replicate n k (record { low = None; high = None }) d (let e = length-replicate n (let r : Reach = record { low = None; high = None } in r) in omega arith))) (tt, tt)

-- ---- what is said of a value

pub says_at : (r : Relation) (s m : Bool) (n v x y : ℤ) → IsParted m n v (x -ℤ y) → related (plain_relation r) x y ≡ s → Says (said_at r s m n) v
says_at r s m n v x y p h = by r s m (on_in (plain_relation r) s x y h) p
  where
    by : (r : Relation) (s m : Bool) → ((side : Bool) × HoldsOn (plain_relation r) s side x y) → IsParted m n v (x -ℤ y) → Says (said_at r s m n) v
    by Less true false (side, h) p = omega (arith, ints)
    by Less true true (side, h) p = omega (arith, ints)
    by Less false false (side, h) p = omega (arith, ints)
    by Less false true (side, h) p = omega (arith, ints)
    by AtMost true false (side, h) p = omega (arith, ints)
    by AtMost true true (side, h) p = omega (arith, ints)
    by AtMost false false (side, h) p = omega (arith, ints)
    by AtMost false true (side, h) p = omega (arith, ints)
    by Equal true false (side, h) p = omega (arith, ints)
    by Equal true true (side, h) p = omega (arith, ints)
    by Equal false false (true, h) p = λ e. omega (arith, ints)
    by Equal false false (false, h) p = λ e. omega (arith, ints)
    by Equal false true (true, h) p = λ e. omega (arith, ints)
    by Equal false true (false, h) p = λ e. omega (arith, ints)

-- ---- facts of literals

pub so_more : (vs : List ℤ) (v : ℤ) (f : Fact) → IsSo vs f → IsSo (vs ++ v ∷ []) f
so_more vs v f h = ((let l = h.0 in let e = length-append vs (v ∷ []) in omega arith), subst (Says f.said) (sym (get_or-append vs v f.place h.0)) h.1)
  where
    get_or-append : (vs : List ℤ) (v : ℤ) (k : ℕ) → k < length vs → get_or (vs ++ v ∷ []) k (pos 0) ≡ get_or vs k (pos 0)
    get_or-append [] v k h = absurd (omega arith)
    get_or-append (x ∷ vs) v zero h = refl
    get_or-append (x ∷ vs) v (suc k) h = get_or-append vs v k (omega arith)
