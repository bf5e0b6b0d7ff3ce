-- Systems of which one has a solution, where one of them is split.
use Rattle.std.proofs.Common.{◌≡◌, ◌⊎◌, inl, inr, ℕ, zero, suc, ◌<◌, List, [], ◌∷◌, ◌++◌, length, get_or, set, refl, ap, sym, ◌∙◌, subst, arith}
use Rattle.std.proofs.Math.IntN.{ℤ, pos, neg_ℤ, ◌+ℤ◌, ◌*ℤ◌}
use Rattle.std.specs.Prelude.{◌<ℤ◌, ◌≤ℤ◌}
use Rattle.std.specs.Int.{int_rem_euclid, int_div_euclid}
use Rattle.std.specs.List.{Contains}
use Rattle.std.proofs.lemmas.Int.{ints}
use Rattle.std.proofs.lemmas.List.{length-set}
use Rattle.std.proofs.lemmas.List.Elements.{All-cons, All-nil, Contains-append_left, Contains-append_right, Contains-append_cases}
use Rattle.math_int.proofs.Floors.{euclid, euclid_range}
use Rattle.math_cooper.specs.System.{Condition, Holds, IsSolvable, Solves}
use Rattle.lin_reduce.specs.declared.moves.Scale.{Scale}
use Rattle.lin_reduce.specs.declared.moves.Shear.{Shear}
use Rattle.lin_reduce.specs.declared.nodes.Node.{Node}
use Rattle.lin_reduce.specs.Parts.{AnySolvable, IsPart, IsPartSolvable, IsSheared}

pub grown : (n : ℕ) (old new : List Node) (x : Node) → new ≡ old ++ x ∷ [] → AnySolvable n old → AnySolvable n new
grown n old new x e a = record { node = a.node; among = subst (λ xs. Contains xs a.node) (sym e) (Contains-append_left old (x ∷ []) a.node a.among); solvable = a.solvable }

pub added : (n : ℕ) (old new : List Node) (x : Node) → new ≡ old ++ x ∷ [] → IsSolvable n x.system.items → AnySolvable n new
added n old new x e s = record { node = x; among = subst (λ xs. Contains xs x) (sym e) (Contains-append_right old (x ∷ []) x (0, omega arith, refl)); solvable = s }

-- what holds of the variable holds of the new one
pub part_solvable : (n : ℕ) (s : Scale) (S T : List Condition) → ((vs : List ℤ) (w : ℤ) → IsPart s vs w → Solves vs S → Solves (set vs s.of w) T) → IsPartSolvable n s S → IsSolvable n T
part_solvable n s S T h p = (set p.values s.of p.own, length-set p.values s.of p.own ∙ p.many, h p.values p.own p.part p.solves)

abbrev pub rest_of : ℕ → ℤ → ℤ → Scale
rest_of i t r = record { of = i; times = t; rest = r }

-- each number is so many times one and a rest
pub some_part : (n i : ℕ) (t : ℤ) (S : List Condition) (P : Type 0) → i < n → pos 0 <ℤ t → ((r : ℤ) → pos 0 ≤ℤ r → r <ℤ t → IsPartSolvable n (rest_of i t r) S → P) → IsSolvable n S → P
some_part n i t S P low some h (vs, many, solves) =
    let v = get_or vs i (pos 0) in
    let range = euclid_range v t some in
    let whole = euclid v t (λ e. let p : pos 0 <ℤ pos 0 = subst (λ x. pos 0 <ℤ x) e some in absurd (omega (arith, ints))) in
    h (int_rem_euclid v t) range.0 range.1 (record { values = vs; own = int_div_euclid v t; many = many; part = (subst (λ k. i < k) (sym many) low, whole); solves = solves })

pub none_solvable : (n : ℕ) (nodes : List Node) → length nodes ≡ 0 → AnySolvable n nodes → ⊥
none_solvable n nodes e a = let l = a.among.1 in absurd (omega arith)

-- where one has a solution, it is the last one or one of the others
pub popped : (n : ℕ) (old rest : List Node) (x : Node) → old ≡ rest ++ x ∷ [] → AnySolvable n old → IsSolvable n x.system.items ⊎ AnySolvable n rest
popped n old rest x e a = by (Contains-append_cases rest (x ∷ []) a.node (subst (λ xs. Contains xs a.node) e a.among))
  where
    own : Contains (x ∷ []) a.node → x ≡ a.node
    own (zero, l, is) = is
    own (suc k, l, is) = absurd (omega arith)

    by : Contains rest a.node ⊎ Contains (x ∷ []) a.node → IsSolvable n x.system.items ⊎ AnySolvable n rest
    by (inl c) = inr (record { node = a.node; among = c; solvable = a.solvable })
    by (inr c) = inl (subst (λ (y : Node). IsSolvable n y.system.items) (sym (own c)) a.solvable)

pub single_solves : (vs : List ℤ) (x : Condition) (S old : List Condition) → S ≡ old ++ x ∷ [] → old ≡ [] → Holds vs x → Solves vs S
single_solves vs x S old e n h = subst (Solves vs) (sym (e ∙ ap (λ o. o ++ x ∷ []) n)) (All-cons (Holds vs) x [] h (All-nil (Holds vs)))

-- what holds of the variable holds of the one that it is made of
pub shear_solvable : (n : ℕ) (s : Shear) (S T : List Condition) → s.of < n → s.by < n → ((vs : List ℤ) (w : ℤ) → IsSheared s vs w → Solves vs S → Solves (set vs s.of w) T) → IsSolvable n S → IsSolvable n T
shear_solvable n s S T l m h (vs, many, solves) =
    let a = get_or vs s.of (pos 0) in
    let b = s.times *ℤ get_or vs s.by (pos 0) in
    let w = a +ℤ neg_ℤ b in
    let low : s.of < length vs = omega arith in
    let high : s.by < length vs = omega arith in
    let same : a ≡ w +ℤ b = omega (arith, ints) in
    (set vs s.of w, length-set vs s.of w ∙ many, h vs w (low, high, same) solves)

-- a variable of one value is a part
pub pin_solvable : (n : ℕ) (s : Scale) (S : List Condition) → ((vs : List ℤ) → length vs ≡ n → Solves vs S → IsPart s vs (pos 0)) → IsSolvable n S → IsPartSolvable n s S
pin_solvable n s S h (vs, many, solves) = record { values = vs; own = pos 0; many = many; part = h vs many solves; solves = solves }
