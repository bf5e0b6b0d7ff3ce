-- What chains say of values.
use Rattle.std.proofs.Common.{◌≡◌, ◌⊎◌, inl, inr, List, ◌++◌, length, map, take, Bool, true, false, arith, refl, sym, subst}
use Rattle.std.proofs.Math.IntN.{ℤ, pos}
use Rattle.std.specs.Prelude.{◌↔◌, FitsSigned}
use Rattle.std.specs.Int.{w64}
use Rattle.std.proofs.lemmas.List.{get_or_append_left, get_or-take, length-take-le}
use Rattle.math_cooper.specs.System.{Solves}
use Rattle.math_cooper.specs.Puts.{Put, IsSolution}
use Rattle.math_cooper.proofs.Steps.{solution_solves}
use Rattle.model_form.specs.Form.{value, modulo}
use Rattle.model_form.proofs.Over.{AgreeBelow}
use Rattle.model_chain.specs.Literals.{Literal, AreLiteralsOver, HoldsAll, remainders_in, count_sides, field_in}
use Rattle.model_chain.specs.Chains.{Chain, first_system, count_variables, sides_in, puts_in, IsFar, HasFarValue}
use Rattle.model_chain.specs.Sides.{HoldWith}
use Rattle.model_chain.specs.Laws.{AreDivisorsPositive}
use Rattle.model_chain.proofs.Exact.{first_out, first_in, hold_agree, OccurringFit}
use Rattle.model_chain.proofs.Sided.{hold_out, hold_in}
use Rattle.model_chain.proofs.Widths.{first_wide}
use Rattle.model_chain.proofs.Nought.{nought}
use Rattle.model_chain.proofs.Missing.{first_missing}
use Rattle.std.proofs.lemmas.Bool.{cases_Bool}
use Rattle.std.proofs.lemmas.Int.{fits_signed_from_abs}

agree_front : (us rest : List ℤ) → length us ≡ 8 → AgreeBelow 8 (us ++ rest) us
agree_front us rest e k l = get_or_append_left us rest (pos 0) k (omega arith)

agree_take : (vs : List ℤ) → AgreeBelow 8 vs (take 8 vs)
agree_take vs k l = sym (get_or-take 8 vs k (pos 0) l)

pub hold_where_solved : (ls : List Literal) (us : List ℤ) → AreLiteralsOver 8 ls → AreDivisorsPositive ls → length us ≡ 8
    → HoldsAll ls us ↔ ((sides : List Bool) × (length sides ≡ count_sides ls) × (rest : List ℤ) × Solves (us ++ rest) (first_system ls false sides))
hold_where_solved ls us over some e = (forth, back)
  where
    forth : HoldsAll ls us → (sides : List Bool) × (length sides ≡ count_sides ls) × (rest : List ℤ) × Solves (us ++ rest) (first_system ls false sides)
    forth h = let s = hold_in ls us h in (s.0, s.1, map (λ r. modulo (value r.inner us) r.divisor) (remainders_in ls), first_in ls false s.0 us over some e s.2 (λ n. absurd (cc)))

    back : (sides : List Bool) × (length sides ≡ count_sides ls) × (rest : List ℤ) × Solves (us ++ rest) (first_system ls false sides) → HoldsAll ls us
    back (sides, l, rest, s) = hold_out ls sides us (hold_agree ls sides (us ++ rest) us (agree_front us rest e) over (first_out ls false sides (us ++ rest) over s).0)

-- the solution of a chain, as values of the fields: there the literals hold with the chain's sides
pub solution_holds : (ls : List Literal) (bounded : Bool) (sides : List Bool) (ps : List Put) (vs : List ℤ) → AreLiteralsOver 8 ls → IsSolution (count_variables ls) (first_system ls bounded sides) ps vs
    → (length (take 8 vs) ≡ 8) × HoldWith ls sides (take 8 vs) × (bounded ≡ true → OccurringFit ls vs)
solution_holds ls bounded sides ps vs over s =
    let r = solution_solves (count_variables ls) (first_system ls bounded sides) ps vs (first_wide ls bounded sides) s in
    let h = first_out ls bounded sides vs over r.1 in
    (length-take-le 8 vs (omega arith), hold_agree ls sides vs (take 8 vs) (agree_take vs) over h.0, h.1)

pub outside_take : (vs : List ℤ) → HasFarValue vs → HasFarValue (take 8 vs)
outside_take vs (k, l, n) = (k, l, λ f. n (subst (FitsSigned w64) (sym (agree_take vs k l)) f))

pub far_has_values : (C : Chain) → AreLiteralsOver 8 C.literals → IsFar C → (us : List ℤ) × (length us ≡ 8) × HoldsAll C.literals us × HasFarValue us
far_has_values C over (b, n, c, (vs, s, out)) =
    let h = solution_holds C.literals false (sides_in C.choices) (puts_in C.choices) vs over s in
    (take 8 vs, h.0, hold_out C.literals (sides_in C.choices) (take 8 vs) h.1, outside_take vs out)

-- a bounded system has no solution outside the label range
pub bounded_inside : (ls : List Literal) (sides : List Bool) (ps : List Put) (vs : List ℤ) → AreLiteralsOver 8 ls → IsSolution (count_variables ls) (first_system ls true sides) ps vs → ¬ (HasFarValue vs)
bounded_inside ls sides ps vs over s (k, l, out) = by (cases_Bool (field_in k ls))
  where
    by : (field_in k ls ≡ true) ⊎ (field_in k ls ≡ false) → ⊥
    by (inl is) = out ((solution_holds ls true sides ps vs over s).2 refl k l is)
    by (inr is) =
        let e = nought (count_variables ls) (first_system ls true sides) ps vs k (omega arith) (first_wide ls true sides) (first_missing k l ls true sides is) s in
        out (subst (FitsSigned w64) (sym e) (fits_signed_from_abs w64 (pos 0) (omega arith)))
