-- The literals in front, to which the first sides belong.
use Rattle.std.proofs.Common.{◌≡◌, ℕ, suc, ◌+◌, ◌<◌, ◌≤◌, List, [], ◌∷◌, ◌++◌, length, take, drop, get_or, Bool, true, false, cond, arith, refl, ap, sym, ◌∙◌, subst, append-nil}
use Rattle.std.proofs.Math.IntN.{ℤ, pos}
use Rattle.std.proofs.lemmas.List.{get_or-take, length-take-le, take-append-drop, map-append, take_more}
use Rattle.label_core.specs.declared.theory.Lit.{Lit}
use Rattle.lin_solve.specs.declared.compare.Compare.{Compare}
use Rattle.lin_solve.specs.Plain.{plain_literal, plain_literals}
use Rattle.lin_solve.specs.Tried.{IsFront, NeverHold}
use Rattle.math_cooper.specs.System.{IsSolvable}
use Rattle.model_form.specs.Form.{value}
use Rattle.model_form.proofs.Over.{AgreeBelow}
use Rattle.model_chain.specs.Literals.{Literal, AreLiteralsOver, needs_side, count_sides}
use Rattle.model_chain.specs.Chains.{first_system, count_variables}
use Rattle.model_chain.specs.Sides.{HoldsOn, HoldWith}
use Rattle.model_chain.specs.Laws.{AreDivisorsPositive}
use Rattle.model_chain.proofs.Exact.{first_out, first_solvable, hold_agree}

-- one more, or not
pub step_low : (b : Bool) (n i : ℕ) → n ≤ i → cond b (n + 1) n ≤ i + 1
step_low true n i h = omega arith
step_low false n i h = omega arith

pub count_push : (ls : List (Lit Compare)) (l : Lit Compare) → count_sides (plain_literals (ls ++ l ∷ [])) ≡ cond (needs_side (plain_literal l)) (count_sides (plain_literals ls) + 1) (count_sides (plain_literals ls))
count_push [] l = by (needs_side (plain_literal l))
  where
    by : (b : Bool) → cond b (suc 0) 0 ≡ cond b (0 + 1) 0
    by true = refl
    by false = refl
count_push (m ∷ ls) l = by (needs_side (plain_literal m)) (needs_side (plain_literal l)) (count_push ls l)
  where
    n : ℕ
    n = count_sides (plain_literals ls)

    by : (a b : Bool) → count_sides (plain_literals (ls ++ l ∷ [])) ≡ cond b (n + 1) n
        → cond a (suc (count_sides (plain_literals (ls ++ l ∷ [])))) (count_sides (plain_literals (ls ++ l ∷ []))) ≡ cond b (cond a (suc n) n + 1) (cond a (suc n) n)
    by true true e = omega (arith, e)
    by true false e = omega (arith, e)
    by false true e = e
    by false false e = e

pub count_more : (ls : List (Lit Compare)) (i : ℕ) (l : Lit Compare) → i < length ls → l ≡ get_or ls i l
    → count_sides (plain_literals (take (i + 1) ls)) ≡ cond (needs_side (plain_literal l)) (count_sides (plain_literals (take i ls)) + 1) (count_sides (plain_literals (take i ls)))
count_more ls i l low is =
    ap (λ ms. count_sides (plain_literals ms)) (take_more ls i l low ∙ ap (λ m. take i ls ++ m ∷ []) (sym is)) ∙ count_push (take i ls) l

pub front_of : (ls : List (Lit Compare)) (i n : ℕ) → count_sides (plain_literals (take i ls)) ≤ n → IsFront n (plain_literals ls) (plain_literals (take i ls))
front_of ls i n few = record {
  behind = plain_literals (drop i ls);
  is = ap plain_literals (sym (take-append-drop i ls)) ∙ map-append plain_literal (take i ls) (drop i ls);
  few = few;
}

pub front_whole : (ls : List (Lit Compare)) (n : ℕ) → count_sides (plain_literals ls) ≤ n → IsFront n (plain_literals ls) (plain_literals ls)
front_whole ls n few = record { behind = []; is = sym (append-nil (plain_literals ls)); few = few }

pub over_front : (n : ℕ) (f b : List Literal) → AreLiteralsOver n (f ++ b) → AreLiteralsOver n f
over_front n [] b h = tt
over_front n (l ∷ f) b h = (h.0, h.1, over_front n f b h.2)

-- literals that hold with their sides hold in front with the first sides
pub hold_front : (f b : List Literal) (ss more : List Bool) (vs : List ℤ) → count_sides f ≤ length ss → HoldWith (f ++ b) (ss ++ more) vs → HoldWith f ss vs
hold_front [] b ss more vs few h = tt
hold_front (l ∷ f) b ss more vs few h = step (needs_side l) ss few h (λ tt few h. hold_front f b tt more vs few h)
  where
    H : Bool → Type 0
    H side = HoldsOn l.compare.relation l.positive side (value l.compare.left vs) (value l.compare.right vs)

    step : (n : Bool) (ss : List Bool) → cond n (suc (count_sides f)) (count_sides f) ≤ length ss → H (cond n (get_or (ss ++ more) 0 true) true) × HoldWith (f ++ b) (cond n (drop 1 (ss ++ more)) (ss ++ more)) vs
        → ((ss : List Bool) → count_sides f ≤ length ss → HoldWith (f ++ b) (ss ++ more) vs → HoldWith f ss vs)
        → H (cond n (get_or ss 0 true) true) × HoldWith f (cond n (drop 1 ss) ss) vs
    step true [] few h rest = absurd (omega arith)
    step true (s ∷ ss) few h rest = (h.0, rest ss (omega arith) h.1)
    step false ss few h rest = (h.0, rest ss few h.1)

agree_take : (vs : List ℤ) → AgreeBelow 8 vs (take 8 vs)
agree_take vs k l = sym (get_or-take 8 vs k (pos 0) l)

-- where all have a solution with more sides, bounded or not, those in front have one with the first sides
pub front_solvable : (f b : List Literal) (bounded : Bool) (ss more : List Bool) → AreLiteralsOver 8 (f ++ b) → AreDivisorsPositive f → count_sides f ≤ length ss
    → IsSolvable (count_variables (f ++ b)) (first_system (f ++ b) bounded (ss ++ more)) → IsSolvable (count_variables f) (first_system f false ss)
front_solvable f b bounded ss more over positive few (vs, many, solves) =
    let all = (first_out (f ++ b) bounded (ss ++ more) vs over solves).0 in
    let own = over_front 8 f b over in
    first_solvable f false ss (take 8 vs) own positive (length-take-le 8 vs (omega arith)) (hold_agree f ss vs (take 8 vs) (agree_take vs) own (hold_front f b ss more vs few all)) (λ e. absurd cc)

-- where those in front have no solution with the first sides, no more sides have one
pub never_hold : (n : ℕ) (ls f : List Literal) (ss : List Bool) → length ss ≡ n → IsFront n ls f → AreLiteralsOver 8 ls → AreDivisorsPositive f → (IsSolvable (count_variables f) (first_system f false ss) → ⊥) → NeverHold ls ss
never_hold n ls f ss many front over positive none bounded more solvable =
    let all = subst (λ l. IsSolvable (count_variables l) (first_system l bounded (ss ++ more))) front.is solvable in
    none (front_solvable f front.behind bounded ss more (subst (AreLiteralsOver 8) front.is over) positive (omega (arith, front.few, many)) all)
