-- The chain of given sides and puts has these sides and puts.
use Rattle.std.proofs.Common.{◌≡◌, ℕ, suc, List, [], ◌∷◌, ◌++◌, map, length, drop, get_or, Bool, true, false, cond, arith, refl, ap, sym, ◌∙◌, subst}
use Rattle.std.proofs.Math.IntN.{ℤ}
use Rattle.math_cooper.specs.Puts.{Put, AllFit, IsNumber, Passes128, IsSolution}
use Rattle.math_cooper.proofs.Composition.{not-passes}
use Rattle.model_chain.specs.Literals.{Literal, needs_side, count_sides, own_side, later_sides}
use Rattle.model_chain.specs.Chains.{Choice, side, take_put, Chain, first_system, count_variables, side_choices, sides_in, puts_in, IsChosen, HasWide, HasFarValue, IsFar}

abbrev pub choices_of : List Literal → List Bool → List Put → List Choice
choices_of ls sides ps = side_choices 0 ls sides ++ map take_put ps

abbrev pub made : List Literal → Bool → List Bool → List Put → Chain
made ls bounded sides ps = record { literals = ls; choices = choices_of ls sides ps; bounded = bounded }

only_puts-sides : (ps : List Put) → sides_in (map take_put ps) ≡ []
only_puts-sides [] = refl
only_puts-sides (p ∷ ps) = only_puts-sides ps

only_puts-puts : (ps : List Put) → puts_in (map take_put ps) ≡ ps
only_puts-puts [] = refl
only_puts-puts (p ∷ ps) = ap (λ qs. p ∷ qs) (only_puts-puts ps)

nothing_left : (sides : List Bool) → length sides ≡ 0 → [] ≡ sides
nothing_left [] e = refl
nothing_left (s ∷ sides) e = absurd (omega arith)

made-sides : (k : ℕ) (ls : List Literal) (sides : List Bool) (ps : List Put) → length sides ≡ count_sides ls → sides_in (side_choices k ls sides ++ map take_put ps) ≡ sides
made-sides k [] sides ps e = only_puts-sides ps ∙ nothing_left sides e
made-sides k (l ∷ ls) sides ps e = by (needs_side l) sides e (λ ss f. made-sides (suc k) ls ss ps f)
  where
    by : (b : Bool) (ss : List Bool) → length ss ≡ cond b (suc (count_sides ls)) (count_sides ls) → ((ts : List Bool) → length ts ≡ count_sides ls → sides_in (side_choices (suc k) ls ts ++ map take_put ps) ≡ ts)
        → sides_in (cond b (side k (cond b (get_or ss 0 true) true) ∷ []) [] ++ side_choices (suc k) ls (cond b (drop 1 ss) ss) ++ map take_put ps) ≡ ss
    by true [] e f = absurd (omega arith)
    by true (s ∷ ss) e f = ap (λ ts. s ∷ ts) (f ss (omega arith))
    by false ss e f = f ss e

made-puts : (k : ℕ) (ls : List Literal) (sides : List Bool) (ps : List Put) → puts_in (side_choices k ls sides ++ map take_put ps) ≡ ps
made-puts k [] sides ps = only_puts-puts ps
made-puts k (l ∷ ls) sides ps = by (needs_side l) (made-puts (suc k) ls (later_sides l sides) ps)
  where
    by : (b : Bool) → puts_in (side_choices (suc k) ls (later_sides l sides) ++ map take_put ps) ≡ ps → puts_in (cond b (side k (own_side l sides) ∷ []) [] ++ side_choices (suc k) ls (later_sides l sides) ++ map take_put ps) ≡ ps
    by true e = e
    by false e = e

pub chosen : (ls : List Literal) (bounded : Bool) (sides : List Bool) (ps : List Put) → length sides ≡ count_sides ls → IsChosen (made ls bounded sides ps)
chosen ls bounded sides ps e = record {
  for_each = ap length (made-sides 0 ls sides ps e) ∙ e;
  in_order = let es = sym (made-sides 0 ls sides ps e) in let ep = sym (made-puts 0 ls sides ps) in λ i. side_choices 0 ls (es i) ++ map take_put (ep i);
}

pub wide_chain : (ls : List Literal) (bounded : Bool) (sides : List Bool) (ps : List Put) → length sides ≡ count_sides ls → Passes128 (count_variables ls) (first_system ls bounded sides) ps → HasWide (made ls bounded sides ps)
wide_chain ls bounded sides ps e h =
    (chosen ls bounded sides ps e, subst (λ ss. Passes128 (count_variables ls) (first_system ls bounded ss) (puts_in (choices_of ls sides ps))) (sym (made-sides 0 ls sides ps e)) (subst (Passes128 (count_variables ls) (first_system ls bounded sides)) (sym (made-puts 0 ls sides ps)) h))

pub far_chain : (ls : List Literal) (sides : List Bool) (ps : List Put) (vs : List ℤ) → length sides ≡ count_sides ls → AllFit (IsNumber (count_variables ls) (first_system ls false sides) ps) → IsSolution (count_variables ls) (first_system ls false sides) ps vs → HasFarValue vs → IsFar (made ls false sides ps)
far_chain ls sides ps vs e fit solution out =
    let es = made-sides 0 ls sides ps e in
    let ep = made-puts 0 ls sides ps in
    let n = count_variables ls in (
      refl,
      λ h. not-passes n (first_system ls false sides) ps fit (subst (λ ss. Passes128 n (first_system ls false ss) ps) es (subst (Passes128 n (first_system ls false (sides_in (choices_of ls sides ps)))) ep h.1)),
      chosen ls false sides ps e,
      (vs, subst (λ ss. IsSolution n (first_system ls false ss) (puts_in (choices_of ls sides ps)) vs) (sym es) (subst (λ qs. IsSolution n (first_system ls false sides) qs vs) (sym ep) solution), out),
    )
