-- Literals that are sought, some of which take a side.
use Rattle.std.proofs.Common.{◌≡◌, ◌⊎◌, inl, inr, ℕ, ◌<◌, List, [], ◌∷◌, ◌++◌, length, get_or, Bool, true, false, refl, ap, sym, ◌∙◌, subst, arith, cond, ◌+◌}
use Rattle.std.proofs.Math.IntN.{ℤ}
use Rattle.std.specs.Prelude.{int_lt}
use Rattle.std.specs.Ordering.{int_eq}
use Rattle.std.proofs.lemmas.Int.{ints}
use Rattle.std.proofs.lemmas.List.{map-append, get_or_default}
use Rattle.std.proofs.lemmas.List.Elements.{All-append, All-cons, All-nil}
use Rattle.model_form.specs.Form.{value}
use Rattle.model_chain.specs.Literals as plain
use Rattle.model_chain.specs.Literals.{Literal, HoldsAll, compare_holds, needs_side, count_sides}
use Rattle.label_core.specs.declared.theory.Lit.{Lit}
use Rattle.lin_solve.specs.declared.compare.Compare.{Compare}
use Rattle.lin_solve.specs.declared.compare.Relation.{Relation}
use Rattle.lin_solve.specs.declared.compare.Relation.TheVariants.{Less, AtMost, Equal}
use Rattle.lin_solve.specs.Plain.{plain_compare, plain_relation, plain_literal, plain_literals}
use Rattle.lin_solve.specs.Sought.{IsSidedAt, less_of}
use Rattle.std.specs.Prelude.{IfOk}
use Rattle.std.proofs.Common.{Result, Ok, Err}
use Rattle.math_cooper.specs.System.{Condition, IsSolvable}
use Rattle.model_chain.specs.Literals.{AreLiteralsOver}
use Rattle.model_chain.specs.Chains.{first_system, count_variables}
use Rattle.model_chain.specs.Laws.{AreDivisorsPositive}
use Rattle.fast_fault.specs.declared.memory.Memory.{Memory}
use Rattle.lin_reduce.specs.declared.nodes.Explored.{Explored}
use Rattle.lin_reduce.specs.declared.nodes.Explored.TheVariants as explored
use Rattle.lin_reduce.specs.Parts.{TellsNever}
use Rattle.lin_solve.specs.Sought.{TellsExplored}
use Rattle.lin_solve.proofs.Decided.{unsat_for}
use Rattle.lin_solve.proofs.Fronts.{count_push}
use Rattle.lin_solve.proofs.Gapped.{literal_here}

pub pushed_hold : (ls ms : List (Lit Compare)) (x : Lit Compare) (us : List ℤ) → ms ≡ ls ++ x ∷ [] → compare_holds (plain_compare x.atom) us ≡ x.sign → HoldsAll (plain_literals ls) us → HoldsAll (plain_literals ms) us
pushed_hold ls ms x us e own h =
    let P = λ (l : Literal). compare_holds l.compare us ≡ l.positive in
    subst (λ ns. HoldsAll (plain_literals ns) us) (sym e) (subst (λ ns. HoldsAll ns us) (sym (map-append plain_literal ls (x ∷ []))) (All-append P (plain_literals ls) (plain_literal x ∷ []) h (All-cons P (plain_literal x) [] own (All-nil P))))

pub pushed_none : (ls ms : List (Lit Compare)) (x : Lit Compare) → ms ≡ ls ++ x ∷ [] → needs_side (plain_literal x) ≡ false → count_sides (plain_literals ls) ≡ 0 → count_sides (plain_literals ms) ≡ 0
pushed_none ls ms x e not none =
    ap (λ ns. count_sides (plain_literals ns)) e ∙ count_push ls x ∙ ap (λ b. cond b (count_sides (plain_literals ls) + 1) (count_sides (plain_literals ls))) not ∙ none

-- what is so of the literal at a place is so of the one that is there
pub sided_here : (ls : List (Lit Compare)) (place i : ℕ) (x : Lit Compare) (turned : Bool) (us : List ℤ) → i < length ls → i ≡ place → IsSidedAt ls place turned us → compare_holds (less_of (get_or ls i x).atom turned) us ≡ true
sided_here ls place i x turned us low same side =
    subst (λ k. compare_holds (less_of (get_or ls k x).atom turned) us ≡ true) (sym same) (side x (subst (λ k. k < length ls) same low))

-- one side of what is not equal is the lesser
between : (a b : ℤ) → int_eq a b ≡ false → (int_lt a b ≡ true) ⊎ (int_lt b a ≡ true)
between a b e = by (int_lt a b) (int_lt b a) refl refl
  where
    by : (x y : Bool) → int_lt a b ≡ x → int_lt b a ≡ y → (int_lt a b ≡ true) ⊎ (int_lt b a ≡ true)
    by true y p q = inl p
    by false true p q = inr q
    by false false p q = absurd (grind (arith, ints))

sides_of : (r : Relation) (positive : Bool) (a b : ℤ) → plain.is_not_equal (plain_relation r) positive ≡ true → plain.related (plain_relation r) a b ≡ positive → (int_lt a b ≡ true) ⊎ (int_lt b a ≡ true)
sides_of Less positive a b n h = cc
sides_of AtMost positive a b n h = cc
sides_of Equal true a b n h = cc
sides_of Equal false a b n h = between a b h

-- where a negated equality holds, one of its sides does
pub one_side : (ls : List (Lit Compare)) (place : ℕ) (us : List ℤ) → place < length ls → ((d : Lit Compare) → needs_side (plain_literal (get_or ls place d)) ≡ true) → HoldsAll (plain_literals ls) us → IsSidedAt ls place false us ⊎ IsSidedAt ls place true us
one_side [] place us low needs h = absurd (omega arith)
one_side (l ∷ ls) place us low needs h =
    let x = get_or (l ∷ ls) place l in
    let any = λ (d : Lit Compare). get_or_default (l ∷ ls) place l d low in
    let own = literal_here (l ∷ ls) place x us (get_or_default (l ∷ ls) place l x low) low h in
    by x any (sides_of x.atom.relation x.sign (value x.atom.left us) (value x.atom.right us) (needs l) own)
  where
    by : (x : Lit Compare) → ((d : Lit Compare) → x ≡ get_or (l ∷ ls) place d) → (int_lt (value x.atom.left us) (value x.atom.right us) ≡ true) ⊎ (int_lt (value x.atom.right us) (value x.atom.left us) ≡ true) → IsSidedAt (l ∷ ls) place false us ⊎ IsSidedAt (l ∷ ls) place true us
    by x any (inl p) = inl (λ d k. subst (λ (y : Lit Compare). compare_holds (less_of y.atom false) us ≡ true) (any d) p)
    by x any (inr p) = inr (λ d k. subst (λ (y : Lit Compare). compare_holds (less_of y.atom true) us ≡ true) (any d) p)

-- what is found of some literals without sides is found of all
pub explored_told : (ls own : List Literal) (S : List Condition) (n : ℕ) (r : Result Explored Memory) → AreLiteralsOver 8 own → AreDivisorsPositive own → count_sides own ≡ 0 → ((us : List ℤ) → HoldsAll ls us → HoldsAll own us)
    → S ≡ first_system own false [] → n ≡ count_variables own → IfOk r (TellsNever n S) → IfOk r (TellsExplored ls)
explored_told ls own S n (Ok explored.Never) over some none hold e f h =
    λ us eight holds. unsat_for own false us over some (λ sides k s. h (subst (λ m. IsSolvable m S) (sym f) (subst (IsSolvable (count_variables own)) (sym (e ∙ ap (first_system own false) (sym (nothing sides (k ∙ none))))) s))) eight (λ b. absurd cc) (hold us holds)
  where
    nothing : (sides : List Bool) → length sides ≡ 0 → sides ≡ []
    nothing [] l = refl
    nothing (s ∷ sides) l = absurd (omega arith)
explored_told ls own S n (Ok (explored.Maybe values)) over some none hold e f h = tt
explored_told ls own S n (Ok explored.Open) over some none hold e f h = tt
explored_told ls own S n (Err m) over some none hold e f h = tt
