-- Operations around others.
use Rattle.std.proofs.Common.{◌≡◌, ℕ, suc, ◌+◌, ◌<◌, ◌≤◌, Bool, true, false, List, [], ◌++◌, Option, Some, None, length, refl, sym, ap, ap₂, ◌∙◌, arith, add-one}
use Rattle.std.specs.Prelude.{nat_le, nat_lt}
use Rattle.std.proofs.lemmas.Bool.Decides.{nat_tests}
use Rattle.fast_fault.specs.declared.place.Pos.{Pos}
use Rattle.fast_fault.specs.declared.code.Code.TheVariants.{TooMany}
use Rattle.model_grammar.specs.Syntax.{X, named, one, two, literal, Xs, no_x, and_x, Item}
use Rattle.model_names.specs.Kinds.{a_tree, taken_by_one, taken_first, taken_second}
use Rattle.model_checks.specs.Failures.{fails_if}
use Rattle.model_checks.specs.Labels.{labels_failures}
use Rattle.model_checks.specs.Rules.{constructor_failures, label_count_failures, fields_of}
use Rattle.model_checks.specs.Expressions.{nesting_failures, x_failures, xs_failures, needs_be, wanted_second, expected_as, type_called, count_xs}

-- where there are 64 operations around, it doesn't matter how many
nested_alike : (m n : ℕ) (place : Pos) → 64 ≤ m → 64 ≤ n → nesting_failures m place ≡ nesting_failures n place
nested_alike m n place h g =
    let p : nat_le 64 m ≡ true = grind (arith, nat_tests) in
    let q : nat_le 64 n ≡ true = grind (arith, nat_tests) in
    ap (λ b. fails_if b TooMany place) (p ∙ sym q)

module _ (items before : List Item) where
  mutual
    pub x_alike : (m n : ℕ) (e : Option (List ℕ)) (x : X) → 64 ≤ m → 64 ≤ n → x_failures items before m e x ≡ x_failures items before n e x
    x_alike m n e (named name) h g = refl
    x_alike m n e (one op place x) h g = ap₂ (λ a b. a ++ (b ++ needs_be items before None (taken_by_one op) x)) (nested_alike m n place h g) (x_alike (suc m) (suc n) None x (omega arith) (omega arith))
    x_alike m n e (two op place x y) h g =
        let p = nested_alike m n place h g in
        let q = x_alike (suc m) (suc n) None x (omega arith) (omega arith) in
        let r = x_alike (suc m) (suc n) (expected_as (taken_second op) (wanted_second items before op x)) y (omega arith) (omega arith) in
        λ i. p i ++ (q i ++ (needs_be items before None (taken_first op) x ++ (r i ++ needs_be items before (wanted_second items before op x) (taken_second op) y)))
    x_alike m n e (literal name labels xs) h g =
        ap (λ l. constructor_failures (type_called items before e) name (count_xs xs) ++ (label_count_failures (type_called items before e) name (length labels) ++ (labels_failures (Some []) (fields_of (type_called items before e)) labels ++ l))) (xs_alike m n e xs h g)

    xs_alike : (m n : ℕ) (e : Option (List ℕ)) (xs : Xs) → 64 ≤ m → 64 ≤ n → xs_failures items before m e xs ≡ xs_failures items before n e xs
    xs_alike m n e no_x h g = refl
    xs_alike m n e (and_x x xs) h g = ap₂ (λ a b. a ++ (needs_be items before e a_tree x ++ b)) (x_alike m n e x h g) (xs_alike m n e xs h g)

  -- one operation more around
  pub as_deep : (around deep : ℕ) (e : Option (List ℕ)) (x : X) → (around < 64 → deep ≡ around + 1) → (64 ≤ around → deep ≡ around) → x_failures items before deep e x ≡ x_failures items before (suc around) e x
  as_deep around deep e x few many = by (nat_lt around 64) refl
    where
      by : (b : Bool) → nat_lt around 64 ≡ b → x_failures items before deep e x ≡ x_failures items before (suc around) e x
      by true t = let low : around < 64 = grind (arith, nat_tests) in ap (λ n. x_failures items before n e x) (few low ∙ add-one around)
      by false t = let high : 64 ≤ around = grind (arith, nat_tests) in let is = many high in x_alike deep (suc around) e x (omega arith) (omega arith)
