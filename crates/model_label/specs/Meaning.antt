-- The value of a label expression, where the fields have these values: a whole number, a truth value or a text.
use Rattle.std.specs.Prelude.{ℤ, pos, ◌+ℤ◌, ◌*ℤ◌, neg_ℤ, int_lt, int_le, Bool, true, false, not, cond, ◌&&◌, ◌||◌, List}
use Rattle.std.specs.Ordering.{int_eq}
use Rattle.std.specs.Int.{int_rem_euclid}
use Rattle.std.specs.Str.{bytes_eq}
use Rattle.model_tree.specs.Label.{Field, whole, truth, text}
use Rattle.model_tree.specs.Signature.{PlainField}
use Rattle.model_grammar.specs.declared.Rel.{Rel}
use Rattle.model_grammar.specs.declared.Rel.TheVariants.{Equal, NotEqual, Less, AtMost, Greater, AtLeast}
use Rattle.model_grammar.specs.declared.Chain.TheVariants.{Disjunction, Conjunction, Sum, Product}
use Rattle.model_grammar.specs.Syntax.{Expr, field, number, negation, compare, minus, chain, Parts, no_parts, part}
use Rattle.model_grammar.specs.Syntax as syntax
use Rattle.model_label.specs.Fields.{value_at}

abbrev pub as_whole : Field → ℤ
as_whole (whole n) = n
as_whole (truth b) = pos 0
as_whole (text t) = pos 0

abbrev pub as_truth : Field → Bool
as_truth (whole n) = false
as_truth (truth b) = b
as_truth (text t) = false

abbrev pub same_truth : Bool → Bool → Bool
same_truth true b = b
same_truth false b = not b

-- whether two values are the same; values of two sorts never are
abbrev pub same_value : Field → Field → Bool
same_value (whole m) (whole n) = int_eq m n
same_value (whole m) (truth b) = false
same_value (whole m) (text t) = false
same_value (truth a) (whole n) = false
same_value (truth a) (truth b) = same_truth a b
same_value (truth a) (text t) = false
same_value (text s) (whole n) = false
same_value (text s) (truth b) = false
same_value (text s) (text t) = bytes_eq s t

-- whether a comparison holds of two values
abbrev pub holds_between : Rel → Field → Field → Bool
holds_between Equal a b = same_value a b
holds_between NotEqual a b = not (same_value a b)
holds_between Less a b = int_lt (as_whole a) (as_whole b)
holds_between AtMost a b = int_le (as_whole a) (as_whole b)
holds_between Greater a b = int_lt (as_whole b) (as_whole a)
holds_between AtLeast a b = int_le (as_whole b) (as_whole a)

module _ (fields : List PlainField) (values : List Field) where
  abbrev mutual
    pub value_of : Expr → Field
    value_of (field place name) = value_at fields values name
    value_of (number place n) = whole n
    value_of (syntax.text place t) = text t
    value_of (syntax.truth place b) = truth b
    value_of (negation place e) = truth (not (as_truth (value_of e)))
    value_of (compare place rel a b) = truth (holds_between rel (value_of a) (value_of b))
    value_of (minus place e) = whole (neg_ℤ (as_whole (value_of e)))
    value_of (chain Disjunction place parts) = truth (some_true parts)
    value_of (chain Conjunction place parts) = truth (all_true parts)
    value_of (chain Sum place parts) = whole (sum_of parts)
    value_of (chain Product place parts) = whole (product_of (pos 1) parts)

    pub all_true : Parts → Bool
    all_true no_parts = true
    all_true (part marked e parts) = as_truth (value_of e) && all_true parts

    pub some_true : Parts → Bool
    some_true no_parts = false
    some_true (part marked e parts) = as_truth (value_of e) || some_true parts

    -- a marked part is subtracted
    pub sum_of : Parts → ℤ
    sum_of no_parts = pos 0
    sum_of (part subtracted e parts) = cond subtracted (neg_ℤ (as_whole (value_of e))) (as_whole (value_of e)) +ℤ sum_of parts

    -- from the left; a marked part is a divisor whose remainder is taken
    pub product_of : ℤ → Parts → ℤ
    product_of before no_parts = before
    product_of before (part divides e parts) = product_of (cond divides (int_rem_euclid before (as_whole (value_of e))) (before *ℤ as_whole (value_of e))) parts

  -- whether the expression is true
  abbrev pub is_true : Expr → Bool
  is_true e = as_truth (value_of e)
