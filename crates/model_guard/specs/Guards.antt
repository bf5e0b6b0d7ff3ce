-- Label expressions that are truth values, over fields of all sorts.
use Rattle.std.specs.Prelude.{Bool, true, false, ◌&&◌, ◌||◌, List}
use Rattle.model_tree.specs.Signature.{truths, PlainField}
use Rattle.model_grammar.specs.declared.Chain.TheVariants.{Disjunction, Conjunction, Sum, Product}
use Rattle.model_grammar.specs.Syntax.{Expr, field, number, text, truth, negation, compare, minus, chain, Parts, no_parts, part}
use Rattle.model_label.specs.Fields.{has_field}
use Rattle.model_label.specs.Tests.{is_equality, is_text}
use Rattle.model_guard.specs.Forms.{is_whole}

module _ (fields : List PlainField) where
  abbrev mutual
    -- a truth value: a field, a constant, a comparison of two whole numbers, an equality of two guards or of two texts, or what `not`, `and` and `or` make of guards
    pub is_guard : Expr → Bool
    is_guard (field place name) = has_field fields truths name
    is_guard (number place n) = false
    is_guard (text place t) = false
    is_guard (truth place b) = true
    is_guard (negation place e) = is_guard e
    is_guard (compare place rel a b) = (is_whole fields a && is_whole fields b) || (is_equality rel && ((is_guard a && is_guard b) || (is_text fields a && is_text fields b)))
    is_guard (minus place e) = false
    is_guard (chain Disjunction place parts) = are_guards parts
    is_guard (chain Conjunction place parts) = are_guards parts
    is_guard (chain Sum place parts) = false
    is_guard (chain Product place parts) = false

    pub are_guards : Parts → Bool
    are_guards no_parts = true
    are_guards (part marked e parts) = is_guard e && are_guards parts
