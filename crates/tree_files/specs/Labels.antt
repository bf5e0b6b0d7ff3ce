-- Constants that are labels.
use Rattle.std.specs.Prelude.{Bool, false, not, nat_lt, List, ◌++◌, Option, Some, None, length, encode_utf8_all}
use Rattle.fast_fault.specs.declared.refusal.Refusal.{Refusal}
use Rattle.model_tree.specs.Limits.{longest_text}
use Rattle.model_tree.specs.Label.{Field, whole, truth, text}
use Rattle.model_tree.specs.Signature.{PlainField, sort_of}
use Rattle.model_grammar.specs.Syntax.{Expr}
use Rattle.model_label.specs.Fields.{same_sort}
use Rattle.model_run.specs.Texts.{sort_failures, range_failures, length_failures}
use Rattle.tree_reader.specs.declared.Value.{Value}
use Rattle.tree_reader.specs.declared.Value.TheVariants.{Number, Text, Truth}

-- the value that a constant is
abbrev pub meant_by : Value → Field
meant_by (Number n) = whole n
meant_by (Text t) = text t
meant_by (Truth b) = truth b

-- whether it is a text that has too many bytes
abbrev pub is_long : Field → Bool
is_long (whole n) = false
is_long (truth b) = false
is_long (text t) = nat_lt longest_text (length (encode_utf8_all t))

-- whether there is a field for it that is of another sort
abbrev pub is_misplaced : Option PlainField → Field → Bool
is_misplaced None value = false
is_misplaced (Some f) value = not (same_sort (sort_of value) f.sort)

-- what fails in a label, with its field where there is one
abbrev pub failures_at : Option PlainField → Expr → List Refusal
failures_at None e = range_failures e ++ length_failures e
failures_at (Some f) e = sort_failures f e ++ (range_failures e ++ length_failures e)
