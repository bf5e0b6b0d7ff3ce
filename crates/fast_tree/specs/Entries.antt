-- The label that a value is.
use Rattle.std.specs.Prelude.{List, map}
use Rattle.model_tree.specs.Label.{Field, whole, truth, text}
use Rattle.model_tree.specs.Label as model
use Rattle.fast_tree.specs.declared.label.Label.{Label}
use Rattle.fast_tree.specs.declared.label.Value.{Value}
use Rattle.fast_tree.specs.declared.label.Value.TheVariants.{Int, Bool, Text}

abbrev pub entries_of : Label → List Value
entries_of l = l.values.items

abbrev pub field_of : Value → Field
field_of (Int n) = whole n
field_of (Bool b) = truth b
field_of (Text t) = text t

abbrev pub label_meaning : Label → model.Label
label_meaning l = model.row (map field_of (entries_of l))
