-- The plain form of a signature.
use Rattle.std.specs.Prelude.{map}
use Rattle.model_tree.specs.Signature.{wholes, truths, texts, PlainField, PlainConstructor, PlainSignature}
use Rattle.model_tree.specs.Signature as model
use Rattle.fast_tree.specs.declared.signature.Sort.{Sort}
use Rattle.fast_tree.specs.declared.signature.Sort.TheVariants.{Int, Bool, Text}
use Rattle.fast_tree.specs.declared.signature.FieldOf.{FieldOf}
use Rattle.fast_tree.specs.declared.signature.CtorOf.{CtorOf}
use Rattle.fast_tree.specs.declared.signature.Signature.{Signature}

abbrev pub plain_sort : Sort → model.Sort
plain_sort Int = wholes
plain_sort Bool = truths
plain_sort Text = texts

abbrev pub plain_field : FieldOf → PlainField
plain_field field = record { name = field.name; sort = plain_sort field.sort }

abbrev pub plain_constructor : CtorOf → PlainConstructor
plain_constructor constructor = record { name = constructor.name; rank = constructor.rank }

abbrev pub plain_signature : Signature → PlainSignature
plain_signature signature = record {
  name = signature.name;
  fields = map plain_field signature.fields.items;
  constructors = map plain_constructor signature.constructors.items;
}
