-- Tree types as a program declares them. Constructors and fields are numbered in their order.
use Rattle.std.specs.Prelude.{ℕ, ℤ, pos, negsuc, List, [], map}
use Rattle.std.specs.Option.{option_map_or, option_and_then}
use Rattle.model_tree.specs.Label.{Field, Label, row, pair}
use Rattle.model_tree.specs.Signature.{PlainSignature}
use Rattle.model_program.specs.Syntax.{Name, TypeItem}
use Rattle.model_grammar.specs.Syntax.{Item}
use Rattle.model_names.specs.Declared.{find_type, find_item}
use Rattle.model_names.specs.Sorts.{own_sort}
use Rattle.model_names.specs.Kinds.{own_type, own_output}

-- a rank is no negative number
abbrev pub rank_of : ℤ → ℕ
rank_of (pos n) = n
rank_of (negsuc n) = 0

abbrev pub signature_of : TypeItem → PlainSignature
signature_of t = record {
  name = t.name.text;
  fields = map (λ f. record { name = f.name.text; sort = own_sort f }) t.fields;
  constructors = map (λ c. record { name = c.name.text; rank = rank_of c.rank }) t.ctors;
}

abbrev pub no_signature : PlainSignature
no_signature = record { name = []; fields = []; constructors = [] }

-- the values of a label, field by field
abbrev pub values_of : Label → List Field
values_of (row values) = values
values_of (pair left right) = []

module _ (items : List Item) where
  abbrev pub signature_at : Name → PlainSignature
  signature_at type = option_map_or signature_of (find_type items type.text) no_signature

  -- the type of the trees of a language or of the inputs of a transformation, by its name
  abbrev pub input_of : List ℕ → PlainSignature
  input_of name = option_map_or signature_at (option_and_then (λ item. own_type item.body) (find_item items name)) no_signature

  -- the type of the outputs of a transformation, by its name
  abbrev pub output_of : List ℕ → PlainSignature
  output_of name = option_map_or signature_at (option_and_then (λ item. own_output item.body) (find_item items name)) no_signature
