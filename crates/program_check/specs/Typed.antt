-- Types by the numbers of the items that declare them, as the code passes them on.
use Rattle.std.specs.Prelude.{◌≡◌, ℕ, ◌==◌, Bool, false, List, Option, Some, None, not}
use Rattle.std.specs.Borrow.{Bor}
use Rattle.std.specs.Option.{option_map, option_and_then}
use Rattle.model_program.specs.Syntax.{Name}
use Rattle.model_program.specs.Syntax as model
use Rattle.model_grammar.specs.Syntax.{Item}
use Rattle.fast_syntax.specs.View.{plain_type}
use Rattle.fast_syntax.specs.declared.TypeItem.{TypeItem}
use Rattle.program_check.specs.declared.rules.Between.{Between}
use Rattle.program_check.specs.Numbered.{place_by, declares_type, type_there}

abbrev pub plain_option : Option (Bor TypeItem) → Option model.TypeItem
plain_option = option_map (λ t. plain_type t.now)

-- the number of the first type of this name
abbrev pub type_number : List Item → List ℕ → Option ℕ
type_number items name = place_by (declares_type name) items

-- it is the number of the type of this name, where one is known
pub record IsType (items : List Item) (number : Option ℕ) (name : Option (List ℕ)) : Type 0 where
  pub named : option_map (λ t. t.name.text) (type_there items number) ≡ name
  pub first : option_and_then (type_number items) name ≡ number

-- whether types of these numbers are known to differ
abbrev pub apart : Option ℕ → Option ℕ → Bool
apart None b = false
apart (Some a) None = false
apart (Some a) (Some b) = not (a == b)

-- the types are those that are declared under the names
pub record AreFound (items : List Item) (types : Between) (from into : Name) : Type 0 where
  pub inputs : types.inputs ≡ type_number items from.text
  pub outputs : types.outputs ≡ type_number items into.text
