-- The items of the program that is checked.
use Rattle.std.specs.Prelude.{List, map, take}
use Rattle.model_grammar.specs.Syntax.{Item}
use Rattle.fast_syntax.specs.Plain.{plain_item}
use Rattle.program_check.specs.declared.context.Context.{Context}

abbrev pub items_of : Context → List Item
items_of c = map plain_item c.items.now

-- those before the one that is looked at
abbrev pub before_of : Context → List Item
before_of c = take c.before (items_of c)
