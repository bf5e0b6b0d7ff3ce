-- The languages of a program.
use Rattle.std.specs.Prelude.{ℕ, List, Option, Some, None}
use Rattle.std.specs.Option.{option_and_then}
use Rattle.fast_syntax.specs.Plain.{plain_program}
use Rattle.model_grammar.specs.Syntax.{LangItem, Body, sorts, tree, lang, trans, def, assertion, Item}
use Rattle.model_names.specs.Declared.{find_item}
use Rattle.program_check.specs.declared.programs.Checked.{Checked}

-- the items of a checked program
abbrev pub items_of : Checked → List Item
items_of c = plain_program c.program

abbrev pub own_lang : Body → Option LangItem
own_lang (sorts t) = None
own_lang (tree t) = None
own_lang (lang l) = Some l
own_lang (trans t) = None
own_lang (def d) = None
own_lang (assertion a) = None

-- the language of a name
abbrev pub find_lang : List Item → List ℕ → Option LangItem
find_lang items name = option_and_then (λ item. own_lang item.body) (find_item items name)
