-- The transformations of a program.
use Rattle.std.specs.Prelude.{ℕ, List, Option, Some, None}
use Rattle.std.specs.Option.{option_and_then}
use Rattle.model_grammar.specs.Syntax.{TransItem, Body, sorts, tree, lang, trans, def, assertion, Item}
use Rattle.model_names.specs.Declared.{find_item}

abbrev pub own_trans : Body → Option TransItem
own_trans (sorts t) = None
own_trans (tree t) = None
own_trans (lang l) = None
own_trans (trans t) = Some t
own_trans (def d) = None
own_trans (assertion a) = None

-- the transformation of a name
abbrev pub find_trans : List Item → List ℕ → Option TransItem
find_trans items name = option_and_then (λ item. own_trans item.body) (find_item items name)
