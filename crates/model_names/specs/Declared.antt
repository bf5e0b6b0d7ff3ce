-- What a program declares. Types are one space of names; languages, transformations, definitions and trees are another.
-- Where a name is declared twice, the first declaration counts.
use Rattle.std.specs.Prelude.{ℕ, Bool, false, List, [], ◌∷◌, Option, Some, None, find}
use Rattle.std.specs.List.{flat_map}
use Rattle.std.specs.Option.{option_map_or}
use Rattle.std.specs.Str.{bytes_eq}
use Rattle.model_program.specs.Syntax.{Name, TypeItem}
use Rattle.model_grammar.specs.Places.{nowhere}
use Rattle.model_grammar.specs.Syntax.{Rule, OutRule, Body, sorts, tree, lang, trans, def, assertion, Item}

-- whether two texts are the same
abbrev pub same_text : List ℕ → List ℕ → Bool
same_text = bytes_eq

-- a name by its text, wherever it stands
abbrev pub name_of : List ℕ → Name
name_of text = record { text = text; place = nowhere }

abbrev pub own_types : Body → List TypeItem
own_types (sorts t) = t ∷ []
own_types (tree t) = []
own_types (lang l) = []
own_types (trans t) = []
own_types (def d) = []
own_types (assertion a) = []

abbrev pub types_of : List Item → List TypeItem
types_of = flat_map (λ item. own_types item.body)

abbrev pub find_type : List Item → List ℕ → Option TypeItem
find_type items name = find (λ t. same_text t.name.text name) (types_of items)

-- the name of a language, transformation, definition or tree
abbrev pub own_name : Body → Option Name
own_name (sorts t) = None
own_name (tree t) = Some t.name
own_name (lang l) = Some l.name
own_name (trans t) = Some t.name
own_name (def d) = Some d.name
own_name (assertion a) = None

abbrev pub declares : List ℕ → Item → Bool
declares name item = option_map_or (λ n. same_text n.text name) (own_name item.body) false

-- the first item that declares a name of a language, transformation, definition or tree
abbrev pub find_item : List Item → List ℕ → Option Item
find_item items name = find (declares name) items

-- the rules of an item that is a language, and those of one that is a transformation
abbrev pub own_rules : Body → List Rule
own_rules (sorts t) = []
own_rules (tree t) = []
own_rules (lang l) = l.rules
own_rules (trans t) = []
own_rules (def d) = []
own_rules (assertion a) = []

abbrev pub own_out_rules : Body → List OutRule
own_out_rules (sorts t) = []
own_out_rules (tree t) = []
own_out_rules (lang l) = []
own_out_rules (trans t) = t.rules
own_out_rules (def d) = []
own_out_rules (assertion a) = []

module _ (items : List Item) where
  abbrev pub rules_of : List ℕ → List Rule
  rules_of name = option_map_or (λ item. own_rules item.body) (find_item items name) []

  abbrev pub out_rules_of : List ℕ → List OutRule
  out_rules_of name = option_map_or (λ item. own_out_rules item.body) (find_item items name) []
