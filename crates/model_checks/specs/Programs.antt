-- The conditions on a program, each with its code and its place. A program is well-formed where none fails, and its
-- refusal is the first that does, whatever the order in which they are looked at.
use Rattle.std.specs.Prelude.{Bool, true, false, List, [], ◌∷◌, ◌++◌, Option, Some, None, map, is_some, slice_get}
use Rattle.std.specs.List.{flat_map}
use Rattle.std.specs.Option.{option_map_or, option_and_then}
use Rattle.model_tree.specs.Limits.{most_items}
use Rattle.fast_fault.specs.declared.code.Code.TheVariants.{DuplicateType, DuplicateName, WrongKind, WrongType, TooMany}
use Rattle.fast_fault.specs.declared.refusal.Refusal.{Refusal}
use Rattle.model_program.specs.Syntax.{Name}
use Rattle.model_grammar.specs.Syntax.{X, TreeItem, LangItem, TransItem, DefItem, Claim, equal, member, empty, type_check, Body, sorts, tree, lang, trans, def, assertion, Item}
use Rattle.model_names.specs.Declared.{find_type, find_item}
use Rattle.model_names.specs.Kinds.{Kind, language, transformation, a_tree, defined_kind, declared_type, kind_of}
use Rattle.model_checks.specs.Failures.{failure, fails_if, first_among, is_empty}
use Rattle.model_checks.specs.Types.{type_failures}
use Rattle.model_checks.specs.Rules.{differ, type_name_failures, rule_failures, out_rule_failures, rule_limit}
use Rattle.model_checks.specs.Expressions.{place_of_x, x_failures, whole_failures, type_as, output_as}

-- whether it is known to be a tree
abbrev pub is_tree : Option Kind → Bool
is_tree None = false
is_tree (Some language) = false
is_tree (Some transformation) = false
is_tree (Some a_tree) = true

-- the items of a program, and those before the one that is looked at
module _ (items before : List Item) where
  -- Where a type's name was declared before, it is a second declaration.
  abbrev pub type_again : Name → List Refusal
  type_again name = fails_if (is_some (find_type before name.text)) DuplicateType name.place

  -- so is a name of a language, transformation, definition or tree
  abbrev pub name_again : Name → List Refusal
  name_again name = fails_if (is_some (find_item before name.text)) DuplicateName name.place

  abbrev pub tree_failures : TreeItem → List Refusal
  tree_failures t = name_again t.name ++ (type_name_failures items t.of ++ whole_failures items before (declared_type items t.of) a_tree t.value)

  abbrev pub lang_failures : LangItem → List Refusal
  lang_failures l = name_again l.name ++ (type_name_failures items l.of ++ (rule_limit l.rules ++ flat_map (rule_failures items l.of) l.rules))

  abbrev pub trans_failures : TransItem → List Refusal
  trans_failures t =
      name_again t.name
      ++ (type_name_failures items t.from
      ++ (type_name_failures items t.into
      ++ (rule_limit (map (λ r. r.rule) t.rules)
      ++ flat_map (out_rule_failures items t.from t.into) t.rules)))

  -- the type of the outputs, where there is one
  abbrev pub into_failures : Option Name → List Refusal
  into_failures None = []
  into_failures (Some into) = type_name_failures items into

  -- the outputs of a transformation aren't of the type that its definition says
  abbrev pub needs_output : Option Name → X → List Refusal
  needs_output into x = fails_if (differ (option_and_then (declared_type items) into) (output_as items before transformation x)) WrongType (place_of_x x)

  abbrev pub def_failures : DefItem → List Refusal
  def_failures d =
      name_again d.name
      ++ (type_name_failures items d.from
      ++ (into_failures d.into
      ++ (whole_failures items before (declared_type items d.from) (defined_kind d.into) d.value
      ++ needs_output d.into d.value)))

  -- Two languages are compared of one type. A tree has the type of the language that it is to be in. What is to be empty
  -- is a language or a transformation. Of a transformation that is type-checked the first language has the type of the
  -- inputs, and the second that of the outputs.
  abbrev pub claim_failures : Claim → List Refusal
  claim_failures (equal x y) = whole_failures items before None language x ++ whole_failures items before (type_as items before language x) language y
  claim_failures (member x y) = whole_failures items before None language y ++ whole_failures items before (type_as items before language y) a_tree x
  claim_failures (empty x) = x_failures items before 0 None x ++ fails_if (is_tree (kind_of items x)) WrongKind (place_of_x x)
  claim_failures (type_check x y z) =
      whole_failures items before None language x
      ++ (whole_failures items before (type_as items before language x) transformation y
      ++ whole_failures items before (output_as items before transformation y) language z)

  abbrev pub body_failures : Body → List Refusal
  body_failures (sorts t) = type_again t.name ++ type_failures t
  body_failures (tree t) = tree_failures t
  body_failures (lang l) = lang_failures l
  body_failures (trans t) = trans_failures t
  body_failures (def d) = def_failures d
  body_failures (assertion a) = claim_failures a.claim

-- there is a 10,001st item
abbrev pub item_limit : List Item → List Refusal
item_limit items = option_map_or (λ item. failure TooMany item.place) (slice_get items most_items) []

-- of the items behind those before
abbrev pub failures_behind : List Item → List Item → List Item → List Refusal
failures_behind items before [] = []
failures_behind items before (item ∷ rest) = body_failures items before item.body ++ failures_behind items (before ++ item ∷ []) rest

-- each condition that fails
abbrev pub failures : List Item → List Refusal
failures items = item_limit items ++ failures_behind items [] items

abbrev pub is_well_formed : List Item → Bool
is_well_formed items = is_empty (failures items)

-- why a program is refused, where it isn't well-formed
abbrev pub refusal_of : List Item → Option Refusal
refusal_of items = first_among None (failures items)
