-- What may fail in an expression of a language, a transformation or a tree.
use Rattle.std.specs.Prelude.{ℕ, suc, Bool, true, false, ◌&&◌, List, [], ◌++◌, Option, Some, None, is_some, nat_le, length, not}
use Rattle.std.specs.Option.{option_map_or, option_and_then}
use Rattle.model_tree.specs.Limits.{most_around}
use Rattle.fast_fault.specs.declared.code.Code.TheVariants.{UnknownName, WrongKind, WrongType, UsedTooEarly, TooMany}
use Rattle.fast_fault.specs.declared.place.Pos.{Pos}
use Rattle.fast_fault.specs.declared.refusal.Refusal.{Refusal}
use Rattle.model_program.specs.Syntax.{Name, TypeItem}
use Rattle.model_grammar.specs.declared.Op2.{Op2}
use Rattle.model_grammar.specs.declared.Op2.TheVariants.{Intersect, Union, Difference, PreImage, Compose, Restrict, RestrictOut, Apply}
use Rattle.model_grammar.specs.Syntax.{X, named, one, two, literal, Xs, no_x, and_x, Body, sorts, tree, lang, trans, def, assertion, Item}
use Rattle.model_names.specs.Declared.{find_type, find_item}
use Rattle.model_names.specs.Kinds.{Kind, language, transformation, a_tree, same_kind, taken_by_one, taken_first, taken_second, if_kind, kind_of, type_of, output_of}
use Rattle.model_checks.specs.Failures.{failure, fails_if}
use Rattle.model_checks.specs.Labels.{labels_failures}
use Rattle.model_checks.specs.Rules.{differ, constructor_failures, label_count_failures, fields_of}

abbrev pub place_of_x : X → Pos
place_of_x (named name) = name.place
place_of_x (one op place x) = place
place_of_x (two op place x y) = place
place_of_x (literal name labels xs) = name.place

-- whether it is known to be of another kind
abbrev pub is_other_kind : Kind → Option Kind → Bool
is_other_kind kind None = false
is_other_kind kind (Some found) = not (same_kind found kind)

-- A name of a definition or a tree is known from the next item on.
abbrev pub is_known_later : Body → Bool
is_known_later (sorts t) = false
is_known_later (tree t) = true
is_known_later (lang l) = false
is_known_later (trans t) = false
is_known_later (def d) = true
is_known_later (assertion a) = false

abbrev pub count_xs : Xs → ℕ
count_xs no_x = 0
count_xs (and_x x xs) = suc (count_xs xs)

-- A type is expected of a tree alone.
abbrev pub expected_as : Kind → Option (List ℕ) → Option (List ℕ)
expected_as language type = None
expected_as transformation type = None
expected_as a_tree type = type

-- a 65th operation, inside so many others
abbrev pub nesting_failures : ℕ → Pos → List Refusal
nesting_failures around place = fails_if (nat_le most_around around) TooMany place

-- the items of a program, and those before the one that the expression stands in
module _ (items before : List Item) where
  -- the type with this name
  abbrev pub type_called : Option (List ℕ) → Option TypeItem
  type_called = option_and_then (find_type items)

  abbrev pub name_failures : Name → List Refusal
  name_failures name = option_map_or
      (λ item. fails_if (is_known_later item.body && not (is_some (find_item before name.text))) UsedTooEarly name.place)
      (find_item items name.text)
      (failure UnknownName name.place)

  -- the expression isn't of this kind
  abbrev pub needs_kind : Kind → X → List Refusal
  needs_kind kind x = fails_if (is_other_kind kind (kind_of items x)) WrongKind (place_of_x x)

  -- the type of an expression that is of this kind
  abbrev pub type_as : Kind → X → Option (List ℕ)
  type_as kind x = if_kind kind (kind_of items x) (type_of items x)

  abbrev pub output_as : Kind → X → Option (List ℕ)
  output_as kind x = if_kind kind (kind_of items x) (output_of items x)

  -- an expression of this kind isn't of this type
  abbrev pub needs_type : Option (List ℕ) → Kind → X → List Refusal
  needs_type type kind x = fails_if (differ type (type_as kind x)) WrongType (place_of_x x)

  -- an expression that is to be of this kind and this type
  abbrev pub needs_be : Option (List ℕ) → Kind → X → List Refusal
  needs_be type kind x = needs_kind kind x ++ needs_type type kind x

  -- The type that the second operand is to have: that of the first, of its inputs or of its outputs.
  abbrev pub wanted_second : Op2 → X → Option (List ℕ)
  wanted_second Intersect x = type_as (taken_first Intersect) x
  wanted_second Union x = type_as (taken_first Union) x
  wanted_second Difference x = type_as (taken_first Difference) x
  wanted_second PreImage x = output_as (taken_first PreImage) x
  wanted_second Compose x = output_as (taken_first Compose) x
  wanted_second Restrict x = type_as (taken_first Restrict) x
  wanted_second RestrictOut x = output_as (taken_first RestrictOut) x
  wanted_second Apply x = type_as (taken_first Apply) x

  -- An expression inside so many operations, and the type that a literal is expected to have.
  -- The labels of a literal have no names of fields.
  abbrev mutual
    pub x_failures : ℕ → Option (List ℕ) → X → List Refusal
    x_failures around expected (named name) = name_failures name
    x_failures around expected (one op place x) = nesting_failures around place ++ (x_failures (suc around) None x ++ needs_be None (taken_by_one op) x)
    x_failures around expected (two op place x y) = nesting_failures around place
        ++ (x_failures (suc around) None x ++ (needs_be None (taken_first op) x
        ++ (x_failures (suc around) (expected_as (taken_second op) (wanted_second op x)) y ++ needs_be (wanted_second op x) (taken_second op) y)))
    x_failures around expected (literal name labels xs) =
        constructor_failures (type_called expected) name (count_xs xs)
        ++ (label_count_failures (type_called expected) name (length labels)
        ++ (labels_failures (Some []) (fields_of (type_called expected)) labels
        ++ xs_failures around expected xs))

    pub xs_failures : ℕ → Option (List ℕ) → Xs → List Refusal
    xs_failures around type no_x = []
    xs_failures around type (and_x x xs) = x_failures around type x ++ (needs_be type a_tree x ++ xs_failures around type xs)

  -- a whole expression of this type and this kind
  abbrev pub whole_failures : Option (List ℕ) → Kind → X → List Refusal
  whole_failures type kind x = x_failures 0 (expected_as kind type) x ++ needs_be type kind x
