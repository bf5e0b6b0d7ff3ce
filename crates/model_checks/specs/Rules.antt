-- What may fail in the rules of languages and transformations.
use Rattle.std.specs.Prelude.{ℕ, suc, ◌==◌, ◌||◌, Bool, false, List, [], ◌++◌, Option, Some, None, is_some, slice_get, length, not}
use Rattle.std.specs.List.{flat_map}
use Rattle.std.specs.Option.{option_map, option_map_or}
use Rattle.fast_fault.specs.declared.code.Code.TheVariants.{UnknownName, WrongKind, WrongType, WrongRank, DuplicateVariable, TooMany}
use Rattle.fast_fault.specs.declared.refusal.Refusal.{Refusal}
use Rattle.model_tree.specs.Limits.{most_rules}
use Rattle.model_tree.specs.Signature.{truths}
use Rattle.model_program.specs.Syntax.{Name, FieldItem, TypeItem, Demand}
use Rattle.model_grammar.specs.Syntax.{Expr, Rule, OutRule, Out, child, call, node, Outs, no_out, and_out, LangItem, TransItem, Body, sorts, tree, lang, trans, def, assertion, Item}
use Rattle.model_names.specs.Declared.{same_text, find_type, find_item}
use Rattle.model_names.specs.Kinds.{declared_type}
use Rattle.model_checks.specs.Failures.{failure, fails_if}
use Rattle.model_checks.specs.Sorts.{Scope}
use Rattle.model_checks.specs.Labels.{sorted_failures, labels_failures}
use Rattle.model_checks.specs.Types.{is_among, is_rank, repeated, find_ctor}

-- whether two types are known to differ
abbrev pub differ : Option (List ℕ) → Option (List ℕ) → Bool
differ None b = false
differ (Some a) None = false
differ (Some a) (Some b) = not (same_text a b)

-- A constructor of a type has as many children as its rank says.
abbrev pub constructor_failures : Option TypeItem → Name → ℕ → List Refusal
constructor_failures None name count = []
constructor_failures (Some t) name count = option_map_or (λ c. fails_if (not (is_rank count c.rank)) WrongRank name.place) (find_ctor t.ctors name.text) (failure UnknownName name.place)

-- There is a label for each field.
abbrev pub label_count_failures : Option TypeItem → Name → ℕ → List Refusal
label_count_failures None name count = []
label_count_failures (Some t) name count = fails_if (not (length t.fields == count)) WrongRank name.place

-- the fields of a type, where it is declared
abbrev pub scope_of : Option TypeItem → Scope
scope_of = option_map (λ t. t.fields)

abbrev pub fields_of : Option TypeItem → List FieldItem
fields_of t = option_map_or (λ t. t.fields) t []

-- one of the child variables
abbrev pub variable_failures : List Name → Name → List Refusal
variable_failures vars name = fails_if (not (is_among vars name.text)) UnknownName name.place

-- a guard is a truth value
abbrev pub guard_failures : Scope → Option Expr → List Refusal
guard_failures scope None = []
guard_failures scope (Some e) = sorted_failures scope truths e

abbrev pub own_lang : Body → Option LangItem
own_lang (sorts t) = None
own_lang (tree t) = None
own_lang (lang l) = Some l
own_lang (trans t) = None
own_lang (def d) = None
own_lang (assertion a) = None

abbrev pub own_trans : Body → Option TransItem
own_trans (sorts t) = None
own_trans (tree t) = None
own_trans (lang l) = None
own_trans (trans t) = Some t
own_trans (def d) = None
own_trans (assertion a) = None

abbrev pub count_outs : Outs → ℕ
count_outs no_out = 0
count_outs (and_out out outs) = suc (count_outs outs)

-- there is a 4,097th rule
abbrev pub rule_limit : List Rule → List Refusal
rule_limit rules = option_map_or (λ r. failure TooMany r.ctor.place) (slice_get rules most_rules) []

module _ (items : List Item) where
  -- a type that is declared, by its name
  abbrev pub type_at : Name → Option TypeItem
  type_at name = find_type items name.text

  -- the name of a type
  abbrev pub type_name_failures : Name → List Refusal
  type_name_failures name = fails_if (not (is_some (type_at name))) UnknownName name.place

  -- In a rule for trees of a type a demanded language is a `lang` of trees of that type.
  abbrev pub language_failures : Name → Name → List Refusal
  language_failures of name = option_map_or
      (λ item. option_map_or (λ l. fails_if (differ (declared_type items l.of) (declared_type items of)) WrongType name.place) (own_lang item.body) (failure WrongKind name.place))
      (find_item items name.text)
      (failure UnknownName name.place)

  -- In a rule from trees of a type into trees of a type a call is of a `trans` between them.
  abbrev pub transformation_failures : Name → Name → Name → List Refusal
  transformation_failures from into name = option_map_or
      (λ item. option_map_or (λ t. fails_if (differ (declared_type items t.from) (declared_type items from) || differ (declared_type items t.into) (declared_type items into)) WrongType name.place) (own_trans item.body) (failure WrongKind name.place))
      (find_item items name.text)
      (failure UnknownName name.place)

  abbrev pub demand_failures : Name → List Name → Demand → List Refusal
  demand_failures of vars d = language_failures of d.language ++ variable_failures vars d.child

  -- A rule for trees of a type has a constructor of the type with its children, different variables, a guard over the
  -- fields, and demands on its variables.
  abbrev pub rule_failures : Name → Rule → List Refusal
  rule_failures of r =
      constructor_failures (type_at of) r.ctor (length r.vars)
      ++ (repeated DuplicateVariable r.vars
      ++ (guard_failures (scope_of (type_at of)) r.guard
      ++ flat_map (demand_failures of r.vars) r.given))

  module _ (from into : Name) (vars : List Name) where
    abbrev mutual
      -- A child is given unchanged only where input and output have one type. The labels of a node speak of the input.
      pub out_failures : Out → List Refusal
      out_failures (child name) = variable_failures vars name ++ fails_if (differ (declared_type items from) (declared_type items into)) WrongType name.place
      out_failures (call name at) = transformation_failures from into name ++ variable_failures vars at
      out_failures (node name labels outs) =
          constructor_failures (type_at into) name (count_outs outs)
          ++ (label_count_failures (type_at into) name (length labels)
          ++ (labels_failures (scope_of (type_at from)) (fields_of (type_at into)) labels
          ++ outs_failures outs))

      pub outs_failures : Outs → List Refusal
      outs_failures no_out = []
      outs_failures (and_out out outs) = out_failures out ++ outs_failures outs

  abbrev pub out_rule_failures : Name → Name → OutRule → List Refusal
  out_rule_failures from into r = rule_failures from r.rule ++ out_failures from into r.rule.vars r.out
