-- The heads of items, and what a name may stand for that is to have rules.
use Rattle.std.specs.Prelude.{◌≡◌, ℕ, Bool, true, false, ◌||◌, not, cond, List, ◌++◌, map, Option, Some, None}
use Rattle.std.specs.Option.{option_map, option_map_or, option_and_then}
use Rattle.std.specs.List.{flat_map}
use Rattle.fast_fault.specs.declared.code.Code.TheVariants.{UnknownName, WrongKind, WrongType}
use Rattle.fast_fault.specs.declared.refusal.Refusal.{Refusal}
use Rattle.model_program.specs.Syntax.{Name}
use Rattle.model_grammar.specs.Syntax.{DefItem, Body, sorts, tree, lang, trans, def, assertion, Item}
use Rattle.model_names.specs.Declared.{find_item}
use Rattle.model_names.specs.Kinds.{Kind, language, transformation, a_tree, defined_kind, declared_type}
use Rattle.model_checks.specs.Failures.{failure, fails_if}
use Rattle.model_checks.specs.Types.{type_failures}
use Rattle.model_checks.specs.Rules.{differ, rule_limit, type_name_failures, rule_failures, out_rule_failures}
use Rattle.model_checks.specs.Programs.{type_again, name_again, into_failures, needs_output, claim_failures}
use Rattle.model_checks.specs.Expressions.{is_other_kind, whole_failures}
use Rattle.fast_syntax.specs.View.{plain_name}
use Rattle.program_check.specs.declared.heads.Head.{Head}
use Rattle.program_check.specs.declared.expressions.Standing.{Standing}
use Rattle.program_check.specs.Typed.{type_number}
use Rattle.program_check.specs.Standings.{plain_kind}

pub record PlainHead : Type 0 where
  pub name : Name
  pub kind : Kind
  pub input : Name
  pub output : Option Name
  pub has_rules : Bool

abbrev pub plain_head : Head → PlainHead
plain_head h = record { name = plain_name h.name.now; kind = plain_kind h.kind; input = plain_name h.input.now; output = option_map (λ n. plain_name n.now) h.output; has_rules = h.has_rules }

abbrev pub head_of_def : DefItem → PlainHead
head_of_def d = record { name = d.name; kind = defined_kind d.into; input = d.from; output = d.into; has_rules = false }

abbrev pub head_of : Body → Option PlainHead
head_of (sorts t) = None
head_of (tree t) = Some (record { name = t.name; kind = a_tree; input = t.of; output = None; has_rules = false })
head_of (lang l) = Some (record { name = l.name; kind = language; input = l.of; output = None; has_rules = true })
head_of (trans t) = Some (record { name = t.name; kind = transformation; input = t.from; output = Some t.into; has_rules = true })
head_of (def d) = Some (head_of_def d)
head_of (assertion a) = None

-- the head of the first item that declares a name
abbrev pub head_named : List Item → List ℕ → Option PlainHead
head_named items name = option_and_then (λ item. head_of item.body) (find_item items name)

-- what an item stands for that has this head
pub record StandsBy (items : List Item) (h : PlainHead) (s : Standing) : Type 0 where
  pub kind : option_map plain_kind s.kind ≡ Some h.kind
  pub input : s.input ≡ type_number items h.input.text
  pub output : s.output ≡ option_and_then (λ n. type_number items n.text) h.output

-- the name is declared by an item that stands for this, with rules or without
pub record IsHead (items : List Item) (name : List ℕ) (s : Standing) (ruled : Bool) : Type 0 where
  pub head : PlainHead
  pub is : head_named items name ≡ Some head
  pub stands : StandsBy items head s
  pub rules : ruled ≡ head.has_rules

-- what has this head isn't something with rules, of this kind and of these types
abbrev pub not_ruled : List Item → Kind → Option (List ℕ) → Option (List ℕ) → Name → PlainHead → List Refusal
not_ruled items kind input output name h = cond (not h.has_rules || is_other_kind kind (Some h.kind)) (failure WrongKind name.place)
    (fails_if (differ (declared_type items h.input) input || differ (option_and_then (declared_type items) h.output) output) WrongType name.place)

-- the name of something with rules, of this kind and of these types
abbrev pub ruled_failures : List Item → Kind → Option (List ℕ) → Option (List ℕ) → Name → List Refusal
ruled_failures items kind input output name = option_map_or (not_ruled items kind input output name) (head_named items name.text) (failure UnknownName name.place)

-- what is declared was declared before, or its types aren't declared
abbrev pub head_failures : List Item → List Item → PlainHead → List Refusal
head_failures items before h = name_again items before h.name ++ (type_name_failures items h.input ++ into_failures items before h.output)

-- what fails behind the head of an item, and in one without a head
abbrev pub behind_head : List Item → List Item → Body → List Refusal
behind_head items before (sorts t) = type_again items before t.name ++ type_failures t
behind_head items before (tree t) = whole_failures items before (declared_type items t.of) a_tree t.value
behind_head items before (lang l) = rule_limit l.rules ++ flat_map (rule_failures items l.of) l.rules
behind_head items before (trans t) = rule_limit (map (λ r. r.rule) t.rules) ++ flat_map (out_rule_failures items t.from t.into) t.rules
behind_head items before (def d) = whole_failures items before (declared_type items d.from) (defined_kind d.into) d.value ++ needs_output items before d.into d.value
behind_head items before (assertion a) = claim_failures items before a.claim
