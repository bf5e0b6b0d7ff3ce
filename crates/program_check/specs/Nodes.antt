-- Parts of what fails at a node, and in a type.
use Rattle.std.specs.Prelude.{ℕ, List, ◌++◌, Option, Some, None, length, map, not}
use Rattle.fast_fault.specs.declared.code.Code.TheVariants.{DuplicateName, NoLeaf}
use Rattle.fast_fault.specs.declared.refusal.Refusal.{Refusal}
use Rattle.model_program.specs.Syntax.{Name, FieldItem, TypeItem}
use Rattle.model_grammar.specs.Syntax.{Expr, Item}
use Rattle.model_checks.specs.Failures.{fails_if}
use Rattle.model_checks.specs.Sorts.{Scope}
use Rattle.model_checks.specs.Types.{repeated, has_leaf}
use Rattle.model_checks.specs.Labels.{label_failures, needs_sort_of, labels_failures}
use Rattle.model_checks.specs.Rules.{type_at, constructor_failures, label_count_failures, scope_of, fields_of}

-- a label, with its field where there is one
abbrev pub label_at : Scope → Option FieldItem → Expr → List Refusal
label_at scope None e = label_failures scope e
label_at scope (Some f) e = label_failures scope e ++ needs_sort_of scope f e

-- the constructor of a node, with its labels, in a rule between two types
abbrev pub node_failures : List Item → Name → Name → Name → List Expr → ℕ → List Refusal
node_failures items from into name labels count =
    constructor_failures (type_at items into) name count
    ++ (label_count_failures (type_at items into) name (length labels)
    ++ labels_failures (scope_of (type_at items from)) (fields_of (type_at items into)) labels)

-- the names of the constructors of a type, and the one without children
abbrev pub ctors_failures : TypeItem → List Refusal
ctors_failures t = repeated DuplicateName (map (λ c. c.name) t.ctors) ++ fails_if (not (has_leaf t.ctors)) NoLeaf t.name.place
