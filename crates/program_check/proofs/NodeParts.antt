-- What fails at a node, from what fails in its parts.
use Rattle.std.proofs.Common.{◌≡◌, ℕ, suc, List, [], ◌∷◌, ◌++◌, Option, length, refl, ap, ◌∙◌, append_assoc}
use Rattle.model_program.specs.Syntax.{Name, TypeItem}
use Rattle.model_grammar.specs.Syntax.{Expr, Item, node, Outs}
use Rattle.fast_syntax.specs.declared.items.Out as code
use Rattle.fast_syntax.specs.Slices.{plain_outputs}
use Rattle.model_checks.specs.Sorts.{Scope}
use Rattle.model_checks.specs.Labels.{labels_failures}
use Rattle.model_checks.specs.Rules.{type_at, scope_of, fields_of, constructor_failures, label_count_failures, count_outs, out_failures, outs_failures}
use Rattle.program_check.specs.Nodes.{node_failures}
use Rattle.program_check.specs.Notes.{Noted}
use Rattle.program_check.specs.declared.checker.Checker.{Checker}
use Rattle.program_check.proofs.Noting.{next, same}

pub outs_counted : (outs : List code.Out) → length outs ≡ count_outs (plain_outputs outs)
outs_counted [] = refl
outs_counted (out ∷ outs) = ap suc (outs_counted outs)

pub node_noted : (items : List Item) (from into : Name) (vars : List Name) (name : Name) (labels : List Expr) (outs : Outs) (n : ℕ) (a b c : Checker) → n ≡ count_outs outs
    → Noted a b (node_failures items from into name labels n) → Noted b c (outs_failures items from into vars outs) → Noted a c (out_failures items from into vars (node name labels outs))
node_noted items from into vars name labels outs n a b c counted one two =
    let ctor = constructor_failures (type_at items into) name (count_outs outs) in
    let count = label_count_failures (type_at items into) name (length labels) in
    let own = labels_failures (scope_of (type_at items from)) (fields_of (type_at items into)) labels in
    let rest = outs_failures items from into vars outs in
    same (append_assoc ctor (count ++ own) rest ∙ ap (λ l. ctor ++ l) (append_assoc count own rest)) (next (same (ap (node_failures items from into name labels) counted) one) two)

pub node_made : (items : List Item) (from into : Name) (name : Name) (labels : List Expr) (n m : ℕ) (t : Option TypeItem) (s : Scope) (a b c : Checker)
    → t ≡ type_at items into → s ≡ scope_of (type_at items from) → m ≡ length labels
    → Noted a b (constructor_failures t name n) → Noted b c (label_count_failures t name m ++ labels_failures s (fields_of t) labels) → Noted a c (node_failures items from into name labels n)
node_made items from into name labels n m t s a b c t_is s_is counted one two =
    next (same (ap (λ o. constructor_failures o name n) t_is) one)
    (same (λ i. label_count_failures (t_is i) name (counted i) ++ labels_failures (s_is i) (fields_of (t_is i)) labels) two)
