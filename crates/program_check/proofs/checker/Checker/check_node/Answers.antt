use Rattle.std.proofs.Common.{◌∙◌, sym, ap, map, length}
use Rattle.fast_syntax.specs.Plain.{plain_expr}
use Rattle.fast_syntax.specs.View.{plain_name}
use Rattle.program_check.specs.Contexts.{items_of}
use Rattle.std.proofs.lemmas.List.{length-map}
use Rattle.model_checks.specs.Rules.{constructor_failures, scope_of}
use Rattle.program_check.specs.Typed.{plain_option}
use Rattle.program_check.specs.Known.{plain_scope}
use Rattle.program_check.proofs.Noting.{same}
use Rattle.program_check.proofs.NodeParts.{node_made}
use Rattle.program_check.proofs.Typing.{type_found_at}
use Rattle.program_check.proofs.checker.Checker.check_node.Goals as goal

pub returns : goal.returns
returns c from into found h =
    let items = items_of c.args.context.now in
    let last = c.check_own_labels.ensures h in
    let name = plain_name c.args.name.now in
    node_made items from into name (map plain_expr c.args.labels.now) c.args.count (length c.args.labels.now) (plain_option c.type_at-2.result) (plain_scope c.scope_of-scope.result) _ _ _
    (c.type_at-2.ensures ∙ type_found_at items into c.args.types.outputs found.outputs) (c.scope_of-scope.ensures ∙ ap scope_of (c.type_at.ensures ∙ type_found_at items from c.args.types.inputs found.inputs)) (sym (length-map c.args.labels.now plain_expr))
    (same (ap (λ t. constructor_failures t name c.args.count) (sym c.type_at-2.ensures)) (c.check_constructor.ensures last.had)) last
