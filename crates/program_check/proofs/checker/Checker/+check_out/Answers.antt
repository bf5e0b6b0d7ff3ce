use Rattle.std.proofs.Common.{◌∙◌, sym, ap, map}
use Rattle.std.proofs.lemmas.List.{drop_all}
use Rattle.fast_syntax.specs.View.{plain_name}
use Rattle.fast_syntax.specs.Plain.{plain_expr, plain_out}
use Rattle.fast_syntax.specs.Slices.{plain_outputs}
use Rattle.fast_syntax.proofs.Appending.{drop_at}
use Rattle.model_checks.specs.Rules.{out_failures, outs_failures}
use Rattle.program_check.specs.Contexts.{items_of}
use Rattle.program_check.specs.Variables.{plain_vars}
use Rattle.program_check.proofs.Noting.{same, more, done}
use Rattle.fast_syntax.proofs.Rows.{plain_made}
use Rattle.model_checks.specs.Rules.{count_outs}
use Rattle.program_check.specs.Nodes.{node_failures}
use Rattle.program_check.proofs.NodeParts.{outs_counted, node_noted}
use Rattle.program_check.proofs.checker.Checker.+check_out.Goals as goal

pub check_outs-outs-preserved : goal.check_outs-outs-preserved
check_outs-outs-preserved t c from into found kept h =
    let one = c.check_out.ensures from into found (λ m. kept (c.outs.invariant from into found kept m).had) h in
    let items = c.args.outs.now in
    let i = c.outs.out-index in
    let x = c.out-item.result in
    let vars = plain_vars c.args.vars.now in
    more _ one (ap (λ l. outs_failures (items_of c.args.context.now) from into vars (plain_outputs l)) (drop_at items i x c.outs-test.true c.out-item.is)) (c.outs.invariant from into found kept one.had)

pub check_outs-returns : goal.check_outs-returns
check_outs-returns t c from into found kept h =
    let each = outs_failures (items_of c.args.context.now) from into (plain_vars c.args.vars.now) in
    done (ap (λ l. each (plain_outputs l)) (drop_all c.outs.out-index c.args.outs.now c.outs-test.false)) (c.outs.invariant from into found kept h)

pub check_out-returns-in-Node : goal.check_out-returns-in-Node
check_out-returns-in-Node t c from into found kept h =
    let items = items_of c.args.context.now in
    let last = c.check_outs.ensures from into found (λ m. kept (c.check_node.ensures from into found m).had) h in
    let vars = plain_vars c.args.vars.now in
    let name = c.in-Node.name in
    let labels = map plain_expr c.in-Node.labels.items in
    let outs = plain_outputs c.in-Node.outs.items in
    let is = ap plain_out c.in-Node.is ∙ plain_made name c.in-Node.labels c.in-Node.outs in
    let node = same (ap (λ xs. node_failures items from into (plain_name name) (map plain_expr xs) c.len.result) c.deref.ensures.value) (c.check_node.ensures from into found last.had) in
    same (ap (out_failures items from into vars) (sym is))
    (node_noted items from into vars (plain_name name) labels outs c.len.result _ _ _ (c.len.ensures ∙ sym c.deref-in-Node.ensures.len ∙ outs_counted c.deref-in-Node.result.now ∙ ap (λ xs. count_outs (plain_outputs xs)) c.deref-in-Node.ensures.value) node (same (ap (λ xs. outs_failures items from into vars (plain_outputs xs)) c.deref-in-Node.ensures.value) last))

pub check_out-returns-in-Child : goal.check_out-returns-in-Child
check_out-returns-in-Child t c from into found kept h =
    let each = out_failures (items_of c.args.context.now) from into (plain_vars c.args.vars.now) in
    same (ap each (sym (ap plain_out c.in-Child.is))) (c.check_child.ensures (items_of c.args.context.now) from into found kept h)

pub check_out-returns-in-Call : goal.check_out-returns-in-Call
check_out-returns-in-Call t c from into found kept h =
    let each = out_failures (items_of c.args.context.now) from into (plain_vars c.args.vars.now) in
    same (ap each (sym (ap plain_out c.in-Call.is))) (c.check_call.ensures from into found kept h)
