use Rattle.std.proofs.Common.{None, ap, map}
use Rattle.std.specs.List.{flat_map}
use Rattle.std.proofs.lemmas.List.{drop_all}
use Rattle.fast_syntax.specs.View.{plain_name, plain_demand}
use Rattle.model_names.specs.Kinds.{declared_type}
use Rattle.model_checks.specs.Rules.{demand_failures}
use Rattle.program_check.specs.Contexts.{items_of}
use Rattle.program_check.specs.Variables.{plain_vars}
use Rattle.program_check.proofs.ByHead.{language_by_head}
use Rattle.program_check.proofs.Typing.{untyped, at_type}
use Rattle.program_check.proofs.Noting.{next, same, more, done, one_of}
use Rattle.program_check.proofs.checker.Checker.check_given.Goals as goal

pub given-preserved : goal.given-preserved
given-preserved c from is kept h =
    let items = items_of c.args.context.now in
    let ruled = c.check_ruled.ensures (declared_type items from) None (at_type items from c.args.of is) (untyped items) in
    let last = c.check_variable.ensures (λ m. kept (c.given.invariant from is kept (ruled m).had).had) h in
    let one = next (same (language_by_head items from (plain_name c.demand-item.result.language)) (ruled last.had)) last in
    let each = demand_failures items from (plain_vars c.args.vars.now) in
    more _ one (one_of each plain_demand c.args.given.now c.given.demand-index c.demand-item.result c.given-test.true c.demand-item.is) (c.given.invariant from is kept one.had)

pub returns : goal.returns
returns c from is kept h =
    let each = demand_failures (items_of c.args.context.now) from (plain_vars c.args.vars.now) in
    done (ap (λ xs. flat_map each (map plain_demand xs)) (drop_all c.given.demand-index c.args.given.now c.given-test.false)) (c.given.invariant from is kept h)
