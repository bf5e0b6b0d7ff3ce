use Rattle.std.proofs.Common.{◌∙◌}
use Rattle.fast_session.specs.Sessions.{items_in}
use Rattle.fast_tool.proofs.Runs.{item_done, item_stopped}
use Rattle.fast_tool.proofs.items.run_items.Goals as goal

pub returns-in-Err-clause-report : goal.returns-in-Err-clause-report
returns-in-Err-clause-report g c =
    let past = c.items.invariant.0 in
    item_stopped c.args.file.now (items_in c.args.session.now) c.args.session.now.limit c.items.counter c.items.session c.items.failed _ _ past _ c.in-Err.fault (c.in-Err.ensures.stopped past.outcomes past.at)

pub items-preserved : goal.items-preserved
items-preserved g c =
    let past = c.items.invariant.0 in (
      item_done c.args.file.now (items_in c.args.session.now) c.args.session.now.limit c.items.counter c.items.session c.items.failed _ _ past c.do_next.new.session c.in-Ok.fails _ c.do_next.ensures.program (c.in-Ok.ensures.done past.outcomes past.at),
      c.in-Ok.ensures.faults.same (λ e. cc) ∙ c.items.invariant.1,
    )
