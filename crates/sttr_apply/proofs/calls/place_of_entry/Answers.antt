use Rattle.std.proofs.Common.{get_or, sym, ap, ◌∙◌, arith}
use Rattle.sttr_apply.proofs.Used.{none_more, none_at_all, first_is}
use Rattle.sttr_apply.proofs.calls.place_of_entry.Goals as goal

pub returns-then-entry-state-clause-some : goal.returns-then-entry-state-clause-some
returns-then-entry-state-clause-some g c =
    first_is (λ e. (e.state, e.uses)) c.args.state c.args.entries.now c.entries.i c.entry-item.result c.entries.invariant.none (omega (arith, c.entries.invariant.at, c.entries-test.true)) (c.entry-item.is ∙ ap (λ k. get_or c.args.entries.now k c.entry-item.result) (sym c.entries.invariant.at)) c.if-entry-state.true

pub entries-preserved : goal.entries-preserved
entries-preserved g c = record {
  at = omega (arith, c.entries.invariant.at);
  none = none_more (λ e. (e.state, e.uses)) c.args.state c.args.entries.now c.entries.i c.entry-item.result c.entries.invariant.none (omega (arith, c.entries.invariant.at, c.entries-test.true)) (c.entry-item.is ∙ ap (λ k. get_or c.args.entries.now k c.entry-item.result) (sym c.entries.invariant.at)) c.if-entry-state.false;
}

pub returns-clause-none : goal.returns-clause-none
returns-clause-none g c = none_at_all (λ e. (e.state, e.uses)) c.args.state c.args.entries.now c.entries.i c.entries.invariant.none (omega (arith, c.entries.invariant.at, c.entries-test.false))
