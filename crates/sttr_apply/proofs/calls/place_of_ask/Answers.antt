use Rattle.std.proofs.Common.{get_or, sym, ap, ◌∙◌, arith}
use Rattle.model_sta.proofs.Reached.{same_default}
use Rattle.sttr_apply.proofs.Used.{none_more, none_at_all, first_is}
use Rattle.sttr_apply.proofs.calls.place_of_ask.Goals as goal

pub returns-then-ask-state-clause-some : goal.returns-then-ask-state-clause-some
returns-then-ask-state-clause-some c =
    first_is (λ a. (a.state, a.uses)) c.args.state c.args.asks.now c.asks.i (get_or c.args.asks.now c.asks.ask-index (record { state = 0; uses = 0 })) c.asks.invariant.none (omega (arith, c.asks.invariant.at, c.asks-test.true)) (same_default c.args.asks.now c.asks.ask-index (record { state = 0; uses = 0 }) (get_or c.args.asks.now c.asks.ask-index (record { state = 0; uses = 0 })) c.asks-test.true ∙ ap (λ k. get_or c.args.asks.now k (get_or c.args.asks.now c.asks.ask-index (record { state = 0; uses = 0 }))) (sym c.asks.invariant.at)) c.if-ask-state.true

pub asks-preserved : goal.asks-preserved
asks-preserved c = record {
  at = omega (arith, c.asks.invariant.at);
  none = none_more (λ a. (a.state, a.uses)) c.args.state c.args.asks.now c.asks.i (get_or c.args.asks.now c.asks.ask-index (record { state = 0; uses = 0 })) c.asks.invariant.none (omega (arith, c.asks.invariant.at, c.asks-test.true)) (same_default c.args.asks.now c.asks.ask-index (record { state = 0; uses = 0 }) (get_or c.args.asks.now c.asks.ask-index (record { state = 0; uses = 0 })) c.asks-test.true ∙ ap (λ k. get_or c.args.asks.now k (get_or c.args.asks.now c.asks.ask-index (record { state = 0; uses = 0 }))) (sym c.asks.invariant.at)) c.if-ask-state.false;
}

pub returns-clause-none : goal.returns-clause-none
returns-clause-none c = none_at_all (λ a. (a.state, a.uses)) c.args.state c.args.asks.now c.asks.i c.asks.invariant.none (omega (arith, c.asks.invariant.at, c.asks-test.false))
