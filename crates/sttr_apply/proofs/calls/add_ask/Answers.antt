use Rattle.std.proofs.Common.{refl, subst, arith}
use Rattle.sttr_apply.specs.Calls.{asks_in, IsFirst, IsNowhere}
use Rattle.sttr_apply.proofs.Used.{first_low, first_state, used_once_more, used_push}
use Rattle.sttr_apply.proofs.calls.add_ask.Goals as goal

pub index_mut-ask-requires : goal.index_mut-ask-requires
index_mut-ask-requires c =
    let low = first_low (λ a. (a.state, a.uses)) c.args.state c.args.asks.now.items c.in-Some.place (subst (λ xs. IsFirst c.args.state c.in-Some.place (asks_in xs)) c.deref.ensures.value c.in-Some.ensures.some) in
    omega (arith, low, c.args.asks.now.ok.0)

pub returns-in-Some-checked_add-clause-used : goal.returns-in-Some-checked_add-clause-used
returns-in-Some-checked_add-clause-used c =
    let first : IsFirst c.args.state c.in-Some.place (asks_in c.args.asks.now.items) = subst (λ xs. IsFirst c.args.state c.in-Some.place (asks_in xs)) c.deref.ensures.value c.in-Some.ensures.some in
    λ q. used_once_more (λ a. (a.state, a.uses)) c.args.state c.args.asks.now.items c.in-Some.place c.index_mut-ask.result.now _ q first c.index_mut-ask.ensures.value
    (first_state (λ a. (a.state, a.uses)) c.args.state c.args.asks.now.items c.in-Some.place c.index_mut-ask.result.now first c.index_mut-ask.ensures.value) (c.in-Some-checked_add.ensures {u = tt}).1

pub returns-in_ok-push-in-None-clause-used : goal.returns-in_ok-push-in-None-clause-used
returns-in_ok-push-in-None-clause-used c =
    let none : IsNowhere c.args.state (asks_in c.args.asks.now.items) = subst (λ xs. IsNowhere c.args.state (asks_in xs)) c.deref.ensures.value c.in-None.ensures.none in
    λ q. used_push (λ a. (a.state, a.uses)) c.args.state c.args.asks.now.items c.push.new.self.items _ q none c.in_ok-push-in-None.ensures.items refl refl
