use Rattle.std.proofs.Common.{sym, subst}
use Rattle.sttr_preimage.specs.Names.{names_in, Numbers}
use Rattle.sttr_preimage.proofs.Numbered.{numbers_then, numbers_one, states_more}
use Rattle.sttr_preimage.proofs.names.number_states.Goals as goal

pub states-preserved : goal.states-preserved
states-preserved c =
    let old = names_in c.args.names.now.keys in
    let mid = names_in c.states.names.keys in
    let new = names_in c.number.new.names.keys in
    let before = c.args.numbers.now.items in
    let more = numbers_then old mid new before c.states.numbers.items c.push.new.self.items _ _ c.states.invariant (numbers_one mid new c.states.numbers.items c.push.new.self.items _ c.in_ok-number.field-0 c.in_ok-number.ensures c.in_ok-push.ensures.items) in
    subst (Numbers old new before c.push.new.self.items) (sym (states_more c.args.side c.args.states.now c.states.state-index _ _ c.states-test.true c.name.ensures)) more
