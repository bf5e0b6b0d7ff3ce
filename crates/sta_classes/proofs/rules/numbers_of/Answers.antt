use Rattle.std.proofs.Common.{map, take_all, not, true, length, refl, ap, sym, ◌∙◌, arith}
use Rattle.sta_core.specs.Machine.{plain_rule}
use Rattle.sta_classes.specs.Applying.{is_fixed}
use Rattle.sta_classes.proofs.Rows.{map_more}
use Rattle.sta_classes.proofs.Loops.{filled_length, filled_more, filled_all}
use Rattle.sta_classes.proofs.rules.numbers_of.Goals as goal

pub put-requires : goal.put-requires
put-requires g c = omega (arith, ap length c.loop-i.invariant.all, filled_length (λ x. true) c.loop-i.i c.args.list.now, c.loop-i-test.true)

pub put-requires-in-loop-i : goal.put-requires-in-loop-i
put-requires-in-loop-i g c = omega (arith, ap length c.loop-i.invariant.guarded, filled_length (λ x. not (is_fixed (plain_rule x.rule.now).guard)) c.loop-i.i c.args.list.now, c.loop-i-test.true)

pub loop-i-preserved : goal.loop-i-preserved
loop-i-preserved g c = record {
  states = map_more (λ x. x.state) c.args.list.now c.loop-i.i c.index-list-i.result c.loop-i.states.items c.push.new.self.items _ c.loop-i-test.true c.index-list-i.is c.in_ok-push.ensures.items (ap (λ x. x.state) (sym c.index-list-i.is)) c.loop-i.invariant.states;
  all = filled_more (λ x. true) true c.loop-i.i c.args.list.now c.index-list-i-in-loop-i.result c.loop-i.all c.put.new.self c.loop-i-test.true c.index-list-i-in-loop-i.is refl c.put.ensures c.loop-i.invariant.all;
  guarded = filled_more (λ x. not (is_fixed (plain_rule x.rule.now).guard)) (not c.is_fixed.result) c.loop-i.i c.args.list.now c.index-list-i-in-loop-i.result c.loop-i.guarded c.put-in-loop-i.new.self c.loop-i-test.true c.index-list-i-in-loop-i.is ((ap not c.is_fixed.ensures) ∙ ap (λ x. not (is_fixed (plain_rule x.rule.now).guard)) (sym c.index-list-i-in-loop-i.is)) c.put-in-loop-i.ensures c.loop-i.invariant.guarded;
}

pub returns : goal.returns
returns g c = (
  c.loop-i.invariant.states ∙ ap (map (λ x. x.state)) (take_all c.loop-i.i c.args.list.now (omega (arith, c.loop-i-test.false))),
  filled_all (λ x. true) c.loop-i.i c.args.list.now c.loop-i.all (omega (arith, c.loop-i-test.false)) c.loop-i.invariant.all,
  filled_all (λ x. not (is_fixed (plain_rule x.rule.now).guard)) c.loop-i.i c.args.list.now c.loop-i.guarded (omega (arith, c.loop-i-test.false)) c.loop-i.invariant.guarded,
)
