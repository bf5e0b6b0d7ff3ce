use Rattle.std.proofs.Common.{◌≡◌, map, take, not, true}
use Rattle.sta_core.specs.Machine.{plain_rule}
use Rattle.sta_classes.specs.Applying.{is_fixed}
use Rattle.sta_classes.proofs.Loops.{filled}
use Rattle.sta_classes.proofs.rules.numbers_of.Given as goal

abbrev pub invariant-loop-i : goal.invariant-loop-i
invariant-loop-i g l = record {
  states : l.states.items ≡ map (λ x. x.state) (take l.i l.list);
  all : l.all ≡ filled (λ x. true) l.i l.list;
  guarded : l.guarded ≡ filled (λ x. not (is_fixed (plain_rule x.rule.now).guard)) l.i l.list;
}
