use Rattle.std.proofs.Common.{ap, length, map, refl, sym}
use Rattle.std.proofs.lemmas.List.{length-map}
use Rattle.sta_core.specs.Machine.{plain_rule}
use Rattle.sta_classes.specs.Rules.{plain_rules}
use Rattle.sta_ops.proofs.Moved.{placed}
use Rattle.sta_ops.proofs.copies.beside.Goals as goal

pub returns : goal.returns
returns g c =
    placed (plain_rules c.args.first.now) (plain_rules c.args.second.now) c.args.first.now c.args.second.now (plain_rules c.new-rules.result.items) (plain_rules c.add_states.new.rules.items) (plain_rules c.add_states-2.new.rules.items) (length c.args.first.now) refl refl
    (ap plain_rules c.new-rules.ensures.items) (sym (length-map c.args.first.now (λ those. map plain_rule those.items))) c.in_ok-add_states.ensures c.in_ok-add_states-2.ensures
