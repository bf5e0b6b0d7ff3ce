use Rattle.std.proofs.Common.{ap, map, take_all, subst}
use Rattle.sta_core.specs.Machine.{plain_rule}
use Rattle.sttr_preimage.specs.Names.{names_in}
use Rattle.sttr_preimage.specs.Rules.{AreWayMade}
use Rattle.sttr_preimage.proofs.Copying.{ways_none, ways_more, ways_skip, push_mapped}
use Rattle.sttr_preimage.proofs.rules.way_rules.Goals as goal

pub ways-init : goal.ways-init
ways-init g c = ways_none g.T.Theory.atom_holds (g.T.Theory.meaning c.args.theory.now).has (names_in c.args.names.now.keys) (plain_rule c.args.rule.now) (map plain_rule c.new-made.result.items) (ap (map plain_rule) c.new-made.ensures.items)

pub ways-preserved-then-branch : goal.ways-preserved-then-branch
ways-preserved-then-branch g c =
    ways_skip g.T.Theory.atom_holds (g.T.Theory.meaning c.args.theory.now).has (names_in c.args.names.now.keys) (names_in c.ways.names.keys) (plain_rule c.args.rule.now) c.args.ways.now c.ways.way-index c.way-item.result
    (map plain_rule c.ways.made.items) c.ways.invariant (c.in_ok-are_apart.ensures c.if-branch.true) c.ways-test.true c.way-item.is

pub ways-preserved : goal.ways-preserved
ways-preserved g c =
    ways_more g.T.Theory.atom_holds (g.T.Theory.meaning c.args.theory.now).has (names_in c.args.names.now.keys) (names_in c.ways.names.keys) (names_in c.way_rule.new.names.keys) (plain_rule c.args.rule.now) c.args.ways.now c.ways.way-index c.way-item.result
    (map plain_rule c.ways.made.items) (map plain_rule c.push.new.self.items) (plain_rule c.in_ok-way_rule.field-0) c.ways.invariant c.in_ok-way_rule.ensures c.ways-test.true c.way-item.is
    (push_mapped plain_rule c.ways.made.items c.push.new.self.items c.in_ok-way_rule.field-0 c.in_ok-push.ensures.items)

pub returns : goal.returns
returns g c =
    subst (λ ys. AreWayMade g.T.Theory.atom_holds (g.T.Theory.meaning c.args.theory.now).has (names_in c.args.names.now.keys) (names_in c.ways.names.keys) (plain_rule c.args.rule.now) ys (map plain_rule c.ways.made.items)) (take_all c.ways.way-index c.args.ways.now c.ways-test.false) c.ways.invariant
