use Rattle.std.proofs.Common.{map, take_all, ap, subst}
use Rattle.sta_core.specs.Machine.{plain_rule}
use Rattle.sttr_core.specs.Machine.{plain_out}
use Rattle.sttr_preimage.specs.Names.{names_in}
use Rattle.sttr_preimage.specs.Called.{called_in, HasTerm, AreOutMade}
use Rattle.sttr_preimage.proofs.Atoms.{all_in}
use Rattle.sttr_preimage.proofs.Copying.{push_mapped, item_of}
use Rattle.sttr_preimage.proofs.Outing.{outs_none, outs_more, outs_skip}
use Rattle.sttr_preimage.proofs.outs.outs_of_ways.Goals as goal

pub ways-init : goal.ways-init
ways-init g c =
    outs_none g.T.Labels.make (g.T.Theory.meaning c.args.theory.now).has g.T.Map.PartialEq.eq g.T.Theory.atom_holds (names_in c.args.names.now.keys) (called_in c.args.called.now.keys) (plain_rule c.args.rule.now) (map plain_out c.new-made.result.items) (ap (map plain_out) c.new-made.ensures.items)

pub ways-preserved : goal.ways-preserved
ways-preserved g c =
    outs_more g.T.Labels.make (g.T.Theory.meaning c.args.theory.now).has g.T.Map.PartialEq.eq g.T.Theory.atom_holds (names_in c.args.names.now.keys) (names_in c.ways.names.keys) (names_in c.way_rule.new.names.keys) (called_in c.args.called.now.keys) (called_in c.ways.called.keys) (called_in c.way_term.new.called.keys)
    (plain_rule c.args.rule.now) c.args.ways.now c.ways.way-index c.way-item.result (map plain_out c.ways.made.items) (map plain_out c.push.new.self.items) (plain_out (record { rule = c.in_ok-rule.rule; term = c.in_ok-term.term })) c.ways.invariant c.in_ok-rule.ensures c.in_ok-term.ensures c.ways-test.true c.way-item.is
    (push_mapped plain_out c.ways.made.items c.push.new.self.items (record { rule = c.in_ok-rule.rule; term = c.in_ok-term.term }) c.in_ok-push.ensures.items)

pub returns : goal.returns
returns g c =
    subst (λ ys. AreOutMade g.T.Labels.make (g.T.Theory.meaning c.args.theory.now).has g.T.Map.PartialEq.eq g.T.Theory.atom_holds (names_in c.args.names.now.keys) (names_in c.ways.names.keys) (called_in c.args.called.now.keys) (called_in c.ways.called.keys) (plain_rule c.args.rule.now) ys (map plain_out c.ways.made.items))
    (take_all c.ways.way-index c.args.ways.now c.ways-test.false) c.ways.invariant

pub ways-preserved-then-branch : goal.ways-preserved-then-branch
ways-preserved-then-branch g c =
    outs_skip g.T.Labels.make (g.T.Theory.meaning c.args.theory.now).has g.T.Map.PartialEq.eq g.T.Theory.atom_holds (names_in c.args.names.now.keys) (names_in c.ways.names.keys) (called_in c.args.called.now.keys) (called_in c.ways.called.keys) (plain_rule c.args.rule.now) c.args.ways.now c.ways.way-index c.way-item.result
    (map plain_out c.ways.made.items) c.ways.invariant (c.in_ok-are_apart.ensures c.if-branch.true) c.ways-test.true c.way-item.is

pub way_term-requires : goal.way_term-requires
way_term-requires g c = all_in (λ y. HasTerm y.term) c.args.ways.now c.requires.terms c.way-item.result (item_of c.args.ways.now c.ways.way-index c.way-item.result c.ways-test.true c.way-item.is)
