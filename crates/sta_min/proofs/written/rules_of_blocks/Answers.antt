use Rattle.std.proofs.Common.{◌≡◌, map, length, ap, subst, arith}
use Rattle.sta_core.specs.Machine.{plain_rule}
use Rattle.sta_classes.specs.Rules.{plain_rules}
use Rattle.sta_min.specs.Parents.{plain_parents}
use Rattle.sta_min.specs.Written.{AreRulesFor, AreRulesOfBlocks}
use Rattle.sta_min.proofs.Building.{no_blocks, blocks_more}
use Rattle.sta_min.proofs.written.rules_of_blocks.Goals as goal

pub numbers-init : goal.numbers-init
numbers-init g c = no_blocks g.T.Atom.PartialEq.eq g.T.Theory.atom_holds c.args.table.now c.args.blocks.now.dense.items (map plain_parents c.args.all.now) (plain_rules c.new-rules.result.items) (ap plain_rules c.new-rules.ensures.items)

pub numbers-preserved : goal.numbers-preserved
numbers-preserved g c =
    blocks_more g.T.Atom.PartialEq.eq g.T.Theory.atom_holds c.args.table.now c.args.blocks.now.dense.items (map plain_parents c.args.all.now) c.numbers.block c.numbers.rules.items c.push.new.self.items c.in_ok-rules_for.field-0 c.numbers.invariant
    (subst (λ l. AreRulesFor g.T.Atom.PartialEq.eq g.T.Theory.atom_holds c.args.table.now l c.numbers.block (map plain_parents c.args.all.now) (map plain_rule c.in_ok-rules_for.field-0.items)) c.deref.ensures.value c.in_ok-rules_for.ensures) c.in_ok-push.ensures.items

pub returns : goal.returns
returns g c =
    subst (λ n. AreRulesOfBlocks g.T.Atom.PartialEq.eq g.T.Theory.atom_holds c.args.table.now c.args.blocks.now.dense.items (map plain_parents c.args.all.now) n (plain_rules c.numbers.rules.items))
    (let e : c.numbers.block ≡ length c.args.blocks.now.firsts.items = omega (arith, c.numbers-test.false, c.numbers.auto.block-end, c.len-block-end.ensures, c.args.blocks.now.firsts.ok.0) in e) c.numbers.invariant
