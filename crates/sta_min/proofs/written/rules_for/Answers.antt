use Rattle.std.proofs.Common.{map, refl, sym, ap, subst, ◌∙◌, arith}
use Rattle.std.proofs.lemmas.List.{length-map, get_or-map, take_all}
use Rattle.sta_core.specs.Machine.{plain_rule}
use Rattle.sta_min.specs.Parents.{plain_parents}
use Rattle.sta_min.specs.Written.{IsGoodParents, AreRulesFor}
use Rattle.sta_min.proofs.Ruling.{no_rules, made_rule}
use Rattle.sta_min.proofs.written.rules_for.Goals as goal

pub parents-init : goal.parents-init
parents-init g c = no_rules g.T.Atom.PartialEq.eq g.T.Theory.atom_holds c.args.table.now c.args.dense.now c.args.block (map plain_parents c.args.all.now) (map plain_rule c.new-rules.result.items) (ap (map plain_rule) c.new-rules.ensures.items)

pub rule_for-requires-clause-parents : goal.rule_for-requires-clause-parents
rule_for-requires-clause-parents g c = subst (λ p. IsGoodParents c.args.table.now (plain_parents p)) (sym c.index-all-i.is) (c.requires.parents c.parents.i c.index-all-i.result c.parents-test.true)

pub parents-preserved : goal.parents-preserved
parents-preserved g c =
    made_rule g.T.Atom.PartialEq.eq g.T.Theory.atom_holds c.args.table.now c.args.dense.now c.args.block (map plain_parents c.args.all.now) c.parents.i (plain_parents c.index-all-i.result) (omega (arith, c.parents-test.true, length-map c.args.all.now plain_parents))
    (ap plain_parents c.index-all-i.is ∙ sym (get_or-map plain_parents c.args.all.now c.parents.i c.index-all-i.result (plain_parents c.index-all-i.result) c.parents-test.true))
    (map plain_rule c.parents.rules.items) c.parents.invariant c.in_ok-made.made c.in_ok-made.ensures c.parents.rules.items c.add_made.new.rules.items refl c.in_ok-add_made.ensures

pub returns : goal.returns
returns g c =
    subst (λ l. AreRulesFor g.T.Atom.PartialEq.eq g.T.Theory.atom_holds c.args.table.now c.args.dense.now c.args.block l (map plain_rule c.parents.rules.items))
    (take_all c.parents.i (map plain_parents c.args.all.now) (omega (arith, c.parents-test.false, length-map c.args.all.now plain_parents))) c.parents.invariant
