use Rattle.std.proofs.Common.{◌≡◌, map, length, sym, ap, subst, ◌∙◌, arith}
use Rattle.std.proofs.lemmas.List.{length-map, map-append, get_or-map}
use Rattle.sta_classes.specs.Rows.{lists_of}
use Rattle.sta_min.specs.Heads.{plain_head}
use Rattle.sta_min.specs.Parents.{plain_parents, AreAllParents}
use Rattle.sta_min.proofs.Building.{no_parents, parents_more}
use Rattle.sta_min.proofs.parents.all_parents.Goals as goal

pub heads-init : goal.heads-init
heads-init g c =
    no_parents g.T.Theory.label_of g.T.Theory.atom_holds c.args.steps.now.table.now (lists_of c.args.steps.now.values.items) c.args.firsts.now (map plain_head c.args.heads.now) (map plain_parents c.new-parents.result.items) (ap (map plain_parents) c.new-parents.ensures.items)

pub heads-preserved : goal.heads-preserved
heads-preserved g c =
    parents_more g.T.Theory.label_of g.T.Theory.atom_holds c.args.steps.now.table.now (lists_of c.args.steps.now.values.items) c.args.firsts.now (map plain_head c.args.heads.now) c.heads.i (omega (arith, c.heads-test.true, length-map c.args.heads.now plain_head))
    (map plain_parents c.heads.parents.items) (map plain_parents c.push.new.self.items) (plain_head c.index-heads-i.result)
    (ap plain_head c.index-heads-i.is ∙ sym (get_or-map plain_head c.args.heads.now c.heads.i c.index-heads-i.result (plain_head c.index-heads-i.result) c.heads-test.true)) (plain_parents c.in_ok-parents_of.field-0) c.heads.invariant c.in_ok-parents_of.ensures
    (ap (map plain_parents) c.in_ok-push.ensures.items ∙ map-append plain_parents c.heads.parents.items _)

pub returns : goal.returns
returns g c =
    subst (λ n. AreAllParents g.T.Theory.label_of g.T.Theory.atom_holds c.args.steps.now.table.now (lists_of c.args.steps.now.values.items) c.args.firsts.now (map plain_head c.args.heads.now) n (map plain_parents c.heads.parents.items))
    (let e : c.heads.i ≡ length c.args.heads.now = omega (arith, c.heads-test.false, c.heads.auto.i-end) in e) c.heads.invariant
