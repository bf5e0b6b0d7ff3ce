use Rattle.std.proofs.lemmas.Result.{IfOk-from_err}
use Rattle.std.proofs.Common.{length, ap, sym, refl, subst, ◌∙◌, arith}
use Rattle.std.proofs.lemmas.List.{nil_from_length}
use Rattle.std.proofs.lemmas.List.Sorted.{All-permutation}
use Rattle.sta_classes.specs.Applying.{truth_at}
use Rattle.sta_classes.specs.Splits.{AreTelling}
use Rattle.sta_classes.proofs.Loops.{filled_length, filled_more, filled_all}
use Rattle.sta_classes.proofs.Told.{telling_first, telling_more, last_row}
use Rattle.sta_classes.proofs.splits.tell_each.Goals as goal

pub rows-init : goal.rows-init
rows-init g c = record {
  left = All-permutation (λ r. (g.T.Theory.meaning c.args.theory.now).keeps (g.T.Theory.label_of r.value)) c.args.rows.now.items c.reverse.new.self.items c.reverse.ensures.permutation c.requires.kept;
  telling = telling_first (g.T.Theory.meaning c.args.theory.now) c.args.list.now c.args.rows.now.items c.reverse.new.self.items c.reverse.ensures.permutation c.new-told.result.items c.new-told.ensures.items;
}

pub holds-requires : goal.holds-requires
holds-requires g c = record {
  atoms_fit = c.requires.fit c.loop-i.i c.index-list-i.result c.loop-i-test.true;
  value_fits = (last_row (g.T.Theory.meaning c.args.theory.now) c.args.list.now c.args.rows.now.items c.rows.rows.items c.pop.new.self.items c.in-Some.row c.in-Some.ensures.items c.rows.invariant.left).1;
}

pub put-requires : goal.put-requires
put-requires g c = omega (arith, ap length c.loop-i.invariant, filled_length (truth_at g.T.Theory.atom_holds (g.T.Theory.label_of c.in-Some.row.value)) c.loop-i.i c.args.list.now, c.loop-i-test.true)

pub loop-i-preserved : goal.loop-i-preserved
loop-i-preserved g c =
    filled_more (truth_at g.T.Theory.atom_holds (g.T.Theory.label_of c.in-Some.row.value)) c.holds.result c.loop-i.i c.args.list.now c.index-list-i.result c.loop-i.holds c.put.new.self c.loop-i-test.true c.index-list-i.is (c.holds.ensures ∙ ap (truth_at g.T.Theory.atom_holds (g.T.Theory.label_of c.in-Some.row.value)) (sym c.index-list-i.is)) c.put.ensures c.loop-i.invariant

pub rows-preserved : goal.rows-preserved
rows-preserved g c =
    let (left, keeps) = last_row (g.T.Theory.meaning c.args.theory.now) c.args.list.now c.args.rows.now.items c.rows.rows.items c.pop.new.self.items c.in-Some.row c.in-Some.ensures.items c.rows.invariant.left in
    record {
      left = left;
      telling = telling_more (g.T.Theory.meaning c.args.theory.now) c.args.list.now c.args.rows.now.items c.rows.rows.items c.pop.new.self.items c.in-Some.row c.rows.told.items c.push.new.self.items (record { holds = c.loop-i.holds; value = c.in-Some.row.value }) c.in-Some.ensures.items c.in_ok-push.ensures.items (refl, filled_all (truth_at g.T.Theory.atom_holds (g.T.Theory.label_of c.in-Some.row.value)) c.loop-i.i c.args.list.now c.loop-i.holds (omega (arith, c.loop-i-test.false)) c.loop-i.invariant) keeps c.rows.invariant.telling;
    }

pub returns : goal.returns
returns g c = subst (λ left. AreTelling (g.T.Theory.meaning c.args.theory.now) c.args.list.now c.args.rows.now.items left c.rows.told.items) (nil_from_length c.rows.rows.items (omega (arith, c.in_default.ensures.cases.0, c.rows.rows.ok.0))) c.rows.invariant.telling

pub returns-in_err-holds : goal.returns-in_err-holds
returns-in_err-holds g c = IfOk-from_err c.from_residual.result _ c.from_residual.ensures.0

pub returns-in_err-push : goal.returns-in_err-push
returns-in_err-push g c = IfOk-from_err c.from_residual-in_err-push.result _ c.from_residual-in_err-push.ensures.0
