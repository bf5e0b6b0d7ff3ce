use Rattle.std.proofs.Common.{[], take, subst, sym, arith}
use Rattle.std.proofs.lemmas.List.{take_all}
use Rattle.sttr_run.specs.Drafts.{AreProducts, IsBoth}
use Rattle.sttr_run.proofs.Members.{taken}
use Rattle.sttr_run.proofs.Pairing.{pairs_none, pairs_more}
use Rattle.sttr_run.proofs.picks.Run.products.Goals as goal

pub firsts-init : goal.firsts-init
firsts-init g c = subst (λ ys. AreProducts g.T.Map.PartialEq.eq [] c.args.seconds.now ys) (sym c.new-made.ensures.items) (pairs_none (IsBoth g.T.Map.PartialEq.eq) c.args.seconds.now)

pub firsts-preserved : goal.firsts-preserved
firsts-preserved g c =
    subst (λ xs. AreProducts g.T.Map.PartialEq.eq xs c.args.seconds.now c.add_products.new.made.items) (sym (taken c.args.firsts.now c.firsts.first-index c.first-item.result c.firsts-test.true c.first-item.is))
    (pairs_more (IsBoth g.T.Map.PartialEq.eq) (take c.firsts.first-index c.args.firsts.now) c.args.seconds.now c.firsts.made.items c.add_products.new.made.items c.first-item.result c.firsts.invariant c.in_ok-add_products.ensures)

pub returns : goal.returns
returns g c = subst (λ xs. AreProducts g.T.Map.PartialEq.eq xs c.args.seconds.now c.firsts.made.items) (take_all c.firsts.first-index c.args.firsts.now (omega (arith, c.firsts-test.false))) c.firsts.invariant
