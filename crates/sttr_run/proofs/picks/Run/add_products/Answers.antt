use Rattle.std.proofs.Common.{◌∷◌, ◌++◌, [], ◌+◌, take, subst, sym, arith}
use Rattle.std.proofs.lemmas.List.{take_all}
use Rattle.sttr_run.specs.Drafts.{AddsProducts, IsBoth}
use Rattle.sttr_run.proofs.Members.{taken}
use Rattle.sttr_run.proofs.Pairing.{adds_none, adds_more}
use Rattle.sttr_run.proofs.picks.Run.add_products.Goals as goal

pub seconds-init : goal.seconds-init
seconds-init g c = adds_none (IsBoth g.T.Map.PartialEq.eq c.args.first.now) c.args.made.now.items

pub seconds-preserved : goal.seconds-preserved
seconds-preserved g c =
    subst (λ ys. AddsProducts g.T.Map.PartialEq.eq c.args.first.now (take (c.seconds.second-index + 1) c.args.seconds.now) c.args.made.now.items ys) (sym c.in_ok-push.ensures.items)
    (subst (λ xs. AddsProducts g.T.Map.PartialEq.eq c.args.first.now xs c.args.made.now.items (c.seconds.made.items ++ c.in_ok-both.field-0 ∷ [])) (sym (taken c.args.seconds.now c.seconds.second-index c.second-item.result c.seconds-test.true c.second-item.is))
    (adds_more (IsBoth g.T.Map.PartialEq.eq c.args.first.now) (take c.seconds.second-index c.args.seconds.now) c.args.made.now.items c.seconds.made.items c.second-item.result c.in_ok-both.field-0 c.seconds.invariant c.in_ok-both.ensures))

pub returns : goal.returns
returns g c = subst (λ xs. AddsProducts g.T.Map.PartialEq.eq c.args.first.now xs c.args.made.now.items c.seconds.made.items) (take_all c.seconds.second-index c.args.seconds.now (omega (arith, c.seconds-test.false))) c.seconds.invariant
