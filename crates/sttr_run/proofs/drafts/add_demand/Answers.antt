use Rattle.std.proofs.Common.{◌∷◌, [], refl, subst, sym}
use Rattle.sttr_run.specs.Drafts.{Asks}
use Rattle.sttr_run.proofs.Asking.{asks_copy}
use Rattle.sttr_run.proofs.drafts.add_demand.Goals as goal

pub returns : goal.returns
returns c =
    subst (λ new. Asks new c.args.to.now.items (c.args.demand.now ∷ [])) (sym c.in_ok-push.ensures.items)
    (asks_copy c.args.to.now.items c.args.demand.now (record { child = c.args.demand.now.child; ask = c.in_ok-ask.ask }) refl c.in_ok-ask.ensures)
