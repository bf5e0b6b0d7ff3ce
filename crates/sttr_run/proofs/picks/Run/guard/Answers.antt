use Rattle.std.proofs.Common.{◌≡◌, [], refl}
use Rattle.sttr_run.specs.Drafts.{AddsProducts}
use Rattle.sttr_run.specs.declared.drafts.Draft.{Draft}
use Rattle.sttr_run.proofs.Asking.{on_ok_map}
use Rattle.sttr_run.proofs.picks.Run.guard.Goals as goal

pub returns : goal.returns
returns g c =
    let first : Draft g.row.T-Atom.Denot g.row.T-Map.Denot = record { guards = c.args.guards; demands = c.new-demands.result; terms = c.new-terms.result } in
    on_ok_map (AddsProducts g.T.Map.PartialEq.eq first c.args.ways.now c.args.found.now.items c.add_products.new.made.items) ((x : Draft g.row.T-Atom.Denot g.row.T-Map.Denot) × (x.guards.items ≡ c.args.guards.items) × (x.demands.items ≡ []) × (x.terms.items ≡ []) × AddsProducts g.T.Map.PartialEq.eq x c.args.ways.now c.args.found.now.items c.add_products.new.made.items) c.add_products.result
    (λ adds. (first, refl, c.new-demands.ensures.items, c.new-terms.ensures.items, adds)) c.add_products.ensures
