use Rattle.std.proofs.Common.{◌++◌, ◌∷◌, [], None, refl, ap, ◌∙◌}
use Rattle.sttr_run.specs.declared.picks.Pick.{Pick}
use Rattle.sttr_run.proofs.picks.no_rules.Goals as goal

pub returns : goal.returns
returns g c =
    let x : Pick g.row.A.Denot g.row.M.Denot = record { guards = c.new-guards.result; demands = c.new-demands.result; term = None } in
    (x, c.in_ok-push.ensures.items ∙ ap (λ xs. xs ++ x ∷ []) c.new-picks.ensures.items, c.new-guards.ensures.items, c.new-demands.ensures.items, refl)
