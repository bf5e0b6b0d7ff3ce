use Rattle.std.proofs.Common.{rules, ◌≡◌, Some, to_z, of_z, subst, ap, ◌∙◌}
use Rattle.std.proofs.lemmas.Int.{to_z-of_z}
use Rattle.std.specs.Int.{w128}
use Rattle.label_core.specs.Maps.{IsMade}
use Rattle.apply_laws.specs.Listing.{only_if}
use Rattle.sttr_apply.proofs.NodesOver.{far_built}
use Rattle.sttr_apply.proofs.nodes.build.Goals as goal

pub returns : goal.returns
returns g c =
    let label = g.T.Theory.label_of in
    let n = c.in-Range.number in
    let e : to_z w128 (of_z w128 n) ≡ n = to_z-of_z w128 n (search rules) in
    far_built label c.args.constructor (g.T.Labels.make c.args.map.now (label c.args.value.now)) c.args.rows c.in-Listed.listing n c.new-outs.result.items c.has_row.result c.far_if-far.result c.in-Listed.is
    (subst (IsMade label (g.T.Labels.make c.args.map.now (label c.args.value.now))) c.in-Range.is c.in_ok-label-in-Listed.ensures) c.new-outs.ensures.items c.has_row.ensures (c.far_if-far.ensures ∙ ap (λ m. only_if c.has_row.result (Some m)) e)
