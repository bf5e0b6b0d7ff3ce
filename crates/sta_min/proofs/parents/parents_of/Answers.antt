use Rattle.std.proofs.Common.{length, map, get_or, ap, ◌∙◌}
use Rattle.sta_min.proofs.Building.{firsts_known}
use Rattle.sta_min.proofs.parents.parents_of.Goals as goal

pub targets_of-requires-clause-known : goal.targets_of-requires-clause-known
targets_of-requires-clause-known g c =
    firsts_known (length c.args.steps.now.table.now.found) c.args.firsts.now c.args.head.now.blocks.items c.deref-2.result.now c.requires.firsts c.requires.head.known
    (c.deref-2.ensures.value ∙ c.in_ok-children.ensures ∙ ap (map (λ k. get_or c.args.firsts.now k 0)) c.deref.ensures.value)
