use Rattle.std.proofs.Common.{ap, arith}
use Rattle.model_tree.specs.Tree.{node_count_all, depth_all}
use Rattle.model_sttr.specs.Cuts.{new, trees_of_cuts}
use Rattle.sttr_apply.proofs.Cutting.{plain_parts}
use Rattle.sttr_apply.proofs.nodes.node_over.Goals as goal

pub invariant_of-result : goal.invariant_of-result
invariant_of-result g c = record {
  nodes_are = omega (arith, c.args.row.nodes_are, ap (λ ps. node_count_all (trees_of_cuts ps)) (plain_parts c.args.row.parts));
  levels_are = omega (arith, c.args.row.levels_are, ap (λ ps. depth_all (trees_of_cuts ps)) (plain_parts c.args.row.parts));
  shallow = omega (arith, c.requires.shallow);
}

pub returns-clause-cut : goal.returns-clause-cut
returns-clause-cut g c = ap (new c.args.constructor c.args.label) (plain_parts c.args.row.parts)
