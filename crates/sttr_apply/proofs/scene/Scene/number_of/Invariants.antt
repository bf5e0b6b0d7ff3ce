use Rattle.std.proofs.Common.{drop}
use Rattle.model_tree.specs.Tree.{trees_of}
use Rattle.sta_marks.specs.Nodes.{nodes_of, nodes_of_all}
use Rattle.sttr_apply.specs.Sizes.{StandsAt}
use Rattle.sttr_apply.proofs.scene.Scene.number_of.Given as goal

abbrev pub invariant-skip : goal.invariant-skip
invariant-skip g l = StandsAt l.number (nodes_of_all (trees_of (drop l.counter l.children))) (nodes_of l.self.root.now)
