use Rattle.model_tree.specs.Tree.{EveryLabel}
use Rattle.flat_label.specs.Bools.{IsBools, bools_label}
use Rattle.sta_tests.proofs.automata.chain.Given as goal

abbrev pub invariant-levels : goal.invariant-levels
invariant-levels l = EveryLabel (λ v. IsBools 1 (bools_label v.items)) l.tree
