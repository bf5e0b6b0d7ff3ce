use Rattle.model_tree.specs.Tree.{relabel}
use Rattle.model_tree.specs.Signature.{HasType}
use Rattle.fast_tree.specs.Entries.{label_meaning}
use Rattle.fast_tree.specs.Signatures.{plain_signature}
use Rattle.base_tests.proofs.trees.tower.Given as goal

abbrev pub invariant-levels : goal.invariant-levels
invariant-levels l = HasType (plain_signature l.signature) (relabel label_meaning l.tree)
