use Rattle.std.proofs.Common.{map}
use Rattle.sta_classes.specs.Rules.{plain_rules}
use Rattle.sta_min.specs.Parents.{plain_parents}
use Rattle.sta_min.specs.Written.{AreRulesOfBlocks}
use Rattle.sta_min.proofs.written.rules_of_blocks.Given as goal

abbrev pub invariant-numbers : goal.invariant-numbers
invariant-numbers g l = AreRulesOfBlocks g.T.Atom.PartialEq.eq g.T.Theory.atom_holds l.table l.blocks.dense.items (map plain_parents l.all) l.block (plain_rules l.rules.items)
