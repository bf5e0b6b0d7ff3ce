use Rattle.std.proofs.Common.{◌≡◌, ◌++◌, map, drop}
use Rattle.model_program.specs.Cuts.{texts_of}
use Rattle.model_grammar.specs.Printed.{lines}
use Rattle.fast_syntax.specs.Plain.{plain_item}
use Rattle.fast_syntax.proofs.print_items.append_items.Given as goal

abbrev pub invariant-loop-item : goal.invariant-loop-item
invariant-loop-item l = l.page ++ texts_of (lines (map plain_item (drop l.item-index l.items))) ≡ l.initial.page ++ texts_of (lines (map plain_item l.items))
