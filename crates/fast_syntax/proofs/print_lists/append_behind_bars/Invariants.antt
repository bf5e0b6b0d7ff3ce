use Rattle.std.proofs.Common.{◌≡◌, ◌++◌, drop}
use Rattle.model_program.specs.Cuts.{texts_of}
use Rattle.model_grammar.specs.Printed.{behind_bars}
use Rattle.fast_syntax.proofs.print_lists.append_behind_bars.Given as goal

abbrev pub invariant-loop-item : goal.invariant-loop-item
invariant-loop-item g l = l.page ++ texts_of (behind_bars g.T.Printed.pieces (drop l.item-index l.items)) ≡ l.initial.page ++ texts_of (behind_bars g.T.Printed.pieces l.items)
