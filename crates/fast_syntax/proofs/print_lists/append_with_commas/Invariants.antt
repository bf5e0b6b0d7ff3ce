use Rattle.std.proofs.Common.{◌≡◌, ◌++◌, drop}
use Rattle.model_program.specs.Cuts.{texts_of}
use Rattle.model_grammar.specs.Printed.{behind_commas}
use Rattle.fast_syntax.proofs.print_lists.append_with_commas.Given as goal

abbrev pub invariant-loop-item : goal.invariant-loop-item
invariant-loop-item g l = l.page ++ texts_of (behind_commas g.T.Printed.pieces (drop l.item-index l.later)) ≡ l.initial.page ++ texts_of (behind_commas g.T.Printed.pieces l.later)
