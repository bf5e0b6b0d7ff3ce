use Rattle.std.proofs.Common.{◌≡◌, ◌++◌, drop}
use Rattle.model_program.specs.Cuts.{texts_of}
use Rattle.model_grammar.specs.Printed.{outputs}
use Rattle.fast_syntax.specs.Slices.{plain_outputs}
use Rattle.fast_syntax.proofs.print_terms.+print_output.Given as goal

abbrev pub invariant-append_outputs-loop-out : goal.invariant-append_outputs-loop-out
invariant-append_outputs-loop-out l = l.page ++ texts_of (outputs (plain_outputs (drop l.out-index l.outs))) ≡ l.initial.page ++ texts_of (outputs (plain_outputs l.outs))
