use Rattle.std.proofs.Common.{◌≡◌, ◌++◌, drop}
use Rattle.model_program.specs.Cuts.{texts_of}
use Rattle.model_grammar.specs.Printed.{terms}
use Rattle.fast_syntax.specs.Slices.{plain_children}
use Rattle.fast_syntax.proofs.print_terms.+print_term.Given as goal

abbrev pub invariant-append_children-loop-child : goal.invariant-append_children-loop-child
invariant-append_children-loop-child l = l.page ++ texts_of (terms (plain_children (drop l.child-index l.children))) ≡ l.initial.page ++ texts_of (terms (plain_children l.children))
