use Rattle.fast_syntax.proofs.Characters.{if_ok}
use Rattle.fast_syntax.proofs.Appending.{adds_then}
use Rattle.fast_syntax.proofs.print_items.append_pair.Goals as goal

pub returns : goal.returns
returns c = if_ok c.append_term-2.result (λ x last. adds_then c.in_ok-append_term.ensures (adds_then c.in_ok-append_between.ensures last)) c.append_term-2.ensures
