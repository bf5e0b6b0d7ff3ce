use Rattle.fast_syntax.proofs.Characters.{if_ok}
use Rattle.fast_syntax.proofs.Appending.{adds_then}
use Rattle.fast_syntax.proofs.print_lists.append_rules.Goals as goal

pub returns : goal.returns
returns g c = if_ok c.word-2.result (λ x last. adds_then c.in_ok-word.ensures (adds_then c.in_ok-blank.ensures (adds_then c.in_ok-append_with_bars.ensures (adds_then c.in_ok-blank-2.ensures last)))) c.word-2.ensures
