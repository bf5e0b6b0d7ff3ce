use Rattle.std.proofs.Common.{sym}
use Rattle.fast_syntax.proofs.Characters.{if_ok}
use Rattle.fast_syntax.proofs.Appending.{adds_then}
use Rattle.fast_syntax.proofs.AppendingTerms.{adds_demands}
use Rattle.fast_syntax.proofs.print_rules.append_given.Goals as goal

pub returns : goal.returns
returns c = if_ok c.append_behind_blanks.result (λ x last. adds_demands c.args.given.now c.args.page.now c.append_behind_blanks.new.page (sym c.if-is_empty.ensures) (adds_then c.in_ok-blank.ensures (adds_then c.in_ok-word.ensures last))) c.append_behind_blanks.ensures
