use Rattle.std.proofs.Common.{ap}
use Rattle.fast_syntax.specs.Plain.{plain_claim}
use Rattle.fast_syntax.proofs.Characters.{if_ok}
use Rattle.fast_syntax.proofs.Appending.{adds_then}
use Rattle.fast_syntax.proofs.AppendingTerms.{adds_claim}
use Rattle.fast_syntax.proofs.print_items.append_claim.Goals as goal

pub returns-in_ok-append_term-in-Empty : goal.returns-in_ok-append_term-in-Empty
returns-in_ok-append_term-in-Empty c = if_ok c.word-in-Empty.result (λ x last. adds_claim (ap plain_claim c.in-Empty.is) (adds_then c.in_ok-word-in-Empty.ensures (adds_then c.in_ok-append_keyword-in-Empty.ensures (adds_then c.in_ok-append_term-in-Empty.ensures last)))) c.word-in-Empty.ensures

pub returns-in_ok-append_term-in-TypeCheck-3 : goal.returns-in_ok-append_term-in-TypeCheck-3
returns-in_ok-append_term-in-TypeCheck-3 c =
    if_ok c.word-in-TypeCheck-2.result (λ x last. adds_claim (ap plain_claim c.in-TypeCheck.is) (adds_then c.in_ok-word-in-TypeCheck.ensures (adds_then c.in_ok-append_keyword-in-TypeCheck.ensures
    (adds_then (adds_then c.in_ok-append_term-in-TypeCheck.ensures (adds_then c.in_ok-blank-in-TypeCheck.ensures (adds_then c.in_ok-append_term-in-TypeCheck-2.ensures (adds_then c.in_ok-blank-in-TypeCheck-2.ensures c.in_ok-append_term-in-TypeCheck-3.ensures)))) last)))) c.word-in-TypeCheck-2.ensures
