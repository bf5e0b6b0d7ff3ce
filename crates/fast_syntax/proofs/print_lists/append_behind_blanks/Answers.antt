use Rattle.std.proofs.Common.{◌+◌, ◌∷◌, drop, ap, arith}
use Rattle.std.proofs.lemmas.List.{drop_all}
use Rattle.model_grammar.specs.Printed.{blank, behind_blanks}
use Rattle.fast_syntax.proofs.Appending.{drop_at, adds_then, left_more, left_all}
use Rattle.fast_syntax.proofs.print_lists.append_behind_blanks.Goals as goal

pub loop-item-preserved : goal.loop-item-preserved
loop-item-preserved g c =
    let items = c.args.items.now in
    let i = c.loop-item.item-index in
    let x = c.item-item.result in
    let pieces = g.T.Printed.pieces in
    let first = drop_at items i x (omega arith) c.item-item.is in
    left_more c.loop-item.page c.append.new.page _ (blank ∷ pieces x) (behind_blanks pieces (drop (i + 1) items)) (behind_blanks pieces (drop i items)) (adds_then c.in_ok-blank.ensures c.in_ok-append.ensures) (ap (behind_blanks pieces) first) c.loop-item.invariant

pub returns : goal.returns
returns g c =
    let items = c.args.items.now in
    let pieces = g.T.Printed.pieces in
    left_all c.args.page.now c.loop-item.page (behind_blanks pieces items) (behind_blanks pieces (drop c.loop-item.item-index items)) (ap (behind_blanks pieces) (drop_all c.loop-item.item-index items c.loop-item-test.false)) c.loop-item.invariant
