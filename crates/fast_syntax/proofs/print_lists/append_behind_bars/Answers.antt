use Rattle.std.proofs.Common.{◌+◌, ◌∷◌, drop, ap, arith}
use Rattle.std.proofs.lemmas.List.{drop_all}
use Rattle.model_program.specs.declared.Word.TheVariants.{Bar}
use Rattle.model_grammar.specs.Printed.{blank, token, behind_bars}
use Rattle.fast_syntax.proofs.Appending.{drop_at, adds_then, left_more, left_all}
use Rattle.fast_syntax.proofs.print_lists.append_behind_bars.Goals as goal

pub loop-item-preserved : goal.loop-item-preserved
loop-item-preserved g c =
    let items = c.args.items.now in
    let i = c.loop-item.item-index in
    let x = c.item-item.result in
    let pieces = g.T.Printed.pieces in
    let first = drop_at items i x (omega arith) c.item-item.is in
    left_more c.loop-item.page c.append.new.page _ (blank ∷ token Bar ∷ blank ∷ pieces x) (behind_bars pieces (drop (i + 1) items)) (behind_bars pieces (drop i items)) (adds_then c.in_ok-blank.ensures (adds_then c.in_ok-word.ensures (adds_then c.in_ok-blank-2.ensures c.in_ok-append.ensures))) (ap (behind_bars pieces) first) c.loop-item.invariant

pub returns : goal.returns
returns g c =
    let items = c.args.items.now in
    let pieces = g.T.Printed.pieces in
    left_all c.args.page.now c.loop-item.page (behind_bars pieces items) (behind_bars pieces (drop c.loop-item.item-index items)) (ap (behind_bars pieces) (drop_all c.loop-item.item-index items c.loop-item-test.false)) c.loop-item.invariant
