use Rattle.std.proofs.Common.{◌≡◌, ◌+◌, ◌∷◌, drop, ap, sym, subst, arith, rules}
use Rattle.std.proofs.lemmas.List.{drop_all}
use Rattle.model_program.specs.declared.Word.TheVariants.{Comma}
use Rattle.model_grammar.specs.Printed.{blank, token, behind_commas, with_commas}
use Rattle.fast_syntax.specs.Adds.{Adds}
use Rattle.fast_syntax.proofs.Appending.{drop_at, adds_then, left_more, left_none}
use Rattle.fast_syntax.proofs.print_lists.append_with_commas.Goals as goal

pub loop-item-preserved : goal.loop-item-preserved
loop-item-preserved g c =
    let later = c.in-Some.later.now in
    let i = c.loop-item.item-index in
    let x = c.item-item.result in
    let pieces = g.T.Printed.pieces in
    let first = drop_at later i x (omega arith) c.item-item.is in
    left_more c.loop-item.page c.append-in-loop-item.new.page _ (token Comma ∷ blank ∷ pieces x) (behind_commas pieces (drop (i + 1) later)) (behind_commas pieces (drop i later))
    (adds_then c.in_ok-word.ensures (adds_then c.in_ok-blank.ensures c.in_ok-append-2.ensures)) (ap (behind_commas pieces) first) c.loop-item.invariant

pub returns : goal.returns
returns g c =
    let later = c.in-Some.later.now in
    let pieces = g.T.Printed.pieces in
    let all : c.args.items.now ≡ c.in-Some.first.now ∷ later = search rules in
    subst (λ l. Adds c.args.page.now c.loop-item.page (with_commas pieces l)) (sym all)
    (left_none c.args.page.now c.append.new.page c.loop-item.page (pieces c.in-Some.first.now) (behind_commas pieces later) (behind_commas pieces (drop c.loop-item.item-index later)) c.in_ok-append.ensures (ap (behind_commas pieces) (drop_all c.loop-item.item-index later c.loop-item-test.false)) c.loop-item.invariant)
