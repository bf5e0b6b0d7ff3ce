use Rattle.std.proofs.Common.{◌+◌, ◌∷◌, [], ◌++◌, map, drop, ap, sym, ◌∙◌, arith, append_assoc}
use Rattle.std.proofs.lemmas.List.{drop_all}
use Rattle.model_grammar.specs.Printed.{line_end, item, lines}
use Rattle.fast_syntax.specs.Plain.{plain_item}
use Rattle.fast_syntax.proofs.Appending.{drop_at, adds_then, left_more, left_all}
use Rattle.fast_syntax.proofs.print_items.append_items.Goals as goal

pub loop-item-preserved : goal.loop-item-preserved
loop-item-preserved c =
    let items = c.args.items.now in
    let i = c.loop-item.item-index in
    let x = c.item-item.result in
    let first = drop_at items i x (omega arith) c.item-item.is in
    left_more c.loop-item.page c.line_end.new.self _ (item (plain_item x) ++ line_end ∷ []) (lines (map plain_item (drop (i + 1) items))) (lines (map plain_item (drop i items)))
    (adds_then c.in_ok-append_item.ensures c.in_ok-line_end.ensures) (ap (λ l. lines (map plain_item l)) first ∙ sym (append_assoc (item (plain_item x)) (line_end ∷ []) (lines (map plain_item (drop (i + 1) items))))) c.loop-item.invariant

pub returns : goal.returns
returns c =
    let items = c.args.items.now in
    left_all c.args.page.now c.loop-item.page (lines (map plain_item items)) (lines (map plain_item (drop c.loop-item.item-index items))) (ap (λ l. lines (map plain_item l)) (drop_all c.loop-item.item-index items c.loop-item-test.false)) c.loop-item.invariant
