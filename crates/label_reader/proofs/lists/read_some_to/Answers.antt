use Rattle.std.proofs.Common.{map, ap, ◌∙◌, ◌++◌, ◌∷◌, [], arith}
use Rattle.std.proofs.lemmas.List.{map-append}
use Rattle.label_reader.proofs.Exits.{next_taken, exit, shorter}
use Rattle.label_reader.proofs.Keeping.{told_read, made_fails}
use Rattle.label_reader.proofs.Listed.{items_begin, items_not_begun, items_go_on, items_refused, items_parted, items_end, skips_fewer}
use Rattle.label_reader.proofs.lists.read_some_to.Goals as goal

pub returns-in_err-all : goal.returns-in_err-all
returns-in_err-all g c = exit _ _ _ _ c.from_residual.result c.from_residual.ensures.1 (made_fails _ _ _ g.L.Items.plain _ _ c.read_item.ensures c.in_err-all.ensures (λ bad fails. items_not_begun _ _ _ c.requires fails))

pub items-init : goal.items-init
items-init g c = let e = c.in_ok-all.ensures in items_begin _ _ _ c.requires (told_read _ _ g.L.Items.plain e.1 c.read_item.ensures) (ap (λ l. map g.L.Items.plain l) (e.2 ∙ ap (λ l. l ++ e.0 ∷ []) c.new.ensures.items))

pub returns-then-is_next : goal.returns-then-is_next
returns-then-is_next g c = items_end _ _ _ c.requires c.items.invariant (next_taken c.items.reader (c.is_next.ensures.yes c.if-is_next.true) c.advance.ensures)

pub returns-in_err-skip_between : goal.returns-in_err-skip_between
returns-in_err-skip_between g c = exit _ _ _ _ c.from_residual-in_err-skip_between.result c.from_residual-in_err-skip_between.ensures.1 (items_parted _ _ _ c.requires c.items.invariant (c.is_next.ensures.no c.if-is_next.false) c.in_err-skip_between.ensures.0 c.in_err-skip_between.ensures.1)

pub returns-in_err-all-2 : goal.returns-in_err-all-2
returns-in_err-all-2 g c = exit _ _ _ _ c.from_residual-in_err-all-2.result c.from_residual-in_err-all-2.ensures.1 (made_fails _ _ _ g.L.Items.plain _ _ c.read_item-in-items.ensures c.in_err-all-2.ensures (λ bad fails. items_refused _ _ _ c.requires c.items.invariant (c.is_next.ensures.no c.if-is_next.false) c.in_ok-skip_between.ensures fails))

pub items-smaller : goal.items-smaller
items-smaller g c = let a = skips_fewer c.args.between _ _ c.in_ok-skip_between.ensures in let b = shorter _ _ _ c.requires.no_close (told_read _ _ g.L.Items.plain c.in_ok-all-2.ensures.1 c.read_item-in-items.ensures) in omega (arith, a, b)

pub items-preserved : goal.items-preserved
items-preserved g c = let e = c.in_ok-all-2.ensures in items_go_on _ _ _ _ c.requires c.items.invariant (c.is_next.ensures.no c.if-is_next.false) c.in_ok-skip_between.ensures (told_read _ _ g.L.Items.plain e.1 c.read_item-in-items.ensures) (ap (λ l. map g.L.Items.plain l) e.2 ∙ map-append g.L.Items.plain c.items.all.items (e.0 ∷ []))
