use Rattle.std.proofs.Common.{map, ap, sym}
use Rattle.read_forms.proofs.Forms.{read_at}
use Rattle.label_reader.proofs.Exits.{next_taken, reads_as}
use Rattle.label_reader.proofs.Listed.{any_ends, any_some}
use Rattle.label_reader.proofs.lists.read_to.Goals as goal

pub returns-then-is_next : goal.returns-then-is_next
returns-then-is_next g c = read_at (ap (λ l. map g.L.Items.plain l) (sym c.new.ensures.items)) (any_ends _ _ c.requires (next_taken c.args.reader.now (c.is_next.ensures.yes c.if-is_next.true) c.advance.ensures))

pub returns : goal.returns
returns g c = reads_as _ _ _ c.read_some_to.result (any_some _ _ _ _ (c.is_next.ensures.no c.if-is_next.false)) c.read_some_to.ensures
