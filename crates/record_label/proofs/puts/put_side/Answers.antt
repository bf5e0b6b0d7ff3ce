use Rattle.std.proofs.Common.{[], map, ap, sym, ◌∙◌}
use Rattle.std.proofs.lemmas.Str.{chars-nil}
use Rattle.flat_label.specs.declared.texts.TextSide.TheVariants as side
use Rattle.record_label.specs.Maps.{sides_in, put_side}
use Rattle.record_label.specs.PlainMaps.{plain_entry}
use Rattle.record_label.proofs.PutFacts.{nothing_at}
use Rattle.record_label.proofs.puts.put_side.Goals as goal

pub returns-in_ok-of-in-None : goal.returns-in_ok-of-in-None
returns-in_ok-of-in-None c =
    ap side.Constant (c.in_ok-of-in-None.ensures {u = tt} ∙ chars-nil) ∙ nothing_at (sides_in (map plain_entry c.args.entries.now)) c.in-Field.number (side.Constant []) (rw c.in-None.is at c.side_at.ensures) ∙ sym (ap (put_side (map plain_entry c.args.entries.now)) c.in-Field.is)
