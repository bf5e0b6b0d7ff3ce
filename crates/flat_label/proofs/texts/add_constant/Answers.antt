use Rattle.std.proofs.Common.{Contains, sym, subst}
use Rattle.flat_label.specs.Sides.{IsAmong}
use Rattle.flat_label.proofs.Constants.{put_in}
use Rattle.flat_label.proofs.texts.add_constant.Goals as goal

pub returns-in_ok-insert_full-clause-added : goal.returns-in_ok-insert_full-clause-added
returns-in_ok-insert_full-clause-added c =
    subst (IsAmong c.insert_full.new.self.keys) (sym c.in-Constant.is) (subst (Contains c.insert_full.new.self.keys) c.in_ok-copy.ensures (put_in c.insert_full.new.self.keys c.in_ok-copy.field-0 c.in_ok-insert_full.field-0.0 c.in_ok-insert_full.ensures.stored))
