use Rattle.read_forms.proofs.Forms.{as_fails}
use Rattle.read_forms.proofs.Words.{sign_makes, word_refused}
use Rattle.label_reader.proofs.Exits.{sign_next}
use Rattle.label_reader.proofs.reader.Reader.sign.Goals as goal

pub returns-then-not-is_next : goal.returns-then-not-is_next
returns-then-not-is_next c = as_fails _ (sign_makes _ _ _) (record { why = word_refused _ _ (c.is_next.ensures.no c.if-not-is_next.true) })

pub returns : goal.returns
returns c = sign_next c.args.self.now (c.is_next.ensures.yes c.if-not-is_next.false) c.advance.ensures
