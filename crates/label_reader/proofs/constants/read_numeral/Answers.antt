use Rattle.std.proofs.Common.{sym, ◌∙◌}
use Rattle.std.proofs.lemmas.Int.{to_z-of_z}
use mir.Syntax.{w128}
use Rattle.read_forms.proofs.Forms.{as_read, as_fails, read_at}
use Rattle.label_reader.proofs.Digits.{fits_below}
use Rattle.label_reader.proofs.Primaries.{numeral_missing, numeral_read}
use Rattle.label_reader.proofs.ByToken.{number_by_token}
use Rattle.label_reader.proofs.constants.read_numeral.Goals as goal

pub returns-in_default : goal.returns-in_default
returns-in_default c = as_fails _ (number_by_token _) (record { why = numeral_missing _ c.in_default.ensures })

pub returns : goal.returns
returns c = let e = c.in-Some.ensures in let n = e.amount in
    rw c.advance.ensures (read_at (sym (to_z-of_z w128 _ (fits_below _ _ n.0 n.1) ∙ n.0)) (as_read (number_by_token _) (numeral_read _ _ _ e.here e.word e.digits)))
