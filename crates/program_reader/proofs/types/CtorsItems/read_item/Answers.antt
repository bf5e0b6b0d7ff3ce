use Rattle.std.proofs.Common.{sym, ap}
use Rattle.std.proofs.lemmas.Int.{to_z-of_z}
use mir.Syntax.{w128}
use Rattle.read_forms.proofs.Forms.{as_read, as_fails, then_read, then_fails, first_fails, ends_closed, read_at}
use Rattle.fast_syntax.specs.View.{plain_name}
use Rattle.label_reader.proofs.Exits.{exit}
use Rattle.label_reader.proofs.Digits.{number_fits}
use Rattle.label_reader.proofs.Keeping.{told_read, told_fails, told_closed, reads_to_close}
use Rattle.program_reader.proofs.TypeForms.{ctor_makes, rank_makes, sample_rank}
use Rattle.program_reader.proofs.types.CtorsItems.read_item.Goals as goal

pub returns-in_err-name : goal.returns-in_err-name
returns-in_err-name c = exit _ _ _ _ c.from_residual.result c.from_residual.ensures.1 (as_fails _ (ctor_makes _ _) (first_fails _ (ends_closed _ _) sample_rank c.in_err-name.ensures))

pub returns-in_err-name-2 : goal.returns-in_err-name-2
returns-in_err-name-2 c = exit _ _ _ _ c.from_residual-in_err-name-2.result c.from_residual-in_err-name-2.ensures.1
    (as_fails _ (ctor_makes _ _) (then_fails _ (ends_closed _ _) c.in_ok-name.ensures (told_fails _ _ (λ n. (n, tt)) c.in_err-name-2.ensures
    (reads_to_close _ _ _ _ _ (λ n. n) _ c.to_close.result c.read_numeral.ensures c.to_close.ensures (ends_closed _ _) (rank_makes _)))))

pub returns : goal.returns
returns c = let e = c.in_ok-name-2.ensures in
    let read = told_read _ _ (λ n. n) (told_closed c.read_numeral.result c.to_close.result _ _ e.1 c.to_close.ensures) c.read_numeral.ensures in
    read_at (ap (λ r. record { name = plain_name c.in_ok-name-2.name; rank = r }) (sym (to_z-of_z w128 _ (number_fits _ _ _ read)))) (as_read (ctor_makes _ _) (then_read (ends_closed _ _) (read_at (ap plain_name (sym e.0)) c.in_ok-name.ensures) (told_read _ _ (λ n. (n, tt)) e.1
    (reads_to_close _ _ _ _ _ (λ n. n) _ c.to_close.result c.read_numeral.ensures c.to_close.ensures (ends_closed _ _) (rank_makes _)))))
