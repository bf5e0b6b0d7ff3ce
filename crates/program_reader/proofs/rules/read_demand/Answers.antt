use Rattle.std.proofs.Common.{sym, ap}
use Rattle.read_forms.proofs.Forms.{as_read, as_fails, then_read, then_fails, first_fails, ends_closed, read_at}
use Rattle.fast_syntax.specs.View.{plain_name}
use Rattle.label_reader.proofs.Exits.{exit}
use Rattle.label_reader.proofs.Keeping.{told_read, told_fails}
use Rattle.program_reader.proofs.NameForms.{sample_name_to}
use Rattle.program_reader.proofs.RuleForms.{demand_makes}
use Rattle.program_reader.proofs.rules.read_demand.Goals as goal

pub returns-in_err-language : goal.returns-in_err-language
returns-in_err-language c = exit _ _ _ _ c.from_residual.result c.from_residual.ensures.1 (as_fails _ (demand_makes _ _) (first_fails _ (ends_closed _ _) (sample_name_to _) c.in_err-language.ensures))

pub returns-in_err-language-2 : goal.returns-in_err-language-2
returns-in_err-language-2 c = exit _ _ _ _ c.from_residual-in_err-language-2.result c.from_residual-in_err-language-2.ensures.1 (as_fails _ (demand_makes _ _) (then_fails _ (ends_closed _ _) c.in_ok-language.ensures (told_fails _ _ _ c.in_err-language-2.ensures c.read_name_to.ensures)))

pub returns : goal.returns
returns c = let e = c.in_ok-language-2.ensures in
    as_read (demand_makes _ _) (then_read (ends_closed _ _) (read_at (ap plain_name (sym e.0)) c.in_ok-language.ensures) (told_read _ _ _ e.1 c.read_name_to.ensures))
