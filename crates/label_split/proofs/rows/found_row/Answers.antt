use Rattle.std.proofs.Common.{Ok, ap, refl, ◌∙◌}
use Rattle.label_split.specs.declared.rows.SplitStop.TheVariants.{Memory}
use Rattle.label_split.proofs.RowLists.{stops_by}
use Rattle.label_split.proofs.rows.found_row.Goals as goal

pub returns-in_err-chain : goal.returns-in_err-chain
returns-in_err-chain g c = stops_by _ _ c.from_residual.result Memory c.from_residual.ensures.1 tt

pub returns-in_err-learn-in-Unsat : goal.returns-in_err-learn-in-Unsat
returns-in_err-learn-in-Unsat g c = stops_by _ _ c.from_residual-in_err-learn-in-Unsat.result Memory c.from_residual-in_err-learn-in-Unsat.ensures.1 tt

pub returns-in_err-note-in-Sat : goal.returns-in_err-note-in-Sat
returns-in_err-note-in-Sat g c = stops_by _ _ c.from_residual-in_err-note-in-Sat.result Memory c.from_residual-in_err-note-in-Sat.ensures.1 tt

pub returns-in-Wide : goal.returns-in-Wide
returns-in-Wide g c = c.in_ok-chain.was ∙ ap Ok c.in-Wide.is

pub returns-in_ok-learn-in-Unsat : goal.returns-in_ok-learn-in-Unsat
returns-in_ok-learn-in-Unsat g c = c.in_ok-chain.was ∙ ap Ok c.in-Unsat.is

pub returns-in_ok-note-in-Sat : goal.returns-in_ok-note-in-Sat
returns-in_ok-note-in-Sat g c = (c.in_ok-chain.was ∙ ap Ok c.in-Sat.is, refl)
