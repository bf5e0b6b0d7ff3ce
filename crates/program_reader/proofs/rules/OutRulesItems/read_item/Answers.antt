use Rattle.std.proofs.Common.{sym, ap, ◌∙◌}
use Rattle.read_forms.proofs.Forms.{as_read, as_fails, then_read, then_fails, first_fails, ends_closed, sample_pair, read_at}
use Rattle.read_forms.proofs.Words.{sample_sign}
use Rattle.label_reader.proofs.Exits.{exit}
use Rattle.label_reader.proofs.Keeping.{told_read, told_fails}
use Rattle.fast_syntax.specs.Plain.{plain_rule}
use Rattle.program_reader.proofs.OutForms.{sample_out}
use Rattle.program_reader.proofs.RuleForms.{out_rule_makes, ends_rule}
use Rattle.program_reader.proofs.rules.OutRulesItems.read_item.Goals as goal

pub returns-in_err-rule : goal.returns-in_err-rule
returns-in_err-rule c = exit _ _ _ _ c.from_residual.result c.from_residual.ensures.1 (as_fails _ (out_rule_makes _ _) (first_fails _ ends_rule (sample_pair (sample_sign _) sample_out) c.in_err-rule.ensures))

pub returns-in_err-rule-2 : goal.returns-in_err-rule-2
returns-in_err-rule-2 c = exit _ _ _ _ c.from_residual-in_err-rule-2.result c.from_residual-in_err-rule-2.ensures.1 (as_fails _ (out_rule_makes _ _) (then_fails _ ends_rule c.in_ok-rule.ensures (first_fails _ (ends_closed _ _) sample_out (told_fails _ _ _ c.in_err-rule-2.ensures c.sign.ensures))))

pub returns-in_err-rule-3 : goal.returns-in_err-rule-3
returns-in_err-rule-3 c = exit _ _ _ _ c.from_residual-in_err-rule-3.result c.from_residual-in_err-rule-3.ensures.1
    (as_fails _ (out_rule_makes _ _) (then_fails _ ends_rule c.in_ok-rule.ensures (then_fails _ (ends_closed _ _) (told_read _ _ _ c.in_ok-rule-2.ensures.1 c.sign.ensures) (told_fails _ _ _ c.in_err-rule-3.ensures c.read_out.ensures))))

pub returns : goal.returns
returns c = let one = c.in_ok-rule-2.ensures in let two = c.in_ok-rule-3.ensures in
    as_read (out_rule_makes _ _) (then_read ends_rule (read_at (ap plain_rule (sym (two.0 ∙ one.0))) c.in_ok-rule.ensures) (then_read (ends_closed _ _) (told_read _ _ _ one.1 c.sign.ensures) (told_read _ _ _ two.1 c.read_out.ensures)))
