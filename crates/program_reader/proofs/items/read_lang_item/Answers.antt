use Rattle.std.proofs.Common.{sym, ap}
use Rattle.read_forms.proofs.Forms.{as_read, as_fails, then_read, then_fails, first_fails, ends_closed, read_at}
use Rattle.fast_syntax.specs.View.{plain_name}
use Rattle.label_reader.proofs.Exits.{exit}
use Rattle.label_reader.proofs.Keeping.{told_read, told_fails}
use Rattle.program_reader.proofs.RuleForms.{sample_braces, sample_rule, rule_item}
use Rattle.program_reader.proofs.ItemForms.{lang_makes}
use Rattle.program_reader.proofs.items.read_lang_item.Goals as goal

pub returns-in_err-names : goal.returns-in_err-names
returns-in_err-names c = exit _ _ _ _ c.from_residual.result c.from_residual.ensures.1 (as_fails _ (lang_makes _ _) (first_fails _ (ends_closed _ _) (sample_braces _ sample_rule) c.in_err-names.ensures))

pub returns-in_err-name : goal.returns-in_err-name
returns-in_err-name c = exit _ _ _ _ c.from_residual-in_err-name.result c.from_residual-in_err-name.ensures.1 (as_fails _ (lang_makes _ _) (then_fails _ (ends_closed _ _) c.in_ok-names.ensures (told_fails _ _ _ c.in_err-name.ensures c.read_some-rules.ensures)))

pub returns : goal.returns
returns c = let e = c.in_ok-name.ensures in
    as_read (lang_makes _ _) (then_read (ends_closed _ _) (read_at (ap (λ v. (plain_name v.0, plain_name v.1)) (sym e.0)) c.in_ok-names.ensures) (told_read _ _ _ e.1 c.read_some-rules.ensures))

pub read_some-rules-requires : goal.read_some-rules-requires
read_some-rules-requires c = rule_item
