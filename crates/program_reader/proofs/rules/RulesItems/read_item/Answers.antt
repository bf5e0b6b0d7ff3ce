use Rattle.std.proofs.Common.{◌≡◌, map, sym, ap, ◌∙◌}
use Rattle.read_forms.specs.Reads.{IsRead}
use Rattle.model_grammar.specs.Grammar.{IsGuard}
use Rattle.label_reader.specs.Results.{left}
use Rattle.program_reader.specs.Goings.{guard_words}
use Rattle.read_forms.proofs.Forms.{as_read, as_fails, then_read, then_fails, first_fails, ends_closed, sample_pair, read_at}
use Rattle.label_reader.proofs.Exits.{exit, sign_next}
use Rattle.label_reader.proofs.LevelForms.{wider_read, wider_fails}
use Rattle.label_reader.proofs.Keeping.{told_read, told_fails}
use Rattle.fast_syntax.specs.View.{plain_name}
use Rattle.fast_syntax.specs.Plain.{plain_expr, plain_guard}
use Rattle.program_reader.proofs.RuleForms.{rule_makes, guard_makes, guard_none, in_guard, sample_vars, sample_guard, sample_given, ends_guard, var_item}
use Rattle.program_reader.proofs.rules.RulesItems.read_item.Goals as goal
use Rattle.program_reader.proofs.rules.RulesItems.read_item.Goals.{then-is_next+in_ok-head-2, else-is_next}

pub returns-in_err-ctor : goal.returns-in_err-ctor
returns-in_err-ctor c = exit _ _ _ _ c.from_residual.result c.from_residual.ensures.1 (as_fails _ (rule_makes _ _) (first_fails _ (ends_closed _ _) (sample_pair sample_vars (sample_pair sample_guard sample_given)) c.in_err-ctor.ensures))

pub returns-in_err-head : goal.returns-in_err-head
returns-in_err-head c = exit _ _ _ _ c.from_residual-in_err-head.result c.from_residual-in_err-head.ensures.1
    (as_fails _ (rule_makes _ _) (then_fails _ (ends_closed _ _) c.in_ok-ctor.ensures (first_fails _ (ends_closed _ _) (sample_pair sample_guard sample_given) (told_fails _ _ _ c.in_err-head.ensures c.read_any-vars.ensures))))

pub returns-in_err-head-2 : goal.returns-in_err-head-2
returns-in_err-head-2 c = let next = c.is_next.ensures.yes c.if-is_next.true in
    exit _ _ _ _ c.from_residual-in_err-head-2.result c.from_residual-in_err-head-2.ensures.1
    (as_fails _ (rule_makes _ _) (then_fails _ (ends_closed _ _) c.in_ok-ctor.ensures (then_fails _ (ends_closed _ _) (told_read _ _ _ c.in_ok-head.ensures.1 c.read_any-vars.ensures) (first_fails _ ends_guard sample_given
    (as_fails _ (guard_makes _ next) (then_fails _ (ends_closed _ _) (sign_next c.read_any-vars.new.reader next c.advance.ensures) (wider_fails _ in_guard (told_fails _ _ _ c.in_err-head-2.ensures c.read_level.ensures))))))))

pub returns-in_err-ctor-2 : goal.returns-in_err-ctor-2
returns-in_err-ctor-2 c =
    let guard : IsRead IsGuard guard_words (left c.read_any-vars.new.reader) (plain_guard c.if-is_next.guarded.1) (left c.if-is_next.reader) = elim c.if-is_next.branch [
      | then-is_next+in_ok-head-2 w ↦ let next = c.is_next.ensures.yes w.if-is_next.true in rw (w.guarded-is, w.reader-is) (as_read (guard_makes _ next) (then_read (ends_closed _ _) (sign_next c.read_any-vars.new.reader next w.advance.ensures) (wider_read in_guard (told_read _ _ plain_expr w.in_ok-head-2.ensures.1 w.read_level.ensures))))
      | else-is_next w ↦ rw (w.guarded-is, w.reader-is) (guard_none _ (c.is_next.ensures.no w.if-is_next.false))
    ] in
    exit _ _ _ _ c.from_residual-in_err-ctor-2.result c.from_residual-in_err-ctor-2.ensures.1
    (as_fails _ (rule_makes _ _) (then_fails _ (ends_closed _ _) c.in_ok-ctor.ensures (then_fails _ (ends_closed _ _) (told_read _ _ _ c.in_ok-head.ensures.1 c.read_any-vars.ensures) (then_fails _ ends_guard guard (told_fails _ _ _ c.in_err-ctor-2.ensures c.read_given.ensures)))))

pub returns : goal.returns
returns c = let one = c.in_ok-head.ensures in let three = c.in_ok-ctor-2.ensures in
    let same : c.if-is_next.guarded.0 ≡ c.in_ok-head.head = elim c.if-is_next.branch [ then-is_next+in_ok-head-2 w ↦ ap (λ v. v.0) w.guarded-is ∙ w.in_ok-head-2.ensures.0 | else-is_next w ↦ ap (λ v. v.0) w.guarded-is ] in
    let guard : IsRead IsGuard guard_words (left c.read_any-vars.new.reader) (plain_guard c.if-is_next.guarded.1) (left c.if-is_next.reader) = elim c.if-is_next.branch [
      | then-is_next+in_ok-head-2 w ↦ let next = c.is_next.ensures.yes w.if-is_next.true in rw (w.guarded-is, w.reader-is) (as_read (guard_makes _ next) (then_read (ends_closed _ _) (sign_next c.read_any-vars.new.reader next w.advance.ensures) (wider_read in_guard (told_read _ _ plain_expr w.in_ok-head-2.ensures.1 w.read_level.ensures))))
      | else-is_next w ↦ rw (w.guarded-is, w.reader-is) (guard_none _ (c.is_next.ensures.no w.if-is_next.false))
    ] in
    as_read (rule_makes _ _) (then_read (ends_closed _ _) (read_at (ap plain_name (sym (ap (λ v. v.0.0) three.0 ∙ ap (λ v. v.0) same ∙ one.0))) c.in_ok-ctor.ensures)
    (then_read (ends_closed _ _) (read_at (ap (λ v. map plain_name v.1.items) (sym (ap (λ v. v.0) three.0 ∙ same))) (told_read _ _ _ one.1 c.read_any-vars.ensures))
    (then_read ends_guard (read_at (ap (λ v. plain_guard v.1) (sym three.0)) guard) (told_read _ _ _ three.1 c.read_given.ensures))))

pub read_any-vars-requires : goal.read_any-vars-requires
read_any-vars-requires c = var_item
