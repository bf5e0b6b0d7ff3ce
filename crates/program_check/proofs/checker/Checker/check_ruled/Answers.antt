use Rattle.std.proofs.Common.{◌||◌, not, ap, ap₂, ◌∙◌}
use Rattle.fast_syntax.specs.View.{plain_name}
use Rattle.model_checks.specs.Expressions.{is_other_kind}
use Rattle.program_check.specs.Contexts.{items_of}
use Rattle.program_check.specs.Standings.{plain_kind}
use Rattle.program_check.proofs.ByHead.{none_ruled, other_ruled, same_ruled}
use Rattle.program_check.proofs.Typing.{stands_input, stands_output, differ_is}
use Rattle.program_check.proofs.Noting.{as_same}
use Rattle.program_check.proofs.checker.Checker.check_ruled.Goals as goal

pub returns-in_default : goal.returns-in_default
returns-in_default c from into input output = as_same (none_ruled (items_of c.args.context.now) (plain_kind c.args.kind) from into (plain_name c.args.name.now) c.in_default.ensures) c.note.ensures

pub returns-then-other : goal.returns-then-other
returns-then-other c from into input output =
    let found = c.in-Some.ensures in
    as_same (other_ruled (items_of c.args.context.now) (plain_kind c.args.kind) from into (plain_name c.args.name.now) found.head (not c.in-Some.has_rules || c.is_other_kind.result) found.is
    (ap₂ (λ r b. not r || b) found.rules (c.is_other_kind.ensures ∙ ap (is_other_kind (plain_kind c.args.kind)) found.stands.kind)) c.if-other.true) c.note-then-other.ensures

pub returns : goal.returns
returns c from into input output =
    let found = c.in-Some.ensures in
    let items = items_of c.args.context.now in
    let s = c.in-Some.found in
    as_same (same_ruled items (plain_kind c.args.kind) from into (plain_name c.args.name.now) found.head (not c.in-Some.has_rules || c.is_other_kind.result) (c.differ-inputs.result || c.differ-outputs.result) found.is
    (ap₂ (λ r b. not r || b) found.rules (c.is_other_kind.ensures ∙ ap (is_other_kind (plain_kind c.args.kind)) found.stands.kind)) c.if-other.false
    (ap₂ (λ p q. p || q) (c.differ-inputs.ensures ∙ differ_is items s.input c.args.input _ from (stands_input items found.head s found.stands) input) (c.differ-outputs.ensures ∙ differ_is items s.output c.args.output _ into (stands_output items found.head s found.stands) output))) c.note_if.ensures
