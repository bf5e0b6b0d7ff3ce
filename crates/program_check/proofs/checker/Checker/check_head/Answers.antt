use Rattle.std.proofs.Common.{◌≡◌, ◌++◌, [], ◌∙◌, Option, Some, None, sym, ap, not}
use Rattle.std.specs.Option.{option_map, option_map_or}
use Rattle.fast_fault.specs.declared.code.Code.TheVariants.{DuplicateName, UnknownName}
use Rattle.model_program.specs.Syntax.{Name}
use Rattle.model_checks.specs.Failures.{fails_if}
use Rattle.model_checks.specs.Programs.{into_failures}
use Rattle.model_checks.specs.Rules.{type_name_failures}
use Rattle.fast_syntax.specs.View.{plain_name}
use Rattle.program_check.specs.Contexts.{items_of, before_of}
use Rattle.program_check.specs.Heads.{plain_head, head_failures}
use Rattle.program_check.proofs.Noting.{next, same, nothing, ends}
use Rattle.program_check.proofs.Typing.{input_known, output_known}
use Rattle.program_check.proofs.ByHead.{no_head, one_head}
use Rattle.program_check.proofs.checker.Checker.check_head.Goals as goal

pub returns-in_default-clause-noted : goal.returns-in_default-clause-noted
returns-in_default-clause-noted c h =
    same (ap (λ o. option_map_or (head_failures (items_of c.args.context.now) (before_of c.args.context.now)) o []) (sym (ap (option_map plain_head) c.in_default.is) ∙ c.head_of.ensures)) (nothing _ h)

pub returns-in_default-clause-standing : goal.returns-in_default-clause-standing
returns-in_default-clause-standing c head is = absurd (no_head head (sym (ap (option_map plain_head) c.in_default.is) ∙ c.head_of.ensures ∙ is))

pub returns-in_default-output-clause-standing : goal.returns-in_default-output-clause-standing
returns-in_default-output-clause-standing c head is = one_head (items_of c.args.context.now) (plain_head c.in-Some.head) head _ (sym (ap (option_map plain_head) c.in-Some.is) ∙ c.head_of.ensures ∙ is) c.standing_of-standing.ensures

pub returns-clause-standing : goal.returns-clause-standing
returns-clause-standing c head is = one_head (items_of c.args.context.now) (plain_head c.in-Some.head) head _ (sym (ap (option_map plain_head) c.in-Some.is) ∙ c.head_of.ensures ∙ is) c.standing_of-standing.ensures

pub returns-in_default-output-clause-noted : goal.returns-in_default-output-clause-noted
returns-in_default-output-clause-noted c h =
    let items = items_of c.args.context.now in
    let before = before_of c.args.context.now in
    let head = plain_head c.in-Some.head in
    let two = same (ap (λ b. fails_if (not b) UnknownName head.input.place) (c.is_some-known.ensures ∙ input_known items head c.standing_of-standing.result c.standing_of-standing.ensures)) (c.note_if-2.ensures h) in
    let one = same (ap (λ b. fails_if b DuplicateName head.name.place) c.has_item_before-again.ensures) (c.note_if.ensures two.had) in
    let type = type_name_failures items head.input in
    let none : None ≡ head.output = ap (option_map (λ n. plain_name n.now)) (sym c.in_default-output.is) in
    same (ap (λ o. option_map_or (head_failures items before) o []) (sym (ap (option_map plain_head) c.in-Some.is) ∙ c.head_of.ensures))
    (next one (same (sym (ends type) ∙ ap (λ (o : Option Name). type ++ into_failures items before o) none) two))

pub returns-clause-noted : goal.returns-clause-noted
returns-clause-noted c h =
    let items = items_of c.args.context.now in
    let before = before_of c.args.context.now in
    let head = plain_head c.in-Some.head in
    let by = c.standing_of-standing.ensures in
    let s = c.standing_of-standing.result in
    let name = plain_name c.in-Some-output.output.now in
    let some : head.output ≡ Some name = ap (option_map (λ n. plain_name n.now)) c.in-Some-output.is in
    let last = same (ap (λ b. fails_if (not b) UnknownName name.place) (c.is_some-known-2.ensures ∙ output_known items head s name by some)) (c.note_if-3.ensures h) in
    let two = same (ap (λ b. fails_if (not b) UnknownName head.input.place) (c.is_some-known.ensures ∙ input_known items head s by)) (c.note_if-2.ensures last.had) in
    let one = same (ap (λ b. fails_if b DuplicateName head.name.place) c.has_item_before-again.ensures) (c.note_if.ensures two.had) in
    same (ap (λ o. option_map_or (head_failures items before) o []) (sym (ap (option_map plain_head) c.in-Some.is) ∙ c.head_of.ensures))
    (next one (next two (same (ap (into_failures items before) (sym some)) last)))
