use Rattle.std.proofs.Common.{◌≡◌, ◌∙◌, ◌<◌, ◌≤◌, [], List, Option, sym, ap, subst, map, append_assoc, length, get_or, rules}
use Rattle.std.specs.Int.{w128}
use Rattle.std.proofs.lemmas.Int.{to_z-of_z}
use Rattle.std.proofs.lemmas.List.{drop_all}
use Rattle.std.specs.Prelude.{not, is_some, FitsSigned}
use Rattle.std.specs.List.{flat_map}
use Rattle.fast_syntax.specs.View.{plain_name, plain_field, plain_ctor, plain_type}
use Rattle.model_checks.specs.Failures.{failure, fails_if}
use Rattle.model_checks.specs.Types.{repeated, field_limit, has_leaf, is_rank_in_range, field_failures, ctor_failures}
use Rattle.program_check.proofs.Noting.{next, same, as_same, nothing, more, done, one_of, some_mapped}
use Rattle.std.proofs.lemmas.Simd.{map-map}
use Rattle.fast_fault.specs.declared.code.Code.TheVariants.{DuplicateName, DuplicateType, NoLeaf, TooMany, UnknownName}
use Rattle.model_program.specs.Syntax as plain
use Rattle.std.specs.Option.{option_map_or}
use Rattle.model_tree.specs.Limits.{most_fields}
use Rattle.fast_syntax.specs.declared.FieldItem.{FieldItem}
use Rattle.fast_syntax.specs.declared.CtorItem.{CtorItem}
use Rattle.fast_tree.specs.Signatures.{plain_sort}
use Rattle.program_check.specs.declared.checker.Checker.{Checker}
use Rattle.program_check.specs.Notes.{Notes}
use Rattle.program_check.specs.Contexts.{items_of}
use Rattle.program_check.specs.Numbered.{is_below}
use Rattle.program_check.proofs.Found.{there_by, past_by, type_before}
use Rattle.program_check.proofs.checker.Checker.check_type.Goals as goal
use Rattle.program_check.proofs.checker.Checker.check_type.Goals.{then-fields-gt-MOST_FIELDS, else-fields-gt-MOST_FIELDS}

pub fields-preserved : goal.fields-preserved
fields-preserved c h =
    let one = as_same (ap (λ b. fails_if (not b) UnknownName c.field-item.result.sort.place) (c.is_some-known.ensures ∙ some_mapped plain_sort c.sort_named.result ∙ ap is_some c.sort_named.ensures)) c.note_if-in-fields.ensures h in
    more _ one (one_of field_failures plain_field c.deref-fields.result.now c.fields.field-index c.field-item.result c.fields-test.true c.field-item.is) (c.fields.invariant one.had)

pub ctors-preserved : goal.ctors-preserved
ctors-preserved c h =
    let x = c.ctor-item.result in
    let fits : FitsSigned w128 x.rank = search rules in
    let one = as_same (ap (λ b. fails_if (not b) TooMany x.name.place) (c.is_rank_in_range-within.ensures ∙ ap is_rank_in_range (to_z-of_z w128 x.rank fits))) c.note_if-in-ctors.ensures h in
    let at = subst (λ (xs : List CtorItem). x ≡ get_or xs c.ctors.ctor-index x) c.deref-ctor-items.ensures.value c.ctor-item.is in
    let low = subst (λ (xs : List CtorItem). c.ctors.ctor-index < length xs) c.deref-ctor-items.ensures.value c.ctors-test.true in
    more _ one (one_of ctor_failures plain_ctor c.args.item.now.ctors.items c.ctors.ctor-index x low at) (c.ctors.invariant one.had)

pub returns : goal.returns
returns c h =
    let own = c.args.item.now.fields.items in
    let item = plain_type c.args.item.now in
    let before = c.fields.self in
    let at = λ (o : Option plain.FieldItem). option_map_or (λ (f : plain.FieldItem). failure TooMany f.name.place) o [] in
    let limit : Notes before c.if-fields-gt-MOST_FIELDS.self (field_limit (map plain_field c.deref-fields.result.now)) = elim c.if-fields-gt-MOST_FIELDS.branch [
      | then-fields-gt-MOST_FIELDS w ↦ subst (λ (x : Checker). Notes before x (field_limit (map plain_field c.deref-fields.result.now))) (sym w.self-is)
          (as_same (ap at (there_by plain_field c.deref-fields.result.now most_fields w.index-fields-8.result w.if-fields-gt-MOST_FIELDS.true w.index-fields-8.is)) (as_same (ap (λ (f : FieldItem). failure TooMany f.name.place) (sym w.index-fields-8.is)) w.note.ensures))
      | else-fields-gt-MOST_FIELDS w ↦ subst (λ (x : Checker). Notes before x (field_limit (map plain_field c.deref-fields.result.now))) (sym w.self-is)
          (as_same (ap at (past_by plain_field c.deref-fields.result.now most_fields w.if-fields-gt-MOST_FIELDS.false)) (nothing before))
    ] in
    let end = subst (λ (xs : List CtorItem). length xs ≤ c.ctors.ctor-index) c.deref-ctor-items.ensures.value c.ctors-test.false in
    let five = done (ap (λ xs. flat_map ctor_failures (map plain_ctor xs)) (drop_all c.ctors.ctor-index c.args.item.now.ctors.items end)) (c.ctors.invariant h) in
    let four = c.check_ctors.ensures five.had in
    let few = limit four.had in
    let three = same (ap (λ xs. field_limit (map plain_field xs)) c.deref-fields.ensures.value) few in
    let sorts = done (ap (λ xs. flat_map field_failures (map plain_field xs)) (drop_all c.fields.field-index c.deref-fields.result.now c.fields-test.false)) (c.fields.invariant few.had) in
    let two = same (ap (λ xs. flat_map field_failures (map plain_field xs)) c.deref-fields.ensures.value) sorts in
    let fields = same (ap (repeated DuplicateName) (ap (map (λ f. plain_name f.name)) c.deref-fields.ensures.value ∙ sym (map-map (λ (f : plain.FieldItem). f.name) plain_field own))) (c.check_repeated.ensures.noted two.had) in
    let again = c.note_if.ensures (c.check_repeated.ensures.noted two.had).had in
    next (same (ap (λ b. fails_if b DuplicateType item.name.place) (c.is_before-again.ensures ∙ ap (λ o. is_below o c.args.context.now.before) (c.args.context.now.numbered.types item.name.text) ∙ type_before item.name.text (items_of c.args.context.now) c.args.context.now.before)) again)
    (next fields (next two (next three (same (append_assoc (repeated DuplicateName (map (λ c. c.name) item.ctors)) (fails_if (not (has_leaf item.ctors)) NoLeaf item.name.place) (flat_map ctor_failures item.ctors)) (next four five)))))
