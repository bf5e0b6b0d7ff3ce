use Rattle.std.proofs.Common.{◌≡◌, ◌+◌, ◌∷◌, ◌++◌, drop, map, refl, ap, sym, subst, ◌∙◌, append-nil, rules, arith}
use Rattle.std.proofs.lemmas.Bool.{and_from}
use Rattle.std.specs.List.{list_all}
use Rattle.model_tree.specs.Scalars.{is_of_scalars}
use Rattle.fast_tree.proofs.Scalars.{values_have, value_more}
use Rattle.std.proofs.lemmas.List.{drop_all}
use Rattle.std.specs.Str.{encode_utf8_all}
use Rattle.model_tree.specs.Printed.{printed_field}
use Rattle.fast_tree.specs.Entries.{entries_of, field_of}
use Rattle.fast_tree.proofs.Printing.{drop_at, later_fields, fields_more, fields_begin}
use Rattle.fast_tree.proofs.print.append_label.Goals as goal

pub loop-value-init : goal.loop-value-init
loop-value-init c = (refl, λ have. have)

pub loop-value-preserved : goal.loop-value-preserved
loop-value-preserved c =
    let i = c.loop-value.value-index in
    let later = c.in-Some.later.now in
    let first = drop_at later i c.value-item.result (omega arith) c.value-item.is in
    let written = c.in_ok-append_value-2.ensures.text ∙ ap (λ xs. xs ++ encode_utf8_all (printed_field (field_of c.value-item.result))) c.in_ok-extend_from_slice.ensures.items in (
      ap (λ xs. xs ++ encode_utf8_all (later_fields (drop (i + 1) later))) written ∙ fields_more c.loop-value.out.items c.value-item.result (drop (i + 1) later) ∙ ap (λ vs. c.loop-value.out.items ++ encode_utf8_all (later_fields vs)) (sym first) ∙ c.loop-value.invariant.0,
      value_more later (drop i later) c.value-item.result (drop (i + 1) later) first c.in_ok-append_value-2.ensures.scalars c.loop-value.invariant.1,
    )

pub returns-after-loop-value : goal.returns-after-loop-value
returns-after-loop-value c =
    let values : entries_of c.args.label.now ≡ c.in-Some.first.now ∷ c.in-Some.later.now = search rules in
    let none = drop_all c.loop-value.value-index c.in-Some.later.now c.loop-value-test.false in
    let all = fields_begin c.args.out.now.items c.in-Some.first.now c.in-Some.later.now (entries_of c.args.label.now) values in
    let have = c.loop-value.invariant.1 (subst values_have (sym none) refl) in
    record {
      text = sym (append-nil c.loop-value.out.items) ∙ ap (λ vs. c.loop-value.out.items ++ encode_utf8_all (later_fields vs)) (sym none) ∙ c.loop-value.invariant.0 ∙ ap (λ xs. xs ++ encode_utf8_all (later_fields c.in-Some.later.now)) c.in_ok-append_value.ensures.text ∙ all;
      scalars = subst values_have (sym values) (and_from (is_of_scalars (field_of c.in-Some.first.now)) (list_all is_of_scalars (map field_of c.in-Some.later.now)) c.in_ok-append_value.ensures.scalars have);
    }
