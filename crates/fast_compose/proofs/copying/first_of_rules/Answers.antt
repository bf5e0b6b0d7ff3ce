use Rattle.std.proofs.Common.{◌≡◌, ◌<◌, ◌+◌, Some, map, length, refl, sym, ap, subst, ◌∙◌, arith}
use Rattle.std.specs.Prelude.{slice_get}
use Rattle.std.specs.Option.{option_map}
use Rattle.std.proofs.lemmas.List.{length-map}
use Rattle.std.proofs.lemmas.Option.{slice_get-map, slice_get_read, slice_get_within}
use Rattle.model_names.specs.Declared.{out_rules_of}
use Rattle.fast_syntax.specs.Plain.{plain_trans, plain_out_rule}
use Rattle.fast_build.specs.Items.{items_of}
use Rattle.fast_build.proofs.OutStands.{trans_sound}
use Rattle.fast_build.proofs.Transforming.{outs_are}
use Rattle.fast_compose.specs.Copying.{IsFirst}
use Rattle.fast_compose.proofs.First.{first_of_both, first_as, below_more}
use Rattle.fast_compose.proofs.copying.first_of_rules.Goals as goal

pub copying_at-requires : goal.copying_at-requires
copying_at-requires c =
    let items = items_of c.args.checked.now in
    let s = trans_sound items c.args.checked.now.well_formed c.args.name.now (plain_trans c.in-Some.own.now) c.in-Some.ensures in
    let long : length (map plain_out_rule c.in-Some.own.now.rules.items) ≡ length c.in-Some.own.now.rules.items = length-map c.in-Some.own.now.rules.items plain_out_rule in
    let same = ap length c.deref-rule-items.ensures.value in
    record { low = omega (arith, c.rules-test.true, same, long, s.few) }

pub rules-preserved : goal.rules-preserved
rules-preserved c =
    let items = items_of c.args.checked.now in
    let name = c.args.name.now in
    let k = c.rules.place in
    let own = c.in-Some.own.now in
    let here : slice_get c.deref-rule-items.result.now k ≡ Some c.rule-item.result = slice_get_read c.deref-rule-items.result.now _ k c.rule-item.result refl c.rules-test.true c.rule-item.is in
    let there : slice_get (out_rules_of items name) k ≡ Some (plain_out_rule c.rule-item.result) =
    ap (λ rs. slice_get rs k) (outs_are items name (plain_trans own) c.in-Some.ensures) ∙ slice_get-map plain_out_rule own.rules.items k ∙ ap (λ rs. option_map plain_out_rule (slice_get rs k)) (sym c.deref-rule-items.ensures.value) ∙ ap (option_map plain_out_rule) here in
    subst (IsFirst items (λ q i. (q ≡ name) × (i < k + 1))) (sym c.earlier-first.ensures)
    (first_of_both items (λ q i. (q ≡ name) × (i < k)) (λ q i. (q ≡ name) × (i ≡ k)) (λ q i. (q ≡ name) × (i < k + 1))
    (λ q i is. (is.0, omega (arith, is.1))) (λ q i is. (is.0, omega (arith, is.1))) (λ q i is. below_more (q ≡ name) i k is.0 is.1)
    c.rules.first c.in_ok-found.found c.rules.invariant (c.in_ok-found.ensures items there))

pub returns : goal.returns
returns c =
    let items = items_of c.args.checked.now in
    let name = c.args.name.now in
    let own = c.in-Some.own.now in
    let rules = outs_are items name (plain_trans own) c.in-Some.ensures in
    let long : length (out_rules_of items name) ≡ length c.deref-rule-items.result.now = ap length rules ∙ length-map own.rules.items plain_out_rule ∙ ap length (sym c.deref-rule-items.ensures.value) in
    first_as items (λ q i. (q ≡ name) × (i < c.rules.place)) (λ q i. q ≡ name) (λ q i is. is.0)
    (λ q i r same copies. (same, (let low = slice_get_within (out_rules_of items q) i r copies.0 in let other = ap (λ p. length (out_rules_of items p)) same in omega (arith, low, other, long, c.rules-test.false))))
    c.rules.first c.rules.invariant
