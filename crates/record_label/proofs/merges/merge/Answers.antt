use Rattle.std.proofs.Common.{◌<◌, ℕ, ℤ, Bool, List, ◌++◌, length, map, Vec, Global, rules, arith, ap, ◌∙◌}
use Rattle.std.specs.Prelude.{FitsSigned}
use Rattle.std.specs.Int.{w64}
use Rattle.std.proofs.lemmas.Int.{to_z-of_z}
use Rattle.fast_tree.specs.declared.label.Value.TheVariants.{Int}
use Rattle.model_tree.specs.Label.{row}
use Rattle.fast_tree.specs.Entries.{field_of}
use Rattle.fast_tree.specs.Signatures.{plain_sort}
use Rattle.record_label.specs.Rows.{merged}
use Rattle.record_label.proofs.Merging.{has_number, has_truth, has_text, with_number, with_truth, with_text, all_made}
use Rattle.record_label.proofs.merges.merge.Goals as goal
use Rattle.record_label.proofs.merges.merge.Goals.{in-Int, in-Bool, in-Text}

pub loop-sort-init : goal.loop-sort-init
loop-sort-init c = record {
  numbers = c.requires.numbers;
  truths = c.requires.truths;
  texts = c.requires.texts;
  fields = ap (λ vs. map field_of vs ++ merged (map plain_sort c.args.sorts.now) c.args.numbers.items c.args.truths.items c.args.texts.items) c.new-values.ensures.items;
}

pub remove-requires : goal.remove-requires
remove-requires c = let some : 0 < length c.loop-sort.numbers.items = has_number c.args.sorts.now c.loop-sort.sort-index c.loop-sort.numbers.items c.loop-sort.truths.items c.loop-sort.texts.items c.loop-sort.values.items _ c.loop-sort-test.true c.loop-sort.invariant c.in-Int.is in omega (arith, c.loop-sort.numbers.ok)

pub remove-requires-in-Bool : goal.remove-requires-in-Bool
remove-requires-in-Bool c = let some : 0 < length c.loop-sort.truths.items = has_truth c.args.sorts.now c.loop-sort.sort-index c.loop-sort.numbers.items c.loop-sort.truths.items c.loop-sort.texts.items c.loop-sort.values.items _ c.loop-sort-test.true c.loop-sort.invariant c.in-Bool.is in omega (arith, c.loop-sort.truths.ok)

pub remove-requires-in-Text : goal.remove-requires-in-Text
remove-requires-in-Text c = let some : 0 < length c.loop-sort.texts.items = has_text c.args.sorts.now c.loop-sort.sort-index c.loop-sort.numbers.items c.loop-sort.truths.items c.loop-sort.texts.items c.loop-sort.values.items _ c.loop-sort-test.true c.loop-sort.invariant c.in-Text.is in omega (arith, c.loop-sort.texts.ok)

pub loop-sort-preserved : goal.loop-sort-preserved
loop-sort-preserved c = elim c.match-sort.branch [
  | in-Int w ↦
      let fits : FitsSigned w64 w.remove.result = search rules in
      with_number c.args.sorts.now c.loop-sort.sort-index c.loop-sort.numbers.items c.loop-sort.truths.items c.loop-sort.texts.items c.loop-sort.values.items _ c.loop-sort-test.true c.loop-sort.invariant c.match-sort.value c.push.new.self.items c.in_ok-push.ensures.items c.match-sort.numbers.items c.match-sort.truths.items c.match-sort.texts.items w.in-Int.is w.remove.result w.remove.ensures.value (w.value-is ∙ ap Int (to_z-of_z w64 w.remove.result fits)) (ap (λ (v : Vec ℤ Global). v.items) w.numbers-is ∙ w.remove.ensures.items) (ap (λ (v : Vec Bool Global). v.items) w.truths-is) (ap (λ (v : Vec (List ℕ) Global). v.items) w.texts-is)
  | in-Bool w ↦
      with_truth c.args.sorts.now c.loop-sort.sort-index c.loop-sort.numbers.items c.loop-sort.truths.items c.loop-sort.texts.items c.loop-sort.values.items _ c.loop-sort-test.true c.loop-sort.invariant c.match-sort.value c.push.new.self.items c.in_ok-push.ensures.items c.match-sort.numbers.items c.match-sort.truths.items c.match-sort.texts.items w.in-Bool.is w.remove-in-Bool.result w.remove-in-Bool.ensures.value w.value-is (ap (λ (v : Vec ℤ Global). v.items) w.numbers-is) (ap (λ (v : Vec Bool Global). v.items) w.truths-is ∙ w.remove-in-Bool.ensures.items) (ap (λ (v : Vec (List ℕ) Global). v.items) w.texts-is)
  | in-Text w ↦
      with_text c.args.sorts.now c.loop-sort.sort-index c.loop-sort.numbers.items c.loop-sort.truths.items c.loop-sort.texts.items c.loop-sort.values.items _ c.loop-sort-test.true c.loop-sort.invariant c.match-sort.value c.push.new.self.items c.in_ok-push.ensures.items c.match-sort.numbers.items c.match-sort.truths.items c.match-sort.texts.items w.in-Text.is w.remove-in-Text.result w.remove-in-Text.ensures.value w.value-is (ap (λ (v : Vec ℤ Global). v.items) w.numbers-is) (ap (λ (v : Vec Bool Global). v.items) w.truths-is) (ap (λ (v : Vec (List ℕ) Global). v.items) w.texts-is ∙ w.remove-in-Text.ensures.items)
]

pub returns : goal.returns
returns c = ap (λ vs. row (map field_of vs)) c.new.ensures ∙ ap row (all_made c.args.sorts.now c.loop-sort.sort-index c.loop-sort.numbers.items c.loop-sort.truths.items c.loop-sort.texts.items c.loop-sort.values.items _ c.loop-sort.invariant c.loop-sort-test.false)
