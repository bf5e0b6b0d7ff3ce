use Rattle.std.proofs.Common.{◌≡◌, ◌||◌, false, Some, drop}
use Rattle.std.proofs.Math.IntN.{pos}
use Rattle.std.specs.Option.{option_map}
use Rattle.fast_tree.specs.Signatures.{plain_sort}
use Rattle.model_tree.specs.Signature.{wholes, truths}
use Rattle.model_form.specs.Sums.{number_form}
use Rattle.model_checks.specs.Forms.{have_field, added, form_behind}
use Rattle.model_checks.specs.Labels.{operands_failures, steps_failures}
use Rattle.fast_syntax.specs.Slices.{plain_operands, plain_sum_parts, plain_prod_parts}
use Rattle.program_check.specs.Known.{plain_scope, plain_added, joined}
use Rattle.program_check.specs.Notes.{HasMemory, Left}
use Rattle.program_check.proofs.checker.Checker.+check_label.Given as goal

abbrev pub invariant-check_truths-parts : goal.invariant-check_truths-parts
invariant-check_truths-parts l =
    let s = plain_scope l.scope in
    record {
      noted : Left l.initial.self l.self (operands_failures s truths (plain_operands l.parts)) (operands_failures s truths (plain_operands (drop l.part-index l.parts)));
      has : HasMemory l.self → (l.has_field || have_field s (plain_operands (drop l.part-index l.parts))) ≡ have_field s (plain_operands l.parts);
    }

abbrev pub invariant-check_sum-parts : goal.invariant-check_sum-parts
invariant-check_sum-parts l =
    let s = plain_scope l.scope in
    record {
      noted : Left l.initial.self l.self (operands_failures s wholes (plain_sum_parts l.parts)) (operands_failures s wholes (plain_sum_parts (drop l.part-index l.parts)));
      has : HasMemory l.self → (l.has_field || have_field s (plain_sum_parts (drop l.part-index l.parts))) ≡ have_field s (plain_sum_parts l.parts);
      added : HasMemory l.self → joined (plain_added l.added) (added s (plain_sum_parts (drop l.part-index l.parts))) ≡ added s (plain_sum_parts l.parts);
    }

abbrev pub invariant-check_product-parts : goal.invariant-check_product-parts
invariant-check_product-parts l =
    let s = plain_scope l.scope in
    let one = Some (number_form (pos 1)) in
    record {
      sort : option_map plain_sort l.before.sort ≡ Some wholes;
      noted : Left l.fn.self l.self (steps_failures s l.place false one (plain_prod_parts l.parts)) (steps_failures s l.place l.before.has_field l.before.form (plain_prod_parts (drop l.part-index l.parts)));
      has : HasMemory l.self → (l.before.has_field || have_field s (plain_prod_parts (drop l.part-index l.parts))) ≡ have_field s (plain_prod_parts l.parts);
      form : HasMemory l.self → form_behind s l.before.has_field l.before.form (plain_prod_parts (drop l.part-index l.parts)) ≡ form_behind s false one (plain_prod_parts l.parts);
    }
