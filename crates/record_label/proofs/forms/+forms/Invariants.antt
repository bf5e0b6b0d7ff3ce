use Rattle.std.proofs.Common.{◌≡◌, ◌++◌, drop}
use Rattle.std.proofs.Math.IntN.{ℤ, pos}
use Rattle.model_form.specs.Sums.{number_form}
use Rattle.model_guard.specs.Forms.{added, multiplied, steps, forms_in_all, HasOutside}
use Rattle.lin_form.specs.Gathered.{plain_parts}
use Rattle.fast_tree.specs.Signatures.{plain_signature}
use Rattle.fast_syntax.specs.Slices.{plain_sum_parts, plain_prod_parts}
use Rattle.record_label.proofs.forms.+forms.Given as goal

abbrev pub invariant-added-loop-part : goal.invariant-added-loop-part
invariant-added-loop-part l =
    let fields = (plain_signature l.signature).fields in
    let rest = plain_sum_parts (drop l.part-index l.parts) in
    (plain_parts l.made.items ++ added fields rest ≡ added fields (plain_sum_parts l.parts)) × ((n : ℤ) → HasOutside (forms_in_all fields rest) n → HasOutside (forms_in_all fields (plain_sum_parts l.parts)) n)

abbrev pub invariant-multiplied-loop-part : goal.invariant-multiplied-loop-part
invariant-multiplied-loop-part l =
    let fields = (plain_signature l.signature).fields in
    let rest = plain_prod_parts (drop l.part-index l.parts) in
    (multiplied fields l.form rest ≡ multiplied fields (number_form (pos 1)) (plain_prod_parts l.parts)) × ((n : ℤ) → HasOutside (forms_in_all fields rest) n → HasOutside (forms_in_all fields (plain_prod_parts l.parts)) n)
    × ((n : ℤ) → HasOutside (steps fields l.form rest) n → HasOutside (steps fields (number_form (pos 1)) (plain_prod_parts l.parts)) n)
