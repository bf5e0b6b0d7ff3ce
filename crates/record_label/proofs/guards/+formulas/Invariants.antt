use Rattle.std.proofs.Common.{◌≡◌, take, drop, map}
use Rattle.std.proofs.Math.IntN.{ℤ}
use Rattle.label_core.specs.Formula.{plain_formula}
use Rattle.fast_tree.specs.Signatures.{plain_signature}
use Rattle.fast_syntax.specs.Plain.{plain_expr}
use Rattle.model_guard.specs.Forms.{forms_in_all, HasOutside}
use Rattle.record_label.specs.Guards.{formula_in}
use Rattle.record_label.specs.Parts.{unmarked}
use Rattle.record_label.proofs.guards.+formulas.Given as goal

abbrev pub invariant-formulas_of-loop-part : goal.invariant-formulas_of-loop-part
invariant-formulas_of-loop-part l =
    let fields = (plain_signature l.signature).fields in
    (map plain_formula l.formulas.items ≡ map (formula_in fields) (map plain_expr (take l.part-index l.parts))) × ((n : ℤ) → HasOutside (forms_in_all fields (unmarked (map plain_expr (drop l.part-index l.parts)))) n → HasOutside (forms_in_all fields (unmarked (map plain_expr l.parts))) n)
