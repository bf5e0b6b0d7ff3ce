use Rattle.std.proofs.Common.{drop, map}
use Rattle.fast_syntax.specs.Plain.{plain_expr}
use Rattle.fast_syntax.specs.Slices.{plain_sum_parts, plain_prod_parts}
use Rattle.record_label.specs.Parts.{unmarked}
use Rattle.record_label.proofs.Pieces.{Remain}
use Rattle.record_label.proofs.written.+written.Given as goal

abbrev pub invariant-add_operands-loop-part : goal.invariant-add_operands-loop-part
invariant-add_operands-loop-part l = Remain (unmarked (map plain_expr (drop l.part-index l.parts))) (unmarked (map plain_expr l.parts)) l.fn.pieces l.pieces

abbrev pub invariant-add_summands-loop-part : goal.invariant-add_summands-loop-part
invariant-add_summands-loop-part l = Remain (plain_sum_parts (drop l.part-index l.parts)) (plain_sum_parts l.parts) l.fn.pieces l.pieces

abbrev pub invariant-add_factors-loop-part : goal.invariant-add_factors-loop-part
invariant-add_factors-loop-part l = Remain (plain_prod_parts (drop l.part-index l.parts)) (plain_prod_parts l.parts) l.fn.pieces l.pieces
