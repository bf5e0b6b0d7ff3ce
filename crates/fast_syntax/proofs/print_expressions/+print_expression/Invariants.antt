use Rattle.std.proofs.Common.{◌≡◌, ◌++◌, drop}
use Rattle.model_program.specs.Cuts.{texts_of}
use Rattle.model_grammar.specs.declared.Chain.TheVariants.{Sum, Product}
use Rattle.model_grammar.specs.Printed.{further}
use Rattle.fast_syntax.specs.Slices.{plain_operands, plain_sum_parts, plain_prod_parts}
use Rattle.fast_syntax.proofs.print_expressions.+print_expression.Given as goal

abbrev pub invariant-append_operands-loop-part : goal.invariant-append_operands-loop-part
invariant-append_operands-loop-part l = l.page ++ texts_of (further l.chain (plain_operands (drop l.part-index l.later))) ≡ l.initial.page ++ texts_of (further l.chain (plain_operands l.later))

abbrev pub invariant-append_sum-loop-part : goal.invariant-append_sum-loop-part
invariant-append_sum-loop-part l = l.page ++ texts_of (further Sum (plain_sum_parts (drop l.part-index l.later))) ≡ l.initial.page ++ texts_of (further Sum (plain_sum_parts l.later))

abbrev pub invariant-append_product-loop-part : goal.invariant-append_product-loop-part
invariant-append_product-loop-part l = l.page ++ texts_of (further Product (plain_prod_parts (drop l.part-index l.later))) ≡ l.initial.page ++ texts_of (further Product (plain_prod_parts l.later))
