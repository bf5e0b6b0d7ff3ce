use Rattle.std.proofs.Common.{◌≡◌, drop, []}
use Rattle.model_chain.specs.Literals.{seen_in}
use Rattle.lin_solve.specs.Plain.{plain_known, plain_literals, ArePositive}
use Rattle.lin_solve.proofs.numbering.remainders_of.Given as goal

abbrev pub invariant-loop-literal : goal.invariant-loop-literal
invariant-loop-literal l = record {
  known : seen_in (plain_literals (drop l.literal-index l.literals)) (plain_known l.known.items) ≡ seen_in (plain_literals l.literals) [];
  positive : ArePositive l.known.items;
}
