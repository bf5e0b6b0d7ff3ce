use Rattle.std.proofs.Common.{◌≡◌, ◌≤◌, ◌+◌, ◌*◌, ◌-◌, length}
use Rattle.model_program.specs.Lexeme.{Lexeme}
use Rattle.model_grammar.specs.Printed.{rank, chain_level}
use Rattle.fast_syntax.specs.Plain.{plain_expr}
use Rattle.label_reader.specs.Results.{left}
use Rattle.label_reader.specs.Operands.{marked, kind_of}
use Rattle.label_reader.specs.Found.{IsOperator}
use Rattle.label_reader.proofs.Gathered.{IsChainAt}
use Rattle.label_reader.proofs.Further.{IsFurther}
use Rattle.label_reader.proofs.levels.+expression.Given as goal

abbrev pub decreases-read_level : goal.decreases-read_level
decreases-read_level l = 20 * length (left l.reader.now) + (2 * (7 - rank l.level) + 2)

abbrev pub decreases-read_chain : goal.decreases-read_chain
decreases-read_chain l = 20 * length (left l.reader.now) + (2 * (7 - rank (chain_level l.kind)) + 1)

abbrev pub decreases-read_negation : goal.decreases-read_negation
decreases-read_negation l = 20 * length (left l.reader.now) + 11

abbrev pub decreases-read_comparison : goal.decreases-read_comparison
decreases-read_comparison l = 20 * length (left l.reader.now) + 9

abbrev pub decreases-read_unary : goal.decreases-read_unary
decreases-read_unary l = 20 * length (left l.reader.now) + 3

abbrev pub decreases-read_primary : goal.decreases-read_primary
decreases-read_primary l = 20 * length (left l.reader.now) + 1

abbrev pub decreases-read_further : goal.decreases-read_further
decreases-read_further l = 20 * length (left l.reader.now) + 2

abbrev pub decreases-read_two : goal.decreases-read_two
decreases-read_two l = 20 * length (left l.reader.now) + 2

abbrev pub invariant-read_chain-parts : goal.invariant-read_chain-parts
invariant-read_chain-parts l = IsChainAt l.fn.kind (left l.fn.reader) (left l.reader) l.place (marked l.parts) × (kind_of l.parts ≡ l.fn.kind)

abbrev pub decreases-read_chain-parts : goal.decreases-read_chain-parts
decreases-read_chain-parts l = length (left l.reader)

abbrev pub invariant-read_further-parts : goal.invariant-read_further-parts
invariant-read_further-parts l = ((op : Lexeme) → IsOperator l.fn.kind l.fn.mark l.fn.place op.word op.place → IsFurther l.fn.kind op (plain_expr l.fn.first) (left l.fn.reader) (left l.reader) (marked l.parts)) × (kind_of l.parts ≡ l.fn.kind) × (length (left l.reader) ≤ length (left l.fn.reader))

abbrev pub decreases-read_further-parts : goal.decreases-read_further-parts
decreases-read_further-parts l = length (left l.reader)
