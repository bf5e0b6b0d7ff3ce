-- Words that are no operations.
use Rattle.std.proofs.Common.{◌≡◌}
use Rattle.model_program.specs.declared.Word.{Word}
use Rattle.model_program.specs.declared.Word.TheVariants as word
use Rattle.model_grammar.specs.declared.Op1.TheVariants as on_one
use Rattle.model_grammar.specs.declared.Op2.TheVariants as on_two
use Rattle.program_reader.specs.Operations.{IsNoOp1, IsNoOp2}

pub no_op1 : (w : Word) → (w ≡ word.Complement → ⊥) → (w ≡ word.Minimize → ⊥) → (w ≡ word.Domain → ⊥) → (w ≡ word.GetWitness → ⊥) → IsNoOp1 w
no_op1 w a b c d on_one.Complement is = a is
no_op1 w a b c d on_one.Minimize is = b is
no_op1 w a b c d on_one.Domain is = c is
no_op1 w a b c d on_one.GetWitness is = d is

pub no_op2 : (w : Word) → (w ≡ word.Intersect → ⊥) → (w ≡ word.Union → ⊥) → (w ≡ word.Difference → ⊥) → (w ≡ word.PreImage → ⊥) → (w ≡ word.Compose → ⊥) → (w ≡ word.Restrict → ⊥) → (w ≡ word.RestrictOut → ⊥) → (w ≡ word.Apply → ⊥) → IsNoOp2 w
no_op2 w a b c d e f g h on_two.Intersect is = a is
no_op2 w a b c d e f g h on_two.Union is = b is
no_op2 w a b c d e f g h on_two.Difference is = c is
no_op2 w a b c d e f g h on_two.PreImage is = d is
no_op2 w a b c d e f g h on_two.Compose is = e is
no_op2 w a b c d e f g h on_two.Restrict is = f is
no_op2 w a b c d e f g h on_two.RestrictOut is = g is
no_op2 w a b c d e f g h on_two.Apply is = h is
