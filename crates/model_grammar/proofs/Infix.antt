-- An operator before its operands spells what it spells between them.
use Rattle.std.proofs.Common.{◌≡◌, List, [], ◌∷◌, ◌++◌, subst, append-nil}
use Rattle.model_program.specs.declared.Word.TheVariants.{RoundOpen, RoundClose}
use Rattle.model_program.specs.Lexeme.{Lexeme}
use Rattle.model_grammar.specs.declared.Chain.{Chain}
use Rattle.model_grammar.specs.declared.Level.TheVariants.{E, Prim}
use Rattle.model_grammar.specs.Syntax.{Expr}
use Rattle.model_grammar.specs.Printed.{chain_level}
use Rattle.model_grammar.specs.Operators.{IsMany}
use Rattle.model_grammar.specs.Expressions.{IsExpr, IsE, no_more, one_more, no_prims, prims, many_before, operand, chain_of}
use Rattle.model_grammar.proofs.WrittenExpressions.{many_signs}
use Rattle.model_grammar.proofs.Levels.{chained, primary, loosest}

pub prefixed : (k : Chain) (left op right : Lexeme) (a b : Expr) (front back : List Lexeme) → left.word ≡ RoundOpen → right.word ≡ RoundClose → IsMany k op.word → IsExpr Prim a front → IsExpr Prim b back
    → IsE (chain_of k a ((op, b) ∷ [])) (left ∷ op ∷ front ++ (back ++ right ∷ [])) × IsE (chain_of k a ((op, b) ∷ [])) (front ++ op ∷ back)
prefixed k left op right a b front back opens closes many is_a is_b = (
  primary E _ _ (subst (λ (l : List Lexeme). IsExpr Prim (chain_of k a ((op, b) ∷ [])) (left ∷ op ∷ front ++ (l ++ right ∷ []))) (append-nil back) (many_before left op right k a b [] front (back ++ []) opens many closes is_a (prims b [] back [] is_b no_prims))),
  loosest (chain_level k) _ _ (subst (λ (l : List Lexeme). IsExpr (chain_level k) (chain_of k a ((op, b) ∷ [])) (front ++ op ∷ l)) (append-nil back) (chained k a ((op, b) ∷ []) front (op ∷ back ++ []) (primary (operand k) a front is_a) (one_more k op b [] back [] (many_signs k op.word many) (primary (operand k) b back is_b) (no_more k)))),
)
