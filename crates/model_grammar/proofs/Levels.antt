-- What is spelled at a level is spelled at each looser one.
use Rattle.std.proofs.Common.{refl, ◌≡◌, true, List, [], ◌++◌, subst, append-nil}
use Rattle.model_program.specs.Lexeme.{Lexeme}
use Rattle.model_grammar.specs.declared.Chain.{Chain}
use Rattle.model_grammar.specs.declared.Chain.TheVariants as kind
use Rattle.model_grammar.specs.declared.Level.{Level}
use Rattle.model_grammar.specs.declared.Level.TheVariants.{E, Conj, Neg, Cmp, Sum, Prod, Unary, Prim}
use Rattle.model_grammar.specs.Syntax.{Expr}
use Rattle.model_grammar.specs.Printed.{chain_level, fits}
use Rattle.model_grammar.specs.Expressions.{IsExpr, disjunction, conjunction, not_negated, not_compared, sum, product, no_minus, AreMore, no_more, operand, chain_of}

-- an operand with more of them behind it
pub chained : (k : Chain) (first : Expr) (more : List (Lexeme × Expr)) (front back : List Lexeme) → IsExpr (operand k) first front → AreMore k more back → IsExpr (chain_level k) (chain_of k first more) (front ++ back)
chained kind.Disjunction first more front back is are = disjunction first more front back is are
chained kind.Conjunction first more front back is are = conjunction first more front back is are
chained kind.Sum first more front back is are = sum first more front back is are
chained kind.Product first more front back is are = product first more front back is are

-- an operand alone
pub alone : (k : Chain) (e : Expr) (tokens : List Lexeme) → IsExpr (operand k) e tokens → IsExpr (chain_level k) e tokens
alone k e tokens is = subst (λ (l : List Lexeme). IsExpr (chain_level k) e l) (append-nil tokens) (chained k e [] tokens [] is (no_more k))

-- the next tighter level
abbrev pub tighter : Level → Level
tighter E = Conj
tighter Conj = Neg
tighter Neg = Cmp
tighter Cmp = Sum
tighter Sum = Prod
tighter Prod = Unary
tighter Unary = Prim
tighter Prim = Prim

pub step : (l : Level) (e : Expr) (tokens : List Lexeme) → IsExpr (tighter l) e tokens → IsExpr l e tokens
step E e tokens is = alone kind.Disjunction e tokens is
step Conj e tokens is = alone kind.Conjunction e tokens is
step Neg e tokens is = not_negated e tokens is
step Cmp e tokens is = not_compared e tokens is
step Sum e tokens is = alone kind.Sum e tokens is
step Prod e tokens is = alone kind.Product e tokens is
step Unary e tokens is = no_minus e tokens is
step Prim e tokens is = is

-- what stands at a level stands at each looser one
pub loosen : (level own : Level) (e : Expr) (tokens : List Lexeme) → fits level own ≡ true → IsExpr own e tokens → IsExpr level e tokens
loosen E E e tokens fitting is = is
loosen E Conj e tokens fitting is = step E e tokens is
loosen E Neg e tokens fitting is = step E e tokens (step Conj e tokens is)
loosen E Cmp e tokens fitting is = step E e tokens (step Conj e tokens (step Neg e tokens is))
loosen E Sum e tokens fitting is = step E e tokens (step Conj e tokens (step Neg e tokens (step Cmp e tokens is)))
loosen E Prod e tokens fitting is = step E e tokens (step Conj e tokens (step Neg e tokens (step Cmp e tokens (step Sum e tokens is))))
loosen E Unary e tokens fitting is = step E e tokens (step Conj e tokens (step Neg e tokens (step Cmp e tokens (step Sum e tokens (step Prod e tokens is)))))
loosen E Prim e tokens fitting is = step E e tokens (step Conj e tokens (step Neg e tokens (step Cmp e tokens (step Sum e tokens (step Prod e tokens (step Unary e tokens is))))))
loosen Conj Conj e tokens fitting is = is
loosen Conj Neg e tokens fitting is = step Conj e tokens is
loosen Conj Cmp e tokens fitting is = step Conj e tokens (step Neg e tokens is)
loosen Conj Sum e tokens fitting is = step Conj e tokens (step Neg e tokens (step Cmp e tokens is))
loosen Conj Prod e tokens fitting is = step Conj e tokens (step Neg e tokens (step Cmp e tokens (step Sum e tokens is)))
loosen Conj Unary e tokens fitting is = step Conj e tokens (step Neg e tokens (step Cmp e tokens (step Sum e tokens (step Prod e tokens is))))
loosen Conj Prim e tokens fitting is = step Conj e tokens (step Neg e tokens (step Cmp e tokens (step Sum e tokens (step Prod e tokens (step Unary e tokens is)))))
loosen Neg Neg e tokens fitting is = is
loosen Neg Cmp e tokens fitting is = step Neg e tokens is
loosen Neg Sum e tokens fitting is = step Neg e tokens (step Cmp e tokens is)
loosen Neg Prod e tokens fitting is = step Neg e tokens (step Cmp e tokens (step Sum e tokens is))
loosen Neg Unary e tokens fitting is = step Neg e tokens (step Cmp e tokens (step Sum e tokens (step Prod e tokens is)))
loosen Neg Prim e tokens fitting is = step Neg e tokens (step Cmp e tokens (step Sum e tokens (step Prod e tokens (step Unary e tokens is))))
loosen Cmp Cmp e tokens fitting is = is
loosen Cmp Sum e tokens fitting is = step Cmp e tokens is
loosen Cmp Prod e tokens fitting is = step Cmp e tokens (step Sum e tokens is)
loosen Cmp Unary e tokens fitting is = step Cmp e tokens (step Sum e tokens (step Prod e tokens is))
loosen Cmp Prim e tokens fitting is = step Cmp e tokens (step Sum e tokens (step Prod e tokens (step Unary e tokens is)))
loosen Sum Sum e tokens fitting is = is
loosen Sum Prod e tokens fitting is = step Sum e tokens is
loosen Sum Unary e tokens fitting is = step Sum e tokens (step Prod e tokens is)
loosen Sum Prim e tokens fitting is = step Sum e tokens (step Prod e tokens (step Unary e tokens is))
loosen Prod Prod e tokens fitting is = is
loosen Prod Unary e tokens fitting is = step Prod e tokens is
loosen Prod Prim e tokens fitting is = step Prod e tokens (step Unary e tokens is)
loosen Unary Unary e tokens fitting is = is
loosen Unary Prim e tokens fitting is = step Unary e tokens is
loosen Prim Prim e tokens fitting is = is
loosen level own e tokens fitting is = absurd (cc)

-- a primary expression stands at each level
pub primary : (level : Level) (e : Expr) (tokens : List Lexeme) → IsExpr Prim e tokens → IsExpr level e tokens
primary E e tokens is = loosen E Prim e tokens refl is
primary Conj e tokens is = loosen Conj Prim e tokens refl is
primary Neg e tokens is = loosen Neg Prim e tokens refl is
primary Cmp e tokens is = loosen Cmp Prim e tokens refl is
primary Sum e tokens is = loosen Sum Prim e tokens refl is
primary Prod e tokens is = loosen Prod Prim e tokens refl is
primary Unary e tokens is = loosen Unary Prim e tokens refl is
primary Prim e tokens is = loosen Prim Prim e tokens refl is

-- and each expression at the loosest one
pub loosest : (own : Level) (e : Expr) (tokens : List Lexeme) → IsExpr own e tokens → IsExpr E e tokens
loosest E e tokens is = loosen E E e tokens refl is
loosest Conj e tokens is = loosen E Conj e tokens refl is
loosest Neg e tokens is = loosen E Neg e tokens refl is
loosest Cmp e tokens is = loosen E Cmp e tokens refl is
loosest Sum e tokens is = loosen E Sum e tokens refl is
loosest Prod e tokens is = loosen E Prod e tokens refl is
loosest Unary e tokens is = loosen E Unary e tokens refl is
loosest Prim e tokens is = loosen E Prim e tokens refl is
