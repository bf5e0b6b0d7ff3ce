-- Parentheses stand only where they are needed.
use Rattle.std.proofs.Common.{◌≡◌, true, List, [], ◌∷◌, ◌++◌, refl, sym, subst, ◌⊎◌, inl, inr}
use Rattle.model_program.specs.declared.Word.TheVariants.{RoundOpen}
use Rattle.model_program.specs.Lexeme.{Lexeme}
use Rattle.model_program.specs.Joined.{IsNext}
use Rattle.model_grammar.specs.declared.Chain.{Chain}
use Rattle.model_grammar.specs.declared.Chain.TheVariants as kind
use Rattle.model_grammar.specs.declared.Level.{Level}
use Rattle.model_grammar.specs.declared.Level.TheVariants.{Conj, Neg, Cmp, Sum, Prod, Unary, Prim}
use Rattle.model_grammar.specs.Syntax.{Expr}
use Rattle.model_grammar.specs.Expressions.{IsExpr, disjunction, conjunction, negated, not_negated, compared, not_compared, sum, product, negative_number, minus_of, no_minus, field_name, constant_number, constant_text, constant_true, constant_false, brackets, many_before, remainder_before, compared_before, operand, chain_of}
use Rattle.model_grammar.specs.Printed.{own_level, chain_level, fits}
use Rattle.model_grammar.proofs.Levels.{tighter}
use Rattle.grammar_laws.proofs.KeepsExpressions.{step_fits, operand_step, chain_fits, negative_fits}

-- it stands at the level by itself, or the tokens begin with a parenthesis
abbrev pub StandsOrOpens : Level → Expr → List Lexeme → Type 0
StandsOrOpens l e tokens = (fits l (own_level e) ≡ true) ⊎ IsNext RoundOpen tokens

opens_longer : (a b : List Lexeme) → IsNext RoundOpen a → IsNext RoundOpen (a ++ b)
opens_longer [] b opens = absurd opens
opens_longer (t ∷ a) b opens = opens

step_stands : (l : Level) (e : Expr) (tokens : List Lexeme) → StandsOrOpens (tighter l) e tokens → StandsOrOpens l e tokens
step_stands l e tokens (inl is) = inl (step_fits l (own_level e) is)
step_stands l e tokens (inr opens) = inr opens

chain_stands : (k : Chain) (first : Expr) (more : List (Lexeme × Expr)) (front back : List Lexeme) → StandsOrOpens (operand k) first front → StandsOrOpens (chain_level k) (chain_of k first more) (front ++ back)
chain_stands k first [] front back (inl is) = inl (step_fits (chain_level k) (own_level first) (subst (λ (l : Level). fits l (own_level first) ≡ true) (sym (operand_step k)) is))
chain_stands k first [] front back (inr opens) = inr (opens_longer front back opens)
chain_stands k first ((sign, e) ∷ more) front back stands = inl (chain_fits k)

pub stands_or_opens : (l : Level) (e : Expr) (tokens : List Lexeme) → IsExpr l e tokens → StandsOrOpens l e tokens
stands_or_opens l e tokens (disjunction first more front back is are) = chain_stands kind.Disjunction first more front back (stands_or_opens Conj first front is)
stands_or_opens l e tokens (conjunction first more front back is are) = chain_stands kind.Conjunction first more front back (stands_or_opens Neg first front is)
stands_or_opens l e tokens (negated t x inside not is) = inl refl
stands_or_opens l e tokens (not_negated x ts is) = step_stands Neg x ts (stands_or_opens Cmp x ts is)
stands_or_opens l e tokens (compared sign r a b front back is_sign is_a is_b) = inl refl
stands_or_opens l e tokens (not_compared x ts is) = step_stands Cmp x ts (stands_or_opens Sum x ts is)
stands_or_opens l e tokens (sum first more front back is are) = chain_stands kind.Sum first more front back (stands_or_opens Prod first front is)
stands_or_opens l e tokens (product first more front back is are) = chain_stands kind.Product first more front back (stands_or_opens Unary first front is)
stands_or_opens l e tokens (negative_number sign digits is_minus is_number is_digits) = inl (negative_fits sign.place _)
stands_or_opens l e tokens (minus_of sign x inside is_minus other is) = inl refl
stands_or_opens l e tokens (no_minus x ts is) = step_stands Unary x ts (stands_or_opens Prim x ts is)
stands_or_opens l e tokens (field_name t is) = inl refl
stands_or_opens l e tokens (constant_number t is is_digits) = inl refl
stands_or_opens l e tokens (constant_text t values is quoted) = inl refl
stands_or_opens l e tokens (constant_true t is) = inl refl
stands_or_opens l e tokens (constant_false t is) = inl refl
stands_or_opens l e tokens (brackets left right x inside opens closes is) = inr opens
stands_or_opens l e tokens (many_before left op right k first second others front back opens many closes is are) = inr opens
stands_or_opens l e tokens (remainder_before left op right a b front back opens is_op closes is_a is_b) = inr opens
stands_or_opens l e tokens (compared_before left op right r a b front back opens is_op closes is_a is_b) = inr opens
