-- Conditions beside the rules.
use Rattle.std.proofs.Common.{◌≡◌, List, [], ◌∷◌, ◌++◌, refl, sym, ap, ◌∙◌, subst, inl, inr}
use Rattle.std.specs.Str.Parse.{digits_value}
use Rattle.model_program.specs.declared.Word.{Word}
use Rattle.model_program.specs.declared.Word.TheVariants.{Comma, Minus, Number, RoundOpen, Id, Quoted, True, False}
use Rattle.model_program.specs.Lexeme.{Lexeme}
use Rattle.model_program.specs.Joined.{IsOther}
use Rattle.model_grammar.specs.declared.Level.TheVariants.{Unary, Prim}
use Rattle.model_grammar.specs.Syntax.{Expr, number}
use Rattle.model_grammar.specs.Expressions.{IsExpr, IsE, negative_number, minus_of, no_minus, field_name, constant_number, constant_text, constant_true, constant_false, brackets, many_before, remainder_before, compared_before, negative}
use Rattle.model_grammar.specs.Terms.{IsLater}

apart : (w v : Word) → w ≡ v → (v ≡ Minus → ⊥) → w ≡ Minus → ⊥
apart w v same other is = other (sym same ∙ is)

-- a primary expression doesn't begin with `-`
prim_other : (e : Expr) (tokens : List Lexeme) → IsExpr Prim e tokens → IsOther Minus tokens
prim_other e tokens (field_name t is) = apart t.word Id is (λ x. cc)
prim_other e tokens (constant_number t is is_digits) = apart t.word Number is (λ x. cc)
prim_other e tokens (constant_text t values is quoted) = apart t.word Quoted is (λ x. cc)
prim_other e tokens (constant_true t is) = apart t.word True is (λ x. cc)
prim_other e tokens (constant_false t is) = apart t.word False is (λ x. cc)
prim_other e tokens (brackets left right x inside opens closes is) = apart left.word RoundOpen opens (λ x. cc)
prim_other e tokens (many_before left op right k first second others front back opens many closes is are) = apart left.word RoundOpen opens (λ x. cc)
prim_other e tokens (remainder_before left op right a b front back opens is_op closes is_a is_b) = apart left.word RoundOpen opens (λ x. cc)
prim_other e tokens (compared_before left op right r a b front back opens is_op closes is_a is_b) = apart left.word RoundOpen opens (λ x. cc)

negative_of : (e : Expr) (tokens : List Lexeme) (sign digits : Lexeme) → tokens ≡ sign ∷ digits ∷ [] → sign.word ≡ Minus → digits.word ≡ Number → IsExpr Unary e tokens → e ≡ number sign.place (negative (digits_value 10 digits.text))
negative_of e tokens sign digits same is_minus is_number (negative_number s d m n is) =
    let one : s ≡ sign = cc in let two : d ≡ digits = cc in λ i. number (one i).place (negative (digits_value 10 (two i).text))
negative_of e tokens sign digits same is_minus is_number (minus_of s x inside m other is) =
    let rest : inside ≡ digits ∷ [] = cc in absurd (subst (IsOther Number) rest other is_number)
negative_of e tokens sign digits same is_minus is_number (no_minus x ts is) = absurd (subst (IsOther Minus) same (prim_other x ts is) is_minus)

pub minus_before : (e : Expr) (sign digits : Lexeme) → sign.word ≡ Minus → digits.word ≡ Number → IsExpr Unary e (sign ∷ digits ∷ []) → e ≡ number sign.place (negative (digits_value 10 digits.text))
minus_before e sign digits is_minus is_number is = negative_of e (sign ∷ digits ∷ []) sign digits refl is_minus is_number is

pub label_behind : (e : Expr) (sign : Lexeme) (tokens : List Lexeme) → sign.word ≡ Minus → IsLater IsE e (sign ∷ tokens) → ⊥
label_behind e sign tokens is_minus (inl s) =
    let split : sign ∷ tokens ≡ s.at_front.0 ∷ s.back = s.split ∙ ap (λ l. l ++ s.back) s.at_front.1.0 in
    let same : sign ≡ s.at_front.0 = cc in
    let comma : Minus ≡ Comma = sym is_minus ∙ ap (λ (t : Lexeme). t.word) same ∙ s.at_front.1.1 in cc
label_behind e sign tokens is_minus (inr s) = s.1 is_minus
