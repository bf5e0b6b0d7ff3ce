-- Which lists of tokens spell a label expression, from the loosest level to the tightest.
use Rattle.std.specs.Prelude.{◌≡◌, ℕ, ℤ, pos, negsuc, zero, suc, true, false, List, [], ◌∷◌, ◌++◌, map}
use Rattle.std.specs.Str.Parse.{digits_value}
use Rattle.model_program.specs.declared.Word.TheVariants.{Not, True, False, Id, Number, Quoted, RoundOpen, RoundClose, Minus, Percent}
use Rattle.model_program.specs.Lexeme.{Lexeme}
use Rattle.model_program.specs.Quotes.{IsQuoted}
use Rattle.model_program.specs.Joined.{IsOther}
use Rattle.model_program.specs.Grammar.{IsDigits}
use Rattle.model_grammar.specs.declared.Rel.{Rel}
use Rattle.model_grammar.specs.declared.Chain.{Chain}
use Rattle.model_grammar.specs.declared.Chain.TheVariants.{Disjunction, Conjunction, Product}
use Rattle.model_grammar.specs.declared.Chain.TheVariants as kind
use Rattle.model_grammar.specs.declared.Level.{Level}
use Rattle.model_grammar.specs.declared.Level.TheVariants.{E, Conj, Neg, Cmp, Sum, Prod, Unary, Prim}
use Rattle.model_grammar.specs.Syntax.{Expr, field, number, text, truth, negation, compare, minus, chain, Parts, no_parts, part}
use Rattle.model_grammar.specs.Operators.{rel_word, is_marking, IsSignOf, IsMany}

-- the level of the operands of a chain
abbrev pub operand : Chain → Level
operand Disjunction = Conj
operand Conjunction = Neg
operand kind.Sum = Prod
operand Product = Unary

-- signs, each with the operand behind it
abbrev pub parts_of : List (Lexeme × Expr) → Parts
parts_of [] = no_parts
parts_of ((sign, e) ∷ more) = part (is_marking sign.word) e (parts_of more)

-- one operand stands for itself; more of them are a chain, placed at its first sign
abbrev pub chain_of : Chain → Expr → List (Lexeme × Expr) → Expr
chain_of kind first [] = first
chain_of kind first ((sign, e) ∷ more) = chain kind sign.place (part false first (parts_of ((sign, e) ∷ more)))

-- a number with `-` before it
abbrev pub negative : ℕ → ℤ
negative zero = pos 0
negative (suc n) = negsuc n

mutual
  pub data IsExpr : Level → Expr → List Lexeme → Type 0 where
    -- E ::= Conj (or Conj)*
    disjunction : (first : Expr) (more : List (Lexeme × Expr)) (front back : List Lexeme) → IsExpr Conj first front → AreMore Disjunction more back → IsExpr E (chain_of Disjunction first more) (front ++ back)
    -- Conj ::= Neg (and Neg)*
    conjunction : (first : Expr) (more : List (Lexeme × Expr)) (front back : List Lexeme) → IsExpr Neg first front → AreMore Conjunction more back → IsExpr Conj (chain_of Conjunction first more) (front ++ back)
    -- Neg ::= not Cmp | Cmp
    negated : (t : Lexeme) (e : Expr) (inside : List Lexeme) → t.word ≡ Not → IsExpr Cmp e inside → IsExpr Neg (negation t.place e) (t ∷ inside)
    not_negated : (e : Expr) (tokens : List Lexeme) → IsExpr Cmp e tokens → IsExpr Neg e tokens
    -- Cmp ::= Sum | Sum Rel Sum
    compared : (sign : Lexeme) (rel : Rel) (a b : Expr) (front back : List Lexeme) → sign.word ≡ rel_word rel → IsExpr Sum a front → IsExpr Sum b back → IsExpr Cmp (compare sign.place rel a b) (front ++ sign ∷ back)
    not_compared : (e : Expr) (tokens : List Lexeme) → IsExpr Sum e tokens → IsExpr Cmp e tokens
    -- Sum ::= Prod ((+ or -) Prod)*
    sum : (first : Expr) (more : List (Lexeme × Expr)) (front back : List Lexeme) → IsExpr Prod first front → AreMore kind.Sum more back → IsExpr Sum (chain_of kind.Sum first more) (front ++ back)
    -- Prod ::= Unary ((* or %) Unary)*
    product : (first : Expr) (more : List (Lexeme × Expr)) (front back : List Lexeme) → IsExpr Unary first front → AreMore Product more back → IsExpr Prod (chain_of Product first more) (front ++ back)
    -- Unary ::= - NUMBER | - Prim | Prim, where the Prim behind `-` isn't a NUMBER
    negative_number : (sign digits : Lexeme) → sign.word ≡ Minus → digits.word ≡ Number → IsDigits digits.text → IsExpr Unary (number sign.place (negative (digits_value 10 digits.text))) (sign ∷ digits ∷ [])
    minus_of : (sign : Lexeme) (e : Expr) (inside : List Lexeme) → sign.word ≡ Minus → IsOther Number inside → IsExpr Prim e inside → IsExpr Unary (minus sign.place e) (sign ∷ inside)
    no_minus : (e : Expr) (tokens : List Lexeme) → IsExpr Prim e tokens → IsExpr Unary e tokens
    -- Prim ::= ID | NUMBER | STRING | true | false
    field_name : (t : Lexeme) → t.word ≡ Id → IsExpr Prim (field t.place t.text) (t ∷ [])
    constant_number : (t : Lexeme) → t.word ≡ Number → IsDigits t.text → IsExpr Prim (number t.place (pos (digits_value 10 t.text))) (t ∷ [])
    constant_text : (t : Lexeme) (values : List ℕ) → t.word ≡ Quoted → IsQuoted t.text values → IsExpr Prim (text t.place values) (t ∷ [])
    constant_true : (t : Lexeme) → t.word ≡ True → IsExpr Prim (truth t.place true) (t ∷ [])
    constant_false : (t : Lexeme) → t.word ≡ False → IsExpr Prim (truth t.place false) (t ∷ [])
    -- | ( E )
    brackets : (left right : Lexeme) (e : Expr) (inside : List Lexeme) → left.word ≡ RoundOpen → right.word ≡ RoundClose → IsExpr E e inside → IsExpr Prim e (left ∷ inside ++ right ∷ [])
    -- | ( Many Prim Prim+ ), the same expression as its infix form from the left
    many_before : (left op right : Lexeme) (kind : Chain) (first second : Expr) (others : List Expr) (front back : List Lexeme) → left.word ≡ RoundOpen → IsMany kind op.word → right.word ≡ RoundClose → IsExpr Prim first front → ArePrims (second ∷ others) back → IsExpr Prim (chain_of kind first (map (λ e. (op, e)) (second ∷ others))) (left ∷ op ∷ front ++ (back ++ right ∷ []))
    -- | ( Two Prim Prim ), where Two ::= %, =, !=, <, <=, >, >=
    remainder_before : (left op right : Lexeme) (a b : Expr) (front back : List Lexeme) → left.word ≡ RoundOpen → op.word ≡ Percent → right.word ≡ RoundClose → IsExpr Prim a front → IsExpr Prim b back → IsExpr Prim (chain_of Product a ((op, b) ∷ [])) (left ∷ op ∷ front ++ (back ++ right ∷ []))
    compared_before : (left op right : Lexeme) (rel : Rel) (a b : Expr) (front back : List Lexeme) → left.word ≡ RoundOpen → op.word ≡ rel_word rel → right.word ≡ RoundClose → IsExpr Prim a front → IsExpr Prim b back → IsExpr Prim (compare op.place rel a b) (left ∷ op ∷ front ++ (back ++ right ∷ []))

  -- signs of a chain, each with an operand behind it
  pub data AreMore : Chain → List (Lexeme × Expr) → List Lexeme → Type 0 where
    no_more : (kind : Chain) → AreMore kind [] []
    one_more : (kind : Chain) (sign : Lexeme) (e : Expr) (more : List (Lexeme × Expr)) (front back : List Lexeme) → IsSignOf kind sign.word → IsExpr (operand kind) e front → AreMore kind more back → AreMore kind ((sign, e) ∷ more) (sign ∷ front ++ back)

  -- Prim*
  pub data ArePrims : List Expr → List Lexeme → Type 0 where
    no_prims : ArePrims [] []
    prims : (e : Expr) (more : List Expr) (front back : List Lexeme) → IsExpr Prim e front → ArePrims more back → ArePrims (e ∷ more) (front ++ back)

-- E
abbrev pub IsE : Expr → List Lexeme → Type 0
IsE = IsExpr E
