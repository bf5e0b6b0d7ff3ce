-- Printed label expressions nest no deeper than those that were read.
use Rattle.std.proofs.Common.{◌≡◌, ℕ, pos, zero, suc, Bool, true, false, List, [], ◌∷◌, ◌++◌, map, refl, sym, ap, ◌∙◌, subst, append_assoc, append-nil, inr, if◌then◌else◌, nat_le, ◌≤◌, arith}
use Rattle.std.proofs.lemmas.Bool.Decides.{nat_tests}
use Rattle.std.specs.Fmt.{decimal}
use Rattle.std.specs.Str.Parse.{digits_value}
use Rattle.model_tree.specs.Printed.{printed_text}
use Rattle.fast_fault.specs.declared.place.Pos.{Pos}
use Rattle.model_program.specs.declared.Word.{Word}
use Rattle.model_program.specs.declared.Word.TheVariants.{Not, True, False, Id, Number, Quoted, RoundOpen, RoundClose, Minus, Percent}
use Rattle.model_program.specs.Lexeme.{Lexeme}
use Rattle.model_program.specs.Pieces.{Digits, Text}
use Rattle.model_program.specs.Cuts.{Piece}
use Rattle.model_program.specs.Joined.{IsOther}
use Rattle.model_program.specs.TokenTexts.{IsTextOf, HaveTexts}
use Rattle.model_grammar.specs.declared.Rel.{Rel}
use Rattle.model_grammar.specs.declared.Rel.TheVariants as rel
use Rattle.model_grammar.specs.declared.Chain.{Chain}
use Rattle.model_grammar.specs.declared.Chain.TheVariants as kind
use Rattle.model_grammar.specs.declared.Level.{Level}
use Rattle.model_grammar.specs.declared.Level.TheVariants.{E, Conj, Neg, Cmp, Sum, Prod, Unary, Prim}
use Rattle.model_grammar.specs.Syntax.{Expr, field, number, text, truth, negation, compare, minus}
use Rattle.model_grammar.specs.Operators.{rel_word, is_marking, chain_word, IsSignOf, IsMany}
use Rattle.model_grammar.specs.Expressions.{IsExpr, disjunction, conjunction, negated, not_negated, compared, not_compared, sum, product, negative_number, minus_of, no_minus, field_name, constant_number, constant_text, constant_true, constant_false, brackets, many_before, remainder_before, compared_before, AreMore, no_more, one_more, ArePrims, no_prims, prims, operand, parts_of, chain_of, negative}
use Rattle.model_grammar.specs.Printed.{bracketed, rank, own_level, chain_level, fits, at_level, stands_behind_minus, behind_minus, expression, further}
use Rattle.model_grammar.proofs.Levels.{tighter}
use Rattle.model_grammar.proofs.WrittenExpressions.{texts_front, texts_back, sign_again, spelled_sign, spelled_rel, many_signs}
use Rattle.model_grammar.specs.Nesting.{Mark, passes, marked}
use Rattle.grammar_laws.proofs.Runs.{IsPlain, IsBalanced, balanced_nothing, balanced-append, balanced_word, balanced_round}
use Rattle.grammar_laws.proofs.Keeps.{Keeps, keeps-append, keeps_nothing, keeps_blank, keeps_word, keeps_added, keeps_dropped, keeps_one, keeps_name, keeps_bracketed, keeps_unbracketed}

pub plain_as : (w v : Word) → IsPlain v → w ≡ v → IsPlain w
plain_as w v plain same = subst IsPlain (sym same) plain

rel_plain : (r : Rel) → IsPlain (rel_word r)
rel_plain rel.Equal = record { passes_not = λ m. refl; marks_not = λ m. refl }
rel_plain rel.NotEqual = record { passes_not = λ m. refl; marks_not = λ m. refl }
rel_plain rel.Less = record { passes_not = λ m. refl; marks_not = λ m. refl }
rel_plain rel.AtMost = record { passes_not = λ m. refl; marks_not = λ m. refl }
rel_plain rel.Greater = record { passes_not = λ m. refl; marks_not = λ m. refl }
rel_plain rel.AtLeast = record { passes_not = λ m. refl; marks_not = λ m. refl }

chain_plain : (k : Chain) (marked : Bool) → IsPlain (chain_word k marked)
chain_plain kind.Disjunction marked = record { passes_not = λ m. refl; marks_not = λ m. refl }
chain_plain kind.Conjunction marked = record { passes_not = λ m. refl; marks_not = λ m. refl }
chain_plain kind.Sum false = record { passes_not = λ m. refl; marks_not = λ m. refl }
chain_plain kind.Sum true = record { passes_not = λ m. refl; marks_not = λ m. refl }
chain_plain kind.Product false = record { passes_not = λ m. refl; marks_not = λ m. refl }
chain_plain kind.Product true = record { passes_not = λ m. refl; marks_not = λ m. refl }

sign_plain : (k : Chain) (t : Lexeme) → IsSignOf k t.word → IsPlain t.word
sign_plain k t is = subst IsPlain (sign_again k t.word is) (chain_plain k (is_marking t.word))

-- an expression that was read at a level
pub record KeptAt (l : Level) (e : Expr) (tokens : List Lexeme) : Type 0 where
  pub own : Keeps (expression e) tokens
  pub leveled : Keeps (at_level l e (expression e)) tokens
  pub balanced : IsBalanced tokens

-- operands behind another that were read
record MoreKept (k : Chain) (more : List (Lexeme × Expr)) (tokens : List Lexeme) : Type 0 where
  own : Keeps (further k (parts_of more)) tokens
  balanced : IsBalanced tokens

step_rank : (l : Level) → rank l ≤ rank (tighter l)
step_rank E = omega arith
step_rank Conj = omega arith
step_rank Neg = omega arith
step_rank Cmp = omega arith
step_rank Sum = omega arith
step_rank Prod = omega arith
step_rank Unary = omega arith
step_rank Prim = omega arith

fits_looser : (a b c : ℕ) → a ≤ b → nat_le b c ≡ true → nat_le a c ≡ true
fits_looser a b c less test = grind (arith, nat_tests)

-- what fits a level fits the next looser one
pub step_fits : (l own : Level) → fits (tighter l) own ≡ true → fits l own ≡ true
step_fits l own is = fits_looser (rank l) (rank (tighter l)) (rank own) (step_rank l) is

kept_step : (l : Level) (e : Expr) (tokens : List Lexeme) → KeptAt (tighter l) e tokens → KeptAt l e tokens
kept_step l e tokens kept = record { own = kept.own; leveled = by (fits l (own_level e)) refl (fits (tighter l) (own_level e)) refl; balanced = kept.balanced }
  where
    by : (b : Bool) → fits l (own_level e) ≡ b → (c : Bool) → fits (tighter l) (own_level e) ≡ c → Keeps (if b then expression e else bracketed (expression e)) tokens
    by true same c other = kept.own
    by false same true other = let h : true ≡ false = sym (step_fits l (own_level e) other) ∙ same in absurd (cc)
    by false same false other = subst (λ (b : Bool). Keeps (if b then expression e else bracketed (expression e)) tokens) other kept.leveled

-- at its own level
kept_own : (l : Level) (e : Expr) (tokens : List Lexeme) → fits l (own_level e) ≡ true → Keeps (expression e) tokens → IsBalanced tokens → KeptAt l e tokens
kept_own l e tokens same own balanced = record { own = own; leveled = subst (λ (b : Bool). Keeps (if b then expression e else bracketed (expression e)) tokens) (sym same) own; balanced = balanced }

-- in parentheses
kept_in_parens : (l : Level) (e : Expr) (left right : Lexeme) (tokens : List Lexeme) → left.word ≡ RoundOpen → right.word ≡ RoundClose → Keeps (expression e) tokens → IsBalanced tokens → KeptAt l e (left ∷ tokens ++ right ∷ [])
kept_in_parens l e left right tokens opens closes own balanced = record { own = keeps_unbracketed left right opens closes balanced own; leveled = by (fits l (own_level e)); balanced = balanced_round left right tokens opens closes balanced }
  where
    by : (b : Bool) → Keeps (if b then expression e else bracketed (expression e)) (left ∷ tokens ++ right ∷ [])
    by true = keeps_unbracketed left right opens closes balanced own
    by false = keeps_bracketed left right opens closes own

from_prim : (l : Level) (e : Expr) (tokens : List Lexeme) → KeptAt Prim e tokens → KeptAt l e tokens
from_prim Prim e tokens kept = kept
from_prim Unary e tokens kept = kept_step Unary e tokens kept
from_prim Prod e tokens kept = kept_step Prod e tokens (kept_step Unary e tokens kept)
from_prim Sum e tokens kept = kept_step Sum e tokens (kept_step Prod e tokens (kept_step Unary e tokens kept))
from_prim Cmp e tokens kept = kept_step Cmp e tokens (kept_step Sum e tokens (kept_step Prod e tokens (kept_step Unary e tokens kept)))
from_prim Neg e tokens kept = kept_step Neg e tokens (kept_step Cmp e tokens (kept_step Sum e tokens (kept_step Prod e tokens (kept_step Unary e tokens kept))))
from_prim Conj e tokens kept = kept_step Conj e tokens (kept_step Neg e tokens (kept_step Cmp e tokens (kept_step Sum e tokens (kept_step Prod e tokens (kept_step Unary e tokens kept)))))
from_prim E e tokens kept = kept_step E e tokens (kept_step Conj e tokens (kept_step Neg e tokens (kept_step Cmp e tokens (kept_step Sum e tokens (kept_step Prod e tokens (kept_step Unary e tokens kept))))))

kept_one : (e : Expr) (t : Lexeme) (w : Word) → t.word ≡ w → IsPlain w → own_level e ≡ Prim → Keeps (expression e) (t ∷ []) → KeptAt Prim e (t ∷ [])
kept_one e t w same plain prim own = kept_own Prim e (t ∷ []) (ap (λ l. fits Prim l) prim) own (balanced_word t (plain_as t.word w plain same))

keeps_negative : (sign digits : Lexeme) (p : Pos) (n : ℕ) → sign.word ≡ Minus → digits.word ≡ Number → Keeps (expression (number p (negative n))) (sign ∷ digits ∷ [])
keeps_negative sign digits p zero is_minus is_number = keeps_dropped sign (plain_as sign.word Minus (record { passes_not = λ m. refl; marks_not = λ m. refl }) is_minus) (keeps_one digits Number Digits (decimal 0) refl is_number)
keeps_negative sign digits p (suc n) is_minus is_number = keeps_word Minus sign tt is_minus (keeps_one digits Number Digits (decimal (suc n)) refl is_number)

pub negative_fits : (p : Pos) (n : ℕ) → fits Unary (own_level (number p (negative n))) ≡ true
negative_fits p zero = refl
negative_fits p (suc n) = refl

kept_more : (k : Chain) (sign : Lexeme) (e : Expr) (more : List (Lexeme × Expr)) (front back : List Lexeme) → IsSignOf k sign.word → KeptAt (operand k) e front → MoreKept k more back → MoreKept k ((sign, e) ∷ more) (sign ∷ front ++ back)
kept_more k sign e more front back is kept later = record {
  own = keeps_blank (keeps_word (chain_word k (is_marking sign.word)) sign (spelled_sign k (is_marking sign.word)) (sym (sign_again k sign.word is)) (keeps_blank (keeps-append kept.leveled later.own)));
  balanced = balanced-append (sign ∷ []) (front ++ back) (balanced_word sign (sign_plain k sign is)) (balanced-append front back kept.balanced later.balanced);
}

pub chain_fits : (k : Chain) → fits (chain_level k) (chain_level k) ≡ true
chain_fits kind.Disjunction = refl
chain_fits kind.Conjunction = refl
chain_fits kind.Sum = refl
chain_fits kind.Product = refl

pub operand_step : (k : Chain) → tighter (chain_level k) ≡ operand k
operand_step kind.Disjunction = refl
operand_step kind.Conjunction = refl
operand_step kind.Sum = refl
operand_step kind.Product = refl

kept_chain : (k : Chain) (first : Expr) (more : List (Lexeme × Expr)) (front back : List Lexeme) → KeptAt (operand k) first front → MoreKept k more back → KeptAt (chain_level k) (chain_of k first more) (front ++ back)
kept_chain k first [] front back kept later =
    let stepped = kept_step (chain_level k) first front (subst (λ (l : Level). KeptAt l first front) (sym (operand_step k)) kept) in
    record {
      own = subst (λ (ps : List Piece). Keeps ps (front ++ back)) (append-nil (expression first)) (keeps-append stepped.own later.own);
      leveled = subst (λ (ps : List Piece). Keeps ps (front ++ back)) (append-nil (at_level (chain_level k) first (expression first))) (keeps-append stepped.leveled later.own);
      balanced = balanced-append front back stepped.balanced later.balanced;
    }
kept_chain k first ((sign, e) ∷ more) front back kept later = kept_own (chain_level k) (chain_of k first ((sign, e) ∷ more)) (front ++ back) (chain_fits k) (keeps-append kept.leveled later.own) (balanced-append front back kept.balanced later.balanced)

-- operands that were read one behind the other
record AllKept (es : List Expr) (tokens : List Lexeme) : Type 0 where
  chained : (k : Chain) (op : Lexeme) → IsSignOf k op.word → Keeps (further k (parts_of (map (λ e. (op, e)) es))) tokens
  balanced : IsBalanced tokens

all_kept : (e : Expr) (es : List Expr) (front back : List Lexeme) → KeptAt Prim e front → AllKept es back → AllKept (e ∷ es) (front ++ back)
all_kept e es front back kept later = record {
  chained = λ k op is. keeps_blank (keeps_added (chain_word k (is_marking op.word)) (spelled_sign k (is_marking op.word)) (chain_plain k (is_marking op.word)) (keeps_blank (keeps-append (from_prim (operand k) e front kept).leveled (later.chained k op is))));
  balanced = balanced-append front back kept.balanced later.balanced;
}

-- an operator before its operands, in parentheses
kept_before : (e : Expr) (left op right : Lexeme) (inside : List Lexeme) → left.word ≡ RoundOpen → right.word ≡ RoundClose → IsPlain op.word → Keeps (expression e) inside → IsBalanced inside → KeptAt Prim e (left ∷ op ∷ inside ++ right ∷ [])
kept_before e left op right inside opens closes plain own balanced = kept_in_parens Prim e left right (op ∷ inside) opens closes (keeps_dropped op plain own) (balanced-append (op ∷ []) inside (balanced_word op plain) balanced)

regroup : (left op right : Lexeme) (front back : List Lexeme) → left ∷ op ∷ (front ++ back) ++ right ∷ [] ≡ left ∷ op ∷ front ++ (back ++ right ∷ [])
regroup left op right front back = ap (λ l. left ∷ op ∷ l) (append_assoc front back (right ∷ []))

keeps_compared : (p : Pos) (r : Rel) (sign : Lexeme) (a b : Expr) (front back : List Lexeme) → sign.word ≡ rel_word r → KeptAt Sum a front → KeptAt Sum b back → Keeps (expression (compare p r a b)) (front ++ sign ∷ back)
keeps_compared p r sign a b front back is kept_a kept_b = keeps-append kept_a.leveled (keeps_blank (keeps_word (rel_word r) sign (spelled_rel r) is (keeps_blank kept_b.leveled)))

plain_word : (w : Word) → ((m : List Mark) → passes w m ≡ false) → ((m : List Mark) → marked w m ≡ m) → IsPlain w
plain_word w one two = record { passes_not = one; marks_not = two }

-- two operands with a sign between them that stood before
keeps_between : (r : Rel) (p : Pos) (a b : Expr) (front back : List Lexeme) → KeptAt Sum a front → KeptAt Sum b back → Keeps (expression (compare p r a b)) (front ++ back)
keeps_between r p a b front back kept_a kept_b = keeps-append kept_a.leveled (keeps_blank (keeps_added (rel_word r) (spelled_rel r) (rel_plain r) (keeps_blank kept_b.leveled)))

remainder_keeps : (op : Lexeme) (a b : Expr) (front back : List Lexeme) → op.word ≡ Percent → KeptAt Prim a front → KeptAt Prim b back → Keeps (expression (chain_of kind.Product a ((op, b) ∷ []))) (front ++ back)
remainder_keeps op a b front back is kept_a kept_b =
    let m : Bool = is_marking op.word in
    keeps-append (from_prim Unary a front kept_a).leveled
    (keeps_blank (keeps_added (chain_word kind.Product m) (spelled_sign kind.Product m) (chain_plain kind.Product m) (keeps_blank (subst (λ (ps : List Piece). Keeps ps back) (sym (append-nil (at_level Unary b (expression b)))) (from_prim Unary b back kept_b).leveled))))

-- what stands behind `-`, where it is no number as it was read
minus_kept : (e : Expr) (tokens inner : List Lexeme) (left right : Lexeme) → left.word ≡ RoundOpen → right.word ≡ RoundClose → Keeps (expression e) inner → IsBalanced inner → Keeps (behind_minus e (expression e)) (left ∷ inner ++ right ∷ [])
minus_kept e tokens inner left right opens closes own balanced = by (stands_behind_minus e)
  where
    by : (b : Bool) → Keeps (if b then expression e else bracketed (expression e)) (left ∷ inner ++ right ∷ [])
    by true = keeps_unbracketed left right opens closes balanced own
    by false = keeps_bracketed left right opens closes own

-- a chain and a comparison stand behind `-` in parentheses
chain_behind : (k : Chain) (first : Expr) (sign : Lexeme) (e : Expr) (more : List (Lexeme × Expr)) (tokens : List Lexeme) → KeptAt Prim (chain_of k first ((sign, e) ∷ more)) tokens → Keeps (behind_minus (chain_of k first ((sign, e) ∷ more)) (expression (chain_of k first ((sign, e) ∷ more)))) tokens
chain_behind kind.Disjunction first sign e more tokens kept = kept.leveled
chain_behind kind.Conjunction first sign e more tokens kept = kept.leveled
chain_behind kind.Sum first sign e more tokens kept = kept.leveled
chain_behind kind.Product first sign e more tokens kept = kept.leveled

many_kept : (left op right : Lexeme) (k : Chain) (first second : Expr) (others : List Expr) (front back : List Lexeme) → left.word ≡ RoundOpen → IsMany k op.word → right.word ≡ RoundClose → KeptAt Prim first front → AllKept (second ∷ others) back → KeptAt Prim (chain_of k first (map (λ x. (op, x)) (second ∷ others))) (left ∷ op ∷ front ++ (back ++ right ∷ []))
many_kept left op right k first second others front back opens many closes kept later =
    let sign = many_signs k op.word many in
    subst (λ (ts : List Lexeme). KeptAt Prim (chain_of k first (map (λ x. (op, x)) (second ∷ others))) ts) (regroup left op right front back)
    (kept_before (chain_of k first (map (λ x. (op, x)) (second ∷ others))) left op right (front ++ back) opens closes (sign_plain k op sign) (keeps-append (from_prim (operand k) first front kept).leveled (later.chained k op sign)) (balanced-append front back kept.balanced later.balanced))

remainder_kept : (left op right : Lexeme) (a b : Expr) (front back : List Lexeme) → left.word ≡ RoundOpen → op.word ≡ Percent → right.word ≡ RoundClose → KeptAt Prim a front → KeptAt Prim b back → KeptAt Prim (chain_of kind.Product a ((op, b) ∷ [])) (left ∷ op ∷ front ++ (back ++ right ∷ []))
remainder_kept left op right a b front back opens is_op closes kept_a kept_b =
    subst (λ (ts : List Lexeme). KeptAt Prim (chain_of kind.Product a ((op, b) ∷ [])) ts) (regroup left op right front back)
    (kept_before (chain_of kind.Product a ((op, b) ∷ [])) left op right (front ++ back) opens closes (sign_plain kind.Product op (inr is_op)) (remainder_keeps op a b front back is_op kept_a kept_b) (balanced-append front back kept_a.balanced kept_b.balanced))

compared_kept : (left op right : Lexeme) (r : Rel) (a b : Expr) (front back : List Lexeme) → left.word ≡ RoundOpen → op.word ≡ rel_word r → right.word ≡ RoundClose → KeptAt Prim a front → KeptAt Prim b back → KeptAt Prim (compare op.place r a b) (left ∷ op ∷ front ++ (back ++ right ∷ []))
compared_kept left op right r a b front back opens is_op closes kept_a kept_b =
    subst (λ (ts : List Lexeme). KeptAt Prim (compare op.place r a b) ts) (regroup left op right front back)
    (kept_before (compare op.place r a b) left op right (front ++ back) opens closes (plain_as op.word (rel_word r) (rel_plain r) is_op) (keeps_between r op.place a b front back (from_prim Sum a front kept_a) (from_prim Sum b back kept_b)) (balanced-append front back kept_a.balanced kept_b.balanced))

mutual
  pub expression_kept : (l : Level) (e : Expr) (tokens : List Lexeme) → IsExpr l e tokens → HaveTexts tokens → KeptAt l e tokens
  expression_kept l e tokens (disjunction first more front back is are) have = kept_chain kind.Disjunction first more front back (expression_kept Conj first front is (texts_front front back have)) (more_kept kind.Disjunction more back are (texts_back front back have))
  expression_kept l e tokens (conjunction first more front back is are) have = kept_chain kind.Conjunction first more front back (expression_kept Neg first front is (texts_front front back have)) (more_kept kind.Conjunction more back are (texts_back front back have))
  expression_kept l e tokens (negated t x inside not is) have =
      let kept = expression_kept Cmp x inside is have.1 in
      kept_own Neg (negation t.place x) (t ∷ inside) refl (keeps_word Not t tt not (keeps_blank kept.leveled)) (balanced-append (t ∷ []) inside (balanced_word t (plain_as t.word Not (plain_word Not (λ m. refl) (λ m. refl)) not)) kept.balanced)
  expression_kept l e tokens (not_negated x ts is) have = kept_step Neg x ts (expression_kept Cmp x ts is have)
  expression_kept l e tokens (compared sign r a b front back is_sign is_a is_b) have =
      let kept_a = expression_kept Sum a front is_a (texts_front front (sign ∷ back) have) in
      let kept_b = expression_kept Sum b back is_b (texts_back front (sign ∷ back) have).1 in
      kept_own Cmp (compare sign.place r a b) (front ++ sign ∷ back) refl (keeps_compared sign.place r sign a b front back is_sign kept_a kept_b)
      (balanced-append front (sign ∷ back) kept_a.balanced (balanced-append (sign ∷ []) back (balanced_word sign (plain_as sign.word (rel_word r) (rel_plain r) is_sign)) kept_b.balanced))
  expression_kept l e tokens (not_compared x ts is) have = kept_step Cmp x ts (expression_kept Sum x ts is have)
  expression_kept l e tokens (sum first more front back is are) have = kept_chain kind.Sum first more front back (expression_kept Prod first front is (texts_front front back have)) (more_kept kind.Sum more back are (texts_back front back have))
  expression_kept l e tokens (product first more front back is are) have = kept_chain kind.Product first more front back (expression_kept Unary first front is (texts_front front back have)) (more_kept kind.Product more back are (texts_back front back have))
  expression_kept l e tokens (negative_number sign digits is_minus is_number is_digits) have =
      kept_own Unary (number sign.place (negative (digits_value 10 digits.text))) (sign ∷ digits ∷ []) (negative_fits sign.place (digits_value 10 digits.text)) (keeps_negative sign digits sign.place (digits_value 10 digits.text) is_minus is_number)
      (balanced-append (sign ∷ []) (digits ∷ []) (balanced_word sign (plain_as sign.word Minus (plain_word Minus (λ m. refl) (λ m. refl)) is_minus)) (balanced_word digits (plain_as digits.word Number (plain_word Number (λ m. refl) (λ m. refl)) is_number)))
  expression_kept l e tokens (minus_of sign x inside is_minus other is) have =
      kept_own Unary (minus sign.place x) (sign ∷ inside) refl (keeps_word Minus sign tt is_minus (behind_kept x inside is other have.1))
      (balanced-append (sign ∷ []) inside (balanced_word sign (plain_as sign.word Minus (plain_word Minus (λ m. refl) (λ m. refl)) is_minus)) (expression_kept Prim x inside is have.1).balanced)
  expression_kept l e tokens (no_minus x ts is) have = kept_step Unary x ts (expression_kept Prim x ts is have)
  expression_kept l e tokens (field_name t is) have = kept_one (field t.place t.text) t Id is (plain_word Id (λ m. refl) (λ m. refl)) refl (keeps_name t t.text (subst (λ (w : Word). IsTextOf w t.text) is have.0) is)
  expression_kept l e tokens (constant_number t is is_digits) have = kept_one (number t.place (pos (digits_value 10 t.text))) t Number is (plain_word Number (λ m. refl) (λ m. refl)) refl (keeps_one t Number Digits (decimal (digits_value 10 t.text)) refl is)
  expression_kept l e tokens (constant_text t values is quoted) have = kept_one (text t.place values) t Quoted is (plain_word Quoted (λ m. refl) (λ m. refl)) refl (keeps_one t Quoted Text (printed_text values) refl is)
  expression_kept l e tokens (constant_true t is) have = kept_one (truth t.place true) t True is (plain_word True (λ m. refl) (λ m. refl)) refl (keeps_word True t tt is keeps_nothing)
  expression_kept l e tokens (constant_false t is) have = kept_one (truth t.place false) t False is (plain_word False (λ m. refl) (λ m. refl)) refl (keeps_word False t tt is keeps_nothing)
  expression_kept l e tokens (brackets left right x inside opens closes is) have =
      let kept = expression_kept E x inside is (texts_front inside (right ∷ []) have.1) in
      kept_in_parens Prim x left right inside opens closes kept.own kept.balanced
  expression_kept l e tokens (many_before left op right k first second others front back opens many closes is are) have = many_kept left op right k first second others front back opens many closes (expression_kept Prim first front is (texts_front front (back ++ right ∷ []) have.1.1)) (prims_kept (second ∷ others) back are (texts_front back (right ∷ []) (texts_back front (back ++ right ∷ []) have.1.1)))
  expression_kept l e tokens (remainder_before left op right a b front back opens is_op closes is_a is_b) have = remainder_kept left op right a b front back opens is_op closes (expression_kept Prim a front is_a (texts_front front (back ++ right ∷ []) have.1.1)) (expression_kept Prim b back is_b (texts_front back (right ∷ []) (texts_back front (back ++ right ∷ []) have.1.1)))
  expression_kept l e tokens (compared_before left op right r a b front back opens is_op closes is_a is_b) have = compared_kept left op right r a b front back opens is_op closes (expression_kept Prim a front is_a (texts_front front (back ++ right ∷ []) have.1.1)) (expression_kept Prim b back is_b (texts_front back (right ∷ []) (texts_back front (back ++ right ∷ []) have.1.1)))

  behind_kept : (x : Expr) (tokens : List Lexeme) → IsExpr Prim x tokens → IsOther Number tokens → HaveTexts tokens → Keeps (behind_minus x (expression x)) tokens
  behind_kept x tokens (field_name t is) other have = keeps_name t t.text (subst (λ (w : Word). IsTextOf w t.text) is have.0) is
  behind_kept x tokens (constant_number t is is_digits) other have = absurd (other is)
  behind_kept x tokens (constant_text t values is quoted) other have = keeps_one t Quoted Text (printed_text values) refl is
  behind_kept x tokens (constant_true t is) other have = keeps_word True t tt is keeps_nothing
  behind_kept x tokens (constant_false t is) other have = keeps_word False t tt is keeps_nothing
  behind_kept x tokens (brackets left right y inside opens closes is) other have =
      let kept = expression_kept E y inside is (texts_front inside (right ∷ []) have.1) in
      minus_kept y tokens inside left right opens closes kept.own kept.balanced
  behind_kept x tokens (many_before left op right k first second others front back opens many closes is are) other have = chain_behind k first op second (map (λ e. (op, e)) others) (left ∷ op ∷ front ++ (back ++ right ∷ [])) (many_kept left op right k first second others front back opens many closes (expression_kept Prim first front is (texts_front front (back ++ right ∷ []) have.1.1)) (prims_kept (second ∷ others) back are (texts_front back (right ∷ []) (texts_back front (back ++ right ∷ []) have.1.1))))
  behind_kept x tokens (remainder_before left op right a b front back opens is_op closes is_a is_b) other have = chain_behind kind.Product a op b [] (left ∷ op ∷ front ++ (back ++ right ∷ [])) (remainder_kept left op right a b front back opens is_op closes (expression_kept Prim a front is_a (texts_front front (back ++ right ∷ []) have.1.1)) (expression_kept Prim b back is_b (texts_front back (right ∷ []) (texts_back front (back ++ right ∷ []) have.1.1))))
  behind_kept x tokens (compared_before left op right r a b front back opens is_op closes is_a is_b) other have = (compared_kept left op right r a b front back opens is_op closes (expression_kept Prim a front is_a (texts_front front (back ++ right ∷ []) have.1.1)) (expression_kept Prim b back is_b (texts_front back (right ∷ []) (texts_back front (back ++ right ∷ []) have.1.1)))).leveled

  more_kept : (k : Chain) (more : List (Lexeme × Expr)) (tokens : List Lexeme) → AreMore k more tokens → HaveTexts tokens → MoreKept k more tokens
  more_kept k more tokens (no_more k2) have = record { own = keeps_nothing; balanced = balanced_nothing }
  more_kept k more tokens (one_more k2 sign e others front back is_sign is are) have = kept_more k2 sign e others front back is_sign (expression_kept (operand k2) e front is (texts_front front back have.1)) (more_kept k2 others back are (texts_back front back have.1))

  prims_kept : (es : List Expr) (tokens : List Lexeme) → ArePrims es tokens → HaveTexts tokens → AllKept es tokens
  prims_kept es tokens no_prims have = record { chained = λ k op is. keeps_nothing; balanced = balanced_nothing }
  prims_kept es tokens (prims e others front back is are) have = all_kept e others front back (expression_kept Prim e front is (texts_front front back have)) (prims_kept others back are (texts_back front back have))
