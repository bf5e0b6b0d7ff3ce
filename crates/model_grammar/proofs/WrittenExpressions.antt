-- What is printed of a label expression spells it again.
use Rattle.std.proofs.lemmas.Bool.Decides.{nat_tests}
use Rattle.std.proofs.Common.{append_assoc, arith, length, ◌≤◌, ◌≡◌, ℕ, pos, negsuc, ◌^◌, ◌<◌, zero, suc, Bool, true, false, List, [], ◌∷◌, ◌++◌, map, refl, sym, ap, ◌∙◌, subst, Some, inl, inr, if◌then◌else◌}
use Rattle.std.specs.Fmt.{decimal}
use Rattle.std.specs.Str.Parse.{digits_value}
use Rattle.model_tree.specs.Printed.{printed_text}
use Rattle.fast_fault.specs.declared.place.Pos.{Pos}
use Rattle.model_program.specs.declared.Word.{Word}
use Rattle.model_program.specs.declared.Word.TheVariants.{Not, True, False, Id, Number, Quoted, RoundOpen, RoundClose, Minus}
use Rattle.model_program.specs.Characters.{AllIn, begins_name, is_digit}
use Rattle.model_program.specs.Lexeme.{Lexeme}
use Rattle.std.specs.Option.{unwrap_or}
use Rattle.model_program.proofs.TokenTexts.{piece_text}
use Rattle.model_program.proofs.Families.{digit_no_name}
use Rattle.model_program.specs.Spellings.{spelling, spelled, keywords}
use Rattle.model_program.specs.Pieces.{IsName, Name, Digits, Text, IsLongest}
use Rattle.model_program.specs.Cuts.{Piece, texts_of, lexemes_after, place_after}
use Rattle.model_program.specs.Joined.{IsOther}
use Rattle.model_program.specs.TokenTexts.{IsTextOf, HaveTexts}
use Rattle.model_grammar.specs.declared.Rel.{Rel}
use Rattle.model_grammar.specs.declared.Rel.TheVariants as rel
use Rattle.model_grammar.specs.declared.Chain.{Chain}
use Rattle.model_grammar.specs.declared.Chain.TheVariants as kind
use Rattle.model_grammar.specs.declared.Level.{Level}
use Rattle.model_grammar.specs.declared.Level.TheVariants.{E, Conj, Neg, Cmp, Sum, Prod, Unary, Prim}
use Rattle.model_grammar.specs.Syntax.{Expr, field, number, text, truth, negation, compare, minus, chain, Parts, no_parts, part}
use Rattle.model_grammar.specs.Places.{nowhere, bare, bare_parts}
use Rattle.model_grammar.specs.Operators.{rel_word, is_marking, chain_word, IsSignOf, IsMany}
use Rattle.model_grammar.specs.Expressions.{IsExpr, disjunction, conjunction, negated, not_negated, compared, not_compared, sum, product, negative_number, minus_of, no_minus, field_name, constant_number, constant_text, constant_true, constant_false, brackets, many_before, remainder_before, compared_before, AreMore, no_more, one_more, ArePrims, no_prims, prims, operand, parts_of, chain_of, negative}
use Rattle.model_grammar.specs.Printed.{piece, blank, token, bracketed, own_level, chain_level, fits, at_level, behind_minus, expression, further}
use Rattle.model_grammar.proofs.Laid.{IsParted}
use Rattle.model_grammar.proofs.Standing.{name_longest, digits_longest, text_longest, blank_longest, NoSecond}
use Rattle.model_grammar.proofs.Levels.{chained, loosen, primary, loosest}
use Rattle.model_grammar.proofs.Written.{Again, Written, Touches, lexemes_after-append, laid-append}
use Rattle.model_grammar.proofs.Tokens.{token_at, one_token, token_written, token_then, spelled_word, word_longest, minus_longest, word_of_name, bracket_tokens, bracket_laid, IsSpelled}
use Rattle.model_grammar.proofs.Constants.{digits_small, decimal_digits, decimal_value, digit_characters, printed_quoted}

pub texts_front : (a b : List Lexeme) → HaveTexts (a ++ b) → HaveTexts a
texts_front [] b have = tt
texts_front (t ∷ a) b have = (have.0, texts_front a b have.1)

pub texts_back : (a b : List Lexeme) → HaveTexts (a ++ b) → HaveTexts b
texts_back [] b have = have
texts_back (t ∷ a) b have = texts_back a b have.1

-- an expression is printed so that it is spelled again, at its own level
abbrev pub Stands : Expr → Type 0
Stands e = Written IsParted bare (IsExpr (own_level e)) e (expression e)

-- in parentheses it is primary
bracketed_again : (own : Level) (e : Expr) (ps : List Piece) → Written IsParted bare (IsExpr own) e ps → (before : List ℕ) → Again bare (IsExpr Prim) e (lexemes_after before (bracketed ps))
bracketed_again own e ps written before =
    let one = written.again (before ++ spelling RoundOpen) in
    subst (Again bare (IsExpr Prim) e) (sym (bracket_tokens before ps))
    (record { value = one.value; spelled = brackets (token_at RoundOpen before (spelling RoundOpen)) (token_at RoundClose ((before ++ spelling RoundOpen) ++ texts_of ps) (spelling RoundClose)) one.value _ refl refl (loosest own one.value _ one.spelled); same = one.same })

pub brackets_written : (own : Level) (e : Expr) (ps : List Piece) → Written IsParted bare (IsExpr own) e ps → Written IsParted bare (IsExpr Prim) e (bracketed ps)
brackets_written own e ps written = record { again = bracketed_again own e ps written; laid = bracket_laid ps written.laid }

-- at each level, with parentheses where they are needed
pub leveled : (level : Level) (e : Expr) → Stands e → Written IsParted bare (IsExpr level) e (at_level level e (expression e))
leveled level e stands = by (fits level (own_level e)) refl
  where
    by : (b : Bool) → fits level (own_level e) ≡ b → Written IsParted bare (IsExpr level) e (if b then expression e else bracketed (expression e))
    by true same = record { again = λ before. let one = stands.again before in record { value = one.value; spelled = loosen level (own_level e) one.value _ same one.spelled; same = one.same }; laid = stands.laid }
    by false same = let in_them = brackets_written (own_level e) e (expression e) stands in record { again = λ before. let one = in_them.again before in record { value = one.value; spelled = primary level one.value _ one.spelled; same = one.same }; laid = in_them.laid }

field_stands : (t : Lexeme) → t.word ≡ Id → IsTextOf t.word t.text → Stands (field t.place t.text)
field_stands t is have =
    let text_is : IsTextOf Id t.text = subst (λ (w : Word). IsTextOf w t.text) is have in
    token_written bare (IsExpr Prim) (field t.place t.text) Id Name t.text (word_of_name t.text text_is)
    (λ before. record { value = field (place_after before) t.text; spelled = field_name (token_at Id before t.text) refl; same = refl })
    (λ after parted. name_longest t.text after text_is.0 parted)

decimal_longest : (n : ℕ) → n < 10 ^ 38 → (after : List ℕ) → IsParted after → IsLongest Digits (decimal n) after
decimal_longest n small after parted = let is = decimal_digits n small in digits_longest (decimal n) after (digit_characters (decimal n) is.0.1) is.0.0 is.1 parted

number_stands : (p : Pos) (n : ℕ) → n < 10 ^ 38 → Stands (number p (pos n))
number_stands p n small =
    token_written bare (IsExpr Prim) (number p (pos n)) Number Digits (decimal n) refl
    (λ before. record { value = number (place_after before) (pos (digits_value 10 (decimal n))); spelled = constant_number (token_at Number before (decimal n)) refl (decimal_digits n small); same = ap (λ m. number nowhere (pos m)) (decimal_value n small) })
    (decimal_longest n small)

text_stands : (p : Pos) (values : List ℕ) → Stands (text p values)
text_stands p values =
    token_written bare (IsExpr Prim) (text p values) Quoted Text (printed_text values) refl
    (λ before. record { value = text (place_after before) values; spelled = constant_text (token_at Quoted before (printed_text values)) values refl (printed_quoted values); same = refl })
    (λ after parted. text_longest (printed_text values) values after (printed_quoted values))

truth_stands : (p : Pos) (b : Bool) → Stands (truth p b)
truth_stands p true = token_written bare (IsExpr Prim) (truth p true) True Name (spelling True) (spelled_word True tt) (λ before. record { value = truth (place_after before) true; spelled = constant_true (token_at True before (spelling True)) refl; same = refl }) (word_longest True tt)
truth_stands p false = token_written bare (IsExpr Prim) (truth p false) False Name (spelling False) (spelled_word False tt) (λ before. record { value = truth (place_after before) false; spelled = constant_false (token_at False before (spelling False)) refl; same = refl }) (word_longest False tt)

digit_no_second : (c : ℕ) → is_digit c ≡ true → NoSecond (c ∷ [])
digit_no_second c is = grind (arith, nat_tests)

digits_no_second : (cs more : List ℕ) → AllIn is_digit cs → 1 ≤ length cs → NoSecond (cs ++ more)
digits_no_second [] more all some = absurd (omega arith)
digits_no_second (c ∷ cs) more all some = digit_no_second c all.0

name_no_second : (c : ℕ) → begins_name c ≡ true → NoSecond (c ∷ [])
name_no_second c is = grind (arith, nat_tests)

names_no_second : (cs more : List ℕ) → IsName cs → NoSecond (cs ++ more)
names_no_second [] more is = absurd is
names_no_second (c ∷ cs) more is = name_no_second c is.0

-- a number with `-` before it
negative_stands : (p : Pos) (n : ℕ) → n < 10 ^ 38 → Stands (number p (negative n))
negative_stands p zero small = number_stands p 0 small
negative_stands p (suc n) small = record {
  again = λ before.
      let digits = token_at Number (before ++ spelling Minus) (decimal (suc n)) in
      subst (Again bare (IsExpr Unary) (number p (negsuc n))) (sym (token_then Minus tt before (piece Digits (decimal (suc n)) ∷ []) ∙ ap (λ l. token_at Minus before (spelling Minus) ∷ l) (one_token Number Digits (decimal (suc n)) (before ++ spelling Minus) refl)))
      (record {
        value = number (place_after before) (negative (digits_value 10 (decimal (suc n))));
        spelled = negative_number (token_at Minus before (spelling Minus)) digits refl refl (decimal_digits (suc n) small);
        same = ap (λ m. number nowhere (negative m)) (decimal_value (suc n) small);
      });
  laid = λ after parted.
      let is = decimal_digits (suc n) small in
      (minus_longest (texts_of (piece Digits (decimal (suc n)) ∷ []) ++ after) (subst NoSecond (sym (append_assoc (decimal (suc n)) [] after)) (digits_no_second (decimal (suc n)) after (digit_characters (decimal (suc n)) is.0.1) is.0.0)), (decimal_longest (suc n) small after parted, tt));
}

negation_stands : (p : Pos) (e : Expr) → Stands e → Stands (negation p e)
negation_stands p e stands =
    let inside = leveled Cmp e stands in
    record {
      again = λ before.
          let one = inside.again ((before ++ spelling Not) ++ 32 ∷ []) in
          subst (Again bare (IsExpr Neg) (negation p e)) (sym (token_then Not tt before (blank ∷ at_level Cmp e (expression e))))
          (record { value = negation (place_after before) one.value; spelled = negated (token_at Not before (spelling Not)) one.value _ refl one.spelled; same = ap (λ x. negation nowhere x) one.same });
      laid = λ after parted. (word_longest Not tt (texts_of (blank ∷ at_level Cmp e (expression e)) ++ after) refl, (blank_longest 32 (texts_of (at_level Cmp e (expression e)) ++ after) refl, inside.laid after parted));
    }

pub spelled_rel : (r : Rel) → IsSpelled (rel_word r)
spelled_rel rel.Equal = tt
spelled_rel rel.NotEqual = tt
spelled_rel rel.Less = tt
spelled_rel rel.AtMost = tt
spelled_rel rel.Greater = tt
spelled_rel rel.AtLeast = tt

compare_stands : (p : Pos) (r : Rel) (a b : Expr) → Stands a → Stands b → Stands (compare p r a b)
compare_stands p r a b stands_a stands_b =
    let left = leveled Sum a stands_a in
    let right = leveled Sum b stands_b in
    let pa : List Piece = at_level Sum a (expression a) in
    let pb : List Piece = at_level Sum b (expression b) in
    let w : Word = rel_word r in
    record {
      again = λ before.
          let there : List ℕ = (before ++ texts_of pa) ++ 32 ∷ [] in
          let one = left.again before in
          let two = right.again ((there ++ spelling w) ++ 32 ∷ []) in
          subst (Again bare (IsExpr Cmp) (compare p r a b)) (sym (lexemes_after-append before pa (blank ∷ token w ∷ blank ∷ pb) ∙ ap (λ l. lexemes_after before pa ++ l) (token_then w (spelled_rel r) there (blank ∷ pb))))
          (record { value = compare (place_after there) r one.value two.value; spelled = compared (token_at w there (spelling w)) r one.value two.value _ _ refl one.spelled two.spelled; same = λ i. compare nowhere r (one.same i) (two.same i) });
      laid = λ after parted.
          laid-append pa (blank ∷ token w ∷ blank ∷ pb) after (left.laid (texts_of (blank ∷ token w ∷ blank ∷ pb) ++ after) refl)
          (blank_longest 32 (texts_of (token w ∷ blank ∷ pb) ++ after) refl, (word_longest w (spelled_rel r) (texts_of (blank ∷ pb) ++ after) refl, (blank_longest 32 (texts_of pb ++ after) refl, right.laid after parted)));
    }

name_no_digits : (t : List ℕ) → IsName t → AllIn is_digit t → ⊥
name_no_digits [] is digits = is
name_no_digits (c ∷ cs) is digits = let e : true ≡ false = sym is.0 ∙ digit_no_name c digits.0 in cc

-- a name isn't a number
no_number : (t : List ℕ) → IsName t → unwrap_or (spelled keywords t) Id ≡ Number → ⊥
no_number t is same = name_no_digits t is (piece_text Name t [] Number is (ap (λ w. Some w) same)).0

-- what stands behind `-`
record BehindMinus (e : Expr) (ps : List Piece) : Type 0 where
  written : Written IsParted bare (IsExpr Prim) e ps
  other : (before : List ℕ) → IsOther Number (lexemes_after before ps)
  starts : (after : List ℕ) → NoSecond (texts_of ps ++ after)

bracketed_behind : (e : Expr) → Stands e → BehindMinus e (bracketed (expression e))
bracketed_behind e stands = record {
  written = brackets_written (own_level e) e (expression e) stands;
  other = λ before. subst (IsOther Number) (sym (bracket_tokens before (expression e))) (λ same. cc);
  starts = λ after. refl;
}

behind : (e : Expr) → Stands e → BehindMinus e (behind_minus e (expression e))
behind (field p t) stands =
    let is = (stands.laid [] tt).0.is in
    record { written = stands; other = λ before same. no_number t is same; starts = λ after. subst NoSecond (sym (append_assoc t [] after)) (names_no_second t after is) }
behind (text p values) stands = record { written = stands; other = λ before same. cc; starts = λ after. refl }
behind (truth p true) stands = record { written = stands; other = λ before. subst (IsOther Number) (sym (token_then True tt before [])) (λ same. cc); starts = λ after. refl }
behind (truth p false) stands = record { written = stands; other = λ before. subst (IsOther Number) (sym (token_then False tt before [])) (λ same. cc); starts = λ after. refl }
behind (number p n) stands = bracketed_behind (number p n) stands
behind (negation p e) stands = bracketed_behind (negation p e) stands
behind (compare p r a b) stands = bracketed_behind (compare p r a b) stands
behind (minus p e) stands = bracketed_behind (minus p e) stands
behind (chain k p parts) stands = bracketed_behind (chain k p parts) stands

minus_stands : (p : Pos) (e : Expr) → Stands e → Stands (minus p e)
minus_stands p e stands =
    let inside = behind e stands in
    let ps : List Piece = behind_minus e (expression e) in
    record {
      again = λ before.
          let one = inside.written.again (before ++ spelling Minus) in
          subst (Again bare (IsExpr Unary) (minus p e)) (sym (token_then Minus tt before ps))
          (record { value = minus (place_after before) one.value; spelled = minus_of (token_at Minus before (spelling Minus)) one.value _ refl (inside.other (before ++ spelling Minus)) one.spelled; same = ap (λ x. minus nowhere x) one.same });
      laid = λ after parted. (minus_longest (texts_of ps ++ after) (inside.starts after), inside.written.laid after parted);
    }

-- operands behind another are printed so that they are spelled again
abbrev pub MoreStand : Chain → List (Lexeme × Expr) → Type 0
MoreStand k more = Written IsParted (λ m. bare_parts (parts_of m)) (AreMore k) more (further k (parts_of more))

pub spelled_sign : (k : Chain) (marked : Bool) → IsSpelled (chain_word k marked)
spelled_sign kind.Disjunction marked = tt
spelled_sign kind.Conjunction marked = tt
spelled_sign kind.Sum false = tt
spelled_sign kind.Sum true = tt
spelled_sign kind.Product false = tt
spelled_sign kind.Product true = tt

sign_of : (k : Chain) (marked : Bool) → IsSignOf k (chain_word k marked)
sign_of kind.Disjunction marked = refl
sign_of kind.Conjunction marked = refl
sign_of kind.Sum false = inl refl
sign_of kind.Sum true = inr refl
sign_of kind.Product false = inl refl
sign_of kind.Product true = inr refl

-- a sign's mark gives the sign
pub sign_again : (k : Chain) (w : Word) → IsSignOf k w → chain_word k (is_marking w) ≡ w
sign_again kind.Disjunction w is = sym is
sign_again kind.Conjunction w is = sym is
sign_again kind.Sum w (inl is) = ap (λ v. chain_word kind.Sum (is_marking v)) is ∙ sym is
sign_again kind.Sum w (inr is) = ap (λ v. chain_word kind.Sum (is_marking v)) is ∙ sym is
sign_again kind.Product w (inl is) = ap (λ v. chain_word kind.Product (is_marking v)) is ∙ sym is
sign_again kind.Product w (inr is) = ap (λ v. chain_word kind.Product (is_marking v)) is ∙ sym is

further_touch : (k : Chain) (parts : Parts) → Touches IsParted (further k parts) IsParted
further_touch k no_parts after parted = parted
further_touch k (part marked e parts) after parted = refl

no_more_stands : (k : Chain) → MoreStand k []
no_more_stands k = record { again = λ before. record { value = []; spelled = no_more k; same = refl }; laid = λ after parted. tt }

more_stands : (k : Chain) (sign : Lexeme) (e : Expr) (more : List (Lexeme × Expr)) → IsSignOf k sign.word → Stands e → MoreStand k more → MoreStand k ((sign, e) ∷ more)
more_stands k sign e more is stands later =
    let m : Bool = is_marking sign.word in
    let w : Word = chain_word k m in
    let pe : List Piece = at_level (operand k) e (expression e) in
    let pf : List Piece = further k (parts_of more) in
    let inside = leveled (operand k) e stands in
    record {
      again = λ before.
          let there : List ℕ = before ++ 32 ∷ [] in
          let behind : List ℕ = (there ++ spelling w) ++ 32 ∷ [] in
          let one = inside.again behind in
          let two = later.again (behind ++ texts_of pe) in
          subst (Again (λ x. bare_parts (parts_of x)) (AreMore k) ((sign, e) ∷ more)) (sym (token_then w (spelled_sign k m) there (blank ∷ (pe ++ pf)) ∙ ap (λ l. token_at w there (spelling w) ∷ l) (lexemes_after-append behind pe pf)))
          (record {
            value = (token_at w there (spelling w), one.value) ∷ two.value;
            spelled = one_more k (token_at w there (spelling w)) one.value two.value _ _ (sign_of k m) one.spelled two.spelled;
            same = λ i. part (is_marking (sign_again k sign.word is i)) (one.same i) (two.same i);
          });
      laid = λ after parted. (
        blank_longest 32 (texts_of (token w ∷ blank ∷ (pe ++ pf)) ++ after) refl,
        (
          word_longest w (spelled_sign k m) (texts_of (blank ∷ (pe ++ pf)) ++ after) refl,
          (blank_longest 32 (texts_of (pe ++ pf) ++ after) refl, laid-append pe pf after (inside.laid (texts_of pf ++ after) (further_touch k (parts_of more) after parted)) (later.laid after parted)),
        ),
      );
    }

-- what a chain is made of, places aside
same_chain : (k : Chain) (first other : Expr) (sign : Lexeme) (e : Expr) (more m : List (Lexeme × Expr)) → bare other ≡ bare first → bare_parts (parts_of m) ≡ bare_parts (parts_of ((sign, e) ∷ more)) → bare (chain_of k other m) ≡ bare (chain_of k first ((sign, e) ∷ more))
same_chain k first other sign e more [] same_first same = absurd (cc)
same_chain k first other sign e more ((t, x) ∷ m) same_first same = λ i. chain k nowhere (part false (same_first i) (same i))

chain_stands : (k : Chain) (first : Expr) (more : List (Lexeme × Expr)) → Stands first → MoreStand k more → Stands (chain_of k first more)
chain_stands k first [] stands later = stands
chain_stands k first ((sign, e) ∷ more) stands later =
    let inside = leveled (operand k) first stands in
    let ps : List Piece = at_level (operand k) first (expression first) in
    let pf : List Piece = further k (parts_of ((sign, e) ∷ more)) in
    record {
      again = λ before.
          let one = inside.again before in
          let two = later.again (before ++ texts_of ps) in
          subst (Again bare (IsExpr (chain_level k)) (chain_of k first ((sign, e) ∷ more))) (sym (lexemes_after-append before ps pf))
          (record { value = chain_of k one.value two.value; spelled = chained k one.value two.value _ _ one.spelled two.spelled; same = same_chain k first one.value sign e more two.value one.same two.same });
      laid = λ after parted. laid-append ps pf after (inside.laid (texts_of pf ++ after) refl) (later.laid after parted);
    }

abbrev pub AllStand : List Expr → Type 0
AllStand [] = Unit {0}
AllStand (e ∷ es) = Stands e × AllStand es

pub many_signs : (k : Chain) (w : Word) → IsMany k w → IsSignOf k w
many_signs kind.Disjunction w is = is
many_signs kind.Conjunction w is = is
many_signs kind.Sum w is = is
many_signs kind.Product w is = inl is

all_more : (k : Chain) (op : Lexeme) (es : List Expr) → IsSignOf k op.word → AllStand es → MoreStand k (map (λ e. (op, e)) es)
all_more k op [] is all = no_more_stands k
all_more k op (e ∷ es) is all = more_stands k op e (map (λ x. (op, x)) es) is all.0 (all_more k op es is all.1)

mutual
  pub expression_stands : (level : Level) (e : Expr) (tokens : List Lexeme) → IsExpr level e tokens → HaveTexts tokens → Stands e
  expression_stands level e tokens (disjunction first more front back is are) have = chain_stands kind.Disjunction first more (expression_stands Conj first front is (texts_front front back have)) (more_stand kind.Disjunction more back are (texts_back front back have))
  expression_stands level e tokens (conjunction first more front back is are) have = chain_stands kind.Conjunction first more (expression_stands Neg first front is (texts_front front back have)) (more_stand kind.Conjunction more back are (texts_back front back have))
  expression_stands level e tokens (negated t x inside not is) have = negation_stands t.place x (expression_stands Cmp x inside is have.1)
  expression_stands level e tokens (not_negated x ts is) have = expression_stands Cmp x ts is have
  expression_stands level e tokens (compared sign r a b front back is_sign is_a is_b) have = compare_stands sign.place r a b (expression_stands Sum a front is_a (texts_front front (sign ∷ back) have)) (expression_stands Sum b back is_b (texts_back front (sign ∷ back) have).1)
  expression_stands level e tokens (not_compared x ts is) have = expression_stands Sum x ts is have
  expression_stands level e tokens (sum first more front back is are) have = chain_stands kind.Sum first more (expression_stands Prod first front is (texts_front front back have)) (more_stand kind.Sum more back are (texts_back front back have))
  expression_stands level e tokens (product first more front back is are) have = chain_stands kind.Product first more (expression_stands Unary first front is (texts_front front back have)) (more_stand kind.Product more back are (texts_back front back have))
  expression_stands level e tokens (negative_number sign digits is_minus is_number is_digits) have = negative_stands sign.place (digits_value 10 digits.text) (digits_small digits.text is_digits)
  expression_stands level e tokens (minus_of sign x inside is_minus other is) have = minus_stands sign.place x (expression_stands Prim x inside is have.1)
  expression_stands level e tokens (no_minus x ts is) have = expression_stands Prim x ts is have
  expression_stands level e tokens (field_name t is) have = field_stands t is have.0
  expression_stands level e tokens (constant_number t is is_digits) have = number_stands t.place (digits_value 10 t.text) (digits_small t.text is_digits)
  expression_stands level e tokens (constant_text t values is quoted) have = text_stands t.place values
  expression_stands level e tokens (constant_true t is) have = truth_stands t.place true
  expression_stands level e tokens (constant_false t is) have = truth_stands t.place false
  expression_stands level e tokens (brackets left right x inside opens closes is) have = expression_stands E x inside is (texts_front inside (right ∷ []) have.1)
  expression_stands level e tokens (many_before left op right k first second others front back opens many closes is are) have =
      let inside = have.1.1 in
      chain_stands k first (map (λ x. (op, x)) (second ∷ others)) (expression_stands Prim first front is (texts_front front (back ++ right ∷ []) inside))
      (all_more k op (second ∷ others) (many_signs k op.word many) (prims_stand (second ∷ others) back are (texts_front back (right ∷ []) (texts_back front (back ++ right ∷ []) inside))))
  expression_stands level e tokens (remainder_before left op right a b front back opens is_op closes is_a is_b) have =
      let inside = have.1.1 in
      chain_stands kind.Product a ((op, b) ∷ []) (expression_stands Prim a front is_a (texts_front front (back ++ right ∷ []) inside))
      (more_stands kind.Product op b [] (inr is_op) (expression_stands Prim b back is_b (texts_front back (right ∷ []) (texts_back front (back ++ right ∷ []) inside))) (no_more_stands kind.Product))
  expression_stands level e tokens (compared_before left op right r a b front back opens is_op closes is_a is_b) have =
      let inside = have.1.1 in
      compare_stands op.place r a b (expression_stands Prim a front is_a (texts_front front (back ++ right ∷ []) inside)) (expression_stands Prim b back is_b (texts_front back (right ∷ []) (texts_back front (back ++ right ∷ []) inside)))

  more_stand : (k : Chain) (more : List (Lexeme × Expr)) (tokens : List Lexeme) → AreMore k more tokens → HaveTexts tokens → MoreStand k more
  more_stand k more tokens (no_more k2) have = no_more_stands k2
  more_stand k more tokens (one_more k2 sign e others front back is_sign is are) have = more_stands k2 sign e others is_sign (expression_stands (operand k2) e front is (texts_front front back have.1)) (more_stand k2 others back are (texts_back front back have.1))

  prims_stand : (es : List Expr) (tokens : List Lexeme) → ArePrims es tokens → HaveTexts tokens → AllStand es
  prims_stand es tokens no_prims have = tt
  prims_stand es tokens (prims e others front back is are) have = (expression_stands Prim e front is (texts_front front back have), prims_stand others back are (texts_back front back have))

-- what is printed of an expression spells it
pub expression_written : (e : Expr) (tokens : List Lexeme) → IsExpr E e tokens → HaveTexts tokens → Written IsParted bare (IsExpr E) e (expression e)
expression_written e tokens is have =
    let stands = expression_stands E e tokens is have in
    record { again = λ before. let one = stands.again before in record { value = one.value; spelled = loosest (own_level e) one.value _ one.spelled; same = one.same }; laid = stands.laid }
