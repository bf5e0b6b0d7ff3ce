-- Primary expressions, and `-` before them.
use Rattle.std.proofs.Common.{◌≡◌, ℕ, pos, true, false, List, [], ◌∷◌, ◌++◌, refl, sym, ap, ◌∙◌, subst, arith, Some, ◌⊎◌, inl, inr, map}
use Rattle.std.specs.Str.Parse.{digits_value}
use Rattle.model_program.specs.declared.Word.{Word}
use Rattle.model_program.specs.declared.Word.TheVariants.{True, False, Id, Number, Quoted, RoundOpen, Minus}
use Rattle.model_program.specs.Lexeme.{Lexeme}
use Rattle.model_program.specs.Joined.{◌⌢◌, IsNext, IsOther, ◌⊗◌}
use Rattle.read_forms.specs.Reads.{GoesOnAs, Stops, IsRead, IsRefused, Fails, StartsIn, closed}
use Rattle.model_program.specs.Grammar.{IsWord, IsDigits}
use Rattle.model_program.specs.Quotes.{IsQuoted, no_units}
use Rattle.model_program.proofs.QuoteLaws.{quoted_stands_for}
use Rattle.read_forms.specs.Parts.{HasSample, AllStartIn, other_than}
use Rattle.read_forms.proofs.Forms.{Makes, as_fails, stops_next, stops_other, stops_other_than, alternative}
use Rattle.read_forms.proofs.Words.{sample_token, word_starts}
use Rattle.model_grammar.specs.declared.Chain.TheVariants.{Product}
use Rattle.model_grammar.specs.declared.Level.TheVariants.{Unary, Prim}
use Rattle.model_grammar.specs.Syntax.{Expr, field, number, text, truth, minus, compare}
use Rattle.model_grammar.specs.Expressions.{IsExpr, negative_number, minus_of, no_minus, field_name, constant_number, constant_text, constant_true, constant_false, brackets, many_before, remainder_before, compared_before, chain_of, negative}
use Rattle.label_reader.specs.Levels.{GoesOn, BeginsAt}
use Rattle.label_reader.specs.Inside.{IsInside, nested, many, remainder}
use Rattle.label_reader.specs.Inside.{compared as inside_compared}
use Rattle.fast_lex.specs.Units.{IsQuotedText}
use Rattle.label_reader.specs.Constants.{IsNumeral, NoNumeral, IsString, NoString}
use Rattle.label_reader.proofs.LevelForms.{level_begins}
use Rattle.label_reader.specs.Lists.{Without}

-- NUMBER and STRING tokens.

numeral_token : Lexeme
numeral_token = record (sample_token Number) { text = 48 ∷ [] }

pub sample_numeral : HasSample IsNumeral
unfolding numeral_token
sample_numeral = record { value = numeral_token; tokens = numeral_token ∷ []; spelled = ((refl, refl), ((omega arith, (omega arith, tt)), omega arith)) }

pub numeral_starts : AllStartIn (λ w. w ≡ Number) IsNumeral
numeral_starts = record { starts = λ t ts spelled. (word_starts Number).starts t ts spelled.0 }

-- no spelling begins with the next token
pub missing : {A : Type 0} {form : A → List Lexeme → Type 0} {goes_on : Word → Type 0} (tokens : List Lexeme) → HasSample form → ((more other after : List Lexeme) (a : A) → GoesOnAs tokens more → more ≡ other ++ after → form a other → ⊥) → IsRefused form goes_on tokens tokens
missing tokens sample none = record {
  part = [];
  split = refl;
  value = sample.value;
  later = sample.tokens;
  begins = sample.spelled;
  none = λ more other after a as_rest same spelled stops. none more other after a as_rest same spelled;
}

pub numeral_missing : (tokens : List Lexeme) → NoNumeral tokens → IsRefused IsNumeral closed tokens tokens
numeral_missing tokens no_numeral = missing tokens sample_numeral (λ more other after t as_rest same spelled. by tokens no_numeral more after t as_rest (same ∙ ap (λ l. l ++ after) spelled.0.0) spelled.0.1 spelled.1)
  where
    by : (tokens : List Lexeme) → NoNumeral tokens → (more after : List Lexeme) (t : Lexeme) → GoesOnAs tokens more → more ≡ t ∷ after → t.word ≡ Number → IsDigits t.text → ⊥
    by [] no_numeral more after t as_rest same is digits = let e : [] ≡ t ∷ after = sym as_rest ∙ same in cc
    by (s ∷ rest) no_numeral more after t as_rest same is digits =
        let e : s ∷ as_rest.0 ≡ t ∷ after = sym as_rest.1 ∙ same in
        let f : t ≡ s = cc in
        no_numeral s rest refl (sym (ap (λ (l : Lexeme). l.word) f) ∙ is) (subst (λ (l : Lexeme). IsDigits l.text) f digits)

pub numeral_read : (t : Lexeme) (tokens rest : List Lexeme) → tokens ≡ t ∷ rest → t.word ≡ Number → IsDigits t.text → IsRead IsNumeral closed tokens t rest
numeral_read t tokens rest here is digits = record {
  part = t ∷ [];
  split = here;
  spelled = ((refl, is), digits);
  only = λ more other after v as_rest same spelled stops. let e : t ∷ more ≡ v ∷ after = same ∙ ap (λ l. l ++ after) spelled.0.0 in (cc, cc);
}

pub string_read : (t : Lexeme) (values : List ℕ) (tokens rest : List Lexeme) → tokens ≡ t ∷ rest → t.word ≡ Quoted → IsQuoted t.text values → IsRead IsString closed tokens (t, values) rest
string_read t values tokens rest here is quoted = record {
  part = t ∷ [];
  split = here;
  spelled = ((refl, is), quoted);
  only = λ more other after v as_rest same spelled stops.
      let e : t ∷ more ≡ v.0 ∷ after = same ∙ ap (λ l. l ++ after) spelled.0.0 in
      let f : v.0 ≡ t = cc in
      let g : v.1 ≡ values = sym (quoted_stands_for _ v.1 (subst (λ (l : Lexeme). IsQuoted l.text v.1) f spelled.1)) ∙ quoted_stands_for _ values quoted in
      let both : v ≡ (t, values) = λ i. (f i, g i) in
      (both, cc);
}

string_token : Lexeme
string_token = record (sample_token Quoted) { text = 34 ∷ 34 ∷ [] }

pub sample_string : HasSample IsString
unfolding string_token
sample_string = record { value = (string_token, []); tokens = string_token ∷ []; spelled = ((refl, refl), record { inside = []; quotes = refl; units = no_units }) }

pub other_no_string : (tokens : List Lexeme) → IsOther Quoted tokens → NoString tokens
other_no_string tokens other t rest values here is quoted = subst (λ (l : List Lexeme). IsOther Quoted l) here other is

pub unquoted : (t : Lexeme) {tokens after : List Lexeme} → tokens ≡ t ∷ after → (IsQuotedText t.text → ⊥) → NoString tokens
unquoted t {after = after} here none u rest values other is quoted =
    let e : t ∷ after ≡ u ∷ rest = sym here ∙ other in
    let f : u ≡ t = cc in
    none (record { values = values; is = subst (λ (l : Lexeme). IsQuoted l.text values) f quoted })

pub string_missing : (tokens : List Lexeme) → NoString tokens → IsRefused IsString closed tokens tokens
string_missing tokens no_string = missing tokens sample_string (λ more other after v as_rest same spelled. by tokens no_string more after v.0 v.1 as_rest (same ∙ ap (λ l. l ++ after) spelled.0.0) spelled.0.1 spelled.1)
  where
    by : (tokens : List Lexeme) → NoString tokens → (more after : List Lexeme) (t : Lexeme) (values : List ℕ) → GoesOnAs tokens more → more ≡ t ∷ after → t.word ≡ Quoted → IsQuoted t.text values → ⊥
    by [] no_string more after t values as_rest same is quoted = let e : [] ≡ t ∷ after = sym as_rest ∙ same in cc
    by (s ∷ rest) no_string more after t values as_rest same is quoted =
        let e : s ∷ as_rest.0 ≡ t ∷ after = sym as_rest.1 ∙ same in
        let f : t ≡ s = cc in
        no_string s rest values refl (sym (ap (λ (l : Lexeme). l.word) f) ∙ is) (subst (λ (l : Lexeme). IsQuoted l.text values) f quoted)

-- Names and constants.
pub name_makes : (tokens : List Lexeme) → IsNext Id tokens → Makes (IsWord Id) (IsExpr Prim) (λ v. field v.place v.text) closed tokens
name_makes tokens is_next = alternative (other_than Id) tokens (λ v ts spelled. subst (λ (l : List Lexeme). IsExpr Prim (field v.place v.text) l) (sym spelled.0) (field_name v spelled.1)) (λ b ts spelled. back b ts spelled) (stops_other_than Id tokens is_next)
  where
    back : (whole : Expr) (ts : List Lexeme) → IsExpr Prim whole ts → StartsIn (other_than Id) ts ⊎ ((v : Lexeme) × (IsWord Id) v ts × (whole ≡ (field v.place v.text)))
    back whole ts (field_name t is) = inr (t, (refl, is), refl)
    back whole ts (constant_number t is digits) = inl (λ e. let f : Number ≡ Id = sym is ∙ e in cc)
    back whole ts (constant_text t values is quoted) = inl (λ e. let f : Quoted ≡ Id = sym is ∙ e in cc)
    back whole ts (constant_true t is) = inl (λ e. let f : True ≡ Id = sym is ∙ e in cc)
    back whole ts (constant_false t is) = inl (λ e. let f : False ≡ Id = sym is ∙ e in cc)
    back whole ts (brackets left right x inside is close is_x) = inl (λ e. let f : RoundOpen ≡ Id = sym is ∙ e in cc)
    back whole ts (many_before left op right kind first second others front behind is is_many close is_first are) = inl (λ e. let f : RoundOpen ≡ Id = sym is ∙ e in cc)
    back whole ts (remainder_before left op right a b front behind is is_op close is_a is_b) = inl (λ e. let f : RoundOpen ≡ Id = sym is ∙ e in cc)
    back whole ts (compared_before left op right rel a b front behind is is_op close is_a is_b) = inl (λ e. let f : RoundOpen ≡ Id = sym is ∙ e in cc)

pub true_makes : (tokens : List Lexeme) → IsNext True tokens → Makes (IsWord True) (IsExpr Prim) (λ v. truth v.place true) closed tokens
true_makes tokens is_next = alternative (other_than True) tokens (λ v ts spelled. subst (λ (l : List Lexeme). IsExpr Prim (truth v.place true) l) (sym spelled.0) (constant_true v spelled.1)) (λ b ts spelled. back b ts spelled) (stops_other_than True tokens is_next)
  where
    back : (whole : Expr) (ts : List Lexeme) → IsExpr Prim whole ts → StartsIn (other_than True) ts ⊎ ((v : Lexeme) × (IsWord True) v ts × (whole ≡ (truth v.place true)))
    back whole ts (field_name t is) = inl (λ e. let f : Id ≡ True = sym is ∙ e in cc)
    back whole ts (constant_number t is digits) = inl (λ e. let f : Number ≡ True = sym is ∙ e in cc)
    back whole ts (constant_text t values is quoted) = inl (λ e. let f : Quoted ≡ True = sym is ∙ e in cc)
    back whole ts (constant_true t is) = inr (t, (refl, is), refl)
    back whole ts (constant_false t is) = inl (λ e. let f : False ≡ True = sym is ∙ e in cc)
    back whole ts (brackets left right x inside is close is_x) = inl (λ e. let f : RoundOpen ≡ True = sym is ∙ e in cc)
    back whole ts (many_before left op right kind first second others front behind is is_many close is_first are) = inl (λ e. let f : RoundOpen ≡ True = sym is ∙ e in cc)
    back whole ts (remainder_before left op right a b front behind is is_op close is_a is_b) = inl (λ e. let f : RoundOpen ≡ True = sym is ∙ e in cc)
    back whole ts (compared_before left op right rel a b front behind is is_op close is_a is_b) = inl (λ e. let f : RoundOpen ≡ True = sym is ∙ e in cc)

pub false_makes : (tokens : List Lexeme) → IsNext False tokens → Makes (IsWord False) (IsExpr Prim) (λ v. truth v.place false) closed tokens
false_makes tokens is_next = alternative (other_than False) tokens (λ v ts spelled. subst (λ (l : List Lexeme). IsExpr Prim (truth v.place false) l) (sym spelled.0) (constant_false v spelled.1)) (λ b ts spelled. back b ts spelled) (stops_other_than False tokens is_next)
  where
    back : (whole : Expr) (ts : List Lexeme) → IsExpr Prim whole ts → StartsIn (other_than False) ts ⊎ ((v : Lexeme) × (IsWord False) v ts × (whole ≡ (truth v.place false)))
    back whole ts (field_name t is) = inl (λ e. let f : Id ≡ False = sym is ∙ e in cc)
    back whole ts (constant_number t is digits) = inl (λ e. let f : Number ≡ False = sym is ∙ e in cc)
    back whole ts (constant_text t values is quoted) = inl (λ e. let f : Quoted ≡ False = sym is ∙ e in cc)
    back whole ts (constant_true t is) = inl (λ e. let f : True ≡ False = sym is ∙ e in cc)
    back whole ts (constant_false t is) = inr (t, (refl, is), refl)
    back whole ts (brackets left right x inside is close is_x) = inl (λ e. let f : RoundOpen ≡ False = sym is ∙ e in cc)
    back whole ts (many_before left op right kind first second others front behind is is_many close is_first are) = inl (λ e. let f : RoundOpen ≡ False = sym is ∙ e in cc)
    back whole ts (remainder_before left op right a b front behind is is_op close is_a is_b) = inl (λ e. let f : RoundOpen ≡ False = sym is ∙ e in cc)
    back whole ts (compared_before left op right rel a b front behind is is_op close is_a is_b) = inl (λ e. let f : RoundOpen ≡ False = sym is ∙ e in cc)

pub string_makes : (tokens : List Lexeme) → IsNext Quoted tokens → Makes IsString (IsExpr Prim) (λ v. text v.0.place v.1) closed tokens
string_makes tokens is_next = alternative (other_than Quoted) tokens (λ v ts spelled. subst (λ (l : List Lexeme). IsExpr Prim (text v.0.place v.1) l) (sym spelled.0.0) (constant_text v.0 v.1 spelled.0.1 spelled.1)) (λ b ts spelled. back b ts spelled) (stops_other_than Quoted tokens is_next)
  where
    back : (whole : Expr) (ts : List Lexeme) → IsExpr Prim whole ts → StartsIn (other_than Quoted) ts ⊎ ((v : Lexeme × List ℕ) × IsString v ts × (whole ≡ (text v.0.place v.1)))
    back whole ts (field_name t is) = inl (λ e. let f : Id ≡ Quoted = sym is ∙ e in cc)
    back whole ts (constant_number t is digits) = inl (λ e. let f : Number ≡ Quoted = sym is ∙ e in cc)
    back whole ts (constant_text t values is quoted) = inr ((t, values), ((refl, is), quoted), refl)
    back whole ts (constant_true t is) = inl (λ e. let f : True ≡ Quoted = sym is ∙ e in cc)
    back whole ts (constant_false t is) = inl (λ e. let f : False ≡ Quoted = sym is ∙ e in cc)
    back whole ts (brackets left right x inside is close is_x) = inl (λ e. let f : RoundOpen ≡ Quoted = sym is ∙ e in cc)
    back whole ts (many_before left op right kind first second others front behind is is_many close is_first are) = inl (λ e. let f : RoundOpen ≡ Quoted = sym is ∙ e in cc)
    back whole ts (remainder_before left op right a b front behind is is_op close is_a is_b) = inl (λ e. let f : RoundOpen ≡ Quoted = sym is ∙ e in cc)
    back whole ts (compared_before left op right rel a b front behind is is_op close is_a is_b) = inl (λ e. let f : RoundOpen ≡ Quoted = sym is ∙ e in cc)

-- what a primary expression begins with, but for a number
abbrev OtherPrimary : Word → Type 0
OtherPrimary w = ((((w ≡ RoundOpen) ⊎ (w ≡ Id)) ⊎ (w ≡ True)) ⊎ (w ≡ False)) ⊎ (w ≡ Quoted)

pub number_makes : (tokens : List Lexeme) → IsOther RoundOpen tokens → IsOther Id tokens → IsOther True tokens → IsOther False tokens → IsOther Quoted tokens → Makes IsNumeral (IsExpr Prim) (λ t. number t.place (pos (digits_value 10 t.text))) closed tokens
number_makes tokens no_open no_name no_true no_false no_text = alternative OtherPrimary tokens (λ v ts spelled. subst (λ (l : List Lexeme). IsExpr Prim (number v.place (pos (digits_value 10 v.text))) l) (sym spelled.0.0) (constant_number v spelled.0.1 spelled.1)) (λ b ts spelled. back b ts spelled) (stops tokens no_open no_name no_true no_false no_text)
  where
    stops : (ts : List Lexeme) → IsOther RoundOpen ts → IsOther Id ts → IsOther True ts → IsOther False ts → IsOther Quoted ts → Stops OtherPrimary ts
    stops [] a b c d e = tt
    stops (t ∷ ts) a b c d e = λ h. elim h [ inl (inl (inl (inl x))) ↦ a x | inl (inl (inl (inr x))) ↦ b x | inl (inl (inr x)) ↦ c x | inl (inr x) ↦ d x | inr x ↦ e x ]

    back : (whole : Expr) (ts : List Lexeme) → IsExpr Prim whole ts → StartsIn OtherPrimary ts ⊎ ((t : Lexeme) × IsNumeral t ts × (whole ≡ number t.place (pos (digits_value 10 t.text))))
    back whole ts (field_name t is) = inl (inl (inl (inl (inr is))))
    back whole ts (constant_number t is digits) = inr (t, ((refl, is), digits), refl)
    back whole ts (constant_text t values is quoted) = inl (inr is)
    back whole ts (constant_true t is) = inl (inl (inl (inr is)))
    back whole ts (constant_false t is) = inl (inl (inr is))
    back whole ts (brackets left right x inside is close is_x) = inl (inl (inl (inl (inl is))))
    back whole ts (many_before left op right kind first second others front behind is is_many close is_first are) = inl (inl (inl (inl (inl is))))
    back whole ts (remainder_before left op right a b front behind is is_op close is_a is_b) = inl (inl (inl (inl (inl is))))
    back whole ts (compared_before left op right rel a b front behind is is_op close is_a is_b) = inl (inl (inl (inl (inl is))))

-- what stands behind an opening parenthesis
put_open : (left : Lexeme) (e : Expr) (ts : List Lexeme) → left.word ≡ RoundOpen → IsInside e ts → IsExpr Prim e (left ∷ ts)
put_open left e ts is (nested right x inside close is_x) = brackets left right x inside is close is_x
put_open left e ts is (many op right kind first second others front back is_many close is_first are) = many_before left op right kind first second others front back is is_many close is_first are
put_open left e ts is (remainder op right a b front back is_op close is_a is_b) = remainder_before left op right a b front back is is_op close is_a is_b
put_open left e ts is (inside_compared op right rel a b front back is_op close is_a is_b) = compared_before left op right rel a b front back is is_op close is_a is_b

pub open_makes : (tokens : List Lexeme) → IsNext RoundOpen tokens → Makes (IsWord RoundOpen ⊗ IsInside) (IsExpr Prim) (λ v. v.1) closed tokens
open_makes tokens is_next = alternative (other_than RoundOpen) tokens (λ v ts spelled. into v ts spelled) (λ b ts spelled. back b ts spelled) (stops_other_than RoundOpen tokens is_next)
  where
    into : (v : Lexeme × Expr) (ts : List Lexeme) → (IsWord RoundOpen ⊗ IsInside) v ts → IsExpr Prim v.1 ts
    into v ts spelled = subst (λ (l : List Lexeme). IsExpr Prim v.1 l) (sym (spelled.split ∙ ap (λ l. l ++ spelled.back) spelled.at_front.0)) (put_open v.0 v.1 spelled.back spelled.at_front.1 spelled.at_back)

    back : (e : Expr) (ts : List Lexeme) → IsExpr Prim e ts → StartsIn (other_than RoundOpen) ts ⊎ ((v : Lexeme × Expr) × (IsWord RoundOpen ⊗ IsInside) v ts × (e ≡ v.1))
    back e ts (field_name t is) = inl (λ h. let f : Id ≡ RoundOpen = sym is ∙ h in cc)
    back e ts (constant_number t is digits) = inl (λ h. let f : Number ≡ RoundOpen = sym is ∙ h in cc)
    back e ts (constant_text t values is quoted) = inl (λ h. let f : Quoted ≡ RoundOpen = sym is ∙ h in cc)
    back e ts (constant_true t is) = inl (λ h. let f : True ≡ RoundOpen = sym is ∙ h in cc)
    back e ts (constant_false t is) = inl (λ h. let f : False ≡ RoundOpen = sym is ∙ h in cc)
    back e ts (brackets left right x inside is close is_x) = inr ((left, x), record { front = left ∷ []; back = inside ++ right ∷ []; split = refl; at_front = (refl, is); at_back = nested right x inside close is_x }, refl)
    back e ts (many_before left op right kind first second others front behind is is_many close is_first are) = inr ((left, chain_of kind first (map (λ e. (op, e)) (second ∷ others))), record { front = left ∷ []; back = op ∷ front ++ (behind ++ right ∷ []); split = refl; at_front = (refl, is); at_back = many op right kind first second others front behind is_many close is_first are }, refl)
    back e ts (remainder_before left op right a b front behind is is_op close is_a is_b) = inr ((left, chain_of Product a ((op, b) ∷ [])), record { front = left ∷ []; back = op ∷ front ++ (behind ++ right ∷ []); split = refl; at_front = (refl, is); at_back = remainder op right a b front behind is_op close is_a is_b }, refl)
    back e ts (compared_before left op right rel a b front behind is is_op close is_a is_b) = inr ((left, compare op.place rel a b), record { front = left ∷ []; back = op ∷ front ++ (behind ++ right ∷ []); split = refl; at_front = (refl, is); at_back = inside_compared op right rel a b front behind is_op close is_a is_b }, refl)

-- `-` before a number or another primary expression.

abbrev pub IsNegated : Lexeme ⊎ Expr → List Lexeme → Type 0
IsNegated (inl t) = IsNumeral t
IsNegated (inr e) = Without Number (IsExpr Prim) e

abbrev pub negated_of : Lexeme → Lexeme ⊎ Expr → Expr
negated_of s (inl t) = number s.place (negative (digits_value 10 t.text))
negated_of s (inr e) = minus s.place e

pub minus_makes : (tokens : List Lexeme) → IsNext Minus tokens → Makes (IsWord Minus ⊗ IsNegated) (IsExpr Unary) (λ v. negated_of v.0 v.1) (GoesOn Unary) tokens
minus_makes tokens is_next = alternative (BeginsAt Prim) tokens (λ v ts spelled. into v.0 v.1 ts spelled) (λ b ts spelled. back b ts spelled) (stops_next Minus (BeginsAt Prim) tokens is_next (λ begins. omega arith))
  where
    into : (s : Lexeme) (m : Lexeme ⊎ Expr) (ts : List Lexeme) → (IsWord Minus s ⌢ IsNegated m) ts → IsExpr Unary (negated_of s m) ts
    into s (inl t) ts spelled = let later = spelled.at_back in
        subst (λ (l : List Lexeme). IsExpr Unary (negated_of s (inl t)) l) (sym (spelled.split ∙ ap (λ l. l ++ spelled.back) spelled.at_front.0 ∙ ap (λ l. s ∷ l) later.0.0)) (negative_number s t spelled.at_front.1 later.0.1 later.1)
    into s (inr e) ts spelled = let later = spelled.at_back in
        subst (λ (l : List Lexeme). IsExpr Unary (negated_of s (inr e)) l) (sym (spelled.split ∙ ap (λ l. l ++ spelled.back) spelled.at_front.0)) (minus_of s e spelled.back spelled.at_front.1 later.1 later.0)

    back : (whole : Expr) (ts : List Lexeme) → IsExpr Unary whole ts → StartsIn (BeginsAt Prim) ts ⊎ ((v : Lexeme × (Lexeme ⊎ Expr)) × (IsWord Minus ⊗ IsNegated) v ts × (whole ≡ negated_of v.0 v.1))
    back whole ts (negative_number s t is_minus is_number digits) = inr ((s, inl t), record { front = s ∷ []; back = t ∷ []; split = refl; at_front = (refl, is_minus); at_back = ((refl, is_number), digits) }, refl)
    back whole ts (minus_of s x inside is_minus other is) = inr ((s, inr x), record { front = s ∷ []; back = inside; split = refl; at_front = (refl, is_minus); at_back = (is, other) }, refl)
    back whole ts (no_minus x inside is) = inl ((level_begins Prim).starts x inside is)

pub no_minus_makes : (tokens : List Lexeme) → IsOther Minus tokens → Makes (IsExpr Prim) (IsExpr Unary) (λ e. e) (GoesOn Unary) tokens
no_minus_makes tokens is_other = alternative (λ w. w ≡ Minus) tokens (λ e ts is. no_minus e ts is) (λ b ts spelled. back b ts spelled) (stops_other Minus tokens is_other)
  where
    back : (whole : Expr) (ts : List Lexeme) → IsExpr Unary whole ts → StartsIn (λ w. w ≡ Minus) ts ⊎ ((e : Expr) × IsExpr Prim e ts × (whole ≡ e))
    back whole ts (negative_number s t is_minus is_number digits) = inl is_minus
    back whole ts (minus_of s x inside is_minus other is) = inl is_minus
    back whole ts (no_minus x inside is) = inr (x, is, refl)

other_begins : (w : Word) (ts : List Lexeme) → StartsIn (BeginsAt Prim) ts → IsOther w ts → StartsIn (other_than w) ts
other_begins w [] starts is_other = starts
other_begins w (t ∷ ts) starts is_other = is_other

pub negated_number : (goes_on : Word → Type 0) (tokens : List Lexeme) → IsNext Number tokens → Makes IsNumeral IsNegated (λ t. inl t) goes_on tokens
negated_number goes_on tokens is_next = alternative (other_than Number) tokens (λ t ts spelled. spelled) (λ b ts spelled. back b ts spelled) (stops_other_than Number tokens is_next)
  where
    back : (b : Lexeme ⊎ Expr) (ts : List Lexeme) → IsNegated b ts → StartsIn (other_than Number) ts ⊎ ((t : Lexeme) × IsNumeral t ts × (b ≡ inl t))
    back (inl t) ts spelled = inr (t, spelled, refl)
    back (inr e) ts spelled = inl (other_begins Number ts ((level_begins Prim).starts e ts spelled.0) spelled.1)

pub negated_other : (goes_on : Word → Type 0) (tokens : List Lexeme) → IsOther Number tokens → Makes (Without Number (IsExpr Prim)) IsNegated (λ e. inr e) goes_on tokens
negated_other goes_on tokens is_other = alternative (λ w. w ≡ Number) tokens (λ e ts spelled. spelled) (λ b ts spelled. back b ts spelled) (stops_other Number tokens is_other)
  where
    back : (b : Lexeme ⊎ Expr) (ts : List Lexeme) → IsNegated b ts → StartsIn (λ w. w ≡ Number) ts ⊎ ((e : Expr) × Without Number (IsExpr Prim) e ts × (b ≡ inr e))
    back (inl t) ts spelled = inl (numeral_starts.starts t ts spelled)
    back (inr e) ts spelled = inr (e, spelled, refl)

pub sample_without : HasSample (Without Number (IsExpr Prim))
sample_without = record { value = field (record { line = 1; column = 1 }) []; tokens = sample_token Id ∷ []; spelled = (field_name (sample_token Id) refl, λ e. cc) }

pub prim_in_unary : (w : Word) → closed w → GoesOn Unary w
prim_in_unary w none = absurd none

pub closed_by : (goes_on : Word → Type 0) (w : Word) → closed w → goes_on w
closed_by goes_on w none = absurd none

-- no token is left
pub prim_ended : (tokens : List Lexeme) → tokens ≡ [] → Fails (IsExpr Prim) closed tokens (Some tokens)
prim_ended tokens ended = subst (λ (l : List Lexeme). Fails (IsExpr Prim) closed l (Some l)) (sym ended) (as_fails _ (number_makes [] tt tt tt tt tt) (record { why = numeral_missing [] (λ t rest here is digits. absurd cc) }))
