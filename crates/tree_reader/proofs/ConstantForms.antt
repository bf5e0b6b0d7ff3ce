-- Of what labels are made.
use Rattle.std.proofs.Common.{◌≡◌, ℕ, pos, true, false, List, [], ◌∷◌, ◌++◌, refl, sym, ap, ◌∙◌, subst, Some, ◌⊎◌, inl, inr}
use Rattle.std.specs.Str.Parse.{digits_value}
use Rattle.model_program.specs.declared.Word.{Word}
use Rattle.model_program.specs.declared.Word.TheVariants.{True, False, Number, Quoted, Minus, Comma, SquareOpen, SquareClose}
use Rattle.model_program.specs.Lexeme.{Lexeme}
use Rattle.model_program.specs.Joined.{IsNext, IsOther, ◌⊗◌}
use Rattle.read_forms.specs.Reads.{Stops, StartsIn, Fails, closed}
use Rattle.model_program.specs.Grammar.{IsWord}
use Rattle.read_forms.specs.Parts.{HasSample, other_than}
use Rattle.read_forms.proofs.Forms.{Makes, as_fails, sample_as, sample_pair, alternative, stops_other_than, starts_wider, ends_closed}
use Rattle.read_forms.proofs.Words.{sample_sign, sample_token}
use Rattle.model_grammar.specs.Syntax.{Expr, number, text, truth}
use Rattle.model_grammar.specs.Expressions.{negative}
use Rattle.model_grammar.specs.TreeFiles.{AreConstants, IsConstant, a_number, a_negative, a_text, a_true, a_false}
use Rattle.label_reader.specs.Constants.{IsNumeral, IsString}
use Rattle.label_reader.specs.Lists.{Without, IsItem}
use Rattle.label_reader.specs.declared.lists.Between.TheVariants as gap
use Rattle.label_reader.proofs.Listed.{sample_any_to}
use Rattle.label_reader.proofs.Primaries.{numeral_missing}

pub true_makes : (tokens : List Lexeme) → IsNext True tokens → Makes (IsWord True) IsConstant (λ v. truth v.place true) closed tokens
true_makes tokens is_next = alternative (other_than True) tokens (λ v ts spelled. subst (λ (l : List Lexeme). IsConstant (truth v.place true) l) (sym spelled.0) (a_true v spelled.1)) (λ b ts spelled. back b ts spelled) (stops_other_than True tokens is_next)
  where
    back : (e : Expr) (ts : List Lexeme) → IsConstant e ts → StartsIn (other_than True) ts ⊎ ((v : Lexeme) × IsWord True v ts × (e ≡ truth v.place true))
    back e ts (a_number t is digits) = inl (λ h. let f : Number ≡ True = sym is ∙ h in cc)
    back e ts (a_negative s t is_minus is_number digits) = inl (λ h. let f : Minus ≡ True = sym is_minus ∙ h in cc)
    back e ts (a_text t values is quoted) = inl (λ h. let f : Quoted ≡ True = sym is ∙ h in cc)
    back e ts (a_true t is) = inr (t, (refl, is), refl)
    back e ts (a_false t is) = inl (λ h. let f : False ≡ True = sym is ∙ h in cc)

pub false_makes : (tokens : List Lexeme) → IsNext False tokens → Makes (IsWord False) IsConstant (λ v. truth v.place false) closed tokens
false_makes tokens is_next = alternative (other_than False) tokens (λ v ts spelled. subst (λ (l : List Lexeme). IsConstant (truth v.place false) l) (sym spelled.0) (a_false v spelled.1)) (λ b ts spelled. back b ts spelled) (stops_other_than False tokens is_next)
  where
    back : (e : Expr) (ts : List Lexeme) → IsConstant e ts → StartsIn (other_than False) ts ⊎ ((v : Lexeme) × IsWord False v ts × (e ≡ truth v.place false))
    back e ts (a_number t is digits) = inl (λ h. let f : Number ≡ False = sym is ∙ h in cc)
    back e ts (a_negative s t is_minus is_number digits) = inl (λ h. let f : Minus ≡ False = sym is_minus ∙ h in cc)
    back e ts (a_text t values is quoted) = inl (λ h. let f : Quoted ≡ False = sym is ∙ h in cc)
    back e ts (a_true t is) = inl (λ h. let f : True ≡ False = sym is ∙ h in cc)
    back e ts (a_false t is) = inr (t, (refl, is), refl)

pub text_makes : (tokens : List Lexeme) → IsNext Quoted tokens → Makes IsString IsConstant (λ v. text v.0.place v.1) closed tokens
text_makes tokens is_next = alternative (other_than Quoted) tokens (λ v ts spelled. subst (λ (l : List Lexeme). IsConstant (text v.0.place v.1) l) (sym spelled.0.0) (a_text v.0 v.1 spelled.0.1 spelled.1)) (λ b ts spelled. back b ts spelled) (stops_other_than Quoted tokens is_next)
  where
    back : (e : Expr) (ts : List Lexeme) → IsConstant e ts → StartsIn (other_than Quoted) ts ⊎ ((v : Lexeme × List ℕ) × IsString v ts × (e ≡ text v.0.place v.1))
    back e ts (a_number t is digits) = inl (λ h. let f : Number ≡ Quoted = sym is ∙ h in cc)
    back e ts (a_negative s t is_minus is_number digits) = inl (λ h. let f : Minus ≡ Quoted = sym is_minus ∙ h in cc)
    back e ts (a_text t values is quoted) = inr ((t, values), ((refl, is), quoted), refl)
    back e ts (a_true t is) = inl (λ h. let f : True ≡ Quoted = sym is ∙ h in cc)
    back e ts (a_false t is) = inl (λ h. let f : False ≡ Quoted = sym is ∙ h in cc)

pub negative_makes : (tokens : List Lexeme) → IsNext Minus tokens → Makes (IsWord Minus ⊗ IsNumeral) IsConstant (λ v. number v.0.place (negative (digits_value 10 v.1.text))) closed tokens
negative_makes tokens is_next = alternative (other_than Minus) tokens (λ v ts spelled. into v ts spelled) (λ b ts spelled. back b ts spelled) (stops_other_than Minus tokens is_next)
  where
    into : (v : Lexeme × Lexeme) (ts : List Lexeme) → (IsWord Minus ⊗ IsNumeral) v ts → IsConstant (number v.0.place (negative (digits_value 10 v.1.text))) ts
    into v ts spelled = let later = spelled.at_back in
        subst (λ (l : List Lexeme). IsConstant (number v.0.place (negative (digits_value 10 v.1.text))) l) (sym (spelled.split ∙ ap (λ l. l ++ spelled.back) spelled.at_front.0 ∙ ap (λ l. v.0 ∷ l) later.0.0)) (a_negative v.0 v.1 spelled.at_front.1 later.0.1 later.1)

    back : (e : Expr) (ts : List Lexeme) → IsConstant e ts → StartsIn (other_than Minus) ts ⊎ ((v : Lexeme × Lexeme) × (IsWord Minus ⊗ IsNumeral) v ts × (e ≡ number v.0.place (negative (digits_value 10 v.1.text))))
    back e ts (a_number t is digits) = inl (λ h. let f : Number ≡ Minus = sym is ∙ h in cc)
    back e ts (a_negative s t is_minus is_number digits) = inr ((s, t), record { front = s ∷ []; back = t ∷ []; split = refl; at_front = (refl, is_minus); at_back = ((refl, is_number), digits) }, refl)
    back e ts (a_text t values is quoted) = inl (λ h. let f : Quoted ≡ Minus = sym is ∙ h in cc)
    back e ts (a_true t is) = inl (λ h. let f : True ≡ Minus = sym is ∙ h in cc)
    back e ts (a_false t is) = inl (λ h. let f : False ≡ Minus = sym is ∙ h in cc)

-- the words by which the other labels begin
abbrev OtherLabel : Word → Type 0
OtherLabel w = (((w ≡ True) ⊎ (w ≡ False)) ⊎ (w ≡ Quoted)) ⊎ (w ≡ Minus)

pub number_makes : (tokens : List Lexeme) → IsOther True tokens → IsOther False tokens → IsOther Quoted tokens → IsOther Minus tokens → Makes IsNumeral IsConstant (λ t. number t.place (pos (digits_value 10 t.text))) closed tokens
number_makes tokens no_true no_false no_text no_minus = alternative OtherLabel tokens (λ v ts spelled. subst (λ (l : List Lexeme). IsConstant (number v.place (pos (digits_value 10 v.text))) l) (sym spelled.0.0) (a_number v spelled.0.1 spelled.1)) (λ b ts spelled. back b ts spelled) (stops tokens no_true no_false no_text no_minus)
  where
    stops : (ts : List Lexeme) → IsOther True ts → IsOther False ts → IsOther Quoted ts → IsOther Minus ts → Stops OtherLabel ts
    stops [] a b c d = tt
    stops (t ∷ ts) a b c d = λ h. elim h [ inl (inl (inl x)) ↦ a x | inl (inl (inr x)) ↦ b x | inl (inr x) ↦ c x | inr x ↦ d x ]

    back : (e : Expr) (ts : List Lexeme) → IsConstant e ts → StartsIn OtherLabel ts ⊎ ((t : Lexeme) × IsNumeral t ts × (e ≡ number t.place (pos (digits_value 10 t.text))))
    back e ts (a_number t is digits) = inr (t, ((refl, is), digits), refl)
    back e ts (a_negative s t is_minus is_number digits) = inl (inr is_minus)
    back e ts (a_text t values is quoted) = inl (inl (inr is))
    back e ts (a_true t is) = inl (inl (inl (inl is)))
    back e ts (a_false t is) = inl (inl (inl (inr is)))

-- no token is left
pub label_ended : (tokens : List Lexeme) → tokens ≡ [] → Fails IsConstant closed tokens (Some tokens)
label_ended tokens ended = subst (λ (l : List Lexeme). Fails IsConstant closed l (Some l)) (sym ended) (as_fails _ (number_makes [] tt tt tt tt) (record { why = numeral_missing [] (λ t rest here is digits. absurd cc) }))

-- A row of labels.

starts_label : (e : Expr) (ts : List Lexeme) → IsConstant e ts → StartsIn (λ w. OtherLabel w ⊎ (w ≡ Number)) ts
starts_label e ts (a_number t is digits) = inr is
starts_label e ts (a_negative s t is_minus is_number digits) = inl (inr is_minus)
starts_label e ts (a_text t values is quoted) = inl (inl (inr is))
starts_label e ts (a_true t is) = inl (inl (inl (inl is)))
starts_label e ts (a_false t is) = inl (inl (inl (inr is)))

no_close : (w : Word) → OtherLabel w ⊎ (w ≡ Number) → w ≡ SquareClose → ⊥
no_close w (inl (inl (inl (inl is)))) e = let f : True ≡ SquareClose = sym is ∙ e in cc
no_close w (inl (inl (inl (inr is)))) e = let f : False ≡ SquareClose = sym is ∙ e in cc
no_close w (inl (inl (inr is))) e = let f : Quoted ≡ SquareClose = sym is ∙ e in cc
no_close w (inl (inr is)) e = let f : Minus ≡ SquareClose = sym is ∙ e in cc
no_close w (inr is) e = let f : Number ≡ SquareClose = sym is ∙ e in cc

no_comma : (w : Word) → OtherLabel w ⊎ (w ≡ Number) → w ≡ Comma → ⊥
no_comma w (inl (inl (inl (inl is)))) e = let f : True ≡ Comma = sym is ∙ e in cc
no_comma w (inl (inl (inl (inr is)))) e = let f : False ≡ Comma = sym is ∙ e in cc
no_comma w (inl (inl (inr is))) e = let f : Quoted ≡ Comma = sym is ∙ e in cc
no_comma w (inl (inr is)) e = let f : Minus ≡ Comma = sym is ∙ e in cc
no_comma w (inr is) e = let f : Number ≡ Comma = sym is ∙ e in cc

-- a label that begins with no `-`
sample_alone : HasSample (Without Minus IsConstant)
sample_alone = record { value = truth (record { line = 1; column = 1 }) true; tokens = sample_token True ∷ []; spelled = (a_true (sample_token True) refl, λ e. cc) }

pub constant_item : IsItem gap.LabelComma SquareClose IsConstant closed
constant_item = record {
  alone = sample_alone;
  no_comma = record { starts = λ e ts is. starts_wider (λ w. OtherLabel w ⊎ (w ≡ Number)) (other_than Comma) ts no_comma (starts_label e ts is) };
  no_close = record { starts = λ e ts is. starts_wider (λ w. OtherLabel w ⊎ (w ≡ Number)) (other_than SquareClose) ts no_close (starts_label e ts is) };
  closes = (λ h. cc, λ h. cc);
  ends = ends_closed _ closed;
}

pub sample_constants : HasSample AreConstants
sample_constants = sample_as (λ (v : Unit {0} × List Expr). v.1) (λ v ts spelled. spelled) (sample_pair (sample_sign SquareOpen) (sample_any_to gap.LabelComma IsConstant SquareClose))
