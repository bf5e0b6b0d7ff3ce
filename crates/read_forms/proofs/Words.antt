-- Forms of one token.
use Rattle.std.proofs.Common.{◌≡◌, List, [], ◌∷◌, ◌++◌, refl, sym, ap, ◌∙◌, subst, ◌⊎◌, inl, inr}
use Rattle.model_program.specs.declared.Word.{Word}
use Rattle.model_program.specs.declared.Word.TheVariants.{Comma}
use Rattle.model_program.specs.Lexeme.{Lexeme}
use Rattle.model_program.specs.Joined.{IsNext, IsOther}
use Rattle.read_forms.specs.Reads.{IsRead, IsRefused, StartsIn, closed}
use Rattle.model_program.specs.Grammar.{IsWord, IsSign, IsAt, IsComma, comma}
use Rattle.read_forms.specs.Parts.{HasSample, AllStartIn, other_than}
use Rattle.read_forms.proofs.Forms.{Makes, as_read, remade, stands, left_out, stops_other, starts_next, elsewhere, sample_as}

-- a token of a word
abbrev pub sample_token : Word → Lexeme
sample_token w = record { word = w; text = []; start = 0; place = record { line = 1; column = 1 } }

pub next_of : (w : Word) (t : Lexeme) (tokens rest : List Lexeme) → tokens ≡ t ∷ rest → t.word ≡ w → IsNext w tokens
next_of w t tokens rest here is_word = subst (λ (l : List Lexeme). IsNext w l) (sym here) is_word

-- the next token is the word
pub word_read : {goes_on : Word → Type 0} (w : Word) (t : Lexeme) (tokens rest : List Lexeme) → tokens ≡ t ∷ rest → t.word ≡ w → IsRead (IsWord w) goes_on tokens t rest
word_read w t tokens rest here is_word = record {
  part = t ∷ [];
  split = here;
  spelled = (refl, is_word);
  only = λ more other after v as_rest same is_form stops.
      let first : t ∷ more ≡ v ∷ after = same ∙ ap (λ l. l ++ after) is_form.0 in (cc, cc);
}

-- no token but the word begins the word
pub word_refused : (w : Word) (tokens : List Lexeme) → IsOther w tokens → IsRefused (IsWord w) closed tokens tokens
word_refused w tokens other_word = record {
  part = [];
  split = refl;
  value = sample_token w;
  later = sample_token w ∷ [];
  begins = (refl, refl);
  none = λ more other after v as_rest same is_word stops. elsewhere (λ u. u ≡ w) tokens more (stops_other w tokens other_word) as_rest
      (subst (λ (l : List Lexeme). StartsIn (λ u. u ≡ w) l) (sym (same ∙ ap (λ l. l ++ after) is_word.0)) is_word.1);
}

pub word_starts : (w : Word) → AllStartIn (λ v. v ≡ w) (IsWord w)
word_starts w = record { starts = λ t ts is_word. subst (λ (l : List Lexeme). StartsIn (λ v. v ≡ w) l) (sym is_word.0) is_word.1 }

pub sign_starts : (w : Word) → AllStartIn (λ v. v ≡ w) (IsSign w)
sign_starts w = record { starts = λ u ts is_sign. (word_starts w).starts is_sign.0 ts is_sign.1 }

pub sample_sign : (w : Word) → HasSample (IsSign w)
sample_sign w = record { value = tt; tokens = sample_token w ∷ []; spelled = (sample_token w, (refl, refl)) }

pub sign_makes : (w : Word) (goes_on : Word → Type 0) (tokens : List Lexeme) → Makes (IsWord w) (IsSign w) (λ _. tt) goes_on tokens
sign_makes w goes_on tokens = remade (λ t ts is_word. (t, is_word)) (λ _ ts is_sign. (is_sign.0, is_sign.1, refl))

pub word_other : (w v : Word) (t : Lexeme) (ts : List Lexeme) → (v ≡ w → ⊥) → IsWord v t ts → StartsIn (other_than w) ts
word_other w v t ts apart is_word = subst (λ (l : List Lexeme). StartsIn (other_than w) l) (sym is_word.0) (λ e. apart (sym is_word.1 ∙ e))

pub sample_word : (w : Word) → HasSample (IsWord w)
sample_word w = record { value = sample_token w; tokens = sample_token w ∷ []; spelled = (refl, refl) }

-- a keyword at its place
pub at_makes : (w : Word) (goes_on : Word → Type 0) (tokens : List Lexeme) → Makes (IsWord w) (IsAt w) (λ t. t.place) goes_on tokens
at_makes w goes_on tokens = remade (λ t ts is_word. (t, is_word, refl)) (λ _ ts is_at. (is_at.0, is_at.1, is_at.2))

pub at_read : {goes_on : Word → Type 0} (w : Word) (t : Lexeme) (tokens rest : List Lexeme) → tokens ≡ t ∷ rest → t.word ≡ w → IsRead (IsAt w) goes_on tokens t.place rest
at_read w t tokens rest here is_word = as_read (at_makes w _ tokens) (word_read w t tokens rest here is_word)

pub sample_at : (w : Word) → HasSample (IsAt w)
sample_at w = sample_as (λ t. t.place) (λ t ts is_word. (t, is_word, refl)) (sample_word w)

-- a comma that may be left out, where it stands
pub comma_stands : (t : Lexeme) (tokens rest : List Lexeme) → tokens ≡ t ∷ rest → t.word ≡ Comma → IsRead IsComma comma tokens tt rest
comma_stands t tokens rest here is_comma = as_read (stands tokens (λ _ ts is_sign. inr is_sign) (λ _ ts spelled. either ts spelled) (starts_next Comma comma tokens (next_of Comma t tokens rest here is_comma) refl))
    (as_read (sign_makes Comma comma tokens) (word_read Comma t tokens rest here is_comma))
  where
    either : (ts : List Lexeme) → IsComma tt ts → (ts ≡ []) ⊎ ((u : Unit {0}) × IsSign Comma u ts × ((let v : Unit {0} = tt in v) ≡ u))
    either ts (inl none) = inl none
    either ts (inr is_sign) = inr (tt, is_sign, refl)

-- and where none stands
pub comma_left_out : (tokens : List Lexeme) → IsOther Comma tokens → IsRead IsComma comma tokens tt tokens
comma_left_out tokens is_other = left_out comma tokens tt (inl refl) (λ _ ts spelled. either ts spelled) (stops_other Comma tokens is_other)
  where
    either : (ts : List Lexeme) → IsComma tt ts → (((let v : Unit {0} = tt in v) ≡ (let v : Unit {0} = tt in v)) × (ts ≡ [])) ⊎ StartsIn comma ts
    either ts (inl none) = inl (refl, none)
    either ts (inr is_sign) = inr ((sign_starts Comma).starts tt ts is_sign)
