-- What reading says of the bytes.
use Rattle.std.proofs.Common.{◌≡◌, ℕ, ◌≤◌, ◌<◌, List, [], ◌∷◌, ◌++◌, length, take, drop, refl, sym, ap, ◌∙◌, subst, append_assoc, arith, zero, suc, get_or}
use Rattle.std.proofs.lemmas.List.{length-append, length-drop, length-take-le, take-append-drop}
use Rattle.std.proofs.Math.Seq.{take-append_seam}
use Rattle.std.specs.Char.{IsScalar, encode_utf8}
use Rattle.std.specs.Str.{chars, IsUtf8, IsValidUpTo}
use Rattle.std.proofs.lemmas.Str.{IsUtf8-append, IsUtf8-encode, length-encode, len_utf8_bounds}
use Rattle.fast_fault.specs.declared.place.Pos.{Pos}
use Rattle.fast_fault.specs.declared.code.Code.{Code}
use Rattle.fast_fault.specs.declared.code.Code.TheVariants as code
use Rattle.model_program.specs.Lexeme.{Lexeme}
use Rattle.model_program.specs.Cuts.{place_after}
use Rattle.model_program.specs.Texts.{IsBadUtf8At}
use Rattle.model_program.proofs.Unique.{same_tokens}
use Rattle.model_grammar.specs.Texts.{IsText}
use Rattle.model_grammar.specs.Wrong.{IsFirstWrong, place_of}
use Rattle.fast_lex.specs.declared.Token.{Token}
use Rattle.label_reader.specs.Results.{lexemes}
use Rattle.model_refusals.specs.Refusals.{AreShallowTokens, IsEarlyRefusal, IsRefusal}

-- the longest front of bytes that is characters, and the place behind it
pub bad_utf8 : (bytes : List ℕ) (n : ℕ) (place : Pos) → IsValidUpTo bytes n → place ≡ place_after (chars (take n bytes)) → IsBadUtf8At bytes place
bad_utf8 bytes n place valid is = record {
  front = take n bytes;
  rest = drop n bytes;
  split = sym (take-append-drop n bytes);
  encoded = valid.front;
  goes_on = λ ended. let s = valid.short in let e : length (drop n bytes) ≡ 0 = ap length ended in omega (arith, s, length-drop n bytes, e);
  none = λ c more scalar here. longer c more scalar here;
  is = is;
}
  where
    further : (c : ℕ) → n < length (take n bytes ++ encode_utf8 c)
    further c =
        let s = valid.short in
        let at_n : length (take n bytes) ≡ n = length-take-le n bytes (omega (arith, s)) in
        let e = length-append (take n bytes) (encode_utf8 c) in
        let f = length-encode c in
        let g = (len_utf8_bounds c).0 in
        omega (arith, at_n, e, f, g)

    longer : (c : ℕ) (more : List ℕ) → IsScalar c → drop n bytes ≡ encode_utf8 c ++ more → ⊥
    longer c more scalar here =
        let whole : bytes ≡ (take n bytes ++ encode_utf8 c) ++ more = sym (take-append-drop n bytes) ∙ ap (λ l. take n bytes ++ l) here ∙ sym (append_assoc (take n bytes) (encode_utf8 c) more) in
        let front : take (length (take n bytes ++ encode_utf8 c)) bytes ≡ take n bytes ++ encode_utf8 c = ap (λ l. take (length (take n bytes ++ encode_utf8 c)) l) whole ∙ take-append_seam (take n bytes ++ encode_utf8 c) more in
        valid.longest (length (take n bytes ++ encode_utf8 c)) (further c)
        (subst (λ (l : List ℕ). IsUtf8 l) (sym front) (IsUtf8-append (take n bytes) (encode_utf8 c) valid.front (IsUtf8-encode c scalar)))

-- a value that the tokens spell is that of the text, and the only one
pub text_found : {A : Type 0} {form : A → List Lexeme → Type 0} (bytes : List ℕ) (tokens : List Lexeme) (value : A) → AreShallowTokens bytes tokens → form value tokens → IsText form bytes value
text_found bytes tokens value are spelled = let all = are.tokens_of in record { short = all.short; encoded = all.encoded; tokens = tokens; are = all.are; shallow = are.shallow; spelled = spelled }

pub text_only : {A : Type 0} {form : A → List Lexeme → Type 0} (bytes : List ℕ) (tokens : List Lexeme) (value : A) → AreShallowTokens bytes tokens → ((other : A) → form other tokens → other ≡ value) → (other : A) → IsText form bytes other → other ≡ value
text_only {form} bytes tokens value are only other text = only other (subst (λ (l : List Lexeme). form other l) (same_tokens (chars bytes) text.tokens tokens text.are are.tokens_of.are) text.spelled)

pub text_wrong : {A : Type 0} {form : A → List Lexeme → Type 0} (bytes : List ℕ) (tokens : List Lexeme) (k : ℕ) (place : Pos) → AreShallowTokens bytes tokens → IsFirstWrong form tokens k → place ≡ place_of k tokens (place_after (chars bytes)) → IsRefusal form bytes code.Syntax place
text_wrong bytes tokens k place are first is = (tokens, are, record { k = k; first = first; is = is })

-- an early refusal is one of each form
pub early : {A : Type 0} (form : A → List Lexeme → Type 0) (bytes : List ℕ) (c : Code) (place : Pos) → IsEarlyRefusal bytes c place → IsRefusal form bytes c place
early form bytes code.Syntax place none = absurd none
early form bytes c place refused = refused

pub shallow_of : (text bytes : List ℕ) (found seen : List Token) → text ≡ bytes → seen ≡ found → AreShallowTokens text (lexemes found) → AreShallowTokens bytes (lexemes seen)
shallow_of text bytes found seen same is are = subst (λ (b : List ℕ). AreShallowTokens b (lexemes seen)) same (subst (λ (l : List Token). AreShallowTokens text (lexemes l)) (sym is) are)

-- the place of a token by its number

pub place_some : (ts : List Token) (i : ℕ) (t : Token) (end : Pos) → i < length ts → t ≡ get_or ts i t → t.place ≡ place_of i (lexemes ts) end
place_some [] i t end below is = absurd (omega arith)
place_some (x ∷ xs) zero t end below is = ap (λ (u : Token). u.place) is
place_some (x ∷ xs) (suc i) t end below is = place_some xs i t end (omega arith) is

pub place_none : (ts : List Token) (i : ℕ) (end : Pos) → length ts ≤ i → end ≡ place_of i (lexemes ts) end
place_none [] i end past = refl
place_none (x ∷ xs) zero end past = absurd (omega arith)
place_none (x ∷ xs) (suc i) end past = place_none xs i end (omega arith)
