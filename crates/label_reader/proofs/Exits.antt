-- What is returned at the exit of a `?`, and how many tokens are left.
use Rattle.std.proofs.Common.{◌≡◌, ℕ, zero, suc, ◌+◌, ◌<◌, ◌≤◌, List, [], ◌∷◌, ◌++◌, length, drop, refl, sym, ap, subst, ◌∙◌, arith, Result, Ok, Err}
use Rattle.std.proofs.Math.Seq.{drop-nil}
use Rattle.std.proofs.lemmas.List.{length-append}
use Rattle.std.specs.Prelude.{IsErrAnd, IfOk}
use Rattle.std.proofs.lemmas.Result.{err_from_is_err_and}
use Rattle.model_program.specs.declared.Word.{Word}
use Rattle.model_program.specs.Lexeme.{Lexeme}
use Rattle.model_program.specs.Joined.{IsNext, IsOther}
use Rattle.model_program.specs.Grammar.{IsSign}
use Rattle.read_forms.specs.Reads.{IsRead, Fails, StartsIn, closed}
use Rattle.read_forms.specs.Parts.{AllStartIn}
use Rattle.read_forms.proofs.Forms.{Makes, as_read, as_fails}
use Rattle.read_forms.proofs.Words.{word_read, sign_makes}
use Rattle.fast_lex.specs.declared.Token.{Token}
use Rattle.fast_lex.specs.Tokens.{lexeme}
use Rattle.label_reader.proofs.LevelForms.{wider_read, wider_fails}
use Rattle.label_reader.specs.declared.reader.Reader.{Reader}
use Rattle.label_reader.specs.declared.stop.Stop.{Stop}
use Rattle.label_reader.specs.Results.{lexemes, left, behind, bad_of, Reads}

pub exit : {A X : Type 0} {form : A → List Lexeme → Type 0} {goes_on : Word → Type 0} (tokens rest : List Lexeme) (view : X → A) (e : Stop) (r : Result X Stop) → IsErrAnd r (λ y. y ≡ e) → Fails form goes_on tokens (bad_of e rest) → Reads form goes_on tokens rest view r
exit tokens rest view e r is fails = let p = err_from_is_err_and r is in rw (p.1, p.2) fails

-- what a reader of one form returned, where another has the same spellings
pub reads_as : {A X : Type 0} {p q : A → List Lexeme → Type 0} {goes_on : Word → Type 0} (tokens rest : List Lexeme) (view : X → A) (r : Result X Stop) → Makes p q (λ a. a) goes_on tokens → Reads p goes_on tokens rest view r → Reads q goes_on tokens rest view r
reads_as tokens rest view (Ok x) makes read = as_read makes read
reads_as tokens rest view (Err e) makes fails = as_fails _ makes fails

-- what is left is shorter
pub not_longer : {A : Type 0} {form : A → List Lexeme → Type 0} {goes_on : Word → Type 0} {a : A} (tokens rest : List Lexeme) → IsRead form goes_on tokens a rest → length rest ≤ length tokens
not_longer tokens rest read = omega (arith, simp length-append at (ap length read.split))

pub shorter : {A : Type 0} {form : A → List Lexeme → Type 0} {goes_on : Word → Type 0} {a : A} (words : Word → Type 0) (tokens rest : List Lexeme) → AllStartIn words form → IsRead form goes_on tokens a rest → length rest < length tokens
shorter words tokens rest starts read = some read.part (starts.starts _ read.part read.spelled) read.split
  where
    some : (part : List Lexeme) → StartsIn words part → tokens ≡ part ++ rest → length rest < length tokens
    some [] starts split = absurd starts
    some (t ∷ ts) starts split = omega (arith, simp length-append at (ap length split))

-- what a reader returned, where the form may go on by more words
pub reads_wider : {A X : Type 0} (form : A → List Lexeme → Type 0) (few many : Word → Type 0) (tokens rest : List Lexeme) (view : X → A) (r : Result X Stop) → ((w : Word) → few w → many w) → Reads form few tokens rest view r → Reads form many tokens rest view r
reads_wider form few many tokens rest view (Ok x) wider read = wider_read wider read
reads_wider form few many tokens rest view (Err e) wider fails = wider_fails _ wider fails

-- behind the first token
pub taken : (tokens rest : List Lexeme) (t : Lexeme) → tokens ≡ t ∷ rest → length rest < length tokens
taken tokens rest t here = omega (arith, ap length here)

-- a reader returned a value: what is left is shorter
pub reads_shorter : {A X : Type 0} {words : Word → Type 0} (form : A → List Lexeme → Type 0) (goes_on : Word → Type 0) (tokens rest : List Lexeme) (view : X → A) (r : Result X Stop) → AllStartIn words form → Reads form goes_on tokens rest view r → IfOk r (λ x. length rest < length tokens)
reads_shorter {words = words} form goes_on tokens rest view (Ok x) starts read = shorter words tokens rest starts read
reads_shorter form goes_on tokens rest view (Err e) starts fails = tt

-- the next token, and what is left where it is taken
pub stepped : {A : Type 0} {tokens after rest : List Lexeme} (t : Lexeme) → (tokens ≡ t ∷ after) × A → rest ≡ after → (tokens ≡ t ∷ rest) × A
stepped t e is = (e.0 ∙ ap (λ l. t ∷ l) (sym is), e.1)

-- where it is another word, and where there is none
pub other_next : (w : Word) (t : Lexeme) {tokens after : List Lexeme} → tokens ≡ t ∷ after → (t.word ≡ w → ⊥) → IsOther w tokens
other_next w t here other = subst (λ (l : List Lexeme). IsOther w l) (sym here) other

pub none_next : (w : Word) {tokens : List Lexeme} → tokens ≡ [] → IsOther w tokens
none_next w none = subst (λ (l : List Lexeme). IsOther w l) (sym none) tt

-- the next token is the word, and is taken
next_in : (w : Word) (n : ℕ) (tokens : List Token) → IsNext w (lexemes (drop n tokens)) → (t : Lexeme) × (lexemes (drop n tokens) ≡ t ∷ lexemes (drop (n + 1) tokens)) × (t.word ≡ w)
next_in w n [] is_next = absurd (subst (λ (l : List Token). IsNext w (lexemes l)) (drop-nil n) is_next)
next_in w zero (t ∷ ts) is_next = (lexeme t, refl, is_next)
next_in w (suc n) (t ∷ ts) is_next =
    let e = next_in w n ts is_next in
    let one_more : suc (n + 1) ≡ suc n + 1 = omega arith in
    (e.0, e.1 ∙ ap (λ m. e.0 ∷ lexemes (drop m (t ∷ ts))) one_more, e.2)

pub next_taken : {w : Word} {rest : List Lexeme} (r : Reader) → IsNext w (left r) → rest ≡ behind r → (t : Lexeme) × (left r ≡ t ∷ rest) × (t.word ≡ w)
next_taken {w} r is_next is = let e = next_in w r.place r.tokens.now is_next in (e.0, e.1 ∙ ap (λ l. e.0 ∷ l) (sym is), e.2)

pub sign_next : {w : Word} {rest : List Lexeme} (r : Reader) → IsNext w (left r) → rest ≡ behind r → IsRead (IsSign w) closed (left r) tt rest
sign_next {w} {rest} r is_next is =
    let e = next_in w r.place r.tokens.now is_next in
    subst (λ (l : List Lexeme). IsRead (IsSign w) closed (left r) tt l) (sym is) (as_read (sign_makes w closed (left r)) (word_read w e.0 (left r) (behind r) e.1 e.2))
