-- What a reader of tokens returns.
use Rattle.std.specs.Prelude.{◌≡◌, ℕ, ◌+◌, List, map, drop, Option, Some, None, Result, Ok, Err}
use Rattle.model_program.specs.declared.Word.{Word}
use Rattle.model_program.specs.Lexeme.{Lexeme}
use Rattle.model_program.specs.declared.Word.TheVariants.{RoundClose}
use Rattle.model_program.specs.Grammar.{IsSign}
use Rattle.read_forms.specs.Reads.{IsRead, Fails, closed}
use Rattle.fast_lex.specs.declared.Token.{Token}
use Rattle.fast_lex.specs.Tokens.{lexeme}
use Rattle.label_reader.specs.declared.reader.Reader.{Reader}
use Rattle.label_reader.specs.declared.stop.Stop.{Stop}
use Rattle.label_reader.specs.declared.stop.Stop.TheVariants.{Memory, Wrong}
use Rattle.label_reader.specs.declared.stop.ReadTokensStop.{ReadTokensStop}
use Rattle.label_reader.specs.declared.stop.ReadTokensStop.TheVariants as whole

abbrev pub lexemes : List Token → List Lexeme
lexemes tokens = map lexeme tokens

-- the tokens that are still to be read
abbrev pub left : Reader → List Lexeme
left r = lexemes (drop r.place r.tokens.now)

-- those behind the next one
abbrev pub behind : Reader → List Lexeme
behind r = lexemes (drop (r.place + 1) r.tokens.now)

-- the tokens from which on they are refused, which the reader has left, unless memory ran out
abbrev pub bad_of : Stop → List Lexeme → Option (List Lexeme)
bad_of Memory rest = None
bad_of Wrong rest = Some rest

-- what a reader of a form did with these tokens, of which it left the rest: it returned a value, or tells why there is none
abbrev pub Reads : {A X : Type 0} → (A → List Lexeme → Type 0) → (Word → Type 0) → List Lexeme → List Lexeme → (X → A) → Result X Stop → Type 0
Reads form goes_on tokens rest view (Ok x) = IsRead form goes_on tokens (view x) rest
Reads form goes_on tokens rest view (Err e) = Fails form goes_on tokens (bad_of e rest)

-- the cause is that of what was to be read, unless memory ran out
abbrev pub Passes : {A : Type 0} → Result A Stop → Stop → Type 0
Passes read Wrong = read ≡ Err Wrong
Passes read Memory = Unit {0}

-- what is made of what was read
abbrev pub IfMade : {A B : Type 0} → Result A Stop → (A → B → Type 0) → Result B Stop → Type 0
IfMade {A} read fact (Ok b) = (a : A) × (read ≡ Ok a) × fact a b
IfMade read fact (Err e) = Passes read e

-- behind what was read its closing parenthesis is read; where nothing was read, nothing is
abbrev pub ReadsToClose : {A : Type 0} → Result A Stop → List Lexeme → List Lexeme → Result A Stop → Type 0
ReadsToClose (Ok x) tokens rest (Ok y) = (y ≡ x) × IsRead (IsSign RoundClose) closed tokens tt rest
ReadsToClose (Ok x) tokens rest (Err e) = Fails (IsSign RoundClose) closed tokens (bad_of e rest)
ReadsToClose (Err e) tokens rest result = (result ≡ Err e) × (rest ≡ tokens)

-- a fact of the number of tokens before the wrong one
abbrev pub IfWrong : {T : Type 0} → Result T ReadTokensStop → (ℕ → Type 0) → Type 0
IfWrong (Err (whole.Wrong k)) fact = fact k
IfWrong _ fact = Unit {0}
