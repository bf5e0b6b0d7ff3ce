-- Lists of items: what stands between two of them, and which tokens spell a list up to its closing sign.
use Rattle.std.specs.Prelude.{◌≡◌, List, [], ◌∷◌, Some, Result, Ok, Err, ◌⊎◌}
use Rattle.model_program.specs.declared.Word.{Word}
use Rattle.model_program.specs.declared.Word.TheVariants as word
use Rattle.model_program.specs.Lexeme.{Lexeme}
use Rattle.model_program.specs.Joined.{◌⌢◌, ◌⊗◌, IsNext, IsOther}
use Rattle.model_program.specs.Grammar.{IsSign, sign, IsComma, Items, Any, Many}
use Rattle.model_grammar.specs.Terms.{IsLater, Row}
use Rattle.read_forms.specs.Reads.{closed}
use Rattle.read_forms.specs.Parts.{Ends, HasSample, AllStartIn, other_than}
use Rattle.label_reader.specs.declared.stop.Stop.{Stop}
use Rattle.label_reader.specs.declared.lists.Between.{Between}
use Rattle.label_reader.specs.declared.lists.Between.TheVariants.{Nothing, Comma, LabelComma, Bar}
use Rattle.label_reader.specs.Results.{bad_of}

-- the next token is the word, and these stand behind it
abbrev pub IsTaken : Word → List Lexeme → List Lexeme → Type 0
IsTaken w tokens rest = (t : Lexeme) × (tokens ≡ t ∷ rest) × (t.word ≡ w)

-- What stands between two items is skipped, from these tokens to those.
abbrev pub SkipsTo : Between → List Lexeme → List Lexeme → Type 0
SkipsTo Nothing tokens rest = rest ≡ tokens
SkipsTo Comma tokens rest = IsTaken word.Comma tokens rest ⊎ ((rest ≡ tokens) × IsOther word.Comma tokens)
SkipsTo LabelComma tokens rest = IsTaken word.Comma tokens rest ⊎ ((rest ≡ tokens) × IsOther word.Comma tokens × IsOther word.Minus tokens)
SkipsTo Bar tokens rest = IsTaken word.Bar tokens rest

-- Where nothing that may stand there does, the tokens are refused.
abbrev pub IsMissing : Between → List Lexeme → Type 0
IsMissing LabelComma tokens = IsNext word.Minus tokens
IsMissing Bar tokens = IsOther word.Bar tokens
IsMissing _ tokens = ⊥

abbrev pub Skips : Between → List Lexeme → List Lexeme → Result (Unit {0}) Stop → Type 0
Skips between tokens rest (Ok none) = SkipsTo between tokens rest
Skips between tokens rest (Err e) = IsMissing between tokens × (bad_of e rest ≡ Some tokens)

-- items, or none, with what stands between two
abbrev pub Listed : {A : Type 0} → Between → (A → List Lexeme → Type 0) → List A → List Lexeme → Type 0
Listed Nothing form = Many form
Listed Comma form = Any IsComma form
Listed LabelComma form = Row form
Listed Bar form = Any (IsSign word.Bar) form

abbrev pub NotEmpty : {A : Type 0} → (List A → List Lexeme → Type 0) → List A → List Lexeme → Type 0
NotEmpty list [] = λ _. ⊥
NotEmpty list (x ∷ xs) = list (x ∷ xs)

-- one item or more
abbrev pub ListedSome : {A : Type 0} → Between → (A → List Lexeme → Type 0) → List A → List Lexeme → Type 0
ListedSome Nothing form = NotEmpty (Many form)
ListedSome Comma form = Items IsComma form
ListedSome LabelComma form = NotEmpty (Row form)
ListedSome Bar form = Items (IsSign word.Bar) form

-- up to the closing sign
abbrev pub AnyTo : {A : Type 0} → Between → (A → List Lexeme → Type 0) → Word → List A → List Lexeme → Type 0
AnyTo between form close xs = Listed between form xs ⌢ sign close

abbrev pub SomeTo : {A : Type 0} → Between → (A → List Lexeme → Type 0) → Word → List A → List Lexeme → Type 0
SomeTo between form close xs = ListedSome between form xs ⌢ sign close

-- an item behind another one, with what stands between the two
abbrev pub later_of : {A : Type 0} → Between → (A → List Lexeme → Type 0) → A → List Lexeme → Type 0
later_of Nothing form = form
later_of Comma form = λ a. IsComma tt ⌢ form a
later_of LabelComma form = IsLater form
later_of Bar form = λ a. sign word.Bar ⌢ form a

-- items and the sign that closes them
abbrev pub closing_of : {A : Type 0} → (A → List Lexeme → Type 0) → Word → List A × Unit {0} → List Lexeme → Type 0
closing_of item close = Many item ⊗ IsSign close

-- a form that doesn't begin with a word
abbrev pub Without : {A : Type 0} → Word → (A → List Lexeme → Type 0) → A → List Lexeme → Type 0
Without w p a ts = p a ts × IsOther w ts

-- By their first words items are told apart from a comma and the closing sign, and what stands behind one ends it.
pub record IsItem {A : Type 0} (between : Between) (close : Word) (form : A → List Lexeme → Type 0) (goes_on : Word → Type 0) : Type 0 where
  pub alone : HasSample (Without word.Minus form)
  pub no_comma : AllStartIn (other_than word.Comma) form
  pub no_close : AllStartIn (other_than close) form
  pub closes : (close ≡ word.Comma → ⊥) × (close ≡ word.Bar → ⊥)
  pub ends : Ends goes_on (closing_of (later_of between form) close) closed
