-- What it says to have read a value of a form from the front of some tokens, or to have refused them.
use Rattle.std.specs.Prelude.{◌≡◌, List, [], ◌∷◌, ◌++◌, Option, Some, None}
use Rattle.model_program.specs.declared.Word.{Word}
use Rattle.model_program.specs.Lexeme.{Lexeme}

-- the end of the tokens, or the same next token
abbrev pub GoesOnAs : List Lexeme → List Lexeme → Type 0
GoesOnAs [] more = more ≡ []
GoesOnAs (t ∷ ts) more = (later : List Lexeme) × (more ≡ t ∷ later)

-- the next token isn't one by which the form before it goes on
abbrev pub Stops : (Word → Type 0) → List Lexeme → Type 0
Stops goes_on [] = Unit {0}
Stops goes_on (t ∷ ts) = goes_on t.word → ⊥

-- The front of the tokens spells the value, and however the tokens go on behind the next one,
-- no other front spells any value.
pub record IsRead {A : Type 0} (form : A → List Lexeme → Type 0) (goes_on : Word → Type 0) (tokens : List Lexeme) (value : A) (rest : List Lexeme) : Type 0 where
  pub part : List Lexeme
  pub split : tokens ≡ part ++ rest
  pub spelled : form value part
  pub only : (more other after : List Lexeme) (w : A) → GoesOnAs rest more → part ++ more ≡ other ++ after → form w other → Stops goes_on after → (w ≡ value) × (after ≡ more)

-- The tokens before `bad` begin a spelling, and with the next one, or the end, they begin none.
pub record IsRefused {A : Type 0} (form : A → List Lexeme → Type 0) (goes_on : Word → Type 0) (tokens bad : List Lexeme) : Type 0 where
  pub part : List Lexeme
  pub split : tokens ≡ part ++ bad
  pub value : A
  pub later : List Lexeme
  pub begins : form value (part ++ later)
  pub none : (more other after : List Lexeme) (w : A) → GoesOnAs bad more → part ++ more ≡ other ++ after → form w other → Stops goes_on after → ⊥

-- why no value was read: the tokens from `bad` on are refused, or memory ran out
abbrev pub Why : {A : Type 0} → (A → List Lexeme → Type 0) → (Word → Type 0) → List Lexeme → Option (List Lexeme) → Type 0
Why form goes_on tokens (Some bad) = IsRefused form goes_on tokens bad
Why form goes_on tokens None = Unit {0}

pub record Fails {A : Type 0} (form : A → List Lexeme → Type 0) (goes_on : Word → Type 0) (tokens : List Lexeme) (bad : Option (List Lexeme)) : Type 0 where
  pub why : Why form goes_on tokens bad

-- a form that ends by itself
abbrev pub closed : Word → Type 0
closed w = ⊥

-- a form that goes on by any token: only the end of the tokens ends it
abbrev pub anything : Word → Type 0
anything w = Unit {0}

-- the next token is one of these
abbrev pub StartsIn : (Word → Type 0) → List Lexeme → Type 0
StartsIn words [] = ⊥
StartsIn words (t ∷ ts) = words t.word
