-- How forms join: a form says which lists of tokens spell a value.
use Rattle.std.specs.Prelude.{◌≡◌, List, [], ◌∷◌, ◌++◌}
use Rattle.model_program.specs.declared.Word.{Word}
use Rattle.model_program.specs.Lexeme.{Lexeme}

-- the tokens are those of one form and then those of another
pub record Joined (first second : List Lexeme → Type 0) (tokens : List Lexeme) : Type 0 where
  pub front : List Lexeme
  pub back : List Lexeme
  pub split : tokens ≡ front ++ back
  pub at_front : first front
  pub at_back : second back

infixr 30 ◌⌢◌
abbrev pub ◌⌢◌ : (List Lexeme → Type 0) → (List Lexeme → Type 0) → List Lexeme → Type 0
first ⌢ second = Joined first second

-- a pair of values, spelled one behind the other
infixr 30 ◌⊗◌
abbrev pub ◌⊗◌ : {A B : Type 0} → (A → List Lexeme → Type 0) → (B → List Lexeme → Type 0) → A × B → List Lexeme → Type 0
(p ⊗ q) ab = p ab.0 ⌢ q ab.1

-- no token
abbrev pub Nothing : List Lexeme → Type 0
Nothing tokens = tokens ≡ []

-- the next token is this word
abbrev pub IsNext : Word → List Lexeme → Type 0
IsNext w [] = ⊥
IsNext w (t ∷ ts) = t.word ≡ w

-- the tokens have ended, or the next one is another word
abbrev pub IsOther : Word → List Lexeme → Type 0
IsOther w [] = Unit {0}
IsOther w (t ∷ ts) = t.word ≡ w → ⊥
