-- Where tokens go wrong: tokens that begin a form, and the first token that is wrong.
use Rattle.std.specs.Prelude.{◌≡◌, ℕ, ◌+◌, ◌≤◌, ◌<◌, zero, suc, List, [], ◌∷◌, ◌++◌, length, take}
use Rattle.fast_fault.specs.declared.place.Pos.{Pos}
use Rattle.model_program.specs.Lexeme.{Lexeme}

-- some value's tokens begin with these
pub record Begins {A : Type 0} (form : A → List Lexeme → Type 0) (tokens : List Lexeme) : Type 0 where
  pub value : A
  pub more : List Lexeme
  pub spelled : form value (tokens ++ more)

-- The first token such that no value's tokens begin with the tokens up to it, by its number; or the number of tokens, where they begin a value and are none.
pub record IsFirstWrong {A : Type 0} (form : A → List Lexeme → Type 0) (tokens : List Lexeme) (k : ℕ) : Type 0 where
  pub in_range : k ≤ length tokens
  pub before : Begins form (take k tokens)
  pub with_it : k < length tokens → Begins form (take (k + 1) tokens) → ⊥
  pub at_end : k ≡ length tokens → (value : A) → form value tokens → ⊥

-- the place of a token by its number, or else the place where the text ends
abbrev pub place_of : ℕ → List Lexeme → Pos → Pos
place_of k [] end = end
place_of zero (t ∷ ts) end = t.place
place_of (suc k) (t ∷ ts) end = place_of k ts end

-- the tokens spell no value of the form, and this is the place where they go wrong
pub record IsWrongAt {A : Type 0} (form : A → List Lexeme → Type 0) (tokens : List Lexeme) (end place : Pos) : Type 0 where
  pub k : ℕ
  pub first : IsFirstWrong form tokens k
  pub is : place ≡ place_of k tokens end
