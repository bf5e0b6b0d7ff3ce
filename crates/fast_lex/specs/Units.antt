-- What stands at the front of the inside of a quoted text.
use Rattle.std.specs.Prelude.{◌≡◌, ℕ, List, [], ◌∷◌, ◌++◌}
use Rattle.model_program.specs.Quotes.{IsBraced, IsUnit, AreUnits, IsQuoted}
use Rattle.fast_lex.specs.Runs.{IsBehind}

pub record IsNextBraced (value : ℕ) (text rest : List ℕ) : Type 0 where
  pub front : List ℕ
  pub behind : IsBehind front text rest
  pub is : IsBraced front value

abbrev pub HasNoBraced : List ℕ → Type 0
HasNoBraced text = (front rest : List ℕ) (value : ℕ) → text ≡ front ++ rest → IsBraced front value → ⊥

pub record IsNextUnit (value : ℕ) (text rest : List ℕ) : Type 0 where
  pub front : List ℕ
  pub behind : IsBehind front text rest
  pub is : IsUnit front value

abbrev pub HasNoUnit : List ℕ → Type 0
HasNoUnit text = (front rest : List ℕ) (value : ℕ) → text ≡ front ++ rest → IsUnit front value → ⊥

-- units and then a quote
pub record IsNextEnd (text rest : List ℕ) : Type 0 where
  pub inside : List ℕ
  pub values : List ℕ
  pub behind : IsBehind (inside ++ 34 ∷ []) text rest
  pub units : AreUnits inside values

abbrev pub HasNoEnd : List ℕ → Type 0
HasNoEnd text = (inside rest values : List ℕ) → text ≡ inside ++ 34 ∷ rest → AreUnits inside values → ⊥

-- a quoted text, whatever it stands for
pub record IsQuotedText (text : List ℕ) : Type 0 where
  pub values : List ℕ
  pub is : IsQuoted text values

-- the inside of a quoted text, and its last quote
pub record IsInsideOf (text rest : List ℕ) : Type 0 where
  pub quotes : text ≡ 34 ∷ rest
  pub inside : List ℕ
  pub values : List ℕ
  pub units : AreUnits inside values
  pub split : rest ≡ inside ++ 34 ∷ []
