-- What is left to be read of a form behind a front of the tokens.
use Rattle.std.specs.Prelude.{◌≡◌, List, [], ◌++◌}
use Rattle.model_program.specs.declared.Word.{Word}
use Rattle.model_program.specs.Lexeme.{Lexeme}
use Rattle.model_program.specs.Joined.{◌⌢◌}
use Rattle.read_forms.specs.Reads.{GoesOnAs, Stops}

-- The rest of a spelling that goes on with these tokens.
pub record IsLeftAt {A : Type 0} (left : A → List Lexeme → Type 0) (value : A) (more after : List Lexeme) : Type 0 where
  pub part : List Lexeme
  pub spelled : left value part
  pub behind : more ≡ part ++ after

-- The tokens before `rest` begin a spelling of the whole: with what spells `left` behind them they spell the same value,
-- and however the tokens go on behind the next one, each spelling of the whole is of this kind.
pub record Leaves {A : Type 0} (whole left : A → List Lexeme → Type 0) (goes_on : Word → Type 0) (tokens rest : List Lexeme) : Type 0 where
  pub part : List Lexeme
  pub split : tokens ≡ part ++ rest
  pub into : (a : A) (ts : List Lexeme) → left a ts → whole a (part ++ ts)
  pub back : (more other after : List Lexeme) (a : A) → GoesOnAs rest more → part ++ more ≡ other ++ after → whole a other → Stops goes_on after → IsLeftAt left a more after

-- nothing is left: this is the value
abbrev pub Done : {A : Type 0} → A → A → List Lexeme → Type 0
Done value a ts = (a ≡ value) × (ts ≡ [])

-- the values that are made of those of a form
pub record Made {A B : Type 0} (to : B → A) (form : B → List Lexeme → Type 0) (a : A) (ts : List Lexeme) : Type 0 where
  pub of : B
  pub spelled : form of ts
  pub is : a ≡ to of

-- a form, and behind it one that depends on its value and gives the value of both
pub record Through {A B : Type 0} (first : A → List Lexeme → Type 0) (second : A → B → List Lexeme → Type 0) (b : B) (ts : List Lexeme) : Type 0 where
  pub middle : A
  pub joined : (first middle ⌢ second middle b) ts
