-- What is asked of forms that stand next to one another.
use Rattle.std.specs.Prelude.{◌≡◌, List, ◌++◌}
use Rattle.model_program.specs.declared.Word.{Word}
use Rattle.model_program.specs.Lexeme.{Lexeme}
use Rattle.read_forms.specs.Reads.{Stops, StartsIn}

-- each spelling of q, and what may stand behind it, ends a form before it that goes on by `first_goes_on`
abbrev pub Ends : {B : Type 0} → (Word → Type 0) → (B → List Lexeme → Type 0) → (Word → Type 0) → Type 0
Ends {B} first_goes_on q goes_on = (w : B) (other after : List Lexeme) → q w other → Stops goes_on after → Stops first_goes_on (other ++ after)

-- some value can be spelled
pub record HasSample {B : Type 0} (q : B → List Lexeme → Type 0) : Type 0 where
  pub value : B
  pub tokens : List Lexeme
  pub spelled : q value tokens

-- each spelling starts with one of these words
pub record AllStartIn {A : Type 0} (words : Word → Type 0) (form : A → List Lexeme → Type 0) : Type 0 where
  pub starts : (a : A) (ts : List Lexeme) → form a ts → StartsIn words ts

-- every word but one
abbrev pub other_than : Word → Word → Type 0
other_than w v = v ≡ w → ⊥
