-- What a reader did behind a front of the tokens.
use Rattle.std.proofs.Common.{◌≡◌, List, ◌∷◌, sym, ap, ◌∙◌, Result, Ok, Err}
use Rattle.model_program.specs.declared.Word.{Word}
use Rattle.model_program.specs.Lexeme.{Lexeme}
use Rattle.read_forms.specs.Fronts.{Leaves}
use Rattle.read_forms.proofs.Fronts.{left_read, left_fails}
use Rattle.label_reader.specs.declared.stop.Stop.{Stop}
use Rattle.label_reader.specs.Results.{Reads}

-- what is left where a token is taken
pub token_taken : {tokens after rest : List Lexeme} {t : Lexeme} → tokens ≡ t ∷ after → rest ≡ after → tokens ≡ t ∷ rest
token_taken {t = t} here is = here ∙ ap (λ l. t ∷ l) (sym is)

-- what is left of a form behind a front of it was read, or refused
pub reads_left : {A X : Type 0} {form rest_of : A → List Lexeme → Type 0} {goes_on : Word → Type 0} (tokens middle rest : List Lexeme) (view : X → A) (r : Result X Stop) → Leaves form rest_of goes_on tokens middle → Reads rest_of goes_on middle rest view r → Reads form goes_on tokens rest view r
reads_left tokens middle rest view (Ok x) front read = left_read front read
reads_left tokens middle rest view (Err e) front fails = left_fails _ front fails
