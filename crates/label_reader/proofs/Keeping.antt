-- What readers returned whose result goes on as a whole.
use Rattle.std.proofs.Common.{◌≡◌, List, sym, ap, ◌∙◌, subst, Option, Result, Ok, Err}
use Rattle.std.specs.Prelude.{MatchResult, IfOk}
use Rattle.model_program.specs.declared.Word.{Word}
use Rattle.model_program.specs.declared.Word.TheVariants.{RoundClose}
use Rattle.model_program.specs.Lexeme.{Lexeme}
use Rattle.model_program.specs.Joined.{◌⊗◌}
use Rattle.model_program.specs.Grammar.{IsSign}
use Rattle.read_forms.specs.Reads.{IsRead, Fails, closed}
use Rattle.read_forms.specs.Parts.{Ends}
use Rattle.read_forms.proofs.Forms.{Makes, as_read, as_fails, then_read, then_fails, first_fails, read_at}
use Rattle.read_forms.proofs.Words.{sample_sign}
use Rattle.label_reader.specs.declared.stop.Stop.{Stop}
use Rattle.label_reader.specs.declared.stop.Stop.TheVariants.{Memory, Wrong}
use Rattle.label_reader.specs.Results.{bad_of, Reads, Passes, IfMade, ReadsToClose}

-- it is known what was returned
pub told_ok : {T E : Type 0} (fact : T → Type 0) {r : Result T E} {x : T} → r ≡ Ok x → IfOk r fact → fact x
told_ok {T} {E} fact is told = subst (λ (r : Result T E). IfOk r fact) is told

-- it is known that a value was read
pub told_read : {A X : Type 0} {form : A → List Lexeme → Type 0} {goes_on : Word → Type 0} (tokens rest : List Lexeme) (view : X → A) {r : Result X Stop} {x : X} → r ≡ Ok x → Reads form goes_on tokens rest view r → IsRead form goes_on tokens (view x) rest
told_read {X = X} {form = form} {goes_on = goes_on} tokens rest view is read = subst (λ (y : Result X Stop). Reads form goes_on tokens rest view y) is read

-- it is known that none was
pub told_fails : {A X : Type 0} {form : A → List Lexeme → Type 0} {goes_on : Word → Type 0} (tokens rest : List Lexeme) (view : X → A) {r : Result X Stop} {e : Stop} → r ≡ Err e → Reads form goes_on tokens rest view r → Fails form goes_on tokens (bad_of e rest)
told_fails {X = X} {form = form} {goes_on = goes_on} tokens rest view is read = subst (λ (y : Result X Stop). Reads form goes_on tokens rest view y) is read

-- what a reader returned tells what the whole did, whether a value was read or not
pub reads_whole : {A B X : Type 0} {p : A → List Lexeme → Type 0} {q : B → List Lexeme → Type 0} {few many : Word → Type 0} (tokens middle rest : List Lexeme) (view : X → A) (whole : X → B) (r : Result X Stop) → Reads p few middle rest view r
    → ((x : X) → IsRead p few middle (view x) rest → IsRead q many tokens (whole x) rest)
    → ((bad : Option (List Lexeme)) → Fails p few middle bad → Fails q many tokens bad)
    → Reads q many tokens rest whole r
reads_whole tokens middle rest view whole (Ok x) read found failed = found x read
reads_whole tokens middle rest view whole (Err e) fails found failed = failed _ fails

-- the same, where a value that was read before was kept
pub reads_kept : {A B X Y : Type 0} {p : A → List Lexeme → Type 0} {q : B → List Lexeme → Type 0} {few many : Word → Type 0} {y : Y} (tokens middle rest : List Lexeme) (view : X → A) (whole : Y × X → B) (made : Result X Stop) (r : Result (Y × X) Stop)
    → MatchResult r (λ x. (x.0 ≡ y) × (made ≡ Ok x.1)) (λ e. made ≡ Err e) → Reads p few middle rest view made
    → ((x : X) → IsRead p few middle (view x) rest → IsRead q many tokens (whole (y, x)) rest)
    → ((bad : Option (List Lexeme)) → Fails p few middle bad → Fails q many tokens bad)
    → Reads q many tokens rest whole r
reads_kept {Y = Y} {q = q} {many = many} tokens middle rest view whole made (Ok x) is read found failed =
    subst (λ (y : Y). IsRead q many tokens (whole (y, x.1)) rest) (sym is.0) (found x.1 (told_read middle rest view is.1 read))
reads_kept tokens middle rest view whole made (Err e) is read found failed = failed _ (told_fails middle rest view is read)

-- and where nothing more than a sign was read behind it
pub reads_kept_if : {B Y : Type 0} {p : Unit {0} → List Lexeme → Type 0} {q : B → List Lexeme → Type 0} {few many : Word → Type 0} {y : Y} (tokens middle rest : List Lexeme) (view : Unit {0} → Unit {0}) (whole : Y → B) (made : Result (Unit {0}) Stop) (r : Result Y Stop)
    → MatchResult r (λ x. (x ≡ y) × (made ≡ Ok tt)) (λ e. made ≡ Err e) → Reads p few middle rest view made
    → (IsRead p few middle (view tt) rest → IsRead q many tokens (whole y) rest)
    → ((bad : Option (List Lexeme)) → Fails p few middle bad → Fails q many tokens bad)
    → Reads q many tokens rest whole r
reads_kept_if {Y = Y} {q = q} {many = many} tokens middle rest view whole made (Ok x) is read found failed =
    subst (λ (y : Y). IsRead q many tokens (whole y) rest) (sym is.0) (found (told_read middle rest view is.1 read))
reads_kept_if tokens middle rest view whole made (Err e) is read found failed = failed _ (told_fails middle rest view is read)

-- where nothing was made of what was to be read, nothing of the whole was
pub made_fails : {A B X : Type 0} {p : A → List Lexeme → Type 0} {q : B → List Lexeme → Type 0} {few many : Word → Type 0} (tokens middle rest : List Lexeme) (view : X → A) (read : Result X Stop) (e : Stop) → Reads p few middle rest view read → Passes read e
    → ((bad : Option (List Lexeme)) → Fails p few middle bad → Fails q many tokens bad)
    → Fails q many tokens (bad_of e rest)
made_fails tokens middle rest view read Wrong reads passes failed = failed _ (told_fails middle rest view passes reads)
made_fails tokens middle rest view read Memory reads passes failed = record { why = tt }

-- what was made of it tells what the whole did
pub made_reads : {A B X Y : Type 0} {p : A → List Lexeme → Type 0} {q : B → List Lexeme → Type 0} {few many : Word → Type 0} (tokens middle rest : List Lexeme) (view : X → A) (whole : Y → B) (read : Result X Stop) (fact : X → Y → Type 0) (r : Result Y Stop) → Reads p few middle rest view read → IfMade read fact r
    → ((x : X) (y : Y) → fact x y → IsRead p few middle (view x) rest → IsRead q many tokens (whole y) rest)
    → ((bad : Option (List Lexeme)) → Fails p few middle bad → Fails q many tokens bad)
    → Reads q many tokens rest whole r
made_reads tokens middle rest view whole read fact (Ok y) reads made found failed = found made.0 y made.2 (told_read middle rest view made.1 reads)
made_reads tokens middle rest view whole read fact (Err e) reads made found failed = made_fails tokens middle rest view read e reads made failed

-- A value that was kept, and what was read behind it.
pub told_kept : {X Y : Type 0} (y : Y) (made : Result X Stop) {both r : Result (Y × X) Stop} → MatchResult both (λ x. (x.0 ≡ y) × (made ≡ Ok x.1)) (λ e. made ≡ Err e) → both ≡ r → MatchResult r (λ x. (x.0 ≡ y) × (made ≡ Ok x.1)) (λ e. made ≡ Err e)
told_kept {X = X} {Y = Y} y made kept is = subst (λ (b : Result (Y × X) Stop). MatchResult b (λ x. (x.0 ≡ y) × (made ≡ Ok x.1)) (λ e. made ≡ Err e)) is kept

pub passes_kept : {X Y : Type 0} (y : Y) (made : Result X Stop) (both : Result (Y × X) Stop) (e : Stop) → MatchResult both (λ x. (x.0 ≡ y) × (made ≡ Ok x.1)) (λ e. made ≡ Err e) → Passes both e → Passes made e
passes_kept y made both Wrong kept passes = told_kept y made kept passes
passes_kept y made both Memory kept passes = tt

pub made_of_kept : {X Y Z : Type 0} (y : Y) (made : Result X Stop) (both : Result (Y × X) Stop) (fact : Y × X → Z → Type 0) (r : Result Z Stop) → MatchResult both (λ x. (x.0 ≡ y) × (made ≡ Ok x.1)) (λ e. made ≡ Err e) → IfMade both fact r → IfMade made (λ x z. fact (y, x) z) r
made_of_kept {Y = Y} y made both fact (Ok z) kept of = let e = told_kept y made kept of.1 in (of.0.1, e.1, subst (λ (v : Y). fact (v, of.0.1) z) e.0 of.2)
made_of_kept y made both fact (Err e) kept of = passes_kept y made both e kept of

-- What was read, and the closing parenthesis behind it.
pub reads_to_close : {A B X : Type 0} {q : B → List Lexeme → Type 0} {to : A × Unit {0} → B} (p : A → List Lexeme → Type 0) (few : Word → Type 0) (tokens middle rest : List Lexeme) (view : X → A) (read r : Result X Stop) → Reads p few tokens middle view read → ReadsToClose read middle rest r
    → Ends few (IsSign RoundClose) closed → Makes (p ⊗ IsSign RoundClose) q to closed tokens → Reads q closed tokens rest (λ x. to (view x, tt)) r
reads_to_close {to = to} p few tokens middle rest view (Ok x) (Ok y) read close ends makes = read_at (ap (λ x. to (view x, tt)) (sym close.0)) (as_read makes (then_read ends read close.1))
reads_to_close p few tokens middle rest view (Ok x) (Err e) read close ends makes = as_fails _ makes (then_fails _ ends read close)
reads_to_close p few tokens middle rest view (Err e) r read close ends makes = rw (close.0, close.1) (as_fails _ makes (first_fails _ ends (sample_sign RoundClose) read))

-- the same, where the sign alone was to be read behind a value
pub reads_closed : {B Y : Type 0} {q : B → List Lexeme → Type 0} {many : Word → Type 0} {y : Y} (tokens middle rest : List Lexeme) (whole : Y → B) (r : Result Y Stop) → ReadsToClose (Ok y) middle rest r
    → (IsRead (IsSign RoundClose) closed middle tt rest → IsRead q many tokens (whole y) rest)
    → ((bad : Option (List Lexeme)) → Fails (IsSign RoundClose) closed middle bad → Fails q many tokens bad)
    → Reads q many tokens rest whole r
reads_closed {Y = Y} {q = q} {many = many} {y = y} tokens middle rest whole (Ok x) close found failed = subst (λ (y : Y). IsRead q many tokens (whole y) rest) (sym close.0) (found close.1)
reads_closed tokens middle rest whole (Err e) close found failed = failed _ close

-- a value that was read up to the closing parenthesis was read
pub told_closed : {A : Type 0} (read result : Result A Stop) (tokens rest : List Lexeme) {y : A} → result ≡ Ok y → ReadsToClose read tokens rest result → read ≡ Ok y
told_closed {A = A} (Ok x) result tokens rest is close = ap Ok (sym (subst (λ (r : Result A Stop). ReadsToClose (Ok x) tokens rest r) is close).0)
told_closed (Err e) result tokens rest is close = sym close.0 ∙ is
