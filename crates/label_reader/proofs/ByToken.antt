-- A number and a text, by the token that writes them.
use Rattle.std.proofs.Common.{◌≡◌, ℕ, ℤ, pos, List, ◌∷◌, ◌++◌, refl, sym, ap, ◌∙◌, subst, Option, Some, None}
use Rattle.std.specs.Str.Parse.{digits_value}
use Rattle.model_program.specs.declared.Word.{Word}
use Rattle.model_program.specs.Lexeme.{Lexeme}
use Rattle.model_program.specs.Grammar.{IsNumber}
use Rattle.read_forms.specs.Reads.{IsRead, Fails, closed}
use Rattle.read_forms.proofs.Forms.{Makes, remade}
use Rattle.label_reader.specs.Constants.{IsNumeral, IsQuotation, IsString}
use Rattle.label_reader.proofs.Primaries.{numeral_read, string_read}

pub number_by_token : (tokens : List Lexeme) → Makes IsNumeral IsNumber (λ t. pos (digits_value 10 t.text)) closed tokens
number_by_token tokens = remade (λ t ts spelled. (t, spelled.0, spelled.1, refl)) (λ n ts spelled. (spelled.0, (spelled.1, spelled.2), spelled.3))

pub text_by_token : (tokens : List Lexeme) → Makes IsString IsQuotation (λ v. v.1) closed tokens
text_by_token tokens = remade (λ v ts spelled. (v.0, spelled.0, spelled.1)) (λ values ts spelled. ((spelled.0, values), (spelled.1, spelled.2), refl))

-- the token of a number that was read
pub numeral_of : {n : ℤ} {tokens rest : List Lexeme} → IsRead IsNumber closed tokens n rest → (t : Lexeme) × (tokens ≡ t ∷ rest) × IsRead IsNumeral closed tokens t rest × (n ≡ pos (digits_value 10 t.text))
numeral_of {tokens = tokens} {rest = rest} read =
    let s = read.spelled in
    let here = read.split ∙ ap (λ l. l ++ rest) s.1.0 in
    (s.0, here, numeral_read s.0 tokens rest here s.1.1 s.2, s.3)

-- it is the first one
pub numeral_at : {n : ℤ} (t : Lexeme) {tokens after rest : List Lexeme} → tokens ≡ t ∷ after → IsRead IsNumber closed tokens n rest → IsRead IsNumeral closed tokens t rest × (n ≡ pos (digits_value 10 t.text))
numeral_at t {tokens} {after} {rest} here read =
    let of = numeral_of read in
    let e : of.0 ∷ rest ≡ t ∷ after = sym of.1 ∙ here in
    let same : of.0 ≡ t = cc in
    (subst (λ (u : Lexeme). IsRead IsNumeral closed tokens u rest) same of.2, of.3 ∙ ap (λ (u : Lexeme). pos (digits_value 10 u.text)) same)

-- and so is the token of a text
pub string_at : {values : List ℕ} (t : Lexeme) {tokens after rest : List Lexeme} → tokens ≡ t ∷ after → IsRead IsQuotation closed tokens values rest → IsRead IsString closed tokens (t, values) rest
string_at {values} t {tokens} {after} {rest} here read =
    let s = read.spelled in
    let first = read.split ∙ ap (λ l. l ++ rest) s.1.0 in
    let e : s.0 ∷ rest ≡ t ∷ after = sym first ∙ here in
    let same : s.0 ≡ t = cc in
    subst (λ (u : Lexeme). IsRead IsString closed tokens (u, values) rest) same (string_read s.0 values tokens rest first s.1.1 s.2)

-- where no spelling of one form begins, none does of another that has the same ones
same_fails : {A B : Type 0} {p : A → List Lexeme → Type 0} {q : B → List Lexeme → Type 0} {goes_on : Word → Type 0} {tokens : List Lexeme} (bad : Option (List Lexeme))
    → ((a : A) (ts : List Lexeme) → p a ts → (b : B) × q b ts) → ((b : B) (ts : List Lexeme) → q b ts → (a : A) × p a ts) → Fails q goes_on tokens bad → Fails p goes_on tokens bad
same_fails None into back fails = record { why = tt }
same_fails (Some bad) into back fails =
    let r = fails.why in
    let v = back r.value _ r.begins in
    record {
      why = record {
        part = r.part;
        split = r.split;
        value = v.0;
        later = r.later;
        begins = v.1;
        none = λ more other after w as_bad same spelled stops. let u = into w other spelled in r.none more other after u.0 as_bad same u.1 stops;
      };
    }

pub numeral_fails : {tokens : List Lexeme} (bad : Option (List Lexeme)) → Fails IsNumber closed tokens bad → Fails IsNumeral closed tokens bad
numeral_fails bad fails = same_fails bad (λ t ts spelled. (pos (digits_value 10 t.text), (t, spelled.0, spelled.1, refl))) (λ n ts spelled. (spelled.0, (spelled.1, spelled.2))) fails

pub string_fails : {tokens : List Lexeme} (bad : Option (List Lexeme)) → Fails IsQuotation closed tokens bad → Fails IsString closed tokens bad
string_fails bad fails = same_fails bad (λ v ts spelled. (v.1, (v.0, spelled.0, spelled.1))) (λ values ts spelled. ((spelled.0, values), (spelled.1, spelled.2))) fails
