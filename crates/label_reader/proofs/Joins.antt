-- Forms with their tokens, and forms that don't begin with a word.
use Rattle.std.proofs.Common.{◌≡◌, List, [], ◌∷◌, ◌++◌, refl, sym, ap, ◌∙◌, subst, Option, Some, None}
use Rattle.std.proofs.lemmas.List.{append_cancel_right}
use Rattle.model_program.specs.declared.Word.{Word}
use Rattle.model_program.specs.Lexeme.{Lexeme}
use Rattle.model_program.specs.Joined.{IsOther}
use Rattle.read_forms.specs.Reads.{GoesOnAs, Stops, IsRead, IsRefused, Fails}
use Rattle.label_reader.specs.Lists.{Without}
use Rattle.read_forms.specs.Parts.{HasSample}

-- a value with the tokens that spell it
abbrev pub Spelled : {A : Type 0} → (A → List Lexeme → Type 0) → A × List Lexeme → List Lexeme → Type 0
Spelled p v ts = p v.0 ts × (v.1 ≡ ts)

pub spelled_read : {A : Type 0} {p : A → List Lexeme → Type 0} {goes_on : Word → Type 0} {tokens rest : List Lexeme} {a : A} (read : IsRead p goes_on tokens a rest) → IsRead (Spelled p) goes_on tokens (a, read.part) rest
spelled_read {A} {p} {goes_on} {tokens} {rest} {a} read = record {
  part = read.part;
  split = read.split;
  spelled = (read.spelled, refl);
  only = λ more other after w as_rest same spelled stops.
      let e = read.only more other after w.0 as_rest same spelled.0 stops in
      let f : read.part ≡ other = append_cancel_right read.part other more (same ∙ ap (λ l. other ++ l) e.1) in
      let g : w.1 ≡ read.part = spelled.1 ∙ sym f in
      let both : w ≡ (a, read.part) = λ i. (e.0 i, g i) in
      (both, e.1);
}

pub spelled_fails : {A : Type 0} {p : A → List Lexeme → Type 0} {goes_on : Word → Type 0} {tokens : List Lexeme} (bad : Option (List Lexeme)) → Fails p goes_on tokens bad → Fails (Spelled p) goes_on tokens bad
spelled_fails None fails = record { why = tt }
spelled_fails (Some bad) fails = let r = fails.why in record {
  why = record {
    part = r.part;
    split = r.split;
    value = (r.value, r.part ++ r.later);
    later = r.later;
    begins = (r.begins, refl);
    none = λ more other after w as_bad same spelled stops. r.none more other after w.0 as_bad same spelled.0 stops;
  };
}

other_front : (w : Word) (front back : List Lexeme) → IsOther w (front ++ back) → IsOther w front
other_front w [] back is_other = tt
other_front w (t ∷ ts) back is_other = is_other

pub without_read : {A : Type 0} {p : A → List Lexeme → Type 0} {goes_on : Word → Type 0} {tokens rest : List Lexeme} {a : A} (w : Word) → IsOther w tokens → IsRead p goes_on tokens a rest → IsRead (Without w p) goes_on tokens a rest
without_read {rest = rest} w is_other read = record {
  part = read.part;
  split = read.split;
  spelled = (read.spelled, other_front w read.part rest (subst (λ (l : List Lexeme). IsOther w l) read.split is_other));
  only = λ more other after v as_rest same spelled stops. read.only more other after v as_rest same spelled.0 stops;
}

without_refused : {A : Type 0} {p : A → List Lexeme → Type 0} {goes_on : Word → Type 0} (w : Word) (tokens bad part later : List Lexeme) → HasSample (Without w p) → IsOther w tokens → tokens ≡ part ++ bad → (value : A) → p value (part ++ later)
    → ((more other after : List Lexeme) (v : A) → GoesOnAs bad more → part ++ more ≡ other ++ after → p v other → Stops goes_on after → ⊥) → IsRefused (Without w p) goes_on tokens bad
without_refused w tokens bad [] later sample is_other split value begins none = record {
  part = [];
  split = split;
  value = sample.value;
  later = sample.tokens;
  begins = sample.spelled;
  none = λ more other after v as_bad same spelled stops. none more other after v as_bad same spelled.0 stops;
}
without_refused w tokens bad (t ∷ part) later sample is_other split value begins none = record {
  part = t ∷ part;
  split = split;
  value = value;
  later = later;
  begins = (begins, subst (λ (l : List Lexeme). IsOther w l) split is_other);
  none = λ more other after v as_bad same spelled stops. none more other after v as_bad same spelled.0 stops;
}

pub without_fails : {A : Type 0} {p : A → List Lexeme → Type 0} {goes_on : Word → Type 0} {tokens : List Lexeme} (w : Word) (bad : Option (List Lexeme)) → HasSample (Without w p) → IsOther w tokens → Fails p goes_on tokens bad → Fails (Without w p) goes_on tokens bad
without_fails w None sample is_other fails = record { why = tt }
without_fails {tokens = tokens} w (Some bad) sample is_other fails = let r = fails.why in record { why = without_refused w tokens bad r.part r.later sample is_other r.split r.value r.begins r.none }
