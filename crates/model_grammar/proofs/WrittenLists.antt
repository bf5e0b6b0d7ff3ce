-- Lists are written, with commas, bars or blanks between their items.
use Rattle.std.proofs.Common.{List, [], ◌∷◌, ◌++◌, map, refl, sym, ap, ◌∙◌, subst, append_assoc, inl, inr}
use Rattle.model_program.specs.declared.Word.TheVariants.{Comma, Bar}
use Rattle.model_program.specs.Lexeme.{Lexeme}
use Rattle.model_program.specs.Cuts.{Piece}
use Rattle.model_program.specs.Joined.{◌⌢◌, ◌⊗◌}
use Rattle.model_program.specs.Grammar.{IsSign, IsComma, Further, Items, Any, Many}
use Rattle.model_program.specs.TokenTexts.{HaveTexts}
use Rattle.model_grammar.specs.Terms.{IsLater, Row}
use Rattle.model_grammar.specs.Printed.{behind_commas, with_commas, behind_blanks, behind_bars}
use Rattle.model_grammar.proofs.Laid.{IsParted}
use Rattle.model_grammar.proofs.Written.{Written, AllWritten, Touches, joined, spaced, as_written, nothing_written}
use Rattle.model_grammar.proofs.Tokens.{sign_written}
use Rattle.model_grammar.proofs.WrittenExpressions.{texts_front, texts_back}

-- forms joined one behind the other
pub regrouped : {p q r : List Lexeme → Type 0} {tokens : List Lexeme} → (p ⌢ (q ⌢ r)) tokens → ((p ⌢ q) ⌢ r) tokens
regrouped s = record {
  front = s.front ++ s.at_back.front;
  back = s.at_back.back;
  split = s.split ∙ ap (λ l. s.front ++ l) s.at_back.split ∙ sym (append_assoc s.front s.at_back.front s.at_back.back);
  at_front = record { front = s.front; back = s.at_back.front; split = refl; at_front = s.at_front; at_back = s.at_back.at_front };
  at_back = s.at_back.at_back;
}

-- and the other way
pub flattened : {p q r : List Lexeme → Type 0} {tokens : List Lexeme} → ((p ⌢ q) ⌢ r) tokens → (p ⌢ (q ⌢ r)) tokens
flattened s = record {
  front = s.at_front.front;
  back = s.at_front.back ++ s.back;
  split = s.split ∙ ap (λ l. l ++ s.back) s.at_front.split ∙ append_assoc s.at_front.front s.at_front.back s.back;
  at_front = s.at_front.at_front;
  at_back = record { front = s.at_front.back; back = s.back; split = refl; at_front = s.at_front.at_back; at_back = s.at_back };
}

-- another form of the later tokens
pub second_as : {p q r : List Lexeme → Type 0} {tokens : List Lexeme} → ((ts : List Lexeme) → q ts → r ts) → (p ⌢ q) tokens → (p ⌢ r) tokens
second_as into s = record { front = s.front; back = s.back; split = s.split; at_front = s.at_front; at_back = into s.back s.at_back }

-- another form of the first tokens
pub first_as : {p q r : List Lexeme → Type 0} {tokens : List Lexeme} → ((ts : List Lexeme) → p ts → q ts) → (p ⌢ r) tokens → (q ⌢ r) tokens
first_as into s = record { front = s.front; back = s.back; split = s.split; at_front = into s.front s.at_front; at_back = s.at_back }

pub commas_touch : {A : Type 0} (printed : A → List Piece) (xs : List A) → Touches IsParted (behind_commas printed xs) IsParted
commas_touch printed [] after parted = parted
commas_touch printed (x ∷ xs) after parted = refl

pub bars_touch : {A : Type 0} (printed : A → List Piece) (xs : List A) → Touches IsParted (behind_bars printed xs) IsParted
bars_touch printed [] after parted = parted
bars_touch printed (x ∷ xs) after parted = refl

pub blanks_touch : {A : Type 0} (printed : A → List Piece) (xs : List A) → Touches IsParted (behind_blanks printed xs) IsParted
blanks_touch printed [] after parted = parted
blanks_touch printed (x ∷ xs) after parted = refl

module _ {A C : Type 0} (f : A → C) (p : A → List Lexeme → Type 0) (printed : A → List Piece) where
  abbrev AreEachWritten : List A → Type 0
  AreEachWritten xs = AllWritten f p printed xs

  -- ,? item ..
  pub further_commas : (xs : List A) → AreEachWritten xs → Written IsParted (map f) (Further IsComma p) xs (behind_commas printed xs)
  further_commas [] all = nothing_written [] refl
  further_commas (x ∷ xs) all =
      as_written {p = IsSign Comma ⊗ (p ⊗ Further IsComma p)} (λ v. v.1.0 ∷ v.1.1) (λ v ts s. first_as (λ us is. inr is) s) (λ v same i. (same i).1.0 ∷ (same i).1.1)
      (joined (λ after fine. refl) (sign_written Comma tt) (spaced (joined (commas_touch printed xs) all.0 (further_commas xs all.1))))

  -- .. and where an item without a comma doesn't begin with `-`
  pub later_commas : (xs : List A) → AreEachWritten xs → Written IsParted (map f) (Many (IsLater p)) xs (behind_commas printed xs)
  later_commas [] all = nothing_written [] refl
  later_commas (x ∷ xs) all =
      as_written {p = IsSign Comma ⊗ (p ⊗ Many (IsLater p))} (λ v. v.1.0 ∷ v.1.1) (λ v ts s. first_as (λ us is. inl is) (regrouped s)) (λ v same i. (same i).1.0 ∷ (same i).1.1)
      (joined (λ after fine. refl) (sign_written Comma tt) (spaced (joined (commas_touch printed xs) all.0 (later_commas xs all.1))))

  -- BAR item ..
  pub further_bars : (xs : List A) → AreEachWritten xs → Written IsParted (map f) (Further (IsSign Bar) p) xs (behind_bars printed xs)
  further_bars [] all = nothing_written [] refl
  further_bars (x ∷ xs) all =
      as_written {p = IsSign Bar ⊗ (p ⊗ Further (IsSign Bar) p)} (λ v. v.1.0 ∷ v.1.1) (λ v ts s. s) (λ v same i. (same i).1.0 ∷ (same i).1.1)
      (spaced (joined (λ after fine. refl) (sign_written Bar tt) (spaced (joined (bars_touch printed xs) all.0 (further_bars xs all.1)))))

  -- items one behind the other
  pub many_blanks : (xs : List A) → AreEachWritten xs → Written IsParted (map f) (Many p) xs (behind_blanks printed xs)
  many_blanks [] all = nothing_written [] refl
  many_blanks (x ∷ xs) all =
      as_written {p = p ⊗ Many p} (λ v. v.0 ∷ v.1) (λ v ts s. s) (λ v same i. (same i).0 ∷ (same i).1)
      (spaced (joined (blanks_touch printed xs) all.0 (many_blanks xs all.1)))

  pub items_commas : (x : A) (xs : List A) → AreEachWritten (x ∷ xs) → Written IsParted (map f) (Items IsComma p) (x ∷ xs) (with_commas printed (x ∷ xs))
  items_commas x xs all =
      as_written {p = p ⊗ Further IsComma p} (λ v. v.0 ∷ v.1) (λ v ts s. s) (λ v same i. (same i).0 ∷ (same i).1)
      (joined (commas_touch printed xs) all.0 (further_commas xs all.1))

  pub any_commas : (xs : List A) → AreEachWritten xs → Written IsParted (map f) (Any IsComma p) xs (with_commas printed xs)
  any_commas [] all = nothing_written [] refl
  any_commas (x ∷ xs) all =
      as_written {p = p ⊗ Further IsComma p} (λ v. v.0 ∷ v.1) (λ v ts s. s) (λ v same i. (same i).0 ∷ (same i).1)
      (joined (commas_touch printed xs) all.0 (further_commas xs all.1))

  pub row_commas : (xs : List A) → AreEachWritten xs → Written IsParted (map f) (Row p) xs (with_commas printed xs)
  row_commas [] all = nothing_written [] refl
  row_commas (x ∷ xs) all =
      as_written {p = p ⊗ Many (IsLater p)} (λ v. v.0 ∷ v.1) (λ v ts s. s) (λ v same i. (same i).0 ∷ (same i).1)
      (joined (commas_touch printed xs) all.0 (later_commas xs all.1))

  pub items_bars : (x : A) (xs : List A) → AreEachWritten (x ∷ xs) → Written IsParted (map f) (Items (IsSign Bar) p) (x ∷ xs) (printed x ++ behind_bars printed xs)
  items_bars x xs all =
      as_written {p = p ⊗ Further (IsSign Bar) p} (λ v. v.0 ∷ v.1) (λ v ts s. s) (λ v same i. (same i).0 ∷ (same i).1)
      (joined (bars_touch printed xs) all.0 (further_bars xs all.1))

-- each item of a list that tokens spell is written where an item is
module _ {A C : Type 0} (f : A → C) (p : A → List Lexeme → Type 0) (printed : A → List Piece) (one : (a : A) (ts : List Lexeme) → p a ts → HaveTexts ts → Written IsParted f p a (printed a)) where
  pub all_many : (xs : List A) (ts : List Lexeme) → Many p xs ts → HaveTexts ts → AllWritten f p printed xs
  all_many [] ts s have = tt
  all_many (x ∷ xs) ts s have =
      let texts = subst HaveTexts s.split have in
      (one x s.front s.at_front (texts_front s.front s.back texts), all_many xs s.back s.at_back (texts_back s.front s.back texts))

  pub all_later : (xs : List A) (ts : List Lexeme) → Many (IsLater p) xs ts → HaveTexts ts → AllWritten f p printed xs
  all_later [] ts s have = tt
  all_later (x ∷ xs) ts s have =
      let texts = subst HaveTexts s.split have in
      (later s.front s.at_front (texts_front s.front s.back texts), all_later xs s.back s.at_back (texts_back s.front s.back texts))
    where
      later : (us : List Lexeme) → IsLater p x us → HaveTexts us → Written IsParted f p x (printed x)
      later us (inl is) have = one x is.back is.at_back (texts_back is.front is.back (subst HaveTexts is.split have))
      later us (inr is) have = one x us is.0 have

  pub all_further : (between : Unit {0} → List Lexeme → Type 0) (xs : List A) (ts : List Lexeme) → Further between p xs ts → HaveTexts ts → AllWritten f p printed xs
  all_further between [] ts s have = tt
  all_further between (x ∷ xs) ts s have =
      let texts = texts_back s.front s.back (subst HaveTexts s.split have) in
      let rest = s.at_back in
      let inside = subst HaveTexts rest.split texts in
      (one x rest.front rest.at_front (texts_front rest.front rest.back inside), all_further between xs rest.back rest.at_back (texts_back rest.front rest.back inside))

  pub all_items : (between : Unit {0} → List Lexeme → Type 0) (xs : List A) (ts : List Lexeme) → Items between p xs ts → HaveTexts ts → AllWritten f p printed xs
  all_items between [] ts s have = tt
  all_items between (x ∷ xs) ts s have =
      let texts = subst HaveTexts s.split have in
      (one x s.front s.at_front (texts_front s.front s.back texts), all_further between xs s.back s.at_back (texts_back s.front s.back texts))

  pub all_any : (between : Unit {0} → List Lexeme → Type 0) (xs : List A) (ts : List Lexeme) → Any between p xs ts → HaveTexts ts → AllWritten f p printed xs
  all_any between [] ts s have = tt
  all_any between (x ∷ xs) ts s have = all_items between (x ∷ xs) ts s have

  pub all_row : (xs : List A) (ts : List Lexeme) → Row p xs ts → HaveTexts ts → AllWritten f p printed xs
  all_row [] ts s have = tt
  all_row (x ∷ xs) ts s have =
      let texts = subst HaveTexts s.split have in
      (one x s.front s.at_front (texts_front s.front s.back texts), all_later xs s.back s.at_back (texts_back s.front s.back texts))
