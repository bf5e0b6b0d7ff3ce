-- Pieces that are written for a value: read again they give the same value, places aside.
use Rattle.std.proofs.Common.{◌≡◌, ℕ, List, [], ◌∷◌, ◌++◌, refl, sym, ap, ◌∙◌, subst, append_assoc, append-nil}
use Rattle.model_program.specs.Lexeme.{Lexeme}
use Rattle.model_program.specs.Pieces.{IsLongest, word_of}
use Rattle.model_program.specs.Cuts.{Piece, texts_of, lexeme_at, lexemes_after}
use Rattle.model_program.specs.Joined.{◌⊗◌}
use Rattle.model_grammar.specs.Printed.{blank}
use Rattle.model_grammar.proofs.Laid.{IsParted, AreLaid}
use Rattle.model_grammar.proofs.Standing.{blank_longest}

pub texts_of-append : (a b : List Piece) → texts_of (a ++ b) ≡ texts_of a ++ texts_of b
texts_of-append [] b = refl
texts_of-append (p ∷ a) b = ap (λ l. p.text ++ l) (texts_of-append a b) ∙ sym (append_assoc p.text (texts_of a) (texts_of b))

pub lexemes_after-append : (before : List ℕ) (a b : List Piece) → lexemes_after before (a ++ b) ≡ lexemes_after before a ++ lexemes_after (before ++ texts_of a) b
lexemes_after-append before [] b = ap (λ l. lexemes_after l b) (sym (append-nil before))
lexemes_after-append before (p ∷ a) b =
    ap (λ l. lexeme_at before (word_of p.kind p.text) p.text ++ l) (lexemes_after-append (before ++ p.text) a b ∙ ap (λ l. lexemes_after (before ++ p.text) a ++ lexemes_after l b) (append_assoc before p.text (texts_of a)))
    ∙ sym (append_assoc (lexeme_at before (word_of p.kind p.text) p.text) (lexemes_after (before ++ p.text) a) (lexemes_after (before ++ (p.text ++ texts_of a)) b))

pub laid-append : (a b : List Piece) (after : List ℕ) → AreLaid a (texts_of b ++ after) → AreLaid b after → AreLaid (a ++ b) after
laid-append [] b after one two = two
laid-append (p ∷ a) b after one two =
    let e : texts_of a ++ (texts_of b ++ after) ≡ texts_of (a ++ b) ++ after = sym (append_assoc (texts_of a) (texts_of b) after) ∙ ap (λ l. l ++ after) (sym (texts_of-append a b)) in
    (subst (IsLongest p.kind p.text) e one.0, laid-append a b after one.1 two)

-- a value that the tokens spell, which is this one, places aside
pub record Again {A C : Type 0} (bare : A → C) (form : A → List Lexeme → Type 0) (a : A) (tokens : List Lexeme) : Type 0 where
  pub value : A
  pub spelled : form value tokens
  pub same : bare value ≡ bare a

-- The pieces spell the value again, wherever they stand, and stand as they are before a text that they may have behind them.
pub record Written {A C : Type 0} (may : List ℕ → Type 0) (bare : A → C) (form : A → List Lexeme → Type 0) (a : A) (ps : List Piece) : Type 0 where
  pub again : (before : List ℕ) → Again bare form a (lexemes_after before ps)
  pub laid : (after : List ℕ) → may after → AreLaid ps after

abbrev pub both : {A B C D : Type 0} → (A → C) → (B → D) → A × B → C × D
both f g ab = (f ab.0, g ab.1)

-- what may stand behind the first may begin the second, or come behind it where it is empty
abbrev pub Touches : (List ℕ → Type 0) → List Piece → (List ℕ → Type 0) → Type 0
Touches may qs later = (after : List ℕ) → later after → may (texts_of qs ++ after)

-- one behind the other
pub joined : {A B C D : Type 0} {may later : List ℕ → Type 0} {f : A → C} {g : B → D} {p : A → List Lexeme → Type 0} {q : B → List Lexeme → Type 0} {a : A} {b : B} {ps qs : List Piece}
    → Touches may qs later → Written may f p a ps → Written later g q b qs → Written later (both f g) (p ⊗ q) (a, b) (ps ++ qs)
joined {ps} {qs} touches first second = record {
  again = λ before.
      let one = first.again before in let two = second.again (before ++ texts_of ps) in
      record {
        value = (one.value, two.value);
        spelled = record { front = lexemes_after before ps; back = lexemes_after (before ++ texts_of ps) qs; split = lexemes_after-append before ps qs; at_front = one.spelled; at_back = two.spelled };
        same = λ i. (one.same i, two.same i);
      };
  laid = λ after fine. laid-append ps qs after (first.laid (texts_of qs ++ after) (touches after fine)) (second.laid after fine);
}

-- a blank before
pub spaced : {A C : Type 0} {may : List ℕ → Type 0} {f : A → C} {p : A → List Lexeme → Type 0} {a : A} {ps : List Piece} → Written may f p a ps → Written may f p a (blank ∷ ps)
spaced {ps} written = record {
  again = λ before. written.again (before ++ 32 ∷ []);
  laid = λ after fine. (blank_longest 32 (texts_of ps ++ after) refl, written.laid after fine);
}

-- a blank between
pub apart : {A B C D : Type 0} {later : List ℕ → Type 0} {f : A → C} {g : B → D} {p : A → List Lexeme → Type 0} {q : B → List Lexeme → Type 0} {a : A} {b : B} {ps qs : List Piece}
    → Written IsParted f p a ps → Written later g q b qs → Written later (both f g) (p ⊗ q) (a, b) (ps ++ blank ∷ qs)
apart first second = joined (λ after fine. refl) first (spaced second)

-- the same pieces as another form
pub as_written : {A B C D : Type 0} {may : List ℕ → Type 0} {f : A → C} {g : B → D} {p : A → List Lexeme → Type 0} {q : B → List Lexeme → Type 0} {a : A} {ps : List Piece}
    → (to : A → B) → ((x : A) (tokens : List Lexeme) → p x tokens → q (to x) tokens) → ((x : A) → f x ≡ f a → g (to x) ≡ g (to a)) → Written may f p a ps → Written may g q (to a) ps
as_written to into same written = record {
  again = λ before.
      let one = written.again before in
      record { value = to one.value; spelled = into one.value _ one.spelled; same = same one.value one.same };
  laid = λ after fine. written.laid after fine;
}

-- less may stand behind
pub before_fewer : {A C : Type 0} {may fewer : List ℕ → Type 0} {f : A → C} {p : A → List Lexeme → Type 0} {a : A} {ps : List Piece} → ((after : List ℕ) → fewer after → may after) → Written may f p a ps → Written fewer f p a ps
before_fewer narrow written = record { again = written.again; laid = λ after fine. written.laid after (narrow after fine) }

-- nothing
pub nothing_written : {A C : Type 0} {may : List ℕ → Type 0} {f : A → C} {p : A → List Lexeme → Type 0} (a : A) → p a [] → Written may f p a []
nothing_written a spelled = record { again = λ before. record { value = a; spelled = spelled; same = refl }; laid = λ after fine. tt }

abbrev pub anything : List ℕ → Type 0
anything after = Unit {0}

-- each of a list's values is written
abbrev pub AllWritten : {A C : Type 0} → (A → C) → (A → List Lexeme → Type 0) → (A → List Piece) → List A → Type 0
AllWritten f p printed [] = Unit {0}
AllWritten f p printed (x ∷ xs) = Written IsParted f p x (printed x) × AllWritten f p printed xs
