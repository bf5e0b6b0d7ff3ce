-- Printed lists and terms nest no deeper than those that were read.
use Rattle.std.proofs.Common.{false, ◌≡◌, List, [], ◌∷◌, ◌++◌, refl, sym, ap, ◌∙◌, subst, append_assoc, inl, inr}
use Rattle.model_program.specs.declared.Word.{Word}
use Rattle.model_program.specs.declared.Word.TheVariants.{Id, Comma, Bar, SquareOpen, SquareClose, RoundOpen, RoundClose}
use Rattle.model_program.specs.Lexeme.{Lexeme}
use Rattle.model_program.specs.Syntax.{Name}
use Rattle.model_program.specs.Cuts.{Piece}
use Rattle.model_program.specs.Joined.{◌⌢◌}
use Rattle.model_program.specs.Grammar.{IsSign, IsName, IsComma, Further, Items, Any, Many}
use Rattle.model_program.specs.TokenTexts.{HaveTexts}
use Rattle.model_grammar.specs.declared.Op1.{Op1}
use Rattle.model_grammar.specs.declared.Op1.TheVariants as op1
use Rattle.model_grammar.specs.declared.Op2.{Op2}
use Rattle.model_grammar.specs.declared.Op2.TheVariants as op2
use Rattle.model_grammar.specs.declared.Level.TheVariants.{E}
use Rattle.model_grammar.specs.Nesting.{Mark, passes, marked}
use Rattle.model_grammar.specs.Syntax.{Expr, X, Xs, Out, Outs}
use Rattle.model_grammar.specs.Operators.{op1_word, op2_word}
use Rattle.model_grammar.specs.Expressions.{IsE}
use Rattle.model_grammar.specs.Terms.{IsLater, Row, AreLabels, IsX, name, on_one, on_two, new, AreXs, no_more, one_more, IsOut, unchanged, called, made, AreOuts, no_outs, outs_on}
use Rattle.model_grammar.specs.Printed.{piece, blank, token, bracketed, behind_commas, with_commas, behind_blanks, behind_bars, expression, labels_of, term, terms, output, outputs}
use Rattle.model_grammar.specs.Printed as printed
use Rattle.model_grammar.proofs.Tokens.{IsSpelled}
use Rattle.model_grammar.proofs.WrittenExpressions.{texts_front, texts_back}
use Rattle.model_grammar.proofs.WrittenTerms.{name_text, spelled_op1, spelled_op2}
use Rattle.model_grammar.proofs.WrittenItems.{front_texts, back_texts}
use Rattle.grammar_laws.proofs.Runs.{IsPlain, IsBalanced, balanced_nothing, balanced-append, balanced_word, balanced_round, balanced_square}
use Rattle.grammar_laws.proofs.Keeps.{Keeps, keeps-append, keeps_nothing, keeps_blank, keeps_word, keeps_added, keeps_name, keeps_bracketed}
use Rattle.grammar_laws.proofs.KeepsExpressions.{plain_as, expression_kept}

-- pieces whose tokens were read, which are balanced
pub record KeptAs (ps : List Piece) (tokens : List Lexeme) : Type 0 where
  pub own : Keeps ps tokens
  pub balanced : IsBalanced tokens

pub kept-append : {ps qs : List Piece} {a b : List Lexeme} → KeptAs ps a → KeptAs qs b → KeptAs (ps ++ qs) (a ++ b)
kept-append {ps} {qs} {a} {b} x y = record { own = keeps-append x.own y.own; balanced = balanced-append a b x.balanced y.balanced }

pub kept_blank : {ps : List Piece} {a : List Lexeme} → KeptAs ps a → KeptAs (blank ∷ ps) a
kept_blank x = record { own = keeps_blank x.own; balanced = x.balanced }

pub kept_nothing : KeptAs [] []
kept_nothing = record { own = keeps_nothing; balanced = balanced_nothing }

-- the same plain word
pub kept_word : {ps : List Piece} {a : List Lexeme} (w : Word) (t : Lexeme) → IsSpelled w → IsPlain w → t.word ≡ w → KeptAs ps a → KeptAs (token w ∷ ps) (t ∷ a)
kept_word {ps} {a} w t is plain same x = record { own = keeps_word w t is same x.own; balanced = balanced-append (t ∷ []) a (balanced_word t (plain_as t.word w plain same)) x.balanced }

pub kept_parens : {ps : List Piece} {a : List Lexeme} (l r : Lexeme) → l.word ≡ RoundOpen → r.word ≡ RoundClose → KeptAs ps a → KeptAs (bracketed ps) (l ∷ a ++ r ∷ [])
kept_parens {ps} {a} l r opens closes x = record { own = keeps_bracketed l r opens closes x.own; balanced = balanced_round l r a opens closes x.balanced }

-- other tokens that are the same
pub kept_as : {ps : List Piece} {a b : List Lexeme} → a ≡ b → KeptAs ps a → KeptAs ps b
kept_as {ps} same x = subst (λ (l : List Lexeme). KeptAs ps l) same x

pub plain_word : (w : Word) → ((m : List Mark) → passes w m ≡ false) → ((m : List Mark) → marked w m ≡ m) → IsPlain w
plain_word w x y = record { passes_not = x; marks_not = y }

pub comma_plain : IsPlain Comma
comma_plain = plain_word Comma (λ m. refl) (λ m. refl)

-- a sign and what is behind it
pub sign_first : {q : List Lexeme → Type 0} {qs : List Piece} {ts : List Lexeme} (w : Word) → IsSpelled w → (s : (IsSign w tt ⌢ q) ts) → Keeps qs s.back → Keeps (token w ∷ qs) ts
sign_first {q} {qs} {ts} w is s later = subst (λ (l : List Lexeme). Keeps (token w ∷ qs) l) (sym (s.split ∙ ap (λ l. l ++ s.back) s.at_front.1.0)) (keeps_word w s.at_front.0 is s.at_front.1.1 later)

pub joined_kept : {p q : List Lexeme → Type 0} {ps qs : List Piece} {ts : List Lexeme} (s : (p ⌢ q) ts) → Keeps ps s.front → Keeps qs s.back → Keeps (ps ++ qs) ts
joined_kept {p} {q} {ps} {qs} s x y = subst (λ (l : List Lexeme). Keeps (ps ++ qs) l) (sym s.split) (keeps-append x y)

pub sign_kept : (w : Word) (ts : List Lexeme) → IsSpelled w → IsSign w tt ts → Keeps (token w ∷ []) ts
sign_kept w ts is s = subst (λ (l : List Lexeme). Keeps (token w ∷ []) l) (sym s.1.0) (keeps_word w s.0 is s.1.1 keeps_nothing)

id_plain : IsPlain Id
id_plain = plain_word Id (λ m. refl) (λ m. refl)

pub names_kept : (n : Name) (ts : List Lexeme) → IsName n ts → HaveTexts ts → KeptAs (printed.name n) ts
names_kept n ts is have = kept_as (sym is.1.0) (record { own = keeps_name is.0 n.text (name_text n ts is have) is.1.1; balanced = balanced_word is.0 (plain_as is.0.word Id id_plain is.1.1) })

-- lists whose items were read
module _ {A : Type 0} (p : A → List Lexeme → Type 0) (show : A → List Piece) (item_kept : (a : A) (ts : List Lexeme) → p a ts → HaveTexts ts → Keeps (show a) ts) where
  pub further_kept : (xs : List A) (ts : List Lexeme) → Further IsComma p xs ts → HaveTexts ts → Keeps (behind_commas show xs) ts
  further_kept [] ts is have = subst (λ (l : List Lexeme). Keeps [] l) (sym is) keeps_nothing
  further_kept (x ∷ xs) ts is have =
      let s1 = is.at_back in let t1 = back_texts is have in
      let rest = joined_kept s1 (item_kept x s1.front s1.at_front (front_texts s1 t1)) (further_kept xs s1.back s1.at_back (back_texts s1 t1)) in
      subst (λ (l : List Lexeme). Keeps (behind_commas show (x ∷ xs)) l) (sym is.split) (comma is.front is.back is.at_front (keeps_blank rest))
    where
      comma : (front back : List Lexeme) → IsComma tt front → {qs : List Piece} → Keeps qs back → Keeps (token Comma ∷ qs) (front ++ back)
      comma front back (inl none) {qs} later = subst (λ (l : List Lexeme). Keeps (token Comma ∷ qs) (l ++ back)) (sym none) (keeps_added Comma tt comma_plain later)
      comma front back (inr some) {qs} later = subst (λ (l : List Lexeme). Keeps (token Comma ∷ qs) (l ++ back)) (sym some.1.0) (keeps_word Comma some.0 tt some.1.1 later)

  pub further_bars_kept : (xs : List A) (ts : List Lexeme) → Further (IsSign Bar) p xs ts → HaveTexts ts → Keeps (behind_bars show xs) ts
  further_bars_kept [] ts is have = subst (λ (l : List Lexeme). Keeps [] l) (sym is) keeps_nothing
  further_bars_kept (x ∷ xs) ts is have =
      let s1 = is.at_back in let t1 = back_texts is have in
      keeps_blank (sign_first Bar tt is (keeps_blank (joined_kept s1 (item_kept x s1.front s1.at_front (front_texts s1 t1)) (further_bars_kept xs s1.back s1.at_back (back_texts s1 t1)))))

  pub many_kept : (xs : List A) (ts : List Lexeme) → Many p xs ts → HaveTexts ts → Keeps (behind_blanks show xs) ts
  many_kept [] ts is have = subst (λ (l : List Lexeme). Keeps [] l) (sym is) keeps_nothing
  many_kept (x ∷ xs) ts is have = keeps_blank (joined_kept is (item_kept x is.front is.at_front (front_texts is have)) (many_kept xs is.back is.at_back (back_texts is have)))

  pub items_kept : (xs : List A) (ts : List Lexeme) → Items IsComma p xs ts → HaveTexts ts → Keeps (with_commas show xs) ts
  items_kept [] ts is have = absurd is
  items_kept (x ∷ xs) ts is have = joined_kept is (item_kept x is.front is.at_front (front_texts is have)) (further_kept xs is.back is.at_back (back_texts is have))

  pub any_kept : (xs : List A) (ts : List Lexeme) → Any IsComma p xs ts → HaveTexts ts → Keeps (with_commas show xs) ts
  any_kept [] ts is have = subst (λ (l : List Lexeme). Keeps [] l) (sym is) keeps_nothing
  any_kept (x ∷ xs) ts is have = items_kept (x ∷ xs) ts is have

  pub bars_kept : (xs : List A) (ts : List Lexeme) → Items (IsSign Bar) p xs ts → HaveTexts ts → Keeps (printed.with_bars show xs) ts
  bars_kept [] ts is have = absurd is
  bars_kept (x ∷ xs) ts is have = joined_kept is (item_kept x is.front is.at_front (front_texts is have)) (further_bars_kept xs is.back is.at_back (back_texts is have))

-- labels
label_kept : (e : Expr) (ts : List Lexeme) → IsE e ts → HaveTexts ts → KeptAs (expression e) ts
label_kept e ts is have = let kept = expression_kept E e ts is have in record { own = kept.own; balanced = kept.balanced }

later_label : (e : Expr) (ts : List Lexeme) (qs : List Piece) (back : List Lexeme) → IsLater IsE e ts → HaveTexts ts → KeptAs qs back → KeptAs (token Comma ∷ blank ∷ (expression e ++ qs)) (ts ++ back)
later_label e ts qs back (inl is) have later =
    let t = is.at_front.0 in
    let split : ts ++ back ≡ t ∷ (is.back ++ back) = ap (λ l. l ++ back) (is.split ∙ ap (λ l. l ++ is.back) is.at_front.1.0) in
    kept_as (sym split) (kept_word Comma t tt comma_plain is.at_front.1.1 (kept_blank (kept-append (label_kept e is.back is.at_back (back_texts is have)) later)))
later_label e ts qs back (inr is) have later =
    let rest = kept_blank (kept-append (label_kept e ts is.0 have) later) in record { own = keeps_added Comma tt comma_plain rest.own; balanced = rest.balanced }

later_labels : (es : List Expr) (ts : List Lexeme) → Many (IsLater IsE) es ts → HaveTexts ts → KeptAs (behind_commas expression es) ts
later_labels [] ts is have = kept_as (sym is) kept_nothing
later_labels (e ∷ es) ts is have = kept_as (sym is.split) (later_label e is.front (behind_commas expression es) is.back is.at_front (front_texts is have) (later_labels es is.back is.at_back (back_texts is have)))

row_kept : (es : List Expr) (ts : List Lexeme) → Row IsE es ts → HaveTexts ts → KeptAs (with_commas expression es) ts
row_kept [] ts is have = kept_as (sym is) kept_nothing
row_kept (e ∷ es) ts is have = kept_as (sym is.split) (kept-append (label_kept e is.front is.at_front (front_texts is have)) (later_labels es is.back is.at_back (back_texts is have)))

pub labels_kept : (es : List Expr) (ts : List Lexeme) → AreLabels es ts → HaveTexts ts → KeptAs (labels_of es) ts
labels_kept es ts is have =
    let s1 = is.at_back in
    let row = row_kept es s1.front s1.at_front (front_texts s1 (back_texts is have)) in
    let l = is.at_front.0 in let r = s1.at_back.0 in
    let split : ts ≡ l ∷ s1.front ++ r ∷ [] = is.split ∙ ap (λ x. x ++ is.back) is.at_front.1.0 ∙ ap (λ x. l ∷ x) (s1.split ∙ ap (λ x. s1.front ++ x) s1.at_back.1.0) in
    kept_as (sym split) (record { own = keeps_word SquareOpen l tt is.at_front.1.1 (keeps-append row.own (keeps_word SquareClose r tt s1.at_back.1.1 keeps_nothing)); balanced = balanced_square l r s1.front is.at_front.1.1 s1.at_back.1.1 row.balanced })

op1_plain : (op : Op1) → IsPlain (op1_word op)
op1_plain op1.Complement = record { passes_not = λ m. refl; marks_not = λ m. refl }
op1_plain op1.Minimize = record { passes_not = λ m. refl; marks_not = λ m. refl }
op1_plain op1.Domain = record { passes_not = λ m. refl; marks_not = λ m. refl }
op1_plain op1.GetWitness = record { passes_not = λ m. refl; marks_not = λ m. refl }

op2_plain : (op : Op2) → IsPlain (op2_word op)
op2_plain op2.Intersect = record { passes_not = λ m. refl; marks_not = λ m. refl }
op2_plain op2.Union = record { passes_not = λ m. refl; marks_not = λ m. refl }
op2_plain op2.Difference = record { passes_not = λ m. refl; marks_not = λ m. refl }
op2_plain op2.PreImage = record { passes_not = λ m. refl; marks_not = λ m. refl }
op2_plain op2.Compose = record { passes_not = λ m. refl; marks_not = λ m. refl }
op2_plain op2.Restrict = record { passes_not = λ m. refl; marks_not = λ m. refl }
op2_plain op2.RestrictOut = record { passes_not = λ m. refl; marks_not = λ m. refl }
op2_plain op2.Apply = record { passes_not = λ m. refl; marks_not = λ m. refl }

in_two : (left right : Lexeme) (a b : List Lexeme) → left ∷ (a ++ b) ++ right ∷ [] ≡ left ∷ a ++ (b ++ right ∷ [])
in_two left right a b = ap (λ l. left ∷ l) (append_assoc a b (right ∷ []))

in_three : (left right : Lexeme) (a b c : List Lexeme) → left ∷ (a ++ (b ++ c)) ++ right ∷ [] ≡ left ∷ a ++ (b ++ (c ++ right ∷ []))
in_three left right a b c = in_two left right a (b ++ c) ∙ ap (λ l. left ∷ a ++ l) (append_assoc b c (right ∷ []))

mutual
  pub term_kept : (x : X) (ts : List Lexeme) → IsX x ts → HaveTexts ts → KeptAs (term x) ts
  term_kept x ts (name n us is) have = names_kept n us is have
  term_kept x ts (on_one left op right kind y inside opens is_op closes is) have =
      kept_parens left right opens closes (kept_word (op1_word kind) op (spelled_op1 kind) (op1_plain kind) is_op (kept_blank (term_kept y inside is (texts_front inside (right ∷ []) have.1.1))))
  term_kept x ts (on_two left op right kind y z front back opens is_op closes is_y is_z) have =
      kept_as (in_two left right (op ∷ front) back)
      (kept_parens left right opens closes (kept_word (op2_word kind) op (spelled_op2 kind) (op2_plain kind) is_op (kept_blank
      (kept-append (term_kept y front is_y (texts_front front (back ++ right ∷ []) have.1.1)) (kept_blank (term_kept z back is_z (texts_front back (right ∷ []) (texts_back front (back ++ right ∷ []) have.1.1))))))))
  term_kept x ts (new left right n labels xs head row children opens closes is_n are are_xs) have =
      let behind = texts_back head (row ++ (children ++ right ∷ [])) have.1 in
      kept_as (in_three left right head row children)
      (kept_parens left right opens closes (kept-append (names_kept n head is_n (texts_front head (row ++ (children ++ right ∷ [])) have.1)) (kept_blank
      (kept-append (labels_kept labels row are (texts_front row (children ++ right ∷ []) behind)) (terms_kept xs children are_xs (texts_front children (right ∷ []) (texts_back row (children ++ right ∷ []) behind)))))))

  pub terms_kept : (xs : Xs) (ts : List Lexeme) → AreXs xs ts → HaveTexts ts → KeptAs (terms xs) ts
  terms_kept xs ts no_more have = kept_nothing
  terms_kept xs ts (one_more x others front back is are) have = kept_blank (kept-append (term_kept x front is (texts_front front back have)) (terms_kept others back are (texts_back front back have)))

mutual
  pub output_kept : (out : Out) (ts : List Lexeme) → IsOut out ts → HaveTexts ts → KeptAs (output out) ts
  output_kept out ts (unchanged n us is) have = names_kept n us is have
  output_kept out ts (called left right q y head argument opens closes is_q is_y) have =
      kept_as (in_two left right head argument)
      (kept_parens left right opens closes (kept-append (names_kept q head is_q (texts_front head (argument ++ right ∷ []) have.1)) (kept_blank (names_kept y argument is_y (texts_front argument (right ∷ []) (texts_back head (argument ++ right ∷ []) have.1))))))
  output_kept out ts (made left right n labels outs head row children opens closes is_n are are_outs) have =
      let behind = texts_back head (row ++ (children ++ right ∷ [])) have.1 in
      kept_as (in_three left right head row children)
      (kept_parens left right opens closes (kept-append (names_kept n head is_n (texts_front head (row ++ (children ++ right ∷ [])) have.1)) (kept_blank
      (kept-append (labels_kept labels row are (texts_front row (children ++ right ∷ []) behind)) (outputs_kept outs children are_outs (texts_front children (right ∷ []) (texts_back row (children ++ right ∷ []) behind)))))))

  pub outputs_kept : (outs : Outs) (ts : List Lexeme) → AreOuts outs ts → HaveTexts ts → KeptAs (outputs outs) ts
  outputs_kept outs ts no_outs have = kept_nothing
  outputs_kept outs ts (outs_on out others front back is are) have = kept_blank (kept-append (output_kept out front is (texts_front front back have)) (outputs_kept others back are (texts_back front back have)))
