-- Labels, expressions of languages, transformations and trees, and output terms are written.
use Rattle.std.proofs.Common.{◌≡◌, List, [], ◌∷◌, ◌++◌, map, refl, sym, ap, ◌∙◌, subst, append_assoc}
use Rattle.fast_fault.specs.declared.place.Pos.{Pos}
use Rattle.model_program.specs.declared.Word.{Word}
use Rattle.model_program.specs.declared.Word.TheVariants.{Id, SquareOpen, SquareClose, RoundOpen, RoundClose}
use Rattle.model_program.specs.Lexeme.{Lexeme}
use Rattle.model_program.specs.Spellings.{spelling}
use Rattle.model_program.specs.Syntax.{Name}
use Rattle.model_program.specs.Cuts.{Piece, texts_of}
use Rattle.model_program.specs.Joined.{◌⌢◌, ◌⊗◌}
use Rattle.model_program.specs.Grammar.{IsSign, IsAt, IsName}
use Rattle.model_program.specs.TokenTexts.{IsTextOf, HaveTexts}
use Rattle.model_grammar.specs.declared.Op1.{Op1}
use Rattle.model_grammar.specs.declared.Op1.TheVariants as op1
use Rattle.model_grammar.specs.declared.Op2.{Op2}
use Rattle.model_grammar.specs.declared.Op2.TheVariants as op2
use Rattle.model_grammar.specs.Syntax.{Expr, X, named, one, two, literal, Xs, no_x, and_x, Out, child, call, node, Outs, no_out, and_out}
use Rattle.model_grammar.specs.Places.{nowhere, bare_name, bare, bare_x, bare_xs, bare_out, bare_outs}
use Rattle.model_grammar.specs.Operators.{op1_word, op2_word}
use Rattle.model_grammar.specs.Expressions.{IsE}
use Rattle.model_grammar.specs.Terms.{Row, AreLabels, IsX, name, on_one, on_two, new, AreXs, no_more, one_more, IsOut, unchanged, called, made, AreOuts, no_outs, outs_on}
use Rattle.model_grammar.specs.Printed.{piece, blank, token, bracketed, with_commas, expression, labels_of, term, terms, output, outputs}
use Rattle.model_grammar.specs.Printed as printed
use Rattle.model_grammar.proofs.Laid.{IsParted}
use Rattle.model_grammar.proofs.Written.{Again, Written, Touches, joined, spaced, apart, as_written, nothing_written}
use Rattle.model_grammar.proofs.Tokens.{sign_written, at_written, square_written, name_written, bracket_tokens, bracket_laid, token_at, IsSpelled}
use Rattle.model_grammar.proofs.WrittenExpressions.{texts_front, texts_back, expression_written}
use Rattle.model_grammar.proofs.WrittenLists.{row_commas, all_row}

-- the text of a name
pub name_text : (n : Name) (ts : List Lexeme) → IsName n ts → HaveTexts ts → IsTextOf Id n.text
name_text n ts is have =
    let text : IsTextOf is.0.word is.0.text = (subst HaveTexts is.1.0 have).0 in
    subst (λ (m : Name). IsTextOf Id m.text) (sym is.2) (subst (λ (w : Word). IsTextOf w is.0.text) is.1.1 text)

pub names_written : (n : Name) (ts : List Lexeme) → IsName n ts → HaveTexts ts → Written IsParted bare_name IsName n (printed.name n)
names_written n ts is have = name_written n (name_text n ts is have)

pub labels_written : (labels : List Expr) (ts : List Lexeme) → AreLabels labels ts → HaveTexts ts → Written IsParted (map bare) AreLabels labels (labels_of labels)
labels_written labels ts is have =
    let inside = is.at_back in
    let texts = texts_front inside.front inside.back (subst HaveTexts inside.split (texts_back is.front is.back (subst HaveTexts is.split have))) in
    let each = all_row bare IsE expression expression_written labels inside.front inside.at_front texts in
    as_written {p = IsSign SquareOpen ⊗ (Row IsE ⊗ IsSign SquareClose)} (λ v. v.1.0) (λ v ts s. s) (λ v same i. (same i).1.0)
    (joined (λ after fine. tt) square_written (joined (λ after fine. refl) (row_commas bare IsE expression labels each) (sign_written SquareClose tt)))

-- in parentheses
pub in_parens : {A B C D : Type 0} {f : A → C} {g : B → D} {p : A → List Lexeme → Type 0} {q : B → List Lexeme → Type 0} {a : A} {ps : List Piece}
    → (to : A → B) → ((x : A) (inside : List Lexeme) (left right : Lexeme) → left.word ≡ RoundOpen → right.word ≡ RoundClose → p x inside → q (to x) (left ∷ inside ++ right ∷ [])) → ((x : A) → f x ≡ f a → g (to x) ≡ g (to a))
    → Written IsParted f p a ps → Written IsParted g q (to a) (bracketed ps)
in_parens {g} {q} {a} {ps} to into same written = record {
  again = λ before.
      let within = written.again (before ++ spelling RoundOpen) in
      subst (Again g q (to a)) (sym (bracket_tokens before ps))
      (record { value = to within.value; spelled = into within.value _ (token_at RoundOpen before (spelling RoundOpen)) (token_at RoundClose ((before ++ spelling RoundOpen) ++ texts_of ps) (spelling RoundClose)) refl refl within.spelled; same = same within.value within.same });
  laid = bracket_laid ps written.laid;
}

pub spelled_op1 : (op : Op1) → IsSpelled (op1_word op)
spelled_op1 op1.Complement = tt
spelled_op1 op1.Minimize = tt
spelled_op1 op1.Domain = tt
spelled_op1 op1.GetWitness = tt

pub spelled_op2 : (op : Op2) → IsSpelled (op2_word op)
spelled_op2 op2.Intersect = tt
spelled_op2 op2.Union = tt
spelled_op2 op2.Difference = tt
spelled_op2 op2.PreImage = tt
spelled_op2 op2.Compose = tt
spelled_op2 op2.Restrict = tt
spelled_op2 op2.RestrictOut = tt
spelled_op2 op2.Apply = tt

-- a keyword at its place and what is behind it
behind_keyword : {p : List Lexeme → Type 0} (w : Word) (place : Pos) (inside : List Lexeme) → (IsAt w place ⌢ p) inside → (t : Lexeme) × (t.word ≡ w) × (place ≡ t.place) × ((rest : List Lexeme) × (inside ≡ t ∷ rest) × p rest)
behind_keyword w place inside s = (s.at_front.0, s.at_front.1.1, s.at_front.2, (s.back, s.split ∙ ap (λ l. l ++ s.back) s.at_front.1.0, s.at_back))

one_into : (op : Op1) (v : Pos × X) (inside : List Lexeme) (left right : Lexeme) → left.word ≡ RoundOpen → right.word ≡ RoundClose → (IsAt (op1_word op) ⊗ IsX) v inside → IsX (one op v.0 v.1) (left ∷ inside ++ right ∷ [])
one_into op v inside left right opens closes s =
    let k = behind_keyword (op1_word op) v.0 inside s in
    subst (λ (l : List Lexeme). IsX (one op v.0 v.1) (left ∷ l ++ right ∷ [])) (sym k.3.1)
    (subst (λ (place : Pos). IsX (one op place v.1) (left ∷ k.0 ∷ k.3.0 ++ right ∷ [])) (sym k.2) (on_one left k.0 right op v.1 k.3.0 opens k.1 closes k.3.2))

two_into : (op : Op2) (v : Pos × (X × X)) (inside : List Lexeme) (left right : Lexeme) → left.word ≡ RoundOpen → right.word ≡ RoundClose → (IsAt (op2_word op) ⊗ (IsX ⊗ IsX)) v inside → IsX (two op v.0 v.1.0 v.1.1) (left ∷ inside ++ right ∷ [])
two_into op v inside left right opens closes s =
    let k = behind_keyword (op2_word op) v.0 inside s in
    let both_x = k.3.2 in
    let all : inside ++ right ∷ [] ≡ k.0 ∷ both_x.front ++ (both_x.back ++ right ∷ []) = ap (λ l. l ++ right ∷ []) (k.3.1 ∙ ap (λ l. k.0 ∷ l) both_x.split) ∙ ap (λ l. k.0 ∷ l) (append_assoc both_x.front both_x.back (right ∷ [])) in
    subst (λ (l : List Lexeme). IsX (two op v.0 v.1.0 v.1.1) (left ∷ l)) (sym all)
    (subst (λ (place : Pos). IsX (two op place v.1.0 v.1.1) (left ∷ k.0 ∷ both_x.front ++ (both_x.back ++ right ∷ []))) (sym k.2) (on_two left k.0 right op v.1.0 v.1.1 both_x.front both_x.back opens k.1 closes both_x.at_front both_x.at_back))

-- three parts before a closing sign
three_parts : {p q r : List Lexeme → Type 0} (inside : List Lexeme) (right : Lexeme) → (s : (p ⌢ (q ⌢ r)) inside) → inside ++ right ∷ [] ≡ s.front ++ (s.at_back.front ++ (s.at_back.back ++ right ∷ []))
three_parts inside right s =
    ap (λ l. l ++ right ∷ []) (s.split ∙ ap (λ l. s.front ++ l) s.at_back.split)
    ∙ append_assoc s.front (s.at_back.front ++ s.at_back.back) (right ∷ [])
    ∙ ap (λ l. s.front ++ l) (append_assoc s.at_back.front s.at_back.back (right ∷ []))

new_into : (v : Name × (List Expr × Xs)) (inside : List Lexeme) (left right : Lexeme) → left.word ≡ RoundOpen → right.word ≡ RoundClose → (IsName ⊗ (AreLabels ⊗ AreXs)) v inside → IsX (literal v.0 v.1.0 v.1.1) (left ∷ inside ++ right ∷ [])
new_into v inside left right opens closes s =
    subst (λ (l : List Lexeme). IsX (literal v.0 v.1.0 v.1.1) (left ∷ l)) (sym (three_parts inside right s))
    (new left right v.0 v.1.0 v.1.1 s.front s.at_back.front s.at_back.back opens closes s.at_front s.at_back.at_front s.at_back.at_back)

terms_touch : (xs : Xs) → Touches IsParted (terms xs) IsParted
terms_touch no_x after parted = parted
terms_touch (and_x x xs) after parted = refl

more_into : (v : X × Xs) (ts : List Lexeme) → (IsX ⊗ AreXs) v ts → AreXs (and_x v.0 v.1) ts
more_into v ts s = subst (AreXs (and_x v.0 v.1)) (sym s.split) (one_more v.0 v.1 s.front s.back s.at_front s.at_back)

mutual
  pub term_written : (x : X) (ts : List Lexeme) → IsX x ts → HaveTexts ts → Written IsParted bare_x IsX x (term x)
  term_written x ts (name n us is) have = as_written (λ m. named m) (λ m vs spelled. name m vs spelled) (λ m same. ap (λ k. named k) same) (names_written n us is have)
  term_written x ts (on_one left op right kind y inside opens is_op closes is) have =
      in_parens {p = IsAt (op1_word kind) ⊗ IsX} (λ v. one kind v.0 v.1) (one_into kind) (λ v same i. one kind nowhere (same i).1)
      (apart (at_written (op1_word kind) op.place (spelled_op1 kind)) (term_written y inside is (texts_front inside (right ∷ []) have.1.1)))
  term_written x ts (on_two left op right kind y z front back opens is_op closes is_y is_z) have =
      in_parens {p = IsAt (op2_word kind) ⊗ (IsX ⊗ IsX)} (λ v. two kind v.0 v.1.0 v.1.1) (two_into kind) (λ v same i. two kind nowhere (same i).1.0 (same i).1.1)
      (apart (at_written (op2_word kind) op.place (spelled_op2 kind))
      (apart (term_written y front is_y (texts_front front (back ++ right ∷ []) have.1.1)) (term_written z back is_z (texts_front back (right ∷ []) (texts_back front (back ++ right ∷ []) have.1.1)))))
  term_written x ts (new left right n labels xs head row children opens closes is_n are are_xs) have =
      let behind = texts_back head (row ++ (children ++ right ∷ [])) have.1 in
      in_parens {p = IsName ⊗ (AreLabels ⊗ AreXs)} (λ v. literal v.0 v.1.0 v.1.1) new_into (λ v same i. literal (same i).0 (same i).1.0 (same i).1.1)
      (apart (names_written n head is_n (texts_front head (row ++ (children ++ right ∷ [])) have.1))
      (joined (terms_touch xs) (labels_written labels row are (texts_front row (children ++ right ∷ []) behind)) (terms_written xs children are_xs (texts_front children (right ∷ []) (texts_back row (children ++ right ∷ []) behind)))))

  pub terms_written : (xs : Xs) (ts : List Lexeme) → AreXs xs ts → HaveTexts ts → Written IsParted bare_xs AreXs xs (terms xs)
  terms_written xs ts no_more have = nothing_written no_x no_more
  terms_written xs ts (one_more x others front back is are) have =
      as_written {p = IsX ⊗ AreXs} (λ v. and_x v.0 v.1) more_into (λ v same i. and_x (same i).0 (same i).1)
      (spaced (joined (terms_touch others) (term_written x front is (texts_front front back have)) (terms_written others back are (texts_back front back have))))

called_into : (v : Name × Name) (inside : List Lexeme) (left right : Lexeme) → left.word ≡ RoundOpen → right.word ≡ RoundClose → (IsName ⊗ IsName) v inside → IsOut (call v.0 v.1) (left ∷ inside ++ right ∷ [])
called_into v inside left right opens closes s =
    subst (λ (l : List Lexeme). IsOut (call v.0 v.1) (left ∷ l)) (sym (ap (λ l. l ++ right ∷ []) s.split ∙ append_assoc s.front s.back (right ∷ [])))
    (called left right v.0 v.1 s.front s.back opens closes s.at_front s.at_back)

made_into : (v : Name × (List Expr × Outs)) (inside : List Lexeme) (left right : Lexeme) → left.word ≡ RoundOpen → right.word ≡ RoundClose → (IsName ⊗ (AreLabels ⊗ AreOuts)) v inside → IsOut (node v.0 v.1.0 v.1.1) (left ∷ inside ++ right ∷ [])
made_into v inside left right opens closes s =
    subst (λ (l : List Lexeme). IsOut (node v.0 v.1.0 v.1.1) (left ∷ l)) (sym (three_parts inside right s))
    (made left right v.0 v.1.0 v.1.1 s.front s.at_back.front s.at_back.back opens closes s.at_front s.at_back.at_front s.at_back.at_back)

outputs_touch : (outs : Outs) → Touches IsParted (outputs outs) IsParted
outputs_touch no_out after parted = parted
outputs_touch (and_out out outs) after parted = refl

outs_into : (v : Out × Outs) (ts : List Lexeme) → (IsOut ⊗ AreOuts) v ts → AreOuts (and_out v.0 v.1) ts
outs_into v ts s = subst (AreOuts (and_out v.0 v.1)) (sym s.split) (outs_on v.0 v.1 s.front s.back s.at_front s.at_back)

mutual
  pub output_written : (out : Out) (ts : List Lexeme) → IsOut out ts → HaveTexts ts → Written IsParted bare_out IsOut out (output out)
  output_written out ts (unchanged n us is) have = as_written (λ m. child m) (λ m vs spelled. unchanged m vs spelled) (λ m same. ap (λ k. child k) same) (names_written n us is have)
  output_written out ts (called left right q y head argument opens closes is_q is_y) have =
      in_parens {p = IsName ⊗ IsName} (λ v. call v.0 v.1) called_into (λ v same i. call (same i).0 (same i).1)
      (apart (names_written q head is_q (texts_front head (argument ++ right ∷ []) have.1)) (names_written y argument is_y (texts_front argument (right ∷ []) (texts_back head (argument ++ right ∷ []) have.1))))
  output_written out ts (made left right n labels outs head row children opens closes is_n are are_outs) have =
      let behind = texts_back head (row ++ (children ++ right ∷ [])) have.1 in
      in_parens {p = IsName ⊗ (AreLabels ⊗ AreOuts)} (λ v. node v.0 v.1.0 v.1.1) made_into (λ v same i. node (same i).0 (same i).1.0 (same i).1.1)
      (apart (names_written n head is_n (texts_front head (row ++ (children ++ right ∷ [])) have.1))
      (joined (outputs_touch outs) (labels_written labels row are (texts_front row (children ++ right ∷ []) behind)) (outputs_written outs children are_outs (texts_front children (right ∷ []) (texts_back row (children ++ right ∷ []) behind)))))

  pub outputs_written : (outs : Outs) (ts : List Lexeme) → AreOuts outs ts → HaveTexts ts → Written IsParted bare_outs AreOuts outs (outputs outs)
  outputs_written outs ts no_outs have = nothing_written no_out no_outs
  outputs_written outs ts (outs_on out others front back is are) have =
      as_written {p = IsOut ⊗ AreOuts} (λ v. and_out v.0 v.1) outs_into (λ v same i. and_out (same i).0 (same i).1)
      (spaced (joined (outputs_touch others) (output_written out front is (texts_front front back have)) (outputs_written others back are (texts_back front back have))))
