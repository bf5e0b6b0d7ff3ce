-- Which expressions have the same pieces.
use Rattle.std.proofs.Common.{◌≡◌, Bool, true, false, List, [], ◌∷◌, ◌++◌, ◌⊎◌, inl, inr, map, Vec, Box, Global, ℤ, Result, Ok, Err, IfOk, MatchResult, refl, ap, sym, subst, ◌∙◌, append_assoc, append-nil}
use Rattle.fast_fault.specs.declared.place.Pos.{Pos}
use Rattle.fast_fault.specs.declared.text.Text.{Text}
use Rattle.fast_syntax.specs.Plain.{plain_expr, plain_node}
use Rattle.fast_syntax.specs.declared.expressions.Expr as Expr'
use Rattle.fast_syntax.specs.declared.expressions.Node.{Node}
use Rattle.fast_syntax.specs.declared.expressions.Node.TheVariants.{Field, Num, Str, Truth, Not, Minus, Or, And}
use Rattle.model_grammar.specs.Places.{nowhere, bare, bare_parts}
use Rattle.model_grammar.specs.Syntax.{Expr, field, number, text, truth, negation, compare, minus, chain, Parts, no_parts, part}
use Rattle.record_label.specs.Parts.{unmarked}
use Rattle.record_label.proofs.ExprParts.{plain_or, plain_and}
use Rattle.record_label.specs.declared.written.Mark.{Mark}
use Rattle.record_label.specs.declared.written.Mark.TheVariants as mark
use Rattle.record_label.specs.declared.written.Pieces.{Pieces}
use Rattle.record_label.specs.Written.{marks_of, marks_of_parts, first_mark, later_marks, Adds, WrittenAlike}

mutual
  -- an expression is all that stands in front of what follows its pieces
  in_front : (a b : Expr) (xs ys : List Mark) → marks_of a ++ xs ≡ marks_of b ++ ys → (bare a ≡ bare b) × (xs ≡ ys)
  in_front (field p s) (field q t) xs ys e = let same : s ≡ t = cc in let rest : xs ≡ ys = cc in (ap (field nowhere) same, rest)
  in_front (number p m) (number q n) xs ys e = let same : m ≡ n = cc in let rest : xs ≡ ys = cc in (ap (number nowhere) same, rest)
  in_front (text p s) (text q t) xs ys e = let same : s ≡ t = cc in let rest : xs ≡ ys = cc in (ap (text nowhere) same, rest)
  in_front (truth p a) (truth q b) xs ys e = let same : a ≡ b = cc in let rest : xs ≡ ys = cc in (ap (truth nowhere) same, rest)
  in_front (negation p a) (negation q b) xs ys e =
      let rest : marks_of a ++ xs ≡ marks_of b ++ ys = cc in
      let own = in_front a b xs ys rest in (ap (negation nowhere) own.0, own.1)
  in_front (compare p r a b) (compare q s c d) xs ys e =
      let rel : r ≡ s = cc in
      let rest : (marks_of a ++ marks_of b) ++ xs ≡ (marks_of c ++ marks_of d) ++ ys = cc in
      let first = in_front a c (marks_of b ++ xs) (marks_of d ++ ys) (sym (append_assoc (marks_of a) (marks_of b) xs) ∙ rest ∙ append_assoc (marks_of c) (marks_of d) ys) in
      let second = in_front b d xs ys first.1 in (λ i. compare nowhere (rel i) (first.0 i) (second.0 i), second.1)
  in_front (minus p a) (minus q b) xs ys e =
      let rest : marks_of a ++ xs ≡ marks_of b ++ ys = cc in
      let own = in_front a b xs ys rest in (ap (minus nowhere) own.0, own.1)
  in_front (chain k p ps) (chain l q qs) xs ys e =
      let kind : k ≡ l = cc in
      let rest : marks_of_parts ps ++ xs ≡ marks_of_parts qs ++ ys = cc in
      let own = parts_in_front ps qs xs ys rest in (λ i. chain (kind i) nowhere (own.0 i), own.1)
  in_front a b xs ys e = absurd cc

  parts_in_front : (ps qs : Parts) (xs ys : List Mark) → marks_of_parts ps ++ xs ≡ marks_of_parts qs ++ ys → (bare_parts ps ≡ bare_parts qs) × (xs ≡ ys)
  parts_in_front no_parts no_parts xs ys e = let rest : xs ≡ ys = cc in (refl, rest)
  parts_in_front (part m a ps) (part n b qs) xs ys e =
      let marked : m ≡ n = cc in
      let rest : (marks_of a ++ marks_of_parts ps) ++ xs ≡ (marks_of b ++ marks_of_parts qs) ++ ys = cc in
      let first = in_front a b (marks_of_parts ps ++ xs) (marks_of_parts qs ++ ys) (sym (append_assoc (marks_of a) (marks_of_parts ps) xs) ∙ rest ∙ append_assoc (marks_of b) (marks_of_parts qs) ys) in
      let second = parts_in_front ps qs xs ys first.1 in (λ i. part (marked i) (first.0 i) (second.0 i), second.1)
  parts_in_front ps qs xs ys e = absurd cc

-- expressions with the same pieces are the same, places aside
pub alike : WrittenAlike
alike a b e = (in_front a b [] [] (append-nil (marks_of a) ∙ e ∙ sym (append-nil (marks_of b)))).0

-- the first piece and those behind it are all
whole : (e : Expr) → marks_of e ≡ first_mark e ∷ later_marks e
whole (field p s) = refl
whole (number p n) = refl
whole (text p s) = refl
whole (truth p b) = refl
whole (negation p a) = refl
whole (compare p r a b) = refl
whole (minus p a) = refl
whole (chain k p ps) = refl

-- the piece that stands first
pub first_added : {E : Type 0} (r : Result Mark E) (first : Mark) (old new : Pieces) → IfOk r (λ m. m ≡ first) → MatchResult r (λ m. Adds (m ∷ []) old new) (λ _. new.wants ≡ true) → Adds (first ∷ []) old new
first_added (Ok m) first old new is h = subst (λ x. Adds (x ∷ []) old new) is h
first_added (Err e) first old new is h = λ kept. let other : true ≡ false = sym h ∙ kept in cc

pub adds_more : (xs ys : List Mark) (old pushed new : Pieces) → Adds xs old pushed → Adds ys pushed new → Adds (xs ++ ys) old new
adds_more xs ys old pushed new f g kept =
    let later = g kept in
    let first = f later.0 in
    (first.0, later.1 ∙ ap (λ ms. ms ++ ys) first.1 ∙ append_assoc old.marks.items xs ys)

pub all_added : (e : Expr) (old pushed new : Pieces) (rest : List Mark) → Adds (first_mark e ∷ []) old pushed → rest ≡ later_marks e → Adds rest pushed new → Adds (marks_of e) old new
all_added e old pushed new rest first behind added = subst (λ ms. Adds ms old new) (ap (λ ms. first_mark e ∷ ms) behind ∙ sym (whole e)) (adds_more (first_mark e ∷ []) rest old pushed new first added)

-- what stands alone, and what has one part
pub alone_added : (e : Expr) (old new : Pieces) → later_marks e ≡ [] → Adds (first_mark e ∷ []) old new → Adds (marks_of e) old new
alone_added e old new none first = subst (λ ms. Adds ms old new) (ap (λ ms. first_mark e ∷ ms) (sym none) ∙ sym (whole e)) first

pub none_behind : (n : Node) (p : Pos) → ((t : Text) × (n ≡ Field t)) ⊎ ((m : ℤ) × (n ≡ Num m)) ⊎ ((t : Text) × (n ≡ Str t)) ⊎ ((b : Bool) × (n ≡ Truth b)) → later_marks (plain_node n p) ≡ []
none_behind n p (inl (t, is)) = ap later_marks (ap (λ m. plain_node m p) is)
none_behind n p (inr (inl (m, is))) = ap later_marks (ap (λ k. plain_node k p) is)
none_behind n p (inr (inr (inl (t, is)))) = ap later_marks (ap (λ m. plain_node m p) is)
none_behind n p (inr (inr (inr (b, is)))) = ap later_marks (ap (λ m. plain_node m p) is)

pub part_behind : (n : Node) (p : Pos) (e : Box Expr'.Expr Global) → (n ≡ Not e) ⊎ (n ≡ Minus e) → later_marks (plain_node n p) ≡ marks_of (plain_expr e.value)
part_behind n p e (inl is) = ap later_marks (ap (λ m. plain_node m p) is)
part_behind n p e (inr is) = ap later_marks (ap (λ m. plain_node m p) is)

pub operands_behind : (n : Node) (p : Pos) (v : Vec Expr'.Expr Global) → (n ≡ Or v) ⊎ (n ≡ And v) → later_marks (plain_node n p) ≡ marks_of_parts (unmarked (map plain_expr v.items))
operands_behind n p v (inl is) = ap later_marks (ap (λ m. plain_node m p) is ∙ plain_or v p)
operands_behind n p v (inr is) = ap later_marks (ap (λ m. plain_node m p) is ∙ plain_and v p)

-- with those of the parts that are left the pieces are as many as come to the first ones
abbrev pub Remain : Parts → Parts → Pieces → Pieces → Type 0
Remain at all old now = now.wants ≡ false → (old.wants ≡ false) × (now.marks.items ++ marks_of_parts at ≡ old.marks.items ++ marks_of_parts all)

-- one more part, and no more parts
pub one_part : (m : Bool) (e : Expr) (rest at all : Parts) (old now pushed new : Pieces) → at ≡ part m e rest → Adds (mark.Part m ∷ []) now pushed → Adds (marks_of e) pushed new → Remain at all old now → Remain rest all old new
one_part m e rest at all old now pushed new here push add before kept =
    let added = add kept in
    let first = push added.0 in
    let left = before first.0 in (
      left.0,
      ap (λ ms. ms ++ marks_of_parts rest) (added.1 ∙ ap (λ ms. ms ++ marks_of e) first.1 ∙ append_assoc now.marks.items (mark.Part m ∷ []) (marks_of e))
          ∙ append_assoc now.marks.items (mark.Part m ∷ marks_of e) (marks_of_parts rest)
          ∙ sym (ap (λ ps. now.marks.items ++ marks_of_parts ps) here)
          ∙ left.1,
    )

pub no_part : (at all : Parts) (old now new : Pieces) → at ≡ no_parts → Adds (mark.End ∷ []) now new → Remain at all old now → Adds (marks_of_parts all) old new
no_part at all old now new none push before kept =
    let end = push kept in
    let left = before end.0 in
    (left.0, end.1 ∙ sym (ap (λ ps. now.marks.items ++ marks_of_parts ps) none) ∙ left.1)
