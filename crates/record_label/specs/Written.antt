-- What is written in a label expression, places aside: its pieces, of which what joins parts stands in front of them.
use Rattle.std.specs.Prelude.{◌≡◌, false, List, [], ◌∷◌, ◌++◌}
use Rattle.model_tree.specs.Signature.{Sort, wholes, truths, texts}
use Rattle.model_grammar.specs.Places.{bare}
use Rattle.model_grammar.specs.Syntax.{Expr, field, number, text, truth, negation, compare, minus, chain, Parts, no_parts, part}
use Rattle.record_label.specs.declared.written.Mark.{Mark}
use Rattle.record_label.specs.declared.written.Mark.TheVariants as mark
use Rattle.record_label.specs.declared.written.Pieces.{Pieces}
use Rattle.record_label.specs.declared.written.Written.{Written}

abbrev mutual
  pub marks_of : Expr → List Mark
  marks_of (field place name) = mark.Field name ∷ []
  marks_of (number place n) = mark.Number n ∷ []
  marks_of (text place t) = mark.Constant t ∷ []
  marks_of (truth place b) = mark.Truth b ∷ []
  marks_of (negation place e) = mark.Not ∷ marks_of e
  marks_of (compare place rel a b) = mark.Compare rel ∷ (marks_of a ++ marks_of b)
  marks_of (minus place e) = mark.Minus ∷ marks_of e
  marks_of (chain kind place parts) = mark.Chain kind ∷ marks_of_parts parts

  pub marks_of_parts : Parts → List Mark
  marks_of_parts no_parts = mark.End ∷ []
  marks_of_parts (part marked e parts) = mark.Part marked ∷ (marks_of e ++ marks_of_parts parts)

-- the piece that stands first, and those behind it
abbrev pub first_mark : Expr → Mark
first_mark (field place name) = mark.Field name
first_mark (number place n) = mark.Number n
first_mark (text place t) = mark.Constant t
first_mark (truth place b) = mark.Truth b
first_mark (negation place e) = mark.Not
first_mark (compare place rel a b) = mark.Compare rel
first_mark (minus place e) = mark.Minus
first_mark (chain kind place parts) = mark.Chain kind

abbrev pub later_marks : Expr → List Mark
later_marks (field place name) = []
later_marks (number place n) = []
later_marks (text place t) = []
later_marks (truth place b) = []
later_marks (negation place e) = marks_of e
later_marks (compare place rel a b) = marks_of a ++ marks_of b
later_marks (minus place e) = marks_of e
later_marks (chain kind place parts) = marks_of_parts parts

-- these pieces came to the others, unless memory ran out
abbrev pub Adds : List Mark → Pieces → Pieces → Type 0
Adds marks old new = new.wants ≡ false → (old.wants ≡ false) × (new.marks.items ≡ old.marks.items ++ marks)

abbrev pub plain_written : Written → List Mark
plain_written w = w.marks.items

-- what is kept of an expression of this sort: a truth value is kept as it is written
abbrev pub written_for : Sort → Expr → List Mark
written_for wholes e = []
written_for truths e = marks_of e
written_for texts e = []

abbrev pub written_for_each : List Sort → List Expr → List (List Mark)
written_for_each sorts [] = []
written_for_each [] (e ∷ es) = []
written_for_each (s ∷ sorts) (e ∷ es) = written_for s e ∷ written_for_each sorts es

-- expressions with the same pieces are the same, places aside
abbrev pub WrittenAlike : Type 0
WrittenAlike = (a b : Expr) → marks_of a ≡ marks_of b → bare a ≡ bare b
