-- A text that goes on by pieces.
use Rattle.std.proofs.Common.{◌≡◌, ℕ, ◌+◌, ◌<◌, suc, Bool, List, [], ◌∷◌, ◌++◌, length, get_or, drop, drop-cons, add-one, sym, ap, ◌∙◌, subst, append_assoc, append-nil}
use Rattle.model_program.specs.declared.Word.{Word}
use Rattle.model_program.specs.Cuts.{Piece, texts_of}
use Rattle.model_grammar.specs.declared.Chain.{Chain}
use Rattle.model_grammar.specs.declared.Level.{Level}
use Rattle.fast_fault.specs.declared.place.Pos.{Pos}
use Rattle.model_grammar.specs.declared.Rel.{Rel}
use Rattle.model_grammar.specs.declared.Level.TheVariants.{Sum}
use Rattle.model_grammar.specs.Syntax.{Expr, compare, Parts, no_parts, part}
use Rattle.model_grammar.specs.Operators.{rel_word, chain_word}
use Rattle.model_grammar.specs.Expressions.{operand}
use Rattle.model_grammar.specs.Printed.{blank, token, at_level, expression, operands, further}
use Rattle.model_grammar.proofs.Written.{texts_of-append}
use Rattle.fast_syntax.specs.Adds.{Adds}

-- the first of what is left of a list
pub drop_at : {A : Type 0} (xs : List A) (i : ℕ) (x : A) → i < length xs → x ≡ get_or xs i x → drop i xs ≡ x ∷ drop (i + 1) xs
drop_at xs i x h e = rw add-one (drop-cons xs i x h ∙ ap (λ y. y ∷ drop (suc i) xs) (sym e))

-- pieces and further pieces
pub adds_then : {old middle new : List ℕ} {ps qs : List Piece} → Adds old middle ps → Adds middle new qs → Adds old new (ps ++ qs)
adds_then {old} {middle} {new} {ps} {qs} one two = record { is = two.is ∙ ap (λ l. l ++ texts_of qs) one.is ∙ append_assoc old (texts_of ps) (texts_of qs) ∙ ap (λ l. old ++ l) (sym (texts_of-append ps qs)) }

-- nothing
pub adds_nothing : (old new : List ℕ) → new ≡ old → Adds old new []
adds_nothing old new same = record { is = same ∙ sym (append-nil old) }

-- what is left to write after some more pieces
pub left_more : (now new whole : List ℕ) (ps rest all : List Piece) → Adds now new ps → all ≡ ps ++ rest → now ++ texts_of all ≡ whole → new ++ texts_of rest ≡ whole
left_more now new whole ps rest all one split left =
    ap (λ l. l ++ texts_of rest) one.is ∙ append_assoc now (texts_of ps) (texts_of rest) ∙ ap (λ l. now ++ l) (sym (texts_of-append ps rest)) ∙ ap (λ l. now ++ texts_of l) (sym split) ∙ left

-- nothing is left to write
pub left_none : (old first now : List ℕ) (ps rest none : List Piece) → Adds old first ps → none ≡ [] → now ++ texts_of none ≡ first ++ texts_of rest → Adds old now (ps ++ rest)
left_none old first now ps rest none one empty left =
    adds_then one (record { is = sym (append-nil now) ∙ ap (λ l. now ++ texts_of l) (sym empty) ∙ left })

-- all is written
pub left_all : (old now : List ℕ) (all none : List Piece) → none ≡ [] → now ++ texts_of none ≡ old ++ texts_of all → Adds old now all
left_all old now all none empty left = record { is = sym (append-nil now) ∙ ap (λ l. now ++ texts_of l) (sym empty) ∙ left }

-- an operand behind its sign
pub further_more : (k : Chain) (marked : Bool) (w : Word) (level : Level) (e : Expr) (rest all : Parts) (now new whole : List ℕ) → w ≡ chain_word k marked → level ≡ operand k → all ≡ part marked e rest
    → Adds now new (blank ∷ token w ∷ blank ∷ at_level level e (expression e)) → now ++ texts_of (further k all) ≡ whole → new ++ texts_of (further k rest) ≡ whole
further_more k marked w level e rest all now new whole word_is level_is all_is one left =
    left_more now new whole (blank ∷ token w ∷ blank ∷ at_level level e (expression e)) (further k rest) (further k all) one
    (ap (further k) all_is ∙ (λ i. blank ∷ token (sym word_is i) ∷ blank ∷ (at_level (sym level_is i) e (expression e) ++ further k rest))) left

-- all operands
pub operands_end : (k : Chain) (marked : Bool) (level : Level) (e : Expr) (none later all : Parts) (old first now : List ℕ) → level ≡ operand k → all ≡ part marked e later → none ≡ no_parts
    → Adds old first (at_level level e (expression e)) → now ++ texts_of (further k none) ≡ first ++ texts_of (further k later) → Adds old now (operands k all)
operands_end k marked level e none later all old first now level_is all_is none_is one left =
    subst (λ (ps : List Piece). Adds old now ps) ((λ i. at_level (level_is i) e (expression e) ++ further k later) ∙ sym (ap (operands k) all_is))
    (left_none old first now (at_level level e (expression e)) (further k later) (further k none) one (ap (further k) none_is) left)

-- the same expression
pub adds_as : {old new : List ℕ} {e f : Expr} → e ≡ f → Adds old new (expression f) → Adds old new (expression e)
adds_as {old} {new} same adds = subst (λ (x : Expr). Adds old new (expression x)) (sym same) adds

-- two sides of a comparison
pub adds_compared : (p : Pos) (r : Rel) (w : Word) (a b a2 b2 : Expr) (old middle new : List ℕ) → a2 ≡ a → b2 ≡ b → w ≡ rel_word r → Adds old middle (at_level Sum a2 (expression a2)) → Adds middle new (blank ∷ token w ∷ blank ∷ at_level Sum b2 (expression b2)) → Adds old new (expression (compare p r a b))
adds_compared p r w a b a2 b2 old middle new a_is b_is w_is one two =
    subst (λ (ps : List Piece). Adds old new ps) (λ i. at_level Sum (a_is i) (expression (a_is i)) ++ blank ∷ token (w_is i) ∷ blank ∷ at_level Sum (b_is i) (expression (b_is i))) (adds_then one two)
