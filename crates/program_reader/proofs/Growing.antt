-- Of what expressions are made, node by node.
use Rattle.std.proofs.Common.{◌≡◌, ◌≤◌, ◌<◌, List, [], ◌∷◌, ◌++◌, ◌∙◌, ◌+◌, length, reverse, refl, ap, sym, subst, arith, Option, Result, Ok, Err}
use Rattle.std.proofs.lemmas.List.{length-append, reverse-append}
use Rattle.std.specs.Prelude.{IsErrAnd, IfOk}
use Rattle.std.proofs.lemmas.Result.{err_from_is_err_and}
use Rattle.label_reader.specs.declared.stop.Stop.{Stop}
use Rattle.label_reader.specs.Results.{bad_of}
use Rattle.model_program.specs.declared.Word.TheVariants.{Id, RoundOpen, RoundClose}
use Rattle.model_program.specs.Lexeme.{Lexeme}
use Rattle.model_program.specs.Syntax as syntax
use Rattle.model_program.specs.Joined.{◌⊗◌, IsNext, IsOther}
use Rattle.model_program.specs.Grammar.{IsSign}
use Rattle.read_forms.specs.Reads.{IsRead, Fails, closed}
use Rattle.read_forms.specs.Fronts.{Leaves, Done, Made, Through}
use Rattle.read_forms.specs.Parts.{HasSample}
use Rattle.read_forms.proofs.Forms.{as_read, as_fails, ends_closed}
use Rattle.read_forms.proofs.Words.{sample_sign}
use Rattle.read_forms.proofs.Fronts.{left_leaves, left_as, left_made, first_left, before_none, Around, around_begins, around_begins_fails, around_resumes, around_resumes_fails, around_ends, made_through, made_makes, none_left}
use Rattle.model_grammar.specs.declared.Op1.{Op1}
use Rattle.model_grammar.specs.declared.Op2.{Op2}
use Rattle.model_grammar.specs.Operators.{op1_word, op2_word}
use Rattle.model_grammar.specs.Syntax.{Expr, X, one, two, literal, xs_of}
use Rattle.model_grammar.specs.Terms.{AreLabels, IsX}
use Rattle.model_program.specs.Grammar.{IsName}
use Rattle.label_reader.proofs.Closings.{row_ends, row_goes_on}
use Rattle.program_reader.specs.declared.operations.Front.{Front}
use Rattle.program_reader.specs.declared.operations.Front.TheVariants as front
use Rattle.program_reader.specs.Operations.{NoOp1, NoOp2, IsFrontOf, IsFront}
use Rattle.fast_fault.specs.declared.place.Pos.{Pos}
use Rattle.label_reader.proofs.Exits.{stepped}
use Rattle.program_reader.specs.Nodes.{IsXInside}
use Rattle.program_reader.specs.Growing.{Closes, IsRow, IsGrown, IsLeft, Begins}
use Rattle.program_reader.specs.declared.terms.Begun.{Begun}
use Rattle.program_reader.specs.declared.terms.Begun.TheVariants.{Whole, Part}
use Rattle.fast_syntax.specs.declared.items.X as code
use Rattle.fast_syntax.specs.Plain.{plain_x}
use Rattle.program_reader.specs.declared.terms.Open.{Open}
use Rattle.program_reader.specs.declared.terms.Open.TheVariants.{One, First, Second, Inner}
use Rattle.program_reader.proofs.XForms.{open_makes, one_makes, two_makes, literal_makes, op1_read, op2_read, xs_closable, sample_x, sample_xs}

-- an operation on one operand begins
pub one_begins : (tokens rest : List Lexeme) (t : Lexeme) (op : Op1) → tokens ≡ t ∷ rest → t.word ≡ op1_word op → Leaves IsXInside (Through IsX (λ x. Closes (one op t.place x))) closed tokens rest
one_begins tokens rest t op here is = left_leaves (left_made (one_makes tokens rest t op here is)) (left_leaves (first_left (ends_closed (IsX ⊗ IsSign RoundClose) closed) (op1_read tokens rest t op here is)) (made_through (λ v. one op t.place v.0) IsX (IsSign RoundClose)))

-- an operation on two operands
pub two_begins : (tokens rest : List Lexeme) (t : Lexeme) (op : Op2) → tokens ≡ t ∷ rest → t.word ≡ op2_word op → Leaves IsXInside (Through IsX (λ x. Made (λ v. two op t.place x v.0) (IsX ⊗ IsSign RoundClose))) closed tokens rest
two_begins tokens rest t op here is = left_leaves (left_made (two_makes tokens rest t op here is)) (left_leaves (first_left (ends_closed (IsX ⊗ (IsX ⊗ IsSign RoundClose)) closed) (op2_read tokens rest t op here is)) (made_through (λ v. two op t.place v.0 v.1.0) IsX (IsX ⊗ IsSign RoundClose)))

-- behind its first operand
pub two_goes_on : (op : Op2) (place : _) (x : X) (tokens : List Lexeme) → Leaves (Made (λ v. two op place x v.0) (IsX ⊗ IsSign RoundClose)) (Through IsX (λ y. Closes (two op place x y))) closed tokens tokens
two_goes_on op place x tokens = made_through (λ v. two op place x v.0) IsX (IsSign RoundClose)

-- the name and the labels of a tree
pub literal_begins : {tokens middle rest : List Lexeme} {n : syntax.Name} {labels : List Expr} → NoOp1 tokens → NoOp2 tokens → IsRead IsName closed tokens n middle → IsRead AreLabels closed middle labels rest → Leaves IsXInside (IsRow n labels []) closed tokens rest
literal_begins {tokens} no_one no_two named labelled = left_leaves (left_made (literal_makes tokens no_one no_two)) (left_leaves (first_left (ends_closed _ closed) named) (first_left (ends_closed _ closed) labelled))

-- what comes next
pub front_at : (f : Front) (t : Lexeme) {tokens behind : List Lexeme} → tokens ≡ t ∷ behind → IsFrontOf t.word t.place f → IsFront tokens behind f
front_at (front.One op place) t here is = record { token = t; here = here; is = is }
front_at (front.Two op place) t here is = record { token = t; here = here; is = is }
front_at front.Tree t {tokens} {behind} here is = subst (λ (l : List Lexeme). IsFront l behind front.Tree) (sym here) is

pub front_ended : {tokens : List Lexeme} (behind : List Lexeme) → tokens ≡ [] → IsFront tokens behind front.Tree
front_ended behind none = subst (λ (l : List Lexeme). IsFront l behind front.Tree) (sym none) (tt, tt)

-- it is known what was found
pub told_front : (tokens behind : List Lexeme) (f : Front) {g : Front} → f ≡ g → IsFront tokens behind f → IsFront tokens behind g
told_front tokens behind f is found = subst (λ (h : Front). IsFront tokens behind h) is found

pub one_found : {tokens behind rest : List Lexeme} {op : Op1} {place : Pos} → IsFront tokens behind (front.One op place) → rest ≡ behind → Leaves IsXInside (Through IsX (λ x. Closes (one op place x))) closed tokens rest
one_found {tokens} {behind} {rest} {op} {place} found is =
    let e = stepped found.token (found.here, found.is.0) is in
    subst (λ (p : Pos). Leaves IsXInside (Through IsX (λ x. Closes (one op p x))) closed tokens rest) (sym found.is.1) (one_begins tokens rest found.token op e.0 e.1)

pub two_found : {tokens behind rest : List Lexeme} {op : Op2} {place : Pos} → IsFront tokens behind (front.Two op place) → rest ≡ behind → Leaves IsXInside (Through IsX (λ x. Made (λ v. two op place x v.0) (IsX ⊗ IsSign RoundClose))) closed tokens rest
two_found {tokens} {behind} {rest} {op} {place} found is =
    let e = stepped found.token (found.here, found.is.0) is in
    subst (λ (p : Pos). Leaves IsXInside (Through IsX (λ x. Made (λ v. two op p x v.0) (IsX ⊗ IsSign RoundClose))) closed tokens rest) (sym found.is.1) (two_begins tokens rest found.token op e.0 e.1)

-- the closing parenthesis of a tree
pub row_closes : (n : syntax.Name) (labels : List Expr) (xs : List X) {tokens rest : List Lexeme} → IsNext RoundClose tokens → IsRead (IsSign RoundClose) closed tokens tt rest → Leaves (IsRow n labels xs) (Done (literal n labels (xs_of xs))) closed tokens rest
row_closes n labels xs is_next end = row_ends IsX RoundClose (λ l. literal n labels (xs_of l)) xs xs_closable is_next end

-- one more child
pub row_further : (n : syntax.Name) (labels : List Expr) (xs : List X) {tokens : List Lexeme} → IsOther RoundClose tokens → Leaves (IsRow n labels xs) (Through IsX (λ x. IsRow n labels (xs ++ x ∷ []))) closed tokens tokens
row_further n labels xs is_other = row_goes_on IsX RoundClose (λ l. literal n labels (xs_of l)) xs is_other

pub closes : {x : X} {tokens rest : List Lexeme} → IsRead (IsSign RoundClose) closed tokens tt rest → Leaves (Closes x) (Done x) closed tokens rest
closes {x} end = none_left (as_read (made_makes (λ _. x) (IsSign RoundClose)) end)

pub closes_fails : {x : X} {tokens : List Lexeme} (bad : Option (List Lexeme)) → Fails (IsSign RoundClose) closed tokens bad → Fails (Closes x) closed tokens bad
closes_fails {x} bad fails = as_fails bad (made_makes (λ _. x) (IsSign RoundClose)) fails

-- what is left of each node can be spelled
pub sample_grown : (node : Open) (x : X) → HasSample (IsGrown node x)
sample_grown (One op place) x = let s = sample_sign RoundClose in record { value = one op place x; tokens = s.tokens; spelled = record { of = tt; spelled = s.spelled; is = refl } }
sample_grown (First op place) x = let y = sample_x in let s = sample_sign RoundClose in
    record { value = two op place x y.value; tokens = y.tokens ++ s.tokens; spelled = record { of = (y.value, tt); spelled = record { front = y.tokens; back = s.tokens; split = refl; at_front = y.spelled; at_back = s.spelled }; is = refl } }
sample_grown (Second op place first) x = let s = sample_sign RoundClose in record { value = _; tokens = s.tokens; spelled = record { of = tt; spelled = s.spelled; is = refl } }
sample_grown (Inner name labels xs) x = let s = sample_xs in record { value = _; tokens = s.tokens; spelled = record { of = s.value; spelled = s.spelled; is = refl } }

-- behind an opening parenthesis
pub opened_begins : {tokens rest : List Lexeme} → IsOther Id tokens → IsRead (IsSign RoundOpen) closed tokens tt rest → Leaves IsX IsXInside closed tokens rest
opened_begins {tokens} is_other end = left_leaves (left_made (open_makes tokens is_other)) (left_leaves (first_left (ends_closed IsXInside closed) end) (left_as (λ a ts s. record { of = a; spelled = s; is = refl }) (λ a ts made. subst (λ x. IsXInside x ts) (sym made.is) made.spelled)))

-- what a reader returned at the exit of a `?`
pub begins_exit : {form : X → List Lexeme → Type 0} (tokens rest : List Lexeme) (e : Stop) (r : Result Begun Stop) → IsErrAnd r (λ y. y ≡ e) → Fails form closed tokens (bad_of e rest) → Begins form tokens rest r
begins_exit tokens rest e r is fails = let p = err_from_is_err_and r is in rw (p.1, p.2) fails

-- what a reader returned that goes on behind the first part of a form
pub begins_behind : {p q : X → List Lexeme → Type 0} (tokens middle rest : List Lexeme) (r : Result Begun Stop) → Leaves q p closed tokens middle → ((bad : Option (List Lexeme)) → Fails p closed middle bad → Fails q closed tokens bad) → Begins p middle rest r → Begins q tokens rest r
begins_behind tokens middle rest (Ok begun) leaves failed more = left_leaves leaves more
begins_behind tokens middle rest (Err e) leaves failed fails = failed _ fails

-- of a node that is known nothing but its closing parenthesis is left
pub one_closes : {node : Open} {op : Op1} {place : Pos} {x b : X} (fact : (X → List Lexeme → Type 0) → Type 0) → node ≡ One op place → one op place x ≡ b → fact (Closes b) → fact (IsGrown node x)
one_closes {x = x} fact is_node same known = subst (λ (n : Open). fact (IsGrown n x)) (sym is_node) (subst (λ (y : X). fact (Closes y)) (sym same) known)

pub two_closes : {node : Open} {op : Op2} {place : Pos} {first : code.X} {x b : X} (fact : (X → List Lexeme → Type 0) → Type 0) → node ≡ Second op place first → two op place (plain_x first) x ≡ b → fact (Closes b) → fact (IsGrown node x)
two_closes {x = x} fact is_node same known = subst (λ (n : Open). fact (IsGrown n x)) (sym is_node) (subst (λ (y : X). fact (Closes y)) (sym same) known)

-- and of any other, what is left of it
pub grown_as : {node given : Open} (x : X) {left : X → List Lexeme → Type 0} {tokens rest : List Lexeme} → node ≡ given → Leaves (IsGrown given x) left closed tokens rest → Leaves (IsGrown node x) left closed tokens rest
grown_as x {left} {tokens} {rest} is_node leaves = subst (λ (n : Open). Leaves (IsGrown n x) left closed tokens rest) (sym is_node) leaves

pub row_as : {n : syntax.Name} {labels : List Expr} {xs ys : List X} {left : X → List Lexeme → Type 0} {tokens rest : List Lexeme} → xs ≡ ys → Leaves (IsRow n labels xs) left closed tokens rest → Leaves (IsRow n labels ys) left closed tokens rest
row_as {n} {labels} {left = left} {tokens} {rest} same leaves = subst (λ (l : List X). Leaves (IsRow n labels l) left closed tokens rest) same leaves

pub done_as : {form : X → List Lexeme → Type 0} {tokens rest : List Lexeme} {a b : X} → a ≡ b → Leaves form (Done a) closed tokens rest → Leaves form (Done b) closed tokens rest
done_as {form} {tokens} {rest} same leaves = subst (λ (x : X). Leaves form (Done x) closed tokens rest) same leaves

-- what is left is not longer
pub leaves_fewer : {form left : X → List Lexeme → Type 0} (tokens rest : List Lexeme) → Leaves form left closed tokens rest → length rest ≤ length tokens
leaves_fewer tokens rest leaves = omega (arith, simp length-append at (ap length leaves.split))

pub begins_shorter : (form : X → List Lexeme → Type 0) (tokens middle rest : List Lexeme) (r : Result Begun Stop) → length middle < length tokens → Begins form middle rest r → IfOk r (λ _. length rest < length tokens)
begins_shorter form tokens middle rest (Ok begun) less more = let a = leaves_fewer middle rest more in omega (arith, a)
begins_shorter form tokens middle rest (Err e) less fails = tt

-- The open nodes, as they stand in the list, the innermost last.

turned : (old new : List Open) (node : Open) → new ≡ old ++ node ∷ [] → reverse new ≡ node ∷ reverse old
turned old new node is_new = ap reverse is_new ∙ reverse-append old (node ∷ [])

pub one_fewer : (old new : List Open) (node : Open) → old ≡ new ++ node ∷ [] → length old ≡ length new + 1
one_fewer old new node is_old = simp length-append at (ap length is_old)

-- none is open
pub nodes_start : {form left : X → List Lexeme → Type 0} {tokens rest : List Lexeme} (nodes : List Open) → nodes ≡ [] → Leaves form left closed tokens rest → Leaves form (Through left (Around IsGrown (reverse nodes))) closed tokens rest
nodes_start {form} {left} {tokens} {rest} nodes none leaves = subst (λ (l : List Open). Leaves form (Through left (Around IsGrown (reverse l))) closed tokens rest) (sym none) (left_leaves leaves (before_none left))

part_known : {form : X → List Lexeme → Type 0} {tokens rest : List Lexeme} {here : Begun} {node : Open} (nodes : List Open) → here ≡ Part node → Leaves form (Through (IsLeft here) (Around IsGrown nodes)) closed tokens rest → Leaves form (Through (Through IsX (IsGrown node)) (Around IsGrown nodes)) closed tokens rest
part_known {form} {tokens} {rest} nodes is_part so_far = subst (λ (h : Begun). Leaves form (Through (IsLeft h) (Around IsGrown nodes)) closed tokens rest) is_part so_far

-- one more is opened, and of its next child a front is read
pub nodes_deeper : {form less : X → List Lexeme → Type 0} {tokens rest behind : List Lexeme} {here : Begun} (node : Open) (old new : List Open) → here ≡ Part node → new ≡ old ++ node ∷ [] → Leaves form (Through (IsLeft here) (Around IsGrown (reverse old))) closed tokens rest → Leaves IsX less closed rest behind
    → Leaves form (Through less (Around IsGrown (reverse new))) closed tokens behind
nodes_deeper {form} {less} {tokens} {behind = behind} node old new is_part is_new so_far front = subst (λ (l : List Open). Leaves form (Through less (Around IsGrown l)) closed tokens behind) (sym (turned old new node is_new)) (around_begins IsGrown node (reverse old) (part_known (reverse old) is_part so_far) front)

pub nodes_deeper_fails : {form : X → List Lexeme → Type 0} {tokens rest : List Lexeme} {here : Begun} (bad : Option (List Lexeme)) (node : Open) (old : List Open) → here ≡ Part node → Leaves form (Through (IsLeft here) (Around IsGrown (reverse old))) closed tokens rest → Fails IsX closed rest bad → Fails form closed tokens bad
nodes_deeper_fails bad node old is_part so_far fails = around_begins_fails IsGrown bad sample_grown node (reverse old) (part_known (reverse old) is_part so_far) fails

whole_known : {form : X → List Lexeme → Type 0} {tokens rest : List Lexeme} {here : Begun} {x : code.X} (old nodes : List Open) → here ≡ Whole x → reverse old ≡ nodes → Leaves form (Through (IsLeft here) (Around IsGrown (reverse old))) closed tokens rest → Leaves form (Through (Done (plain_x x)) (Around IsGrown nodes)) closed tokens rest
whole_known {form} {tokens} {rest} {x = x} old nodes is_whole same so_far = subst (λ (l : List Open). Leaves form (Through (Done (plain_x x)) (Around IsGrown l)) closed tokens rest) same (subst (λ (h : Begun). Leaves form (Through (IsLeft h) (Around IsGrown (reverse old))) closed tokens rest) is_whole so_far)

-- behind the child of the innermost a further front of it is read
pub nodes_higher : {form less : X → List Lexeme → Type 0} {tokens rest behind : List Lexeme} {here : Begun} (x : code.X) (node : Open) (old new : List Open) → here ≡ Whole x → old ≡ new ++ node ∷ [] → Leaves form (Through (IsLeft here) (Around IsGrown (reverse old))) closed tokens rest → Leaves (IsGrown node (plain_x x)) less closed rest behind
    → Leaves form (Through less (Around IsGrown (reverse new))) closed tokens behind
nodes_higher x node old new is_whole is_old so_far front = around_resumes IsGrown (plain_x x) node (reverse new) (whole_known old (node ∷ reverse new) is_whole (turned new old node is_old) so_far) front

pub nodes_higher_fails : {form : X → List Lexeme → Type 0} {tokens rest : List Lexeme} {here : Begun} (bad : Option (List Lexeme)) (x : code.X) (node : Open) (old new : List Open) → here ≡ Whole x → old ≡ new ++ node ∷ [] → Leaves form (Through (IsLeft here) (Around IsGrown (reverse old))) closed tokens rest → Fails (IsGrown node (plain_x x)) closed rest bad → Fails form closed tokens bad
nodes_higher_fails bad x node old new is_whole is_old so_far fails = around_resumes_fails IsGrown bad sample_grown (plain_x x) node (reverse new) (whole_known old (node ∷ reverse new) is_whole (turned new old node is_old) so_far) fails

-- all are closed
pub nodes_end : {form : X → List Lexeme → Type 0} {tokens rest : List Lexeme} {here : Begun} (x : code.X) (old : List Open) → here ≡ Whole x → length old ≡ 0 → Leaves form (Through (IsLeft here) (Around IsGrown (reverse old))) closed tokens rest → IsRead form closed tokens (plain_x x) rest
nodes_end x old is_whole none so_far = around_ends IsGrown (plain_x x) (whole_known old [] is_whole (ap reverse (empty old none)) so_far)
  where
    empty : (l : List Open) → length l ≡ 0 → l ≡ []
    empty [] e = refl
    empty (f ∷ fs) e = absurd (omega arith)
