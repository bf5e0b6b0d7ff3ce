-- The operator that comes next.
use Rattle.std.proofs.Common.{◌≡◌, false, true, List, [], ◌∷◌, refl, sym, ap, ◌∙◌, subst, inr, arith}
use Rattle.fast_fault.specs.declared.place.Pos.{Pos}
use Rattle.model_program.specs.declared.Word.{Word}
use Rattle.model_program.specs.declared.Word.TheVariants as word
use Rattle.model_program.specs.Lexeme.{Lexeme}
use Rattle.model_program.specs.Joined.{IsOther}
use Rattle.model_grammar.specs.declared.Chain.{Chain}
use Rattle.model_grammar.specs.declared.Chain.TheVariants.{Sum}
use Rattle.model_grammar.specs.declared.Rel.{Rel}
use Rattle.model_grammar.specs.Operators.{is_marking}
use Rattle.label_reader.specs.Levels.{IsNoRel, NoRel}
use Rattle.label_reader.specs.declared.operators.Operator.{Operator}
use Rattle.label_reader.specs.declared.operators.Operator.TheVariants.{Minus, Many, Percent, Compare, Other}
use Rattle.label_reader.specs.Found.{IsOperator, IsFound, IsFoundNext}
use Rattle.label_reader.proofs.Exits.{other_next}
use Rattle.label_reader.proofs.NoOperators.{not_rel, many_no_rel}

-- it is known what was found
pub told_found : (tokens behind : List Lexeme) (o : Operator) {p : Operator} → o ≡ p → IsFoundNext tokens behind o → IsFoundNext tokens behind p
told_found tokens behind o is opens = subst (λ (q : Operator). IsFoundNext tokens behind q) is opens

pub found_other : (t : Lexeme) {tokens behind : List Lexeme} → tokens ≡ t ∷ behind → IsFound t.word t.place Other → IsFoundNext tokens behind Other
found_other t {tokens} {behind} here is = subst (λ (l : List Lexeme). IsFoundNext l behind Other) (sym here) is

pub found_none : {tokens : List Lexeme} (behind : List Lexeme) → tokens ≡ [] → IsFoundNext tokens behind Other
found_none behind none = subst (λ (l : List Lexeme). IsFoundNext l behind Other) (sym none) (tt, tt, tt, tt)

-- an operator that marks nothing isn't `-`
pub not_minus : {kind : Chain} {place : Pos} (t : Lexeme) {tokens rest : List Lexeme} → tokens ≡ t ∷ rest → IsOperator kind false place t.word t.place → IsOther word.Minus tokens
not_minus t here op = other_next word.Minus t here (λ is. let f : false ≡ true = op.marks ∙ ap is_marking is in cc)

pub minus_operator : {w : Word} {place at : Pos} → (w ≡ word.Minus) × (place ≡ at) → IsOperator Sum true place w at
minus_operator is = record { many = inr is.0; marks = sym (ap is_marking is.0); is_at = is.1 }

-- no comparison was found
no_rel_next : (t : Lexeme) {tokens behind : List Lexeme} → tokens ≡ t ∷ behind → IsNoRel t.word → NoRel tokens
no_rel_next t here none = subst (λ (l : List Lexeme). NoRel l) (sym here) none

pub not_compared : (tokens behind : List Lexeme) (o : Operator) → ((place : Pos) (rel : Rel) → o ≡ Compare place rel → ⊥) → IsFoundNext tokens behind o → NoRel tokens
not_compared tokens behind (Minus place) other found = no_rel_next found.token found.here (not_rel word.Minus found.is.0 (λ e. omega (arith, e)))
not_compared tokens behind (Many place kind) other found = no_rel_next found.token found.here (many_no_rel kind found.is.many)
not_compared tokens behind (Percent place) other found = no_rel_next found.token found.here (not_rel word.Percent found.is.0 (λ e. omega (arith, e)))
not_compared tokens behind (Compare place rel) other found = absurd (other place rel refl)
not_compared tokens behind Other other found = found.3

-- no `-` was found
pub not_subtracted : (tokens behind : List Lexeme) (o : Operator) → ((place : Pos) → o ≡ Minus place → ⊥) → IsFoundNext tokens behind o → IsOther word.Minus tokens
not_subtracted tokens behind (Minus place) other found = absurd (other place refl)
not_subtracted tokens behind (Many place kind) other found = not_minus found.token found.here found.is
not_subtracted tokens behind (Percent place) other found = other_next word.Minus found.token found.here (λ is. let f : word.Percent ≡ word.Minus = sym found.is.0 ∙ is in cc)
not_subtracted tokens behind (Compare place rel) other found = other_next word.Minus found.token found.here (λ is. not_rel word.Minus is (λ e. omega (arith, e)) rel found.is.0)
not_subtracted tokens behind Other other found = found.0
