-- Terms that a text goes on by.
use Rattle.std.proofs.Common.{length, ◌==◌, false, ◌≡◌, ℕ, List, [], ◌∷◌, ◌++◌, map, refl, sym, ap, ◌∙◌, subst}
use Rattle.fast_fault.specs.declared.place.Pos.{Pos}
use Rattle.model_program.specs.declared.Word.{Word}
use Rattle.model_program.specs.declared.Word.TheVariants.{Comma, Bar, Given}
use Rattle.model_program.specs.Cuts.{Piece}
use Rattle.model_grammar.specs.declared.Op1.{Op1}
use Rattle.model_grammar.specs.declared.Op2.{Op2}
use Rattle.model_grammar.specs.Operators.{op1_word, op2_word}
use Rattle.model_grammar.specs.Syntax.{X, one, two, Out, Claim}
use Rattle.model_grammar.specs.Printed.{blank, token, bracketed, with_commas, behind_commas, behind_blanks, with_bars, behind_bars, term, output, name, demand, demands, field_of, rules_of, in_braces, claim}
use Rattle.fast_syntax.specs.declared.Name.{Name}
use Rattle.fast_syntax.specs.declared.Demand.{Demand}
use Rattle.fast_syntax.specs.declared.FieldItem.{FieldItem}
use Rattle.fast_syntax.specs.View.{plain_name, plain_demand, plain_field}
use Rattle.fast_syntax.specs.Adds.{Adds}

-- what is printed of a list is so of its items
pub behind_commas_of : {A B : Type 0} (printed : B → List Piece) (f : A → B) (xs : List A) → behind_commas printed (map f xs) ≡ behind_commas (λ x. printed (f x)) xs
behind_commas_of printed f [] = refl
behind_commas_of printed f (x ∷ xs) = ap (λ l. token Comma ∷ blank ∷ (printed (f x) ++ l)) (behind_commas_of printed f xs)

pub with_commas_of : {A B : Type 0} (printed : B → List Piece) (f : A → B) (xs : List A) → with_commas printed (map f xs) ≡ with_commas (λ x. printed (f x)) xs
with_commas_of printed f [] = refl
with_commas_of printed f (x ∷ xs) = ap (λ l. printed (f x) ++ l) (behind_commas_of printed f xs)

pub behind_blanks_of : {A B : Type 0} (printed : B → List Piece) (f : A → B) (xs : List A) → behind_blanks printed (map f xs) ≡ behind_blanks (λ x. printed (f x)) xs
behind_blanks_of printed f [] = refl
behind_blanks_of printed f (x ∷ xs) = ap (λ l. blank ∷ (printed (f x) ++ l)) (behind_blanks_of printed f xs)

pub behind_bars_of : {A B : Type 0} (printed : B → List Piece) (f : A → B) (xs : List A) → behind_bars printed (map f xs) ≡ behind_bars (λ x. printed (f x)) xs
behind_bars_of printed f [] = refl
behind_bars_of printed f (x ∷ xs) = ap (λ l. blank ∷ token Bar ∷ blank ∷ (printed (f x) ++ l)) (behind_bars_of printed f xs)

pub with_bars_of : {A B : Type 0} (printed : B → List Piece) (f : A → B) (xs : List A) → with_bars printed (map f xs) ≡ with_bars (λ x. printed (f x)) xs
with_bars_of printed f [] = refl
with_bars_of printed f (x ∷ xs) = ap (λ l. printed (f x) ++ l) (behind_bars_of printed f xs)

-- the same term
pub adds_term : {old new : List ℕ} {x y : X} → x ≡ y → Adds old new (term y) → Adds old new (term x)
adds_term {old} {new} same adds = subst (λ (z : X). Adds old new (term z)) (sym same) adds

pub adds_output : {old new : List ℕ} {x y : Out} → x ≡ y → Adds old new (output y) → Adds old new (output x)
adds_output {old} {new} same adds = subst (λ (z : Out). Adds old new (output z)) (sym same) adds

pub adds_one : (op : Op1) (p : Pos) (w : Word) (x y : X) (old new : List ℕ) → w ≡ op1_word op → y ≡ x → Adds old new (bracketed (token w ∷ blank ∷ term y)) → Adds old new (term (one op p x))
adds_one op p w x y old new word_is x_is adds = subst (λ (ps : List Piece). Adds old new ps) (λ i. bracketed (token (word_is i) ∷ blank ∷ term (x_is i))) adds

pub adds_two : (op : Op2) (p : Pos) (w : Word) (x y x2 y2 : X) (old new : List ℕ) → w ≡ op2_word op → x2 ≡ x → y2 ≡ y → Adds old new (bracketed (token w ∷ blank ∷ (term x2 ++ blank ∷ term y2))) → Adds old new (term (two op p x y))
adds_two op p w x y x2 y2 old new word_is x_is y_is adds = subst (λ (ps : List Piece). Adds old new ps) (λ i. bracketed (token (word_is i) ∷ blank ∷ (term (x_is i) ++ blank ∷ term (y_is i)))) adds

-- demands behind their keyword
pub adds_demands : (given : List Demand) (old new : List ℕ) → (length given == 0) ≡ false → Adds old new (blank ∷ token Given ∷ behind_blanks (λ d. demand (plain_demand d)) given) → Adds old new (demands (map plain_demand given))
adds_demands [] old new some adds = absurd (cc)
adds_demands (d ∷ given) old new some adds = subst (λ (ps : List Piece). Adds old new (blank ∷ token Given ∷ ps)) (sym (behind_blanks_of demand plain_demand (d ∷ given))) adds

-- names with commas
pub adds_names : (slice vars : List Name) (old new : List ℕ) → slice ≡ vars → Adds old new (with_commas (λ n. name (plain_name n)) slice) → Adds old new (with_commas name (map plain_name vars))
adds_names slice vars old new same adds = subst (λ (ps : List Piece). Adds old new ps) (ap (with_commas (λ n. name (plain_name n))) same ∙ sym (with_commas_of name plain_name vars)) adds

-- fields with commas
pub adds_fields : (slice fields : List FieldItem) (old new : List ℕ) → slice ≡ fields → Adds old new (with_commas (λ f. field_of (plain_field f)) slice) → Adds old new (with_commas field_of (map plain_field fields))
adds_fields slice fields old new same adds = subst (λ (ps : List Piece). Adds old new ps) (ap (with_commas (λ f. field_of (plain_field f))) same ∙ sym (with_commas_of field_of plain_field fields)) adds

-- rules in braces
pub adds_rules : {A B : Type 0} (printed : B → List Piece) (f : A → B) (slice rules : List A) (old new : List ℕ) → slice ≡ rules → Adds old new (rules_of (λ r. printed (f r)) slice) → Adds old new (rules_of printed (map f rules))
adds_rules printed f slice rules old new same adds = subst (λ (ps : List Piece). Adds old new (in_braces ps)) (ap (with_bars (λ r. printed (f r))) same ∙ sym (with_bars_of printed f rules)) adds

-- the same statement
pub adds_claim : {old new : List ℕ} {c d : Claim} → c ≡ d → Adds old new (claim d) → Adds old new (claim c)
adds_claim {old} {new} same adds = subst (λ (e : Claim). Adds old new (claim e)) (sym same) adds
