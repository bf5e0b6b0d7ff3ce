-- The operands of an operator that stands before them, gathered while they are read.
use Rattle.std.proofs.Common.{◌≡◌, Bool, false, List, [], ◌∷◌, ◌++◌, refl, sym, ap, ◌∙◌, subst, Option}
use Rattle.model_program.specs.declared.Word.TheVariants.{RoundClose}
use Rattle.model_program.specs.Lexeme.{Lexeme}
use Rattle.model_program.specs.Joined.{IsNext, IsOther}
use Rattle.read_forms.specs.Reads.{IsRead, Fails, closed}
use Rattle.model_program.specs.Grammar.{IsSign}
use Rattle.read_forms.proofs.Lists.{IsPartWay}
use Rattle.model_grammar.specs.declared.Chain.{Chain}
use Rattle.model_grammar.specs.declared.Level.TheVariants.{Prim}
use Rattle.model_grammar.specs.Operators.{IsMany, is_marking}
use Rattle.model_grammar.specs.Syntax.{Expr, chain}
use Rattle.model_grammar.specs.Expressions.{IsExpr}
use Rattle.label_reader.specs.Operands.{mark_in, parts_from}
use Rattle.label_reader.specs.Inside.{IsBehindFirst}
use Rattle.label_reader.specs.Lists.{closing_of}
use Rattle.label_reader.proofs.Closings.{closing_more, closing_more_fails, closing_read}
use Rattle.label_reader.proofs.Gathered.{marks_of, signed, prefix_is, two_gathered, more_gathered}
use Rattle.label_reader.proofs.Insides.{prims_closable, prefix_of, further_starts}

pub record IsFurther (k : Chain) (op : Lexeme) (first : Expr) (tokens rest : List Lexeme) (parts : List (Bool × Expr)) : Type 0 where
  pub second : Expr
  pub others : List Expr
  pub gathered : parts ≡ (false, first) ∷ marks_of (signed op (second ∷ others))
  pub part_way : IsPartWay (IsBehindFirst k op first) (closing_of (IsExpr Prim) RoundClose) closed (λ v. prefix_of k op first ((second ∷ others) ++ v.0)) tokens rest

pub further_begins : (k : Chain) (op : Lexeme) (first second : Expr) (tokens rest : List Lexeme) (none one two : List (Bool × Expr)) (mark : Bool) (own same : Chain) → IsMany k op.word → IsRead (IsExpr Prim) closed tokens second rest → none ≡ [] → one ≡ none ++ (mark_in own false, first) ∷ [] → mark ≡ is_marking op.word → same ≡ k → two ≡ one ++ (mark_in same mark, second) ∷ []
    → IsFurther k op first tokens rest two
further_begins k op first second tokens rest none one two mark own same many read is_none is_one is_mark is_same is_two = record {
  second = second;
  others = [];
  gathered = two_gathered k op first second none one two mark own same many is_none is_one is_mark is_same is_two;
  part_way = further_starts k op first second tokens rest read;
}

pub further_goes_on : (k : Chain) (op : Lexeme) (first x : Expr) (tokens rest after : List Lexeme) (parts new : List (Bool × Expr)) (mark : Bool) (own : Chain) → IsMany k op.word → IsFurther k op first tokens rest parts → IsOther RoundClose rest → IsRead (IsExpr Prim) closed rest x after → mark ≡ is_marking op.word → own ≡ k → new ≡ parts ++ (mark_in own mark, x) ∷ []
    → IsFurther k op first tokens after new
further_goes_on k op first x tokens rest after parts new mark own many so_far other read is_mark is_own is_new = record {
  second = so_far.second;
  others = so_far.others ++ x ∷ [];
  gathered = more_gathered k op first x (so_far.second ∷ so_far.others) parts new mark own many so_far.gathered is_mark is_own is_new;
  part_way = closing_more (IsExpr Prim) RoundClose (prefix_of k op first) (so_far.second ∷ so_far.others) ((so_far.second ∷ so_far.others) ++ x ∷ []) prims_closable so_far.part_way other read refl;
}

pub further_next_fails : (k : Chain) (op : Lexeme) (first : Expr) (tokens rest : List Lexeme) (parts : List (Bool × Expr)) (bad : Option (List Lexeme)) → IsFurther k op first tokens rest parts → IsOther RoundClose rest → Fails (IsExpr Prim) closed rest bad → Fails (IsBehindFirst k op first) closed tokens bad
further_next_fails k op first tokens rest parts bad so_far other fails = closing_more_fails (IsExpr Prim) RoundClose bad prims_closable so_far.part_way other fails

pub further_ends : (k : Chain) (op : Lexeme) (first : Expr) (tokens rest after : List Lexeme) (parts : List (Bool × Expr)) (e : Expr) → IsFurther k op first tokens rest parts → IsNext RoundClose rest → IsRead (IsSign RoundClose) closed rest tt after → e ≡ chain k op.place (parts_from parts) → IsRead (IsBehindFirst k op first) closed tokens e after
further_ends k op first tokens rest after parts e so_far is_next end is =
    subst (λ (x : Expr). IsRead (IsBehindFirst k op first) closed tokens x after)
    (prefix_is k op first so_far.second so_far.others ∙ ap (λ l. chain k op.place (parts_from l)) (sym so_far.gathered) ∙ sym is)
    (closing_read (IsExpr Prim) RoundClose (prefix_of k op first) (so_far.second ∷ so_far.others) prims_closable so_far.part_way is_next end)
