-- How tokens run within the limits of nesting.
use Rattle.std.proofs.Common.{◌≡◌, ℕ, ◌+◌, ◌≤◌, Bool, true, false, nat_lt, List, [], ◌∷◌, ◌++◌, refl, sym, ap, ◌∙◌, subst, arith, Some, None, if◌then◌else◌}
use Rattle.std.proofs.lemmas.Bool.Decides.{nat_tests}
use Rattle.model_program.specs.declared.Word.{Word}
use Rattle.model_program.specs.declared.Word.TheVariants.{RoundOpen, RoundClose, SquareOpen, SquareClose}
use Rattle.model_program.specs.Lexeme.{Lexeme}
use Rattle.model_grammar.specs.Nesting.{Mark, round, square, part, item, passes, marked, level, limit, nested_from}
use Rattle.grammar_laws.specs.Nests.{Runs, NoDeeper}

pub runs-append : (marks middle left : List Mark) (a b : List Lexeme) → Runs marks a middle → Runs middle b left → Runs marks (a ++ b) left
runs-append marks middle left [] b one two = subst (λ (m : List Mark). Runs m b left) (sym one) two
runs-append marks middle left (t ∷ a) b one two = (one.0, runs-append (marked t.word marks) middle left a b one.1 two)

pub runs-split : (marks left : List Mark) (a b : List Lexeme) → Runs marks (a ++ b) left → (middle : List Mark) × Runs marks a middle × Runs middle b left
runs-split marks left [] b all = (marks, refl, all)
runs-split marks left (t ∷ a) b all = let later = runs-split (marked t.word marks) left a b all.1 in (later.0, (all.0, later.1), later.2)

-- tokens within the limits run, and those that run are within them
if_shallow : (b : Bool) (t : Lexeme) (marks : List Mark) (ts : List Lexeme) → passes t.word marks ≡ b → (nested_from (marked t.word marks) ts ≡ None → (left : List Mark) × Runs (marked t.word marks) ts left) → (if b then Some t.place else nested_from (marked t.word marks) ts) ≡ None → (left : List Mark) × Runs marks (t ∷ ts) left
if_shallow true t marks ts same later none = absurd (cc)
if_shallow false t marks ts same later none = let rest = later none in (rest.0, (same, rest.1))

pub shallow_runs : (marks : List Mark) (tokens : List Lexeme) → nested_from marks tokens ≡ None → (left : List Mark) × Runs marks tokens left
shallow_runs marks [] shallow = (marks, refl)
shallow_runs marks (t ∷ ts) shallow = if_shallow (passes t.word marks) t marks ts refl (λ none. shallow_runs (marked t.word marks) ts none) shallow

pub runs_shallow : (marks left : List Mark) (tokens : List Lexeme) → Runs marks tokens left → nested_from marks tokens ≡ None
runs_shallow marks left [] runs = refl
runs_shallow marks left (t ∷ ts) runs = ap (λ b. if b then Some t.place else nested_from (marked t.word marks) ts) runs.0 ∙ runs_shallow (marked t.word marks) left ts runs.1

pub no_deeper-append : {a b c d : List Lexeme} → NoDeeper a b → NoDeeper c d → NoDeeper (a ++ c) (b ++ d)
no_deeper-append {a} {b} {c} {d} one two = record {
  runs = λ marks left all.
      let split = runs-split marks left b d all in
      runs-append marks split.0 left a c (one.runs marks split.0 split.1) (two.runs split.0 left split.2);
}

pub no_deeper_nothing : NoDeeper [] []
no_deeper_nothing = record { runs = λ marks left all. all }

-- a token of the same word
pub same_word : {a b : List Lexeme} (t u : Lexeme) → t.word ≡ u.word → NoDeeper a b → NoDeeper (t ∷ a) (u ∷ b)
same_word {a} {b} t u same one = record {
  runs = λ marks left all. (ap (λ w. passes w marks) same ∙ all.0, one.runs (marked t.word marks) left (subst (λ (w : Word). Runs (marked w marks) b left) (sym same) all.1));
}

-- a word that nesting doesn't see
pub record IsPlain (w : Word) : Type 0 where
  pub passes_not : (marks : List Mark) → passes w marks ≡ false
  pub marks_not : (marks : List Mark) → marked w marks ≡ marks

pub added : {a b : List Lexeme} (t : Lexeme) → IsPlain t.word → NoDeeper a b → NoDeeper (t ∷ a) b
added {a} {b} t plain one = record {
  runs = λ marks left all. (plain.passes_not marks, subst (λ (m : List Mark). Runs m a left) (sym (plain.marks_not marks)) (one.runs marks left all));
}

pub dropped : {a b : List Lexeme} (t : Lexeme) → IsPlain t.word → NoDeeper a b → NoDeeper a (t ∷ b)
dropped {a} {b} t plain one = record {
  runs = λ marks left all. one.runs marks left (subst (λ (m : List Mark). Runs m b left) (plain.marks_not marks) all.1);
}

-- Tokens whose parentheses and brackets are closed within them: they leave the marks as they were, and run too where one parenthesis fewer is open.
pub record IsBalanced (tokens : List Lexeme) : Type 0 where
  pub closes : (marks left : List Mark) → Runs marks tokens left → left ≡ marks
  pub freer : (before marks : List Mark) → Runs (before ++ round ∷ marks) tokens (before ++ round ∷ marks) → Runs (before ++ marks) tokens (before ++ marks)

pub balanced_nothing : IsBalanced []
balanced_nothing = record { closes = λ marks left all. sym all; freer = λ before marks all. refl }

pub balanced-append : (a b : List Lexeme) → IsBalanced a → IsBalanced b → IsBalanced (a ++ b)
balanced-append a b one two = record {
  closes = λ marks left all. let split = runs-split marks left a b all in two.closes split.0 left split.2 ∙ one.closes marks split.0 split.1;
  freer = λ before marks all.
      let whole : List Mark = before ++ round ∷ marks in
      let split = runs-split whole whole a b all in
      let same = one.closes whole split.0 split.1 in
      runs-append (before ++ marks) (before ++ marks) (before ++ marks) a b
      (one.freer before marks (subst (λ (m : List Mark). Runs whole a m) same split.1))
      (two.freer before marks (subst (λ (m : List Mark). Runs m b whole) same split.2));
}

pub balanced_word : (t : Lexeme) → IsPlain t.word → IsBalanced (t ∷ [])
balanced_word t plain = record {
  closes = λ marks left all. sym all.1 ∙ plain.marks_not marks;
  freer = λ before marks all. (plain.passes_not (before ++ marks), plain.marks_not (before ++ marks));
}

limit_freer : (before marks : List Mark) → limit (before ++ marks) ≡ limit (before ++ round ∷ marks)
limit_freer [] marks = refl
limit_freer (round ∷ before) marks = limit_freer before marks
limit_freer (square ∷ before) marks = refl
limit_freer (part ∷ before) marks = refl
limit_freer (item ∷ before) marks = refl

level_freer : (before marks : List Mark) → level (before ++ marks) ≤ level (before ++ round ∷ marks)
level_freer [] marks = omega arith
level_freer (round ∷ before) marks = let later = level_freer before marks in omega arith
level_freer (square ∷ before) marks = omega arith
level_freer (part ∷ before) marks = omega arith
level_freer (item ∷ before) marks = omega arith

fewer_pass : (a b c d : ℕ) → a ≡ b → c ≤ d → nat_lt b (1 + d) ≡ false → nat_lt a (1 + c) ≡ false
fewer_pass a b c d same less test = grind (arith, nat_tests)

open_freer : (before marks : List Mark) → passes RoundOpen (before ++ round ∷ marks) ≡ false → passes RoundOpen (before ++ marks) ≡ false
open_freer before marks fine = fewer_pass (limit (before ++ marks)) (limit (before ++ round ∷ marks)) (level (before ++ marks)) (level (before ++ round ∷ marks)) (limit_freer before marks) (level_freer before marks) fine

-- what runs between parentheses
inside_round : (marks left : List Mark) (l r : Lexeme) (inside : List Lexeme) → l.word ≡ RoundOpen → r.word ≡ RoundClose → IsBalanced inside → Runs marks (l ∷ inside ++ r ∷ []) left
    → (passes RoundOpen marks ≡ false) × Runs (round ∷ marks) inside (round ∷ marks) × (left ≡ marks)
inside_round marks left l r inside opens closes balanced all =
    let split = runs-split (marked l.word marks) left inside (r ∷ []) all.1 in
    let first : Runs (round ∷ marks) inside split.0 = subst (λ (w : Word). Runs (marked w marks) inside split.0) opens split.1 in
    let same = balanced.closes (round ∷ marks) split.0 first in
    let last : marked r.word split.0 ≡ marks = (λ i. marked (closes i) (same i)) in
    (ap (λ w. passes w marks) (sym opens) ∙ all.0, subst (λ (m : List Mark). Runs (round ∷ marks) inside m) same first, sym split.2.1 ∙ last)

pub balanced_round : (l r : Lexeme) (inside : List Lexeme) → l.word ≡ RoundOpen → r.word ≡ RoundClose → IsBalanced inside → IsBalanced (l ∷ inside ++ r ∷ [])
balanced_round l r inside opens closes balanced = record {
  closes = λ marks left all. (inside_round marks left l r inside opens closes balanced all).2;
  freer = λ before marks all.
      let part = inside_round (before ++ round ∷ marks) (before ++ round ∷ marks) l r inside opens closes balanced all in
      let freed = balanced.freer (round ∷ before) marks part.1 in (
        ap (λ w. passes w (before ++ marks)) opens ∙ open_freer before marks part.0,
        subst (λ (w : Word). Runs (marked w (before ++ marks)) (inside ++ r ∷ []) (before ++ marks)) (sym opens)
            (runs-append (round ∷ (before ++ marks)) (round ∷ (before ++ marks)) (before ++ marks) inside (r ∷ []) freed (ap (λ w. passes w (round ∷ (before ++ marks))) closes, ap (λ w. marked w (round ∷ (before ++ marks))) closes)),
      );
}

pub balanced_square : (l r : Lexeme) (inside : List Lexeme) → l.word ≡ SquareOpen → r.word ≡ SquareClose → IsBalanced inside → IsBalanced (l ∷ inside ++ r ∷ [])
balanced_square l r inside opens closes balanced = record {
  closes = λ marks left all. (within marks left all).1;
  freer = λ before marks all.
      let part = within (before ++ round ∷ marks) (before ++ round ∷ marks) all in
      let freed = balanced.freer (square ∷ before) marks part.0 in (
        ap (λ w. passes w (before ++ marks)) opens,
        subst (λ (w : Word). Runs (marked w (before ++ marks)) (inside ++ r ∷ []) (before ++ marks)) (sym opens)
            (runs-append (square ∷ (before ++ marks)) (square ∷ (before ++ marks)) (before ++ marks) inside (r ∷ []) freed (ap (λ w. passes w (square ∷ (before ++ marks))) closes, ap (λ w. marked w (square ∷ (before ++ marks))) closes)),
      );
}
  where
    within : (marks left : List Mark) → Runs marks (l ∷ inside ++ r ∷ []) left → Runs (square ∷ marks) inside (square ∷ marks) × (left ≡ marks)
    within marks left all =
        let split = runs-split (marked l.word marks) left inside (r ∷ []) all.1 in
        let first : Runs (square ∷ marks) inside split.0 = subst (λ (w : Word). Runs (marked w marks) inside split.0) opens split.1 in
        let same = balanced.closes (square ∷ marks) split.0 first in
        let last : marked r.word split.0 ≡ marks = (λ i. marked (closes i) (same i)) in
        (subst (λ (m : List Mark). Runs (square ∷ marks) inside m) same first, sym split.2.1 ∙ last)

-- parentheses that are left out
pub parens_dropped : {ps inside : List Lexeme} (l r : Lexeme) → l.word ≡ RoundOpen → r.word ≡ RoundClose → IsBalanced inside → NoDeeper ps inside → NoDeeper ps (l ∷ inside ++ r ∷ [])
parens_dropped {ps} {inside} l r opens closes balanced one = record {
  runs = λ marks left all.
      let part = inside_round marks left l r inside opens closes balanced all in
      subst (λ (m : List Mark). Runs marks ps m) (sym part.2) (one.runs marks marks (balanced.freer [] marks part.1));
}
