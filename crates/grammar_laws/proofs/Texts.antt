-- Small texts are spelled.
use Rattle.std.proofs.Common.{◌≡◌, ℕ, ◌<◌, List, [], ◌∷◌, ◌++◌, refl, arith, inl, inr}
use Rattle.std.specs.Prelude.{codes, pos, negsuc, true}
use Rattle.std.specs.Char.{digit_value}
use Rattle.model_program.specs.declared.Word.TheVariants as word
use Rattle.model_program.specs.Lexeme.{Lexeme}
use Rattle.model_program.specs.Grammar.{IsDigits}
use Rattle.model_grammar.specs.declared.Chain.TheVariants as kind
use Rattle.model_grammar.specs.declared.Level.TheVariants.{Prim, Prod, Sum, Unary}
use Rattle.model_grammar.specs.Syntax.{Expr, field, number, truth}
use Rattle.model_grammar.specs.Expressions.{chain_of, IsExpr, IsE, field_name, constant_number, negative_number, sum, no_more, one_more}
use Rattle.model_grammar.specs.Terms.{AreLabels, IsLater, Row}
use Rattle.model_grammar.specs.TreeFiles.{no_trees, a_negative, a_true, AreConstants, a_tree, IsTreeFile}
use Rattle.model_grammar.specs.TreeFiles as files
use Rattle.model_grammar.proofs.Levels.{primary, loosest}
use Rattle.model_grammar.specs.Examples.{column}
use Rattle.grammar_laws.specs.Small.{at, sum_tokens, sum_labels, two_tokens, two_labels, file_tokens, file_trees}

digits : (c : ℕ) → digit_value c < 10 → IsDigits (c ∷ [])
digits c small = ((omega arith, (small, tt)), omega arith)

abbrev x : Lexeme
x = at 2 word.Id (codes "x")

x_is : IsE (field (column 2) (codes "x")) (x ∷ [])
x_is = loosest Prim _ _ (field_name x refl)

abbrev minus : Lexeme
minus = at 4 word.Minus (codes "-")

abbrev five : Lexeme
five = at 6 word.Number (codes "5")

five_is : IsExpr Prim (number (column 6) (pos 5)) (five ∷ [])
five_is = constant_number five refl (digits 53 (omega arith))

difference : IsExpr Sum (chain_of kind.Sum (field (column 2) (codes "x")) ((minus, number (column 6) (pos 5)) ∷ [])) (x ∷ minus ∷ five ∷ [])
difference = sum (field (column 2) (codes "x")) ((minus, number (column 6) (pos 5)) ∷ []) (x ∷ []) (minus ∷ five ∷ []) (primary Prod _ _ (field_name x refl)) (one_more kind.Sum minus (number (column 6) (pos 5)) [] (five ∷ []) [] (inr refl) (primary Prod _ _ five_is) (no_more kind.Sum))

-- what stands in brackets
in_brackets : (labels : List Expr) (l r : Lexeme) (inside : List Lexeme) → l.word ≡ word.SquareOpen → r.word ≡ word.SquareClose → Row IsE labels inside → AreLabels labels (l ∷ inside ++ r ∷ [])
in_brackets labels l r inside opens closes row = record {
  front = l ∷ [];
  back = inside ++ r ∷ [];
  split = refl;
  at_front = (l, (refl, opens));
  at_back = record { front = inside; back = r ∷ []; split = refl; at_front = row; at_back = (r, (refl, closes)) };
}

pub one_label : AreLabels sum_labels sum_tokens
one_label = in_brackets sum_labels (at 1 word.SquareOpen (codes "[")) (at 7 word.SquareClose (codes "]")) (x ∷ minus ∷ five ∷ []) refl refl
    (record { front = x ∷ minus ∷ five ∷ []; back = []; split = refl; at_front = loosest Sum _ _ difference; at_back = refl })

abbrev comma : Lexeme
comma = at 3 word.Comma (codes ",")

abbrev sign : Lexeme
sign = at 5 word.Minus (codes "-")

later_is : IsLater IsE (number (column 5) (negsuc 4)) (comma ∷ sign ∷ five ∷ [])
later_is = inl (record { front = comma ∷ []; back = sign ∷ five ∷ []; split = refl; at_front = (comma, (refl, refl)); at_back = loosest Unary _ _ (negative_number sign five refl refl (digits 53 (omega arith))) })

pub both_labels : AreLabels two_labels two_tokens
both_labels = in_brackets two_labels (at 1 word.SquareOpen (codes "[")) (at 7 word.SquareClose (codes "]")) (x ∷ comma ∷ sign ∷ five ∷ []) refl refl
    (record { front = x ∷ []; back = comma ∷ sign ∷ five ∷ []; split = refl; at_front = x_is; at_back = record { front = comma ∷ sign ∷ five ∷ []; back = []; split = refl; at_front = later_is; at_back = refl } })

abbrev seven_sign : Lexeme
seven_sign = at 7 word.Minus (codes "-")

abbrev seven : Lexeme
seven = at 8 word.Number (codes "7")

abbrev file_comma : Lexeme
file_comma = at 9 word.Comma (codes ",")

abbrev yes_token : Lexeme
yes_token = at 11 word.True (codes "true")

abbrev open_row : Lexeme
open_row = at 6 word.SquareOpen (codes "[")

abbrev close_row : Lexeme
close_row = at 15 word.SquareClose (codes "]")

abbrev nil : Lexeme
nil = at 2 word.Id (codes "nil")

constants : AreConstants (number (column 7) (negsuc 6) ∷ truth (column 11) true ∷ []) (open_row ∷ seven_sign ∷ seven ∷ file_comma ∷ yes_token ∷ close_row ∷ [])
constants = record {
  front = open_row ∷ [];
  back = seven_sign ∷ seven ∷ file_comma ∷ yes_token ∷ close_row ∷ [];
  split = refl;
  at_front = (open_row, (refl, refl));
  at_back = record {
    front = seven_sign ∷ seven ∷ file_comma ∷ yes_token ∷ [];
    back = close_row ∷ [];
    split = refl;
    at_front = record {
      front = seven_sign ∷ seven ∷ [];
      back = file_comma ∷ yes_token ∷ [];
      split = refl;
      at_front = a_negative seven_sign seven refl refl (digits 55 (omega arith));
      at_back = record {
        front = file_comma ∷ yes_token ∷ [];
        back = [];
        split = refl;
        at_front = inl (record { front = file_comma ∷ []; back = yes_token ∷ []; split = refl; at_front = (file_comma, (refl, refl)); at_back = a_true yes_token refl });
        at_back = refl;
      };
    };
    at_back = (close_row, (refl, refl));
  };
}

pub file_is : IsTreeFile file_trees file_tokens
file_is = files.one_more _ no_trees file_tokens []
    (a_tree (at 1 word.RoundOpen (codes "(")) (at 16 word.RoundClose (codes ")")) (record { text = codes "nil"; place = column 2 }) (number (column 7) (negsuc 6) ∷ truth (column 11) true ∷ []) no_trees (nil ∷ []) (open_row ∷ seven_sign ∷ seven ∷ file_comma ∷ yes_token ∷ close_row ∷ []) []
    refl refl (nil, (refl, refl), refl) constants files.no_more)
    files.no_more
