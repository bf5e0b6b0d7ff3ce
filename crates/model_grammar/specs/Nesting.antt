-- How deep parentheses are nested, counted on tokens alone.
use Rattle.std.specs.Prelude.{ℕ, ◌+◌, Bool, false, nat_lt, if◌then◌else◌, List, [], ◌∷◌, Option, Some, None}
use Rattle.model_tree.specs.Limits.{most_open, most_open_in_labels}
use Rattle.fast_fault.specs.declared.place.Pos.{Pos}
use Rattle.model_program.specs.declared.Word.{Word}
use Rattle.model_program.specs.declared.Word.TheVariants.{TypeWord, Tree, Lang, Trans, Def, Where, To, AssertTrue, AssertFalse, RoundOpen, RoundClose, SquareOpen, SquareClose}
use Rattle.model_program.specs.Lexeme.{Lexeme}

-- What levels are counted from, or counted: an open `(`, an open `[`, a `where` or `to`, and the first token of an item.
pub data Mark : Type 0 where
  round : Mark
  square : Mark
  part : Mark
  item : Mark

-- without the last open `(`, whatever was marked since
abbrev pub close_round : List Mark → List Mark
close_round [] = []
close_round (round ∷ marks) = marks
close_round (square ∷ marks) = square ∷ close_round marks
close_round (part ∷ marks) = part ∷ close_round marks
close_round (item ∷ marks) = item ∷ close_round marks

-- without the last open `[`, whatever was marked since
abbrev pub close_square : List Mark → List Mark
close_square [] = []
close_square (square ∷ marks) = marks
close_square (round ∷ marks) = round ∷ close_square marks
close_square (part ∷ marks) = part ∷ close_square marks
close_square (item ∷ marks) = item ∷ close_square marks

-- the marks behind a token, the newest first
abbrev pub marked : Word → List Mark → List Mark
marked RoundOpen marks = round ∷ marks
marked SquareOpen marks = square ∷ marks
marked RoundClose marks = close_round marks
marked SquareClose marks = close_square marks
marked Where marks = part ∷ marks
marked To marks = part ∷ marks
marked TypeWord marks = item ∷ marks
marked Tree marks = item ∷ marks
marked Lang marks = item ∷ marks
marked Trans marks = item ∷ marks
marked Def marks = item ∷ marks
marked AssertTrue marks = item ∷ marks
marked AssertFalse marks = item ∷ marks
marked _ marks = marks

-- how many `(` are open since the newest other mark
abbrev pub level : List Mark → ℕ
level (round ∷ marks) = 1 + level marks
level _ = 0

-- that of labels since `[`, `where` or `to`, and that of expressions since an item's or the text's start
abbrev pub limit : List Mark → ℕ
limit [] = most_open
limit (round ∷ marks) = limit marks
limit (square ∷ marks) = most_open_in_labels
limit (part ∷ marks) = most_open_in_labels
limit (item ∷ marks) = most_open

abbrev pub passes : Word → List Mark → Bool
passes RoundOpen marks = nat_lt (limit marks) (level (round ∷ marks))
passes _ marks = false

-- the place of the first `(` that passes its limit, behind these marks
abbrev pub nested_from : List Mark → List Lexeme → Option Pos
nested_from marks [] = None
nested_from marks (t ∷ ts) = if passes t.word marks then Some t.place else nested_from (marked t.word marks) ts

-- the place of the first `(` that passes its limit
abbrev pub nested_at : List Lexeme → Option Pos
nested_at tokens = nested_from [] tokens
