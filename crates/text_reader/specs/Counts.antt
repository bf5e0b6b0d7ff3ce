-- Counts of the marks that stand above the newest `where`, `to` or item: those below it are never seen again.
use Rattle.std.specs.Prelude.{◌≡◌, ℕ, ◌+◌, min, map, reverse, List, [], ◌∷◌}
use Rattle.model_tree.specs.Limits.{most_open, most_open_in_labels}
use Rattle.model_grammar.specs.Nesting.{Mark, round, square, part, item}
use Rattle.text_reader.specs.declared.nesting.Levels.{Levels}

-- how many `(` are open since the newest `where`, `to` or item
abbrev pub open_in : List Mark → ℕ
open_in [] = 0
open_in (round ∷ marks) = 1 + open_in marks
open_in (square ∷ marks) = open_in marks
open_in (part ∷ marks) = 0
open_in (item ∷ marks) = 0

-- the limit outside of each open `[`
abbrev pub outer_limit : List Mark → ℕ
outer_limit [] = most_open
outer_limit (round ∷ marks) = outer_limit marks
outer_limit (square ∷ marks) = outer_limit marks
outer_limit (part ∷ marks) = most_open_in_labels
outer_limit (item ∷ marks) = most_open

-- for each open `[`, the newest first, how many of these `(` stand before it, and 0 for where none is open
abbrev pub floors : List Mark → List ℕ
floors [] = 0 ∷ []
floors (round ∷ marks) = floors marks
floors (square ∷ marks) = open_in marks ∷ floors marks
floors (part ∷ marks) = 0 ∷ []
floors (item ∷ marks) = 0 ∷ []

-- none is greater than the number
abbrev pub capped : ℕ → List ℕ → List ℕ
capped most ns = map (min most) ns

-- Each number also stands for those behind it, where they are greater.
abbrev pub settled : List ℕ → List ℕ
settled [] = []
settled (n ∷ ns) = n ∷ capped n (settled ns)

-- the code's counts are those of these marks
pub record Counts (levels : Levels) (marks : List Mark) : Type 0 where
  pub limit : levels.limit ≡ outer_limit marks
  pub rounds : levels.rounds ≡ open_in marks
  pub floors_are : settled (levels.floor ∷ reverse levels.hidden.items) ≡ floors marks
