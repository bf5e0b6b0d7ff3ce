-- The limits on texts, programs, trees and what is found of them, each under one name.
use Rattle.std.specs.Prelude.{ℕ}

-- bytes of a program or of a file of trees
abbrev pub most_bytes : ℕ
most_bytes = 1048576

-- nodes of a tree that is found, built or printed, and of all outputs of one call together
abbrev pub most_nodes : ℕ
most_nodes = 1048576

-- how deep such a tree is
abbrev pub greatest_depth : ℕ
greatest_depth = 2000

-- outputs of one call
abbrev pub most_outputs : ℕ
most_outputs = 4096

-- classes of a table, as `--classes` gives them
abbrev pub most_classes : ℕ
most_classes = 2000

-- and where it isn't given
abbrev pub usual_classes : ℕ
usual_classes = 1000

-- open parentheses in expressions and trees
abbrev pub most_open : ℕ
most_open = 2000

-- and in label expressions and output terms
abbrev pub most_open_in_labels : ℕ
most_open_in_labels = 64

-- operations around an operation of an expression
abbrev pub most_around : ℕ
most_around = 64

-- items of a program
abbrev pub most_items : ℕ
most_items = 10000

-- rules of a language or a transformation
abbrev pub most_rules : ℕ
most_rules = 4096

-- fields of a type
abbrev pub most_fields : ℕ
most_fields = 8

-- children of a constructor
abbrev pub most_children : ℕ
most_children = 8

-- bytes of a text in a label
abbrev pub longest_text : ℕ
longest_text = 4096

-- the greatest number that a remainder is taken by
abbrev pub greatest_divisor : ℕ
greatest_divisor = 4096

-- parts of a sum that a form is made of; no text has so many
abbrev pub most_parts : ℕ
most_parts = 1048576
