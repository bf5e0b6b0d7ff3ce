-- The printed text of a tree, as the list of its characters.
use Rattle.std.specs.Prelude.{ℕ, Bool, true, false, ◌||◌, ◌==◌, nat_lt, if◌then◌else◌, List, [], ◌∷◌, ◌++◌, map, get_or, codes}
use Rattle.std.specs.List.{flat_map}
use Rattle.std.specs.Fmt.{digits, signed_decimal}
use Rattle.model_tree.specs.Label.{Field, whole, truth, text, Label, row, pair}
use Rattle.model_tree.specs.Tree.{node, Trees, no_trees, tree, LabelTree}

-- the pieces with the separator between each two
abbrev pub joined : List ℕ → List (List ℕ) → List ℕ
joined separator [] = []
joined separator (piece ∷ pieces) = piece ++ flat_map (λ later. separator ++ later) pieces

-- a character by its number in hexadecimal digits, as few as there can be
abbrev pub numbered : ℕ → List ℕ
numbered c = codes "\\u{" ++ (digits 16 false c ++ codes "}")

-- a character within quotes: a quote and a backslash have a backslash before them, a line feed is `\n` and a tab `\t`, other characters below U+0020 and U+007F stand by their number, and all others for themselves
abbrev pub escaped : ℕ → List ℕ
escaped c =
    if (c == 34) || (c == 92)
    then 92 ∷ c ∷ []
    else (if c == 10
    then codes "\\n"
    else (if c == 9
    then codes "\\t"
    else (if nat_lt c 32 || (c == 127)
    then numbered c
    else c ∷ [])))

abbrev pub printed_text : List ℕ → List ℕ
printed_text t = 34 ∷ (flat_map escaped t ++ 34 ∷ [])

abbrev pub printed_truth : Bool → List ℕ
printed_truth true = codes "true"
printed_truth false = codes "false"

abbrev pub printed_field : Field → List ℕ
printed_field (whole n) = signed_decimal n
printed_field (truth b) = printed_truth b
printed_field (text t) = printed_text t

-- a pair has the fields of its two parts
abbrev pub fields_of : Label → List Field
fields_of (row fields) = fields
fields_of (pair l m) = fields_of l ++ fields_of m

abbrev pub printed_label : Label → List ℕ
printed_label l = joined (codes ", ") (map printed_field (fields_of l))

module _ (names : List (List ℕ)) where
  abbrev mutual
    -- `(`, the constructor, ` [`, the fields, `]`, for each child a space and the child, `)`
    pub printed_tree : LabelTree → List ℕ
    printed_tree (node c l ts) = codes "(" ++ (get_or names c [] ++ (codes " [" ++ (printed_label l ++ (codes "]" ++ (printed_children ts ++ codes ")")))))

    pub printed_children : Trees Label → List ℕ
    printed_children no_trees = []
    printed_children (tree t ts) = codes " " ++ (printed_tree t ++ printed_children ts)
