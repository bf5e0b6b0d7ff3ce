-- Labels of whole numbers, and comparisons as what is said of them.
use Rattle.std.specs.Prelude.{◌≡◌, ℕ, ℤ, pos, Bool, List, [], map, length}
use Rattle.model_tree.specs.Label.{Field, whole, truth, text, Label, row, pair}
use Rattle.model_form.specs.Over.{IsOver}
use Rattle.model_chain.specs.Literals.{compare_holds}
use Rattle.lin_solve.specs.declared.compare.Compare.{Compare}
use Rattle.lin_solve.specs.Plain.{plain_compare}
use Rattle.lin_solve.specs.Shown.{AllKept}

abbrev pub wholes_label : List ℤ → Label
wholes_label ns = row (map whole ns)

abbrev pub as_whole : Field → ℤ
as_whole (whole n) = n
as_whole (truth b) = pos 0
as_whole (text t) = pos 0

-- the numbers of a label
abbrev pub wholes_of : Label → List ℤ
wholes_of (row fields) = map as_whole fields
wholes_of (pair l m) = []

-- a label of so many whole numbers
abbrev pub IsWholes : ℕ → Label → Type 0
IsWholes fields l = (ns : List ℤ) × (length ns ≡ fields) × (l ≡ wholes_label ns)

-- one whose numbers all have 64 bits
abbrev pub KeepsWholes : ℕ → Label → Type 0
KeepsWholes fields l = (ns : List ℤ) × (length ns ≡ fields) × AllKept ns × (l ≡ wholes_label ns)

-- whether a comparison holds of a label
abbrev pub compare_at : Compare → Label → Bool
compare_at c l = compare_holds (plain_compare c) (wholes_of l)

-- both sides are over the first so many fields
abbrev pub CompareFits : ℕ → Compare → Type 0
CompareFits fields c = IsOver fields c.left × IsOver fields c.right
