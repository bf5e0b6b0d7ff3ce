-- What the term of a rule makes of a tree.
use Rattle.std.specs.Prelude.{◌≡◌, ℕ, suc, List, [], ◌∷◌, Option, Some, None, map, cond}
use Rattle.std.specs.Option.{option_map}
use Rattle.model_tree.specs.Label.{Label, row}
use Rattle.model_tree.specs.Tree.{node, Trees, no_trees, tree, LabelTree}
use Rattle.model_tree.specs.Signature.{PlainField, PlainSignature, names_of}
use Rattle.model_grammar.specs.Syntax.{Expr, Out, child, call, Outs, no_out, and_out}
use Rattle.model_grammar.specs.Syntax as syntax
use Rattle.model_label.specs.Meaning.{value_of}
use Rattle.model_names.specs.Declared.{same_text}
use Rattle.model_meaning.specs.Types.{values_of}

-- the number of the first of these names that is this one
abbrev pub number_named : List (List ℕ) → List ℕ → Option ℕ
number_named [] name = None
number_named (n ∷ names) name = cond (same_text n name) (Some 0) (option_map (λ k. suc k) (number_named names name))

-- The label that expressions make of a label with the first fields, for a tree whose labels have the second ones; these
-- don't matter, since a value is the same for every field of its sort.
abbrev pub made_label : List PlainField → List PlainField → List Expr → Label → Label
made_label fields into labels l = row (map (value_of fields (values_of l)) labels)

-- what a term takes of a child: the child as it is, or an output of a transformation on it
pub data Use : Type 0 where
  unchanged : Use
  output_by : List ℕ → Use

-- The instances of a term at a label, where a rule goes from trees of one type to trees of another, and O tells what may
-- stand for a use of the child that a variable names. Each occurrence of a call is one use, by itself.
module _ (from into : PlainSignature) (O : Use → List ℕ → LabelTree → Type 0) (l : Label) where
  abbrev mutual
    pub IsInstance : Out → LabelTree → Type 0
    IsInstance (child y) u = O unchanged y.text u
    IsInstance (call q y) u = O (output_by q.text) y.text u
    IsInstance (syntax.node name labels outs) (node c m us) =
        (number_named (names_of into) name.text ≡ Some c) × (m ≡ made_label from.fields into.fields labels l) × AreInstances outs us

    pub AreInstances : Outs → Trees Label → Type 0
    AreInstances no_out no_trees = Unit {0}
    AreInstances no_out (tree u us) = ⊥
    AreInstances (and_out out outs) no_trees = ⊥
    AreInstances (and_out out outs) (tree u us) = IsInstance out u × AreInstances outs us
