-- Values of tree expressions, given the trees that were printed for earlier items.
use Rattle.std.specs.Prelude.{◌≡◌, ℕ, ◌≤◌, List, [], ◌∷◌, Option, Some, None, cond}
use Rattle.model_tree.specs.Label.{Label, row}
use Rattle.model_tree.specs.Tree.{node, Trees, no_trees, tree, LabelTree, node_count}
use Rattle.model_tree.specs.Signature.{PlainSignature, names_of}
use Rattle.model_grammar.specs.declared.Op1.TheVariants.{Complement, Minimize, Domain, GetWitness}
use Rattle.model_grammar.specs.declared.Op2.TheVariants.{Intersect, Union, Difference, PreImage, Compose, Restrict, RestrictOut, Apply}
use Rattle.model_grammar.specs.Syntax.{X, named, one, two, literal, Xs, no_x, and_x, Item}
use Rattle.model_names.specs.Declared.{same_text}
use Rattle.model_meaning.specs.Outputs.{number_named, made_label}
use Rattle.model_meaning.specs.Meaning.{IsRelated, IsTreeOf, input_type}

-- a tree that was printed, under the name of its item
pub record Printed : Type 0 where
  pub name : List ℕ
  pub tree : LabelTree

abbrev pub printed_at : List Printed → List ℕ → Option LabelTree
printed_at [] name = None
printed_at (p ∷ ps) name = cond (same_text p.name name) (Some p.tree) (printed_at ps name)

-- a tree of the language with the least number of nodes
pub record IsLeastOf (items : List Item) (x : X) (t : LabelTree) : Type 0 where
  pub is : IsTreeOf items x t
  pub least : (u : LabelTree) → IsTreeOf items x u → node_count t ≤ node_count u

-- the transformation relates t to u, and to nothing else
pub record IsOnlyOutput (items : List Item) (x : X) (t u : LabelTree) : Type 0 where
  pub is : IsRelated items x t u
  pub only : (w : LabelTree) → IsRelated items x t w → w ≡ u

module _ (items : List Item) (trees : List Printed) where
  abbrev mutual
    -- The tree is a value of the expression, of which a tree of this type is expected. The name of a tree has the tree that
    -- was printed; a literal has the values of its labels and values of its children.
    pub IsValue : PlainSignature → X → LabelTree → Type 0
    IsValue signature (named n) t = printed_at trees n.text ≡ Some t
    IsValue signature (one GetWitness place x) t = IsLeastOf items x t
    IsValue signature (one Complement place x) t = ⊥
    IsValue signature (one Minimize place x) t = ⊥
    IsValue signature (one Domain place x) t = ⊥
    IsValue signature (two Apply place f x) u = (t : LabelTree) × IsValue (input_type items f) x t × IsOnlyOutput items f t u
    IsValue signature (two Intersect place x y) t = ⊥
    IsValue signature (two Union place x y) t = ⊥
    IsValue signature (two Difference place x y) t = ⊥
    IsValue signature (two PreImage place x y) t = ⊥
    IsValue signature (two Compose place x y) t = ⊥
    IsValue signature (two Restrict place x y) t = ⊥
    IsValue signature (two RestrictOut place x y) t = ⊥
    IsValue signature (literal name labels xs) (node c l ts) =
        (number_named (names_of signature) name.text ≡ Some c) × (l ≡ made_label [] signature.fields labels (row [])) × AreValues signature xs ts

    pub AreValues : PlainSignature → Xs → Trees Label → Type 0
    AreValues signature no_x no_trees = Unit {0}
    AreValues signature no_x (tree t ts) = ⊥
    AreValues signature (and_x x xs) no_trees = ⊥
    AreValues signature (and_x x xs) (tree t ts) = IsValue signature x t × AreValues signature xs ts
