-- Trees that those of a file stand for, and their places.
use Rattle.std.specs.Prelude.{◌≡◌, true, List}
use Rattle.std.specs.List.{All}
use Rattle.model_tree.specs.Label.{Label}
use Rattle.model_tree.specs.Tree.{Tree, Trees, LabelTree, relabel}
use Rattle.model_tree.specs.Kept.{is_kept, are_kept}
use Rattle.model_tree.specs.Signature.{PlainSignature, HasType, EachHasType}
use Rattle.model_grammar.specs.TreeFiles.{FileTree, FileTrees}
use Rattle.model_run.specs.Texts.{PlacedTree, StandsFor, StandFor, file_place, AreTreesOf}
use Rattle.fast_tree.specs.Entries.{label_meaning}
use Rattle.fast_tree.specs.declared.label.Label as code
use Rattle.tree_files.specs.declared.PlacedTree as placed

-- the tree of the meaning
abbrev pub meant : Tree code.Label → LabelTree
meant t = relabel label_meaning t

abbrev pub plain_placed : placed.PlacedTree → PlacedTree
plain_placed p = record { place = p.place; tree = meant p.tree }

module _ (signature : PlainSignature) where
  -- the tree that one of a file stands for; it has the type, and its numbers are in range
  pub record IsMade (read : FileTree) (t : LabelTree) : Type 0 where
    pub stands : StandsFor signature read t
    pub typed : HasType signature t
    pub kept : is_kept t ≡ true

  pub record AreMade (read : FileTrees) (ts : Trees Label) : Type 0 where
    pub stand : StandFor signature read ts
    pub typed : EachHasType signature ts
    pub kept : are_kept ts ≡ true

  -- it starts where the tree of the file does
  pub record IsPlacedOf (read : FileTree) (p : PlacedTree) : Type 0 where
    pub place : p.place ≡ file_place read
    pub made : IsMade read p.tree

  pub record IsOfType (p : PlacedTree) : Type 0 where
    pub typed : HasType signature p.tree
    pub kept : is_kept p.tree ≡ true

  abbrev pub AreOfType : List PlacedTree → Type 0
  AreOfType ps = All IsOfType ps

  pub record ArePlacedOf (read : List FileTree) (ps : List PlacedTree) : Type 0 where
    pub are : AreTreesOf signature read ps
    pub typed : AreOfType ps
