-- Values of tree expressions, as they are evaluated.
use Rattle.std.specs.Prelude.{◌≡◌, ◌≤◌, ◌<◌, ◌+◌, ◌-◌, ℕ, suc, true, max, List, [], ◌∷◌, ◌++◌, Option, Some, None, map}
use Rattle.model_tree.specs.Limits.{greatest_depth, most_classes}
use Rattle.model_tree.specs.Label.{row}
use Rattle.model_tree.specs.Tree.{node, trees_of, LabelTree, node_count, node_count_all, depth, depth_all}
use Rattle.model_tree.specs.Kept.{is_kept, are_kept}
use Rattle.model_tree.specs.Signature.{PlainSignature, HasType, EachHasType, names_of}
use Rattle.model_grammar.specs.Syntax.{Expr, X, Xs, Item}
use Rattle.model_meaning.specs.Meaning.{IsTreeOf, signature_named}
use Rattle.model_meaning.specs.Outputs.{number_named, made_label}
use Rattle.model_meaning.specs.Values.{Printed, IsValue, AreValues, IsLeastOf}
use Rattle.model_run.specs.Causes.{AreAllLarge}
use Rattle.fast_build.specs.Items.{items_of}
use Rattle.fast_eval.specs.Found.{IsInLimits}
use Rattle.fast_eval.specs.Stops.{IsStopOf}
use Rattle.tree_values.specs.declared.stops.ValueStop.{ValueStop}
use Rattle.tree_values.specs.declared.stops.ValueStop.TheVariants.{Stopped, NoTree, TooLarge}
use Rattle.tree_values.specs.declared.sizes.Measured.{Measured}
use Rattle.tree_values.specs.declared.sizes.Below.{Below}
use Rattle.tree_values.specs.declared.values.Given.{Given}
use Rattle.tree_values.specs.Owed.{OwesNothing, OweNothing}
use Rattle.tree_values.specs.Trees.{meant, Tells, AreTypedTrees}

-- the items of the program
abbrev pub items_in : Given → List Item
items_in g = items_of g.checked.now

-- The trees are typed, and some trees that were printed are these.
pub record IsGiven (g : Given) : Type 0 where
  pub typed : AreTypedTrees (items_in g) g.trees.now
  pub printed : List Printed
  pub told : Tells g.trees.now printed
  pub shallow : g.limit ≤ most_classes

-- ---- trees where there is room for so many nodes

-- it is the tree, with its size
pub record IsMeasured (room : ℕ) (t : LabelTree) (v : Measured) : Type 0 where
  pub same : meant v.tree ≡ t
  pub nodes : v.nodes ≡ node_count t
  pub levels : v.depth ≡ depth t
  pub fits : v.nodes ≤ room
  pub shallow : v.depth ≤ greatest_depth

-- that, or nothing, for want of room
abbrev pub IsHeld : ℕ → LabelTree → Option Measured → Type 0
IsHeld room t None = room < node_count t
IsHeld room t (Some v) = IsMeasured room t v

-- the trees below a node, with the size of the tree that they make with it
pub record IsBelow (room : ℕ) (ts : List LabelTree) (b : Below) : Type 0 where
  pub same : map meant b.trees.items ≡ ts
  pub nodes : b.nodes ≡ suc (node_count_all (trees_of ts))
  pub levels : b.depth ≡ suc (depth_all (trees_of ts))
  pub fits : b.nodes ≤ room
  pub shallow : b.depth ≤ suc greatest_depth

abbrev pub AreHeld : ℕ → List LabelTree → Option Below → Type 0
AreHeld room ts None = room < suc (node_count_all (trees_of ts))
AreHeld room ts (Some b) = IsBelow room ts b

-- the room that is left
abbrev pub left_of : ℕ → Option Below → ℕ
left_of room None = 0
left_of room (Some b) = room - b.nodes

-- one more tree below
abbrev pub IsJoined : Option Below → Option Measured → Option Below → Type 0
IsJoined None v c = c ≡ None
IsJoined (Some b) None c = c ≡ None
IsJoined (Some b) (Some v) None = ⊥
IsJoined (Some b) (Some v) (Some c) = (c.trees.items ≡ b.trees.items ++ v.tree ∷ []) × (c.nodes ≡ b.nodes + v.nodes) × (c.depth ≡ max b.depth (suc v.depth))

-- a node above these trees
pub record IsAbove (s : PlainSignature) (name : List ℕ) (labels : List Expr) (b : Below) (v : Measured) : Type 0 where
  pub tree : (c : ℕ) → number_named (names_of s) name ≡ Some c → meant v.tree ≡ node c (made_label [] [] labels (row [])) (trees_of (map meant b.trees.items))
  pub nodes : v.nodes ≡ b.nodes
  pub levels : v.depth ≡ b.depth

-- ---- values

-- a value of the type, which is held where there is room for it; no refusal is owed of the expression
pub record HasValue (items : List Item) (printed : List Printed) (signature : PlainSignature) (x : X) (room : ℕ) (v : Option Measured) : Type 0 where
  pub tree : LabelTree
  pub is : IsValue items printed signature x tree
  pub unowed : OwesNothing items printed signature x
  pub typed : HasType signature tree
  pub kept : is_kept tree ≡ true
  pub held : IsHeld room tree v

-- values of several expressions
pub record HaveValues (items : List Item) (printed : List Printed) (signature : PlainSignature) (xs : Xs) (room : ℕ) (b : Option Below) : Type 0 where
  pub trees : List LabelTree
  pub are : AreValues items printed signature xs (trees_of trees)
  pub unowed : OweNothing items printed signature xs
  pub typed : EachHasType signature (trees_of trees)
  pub kept : are_kept (trees_of trees) ≡ true
  pub held : AreHeld room trees b

-- a least tree of a language, within the limits
pub record HasLeast (items : List Item) (x : X) (room : ℕ) (v : Option Measured) : Type 0 where
  pub tree : LabelTree
  pub is : IsLeastOf items x tree
  pub limits : IsInLimits tree
  pub held : IsHeld room tree v

-- why none is found
abbrev pub IsFindStop : List Item → X → ℕ → ValueStop → Type 0
IsFindStop items x most (Stopped s) = IsStopOf items (x ∷ []) most s
IsFindStop items x most NoTree = (t : LabelTree) → ¬ (IsTreeOf items x t)
IsFindStop items x most TooLarge = AreAllLarge (IsTreeOf items x)
IsFindStop items x most stop = ⊥

-- the type with this name
abbrev pub type_in : Given → List ℕ → PlainSignature
type_in g of = signature_named (items_in g) (Some of)
