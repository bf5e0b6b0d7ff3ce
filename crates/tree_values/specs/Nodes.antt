-- Literals that are evaluated child by child.
use Rattle.std.specs.Prelude.{◌≡◌, ◌≤◌, ◌<◌, ◌⊎◌, ℕ, true, List, [], ◌∷◌, ◌++◌, Option, Some, None, map}
use Rattle.model_tree.specs.Limits.{greatest_depth}
use Rattle.model_tree.specs.Tree.{trees_of, LabelTree}
use Rattle.model_tree.specs.Kept.{are_kept}
use Rattle.model_tree.specs.Signature.{PlainSignature, EachHasType}
use Rattle.model_grammar.specs.Syntax.{X, literal, Xs, no_x, and_x, Item}
use Rattle.model_meaning.specs.Values.{Printed, AreValues}
use Rattle.fast_syntax.specs.Plain.{plain_expr}
use Rattle.fast_syntax.specs.Slices.{plain_children}
use Rattle.fast_syntax.specs.View.{plain_name}
use Rattle.fast_eval.specs.declared.stops.EvalStop.TheVariants.{Memory}
use Rattle.tree_values.specs.declared.nodes.Begun.{Begun}
use Rattle.tree_values.specs.declared.nodes.Begun.TheVariants.{Whole, Part}
use Rattle.tree_values.specs.declared.nodes.OpenNode.{OpenNode}
use Rattle.tree_values.specs.declared.sizes.Below.{Below}
use Rattle.tree_values.specs.declared.sizes.Measured.{Measured}
use Rattle.tree_values.specs.declared.stops.ValueStop.{ValueStop}
use Rattle.tree_values.specs.declared.stops.ValueStop.TheVariants.{Stopped, TooLarge}
use Rattle.tree_values.specs.declared.values.Given.{Given}
use Rattle.tree_values.specs.Owed.{OweNothing}
use Rattle.tree_values.specs.Trees.{Tells}
use Rattle.tree_values.specs.Values.{items_in, type_in, AreHeld, left_of, IsJoined, IsAbove, HasValue}

-- the literal that is open, with these children
abbrev pub literal_of : OpenNode → Xs → X
literal_of n all = literal (plain_name n.name.now) (map plain_expr n.labels.now) all

-- the literal x before its first child, where it may have so many nodes
pub record IsFirst (x : X) (most : ℕ) (n : OpenNode) : Type 0 where
  pub is : literal_of n (plain_children n.rest.now) ≡ x
  pub room : n.room ≡ most
  pub held : AreHeld most [] n.below

-- the same with the value of one more child
pub record HasOneMore (old : OpenNode) (v : Option Measured) (new : OpenNode) : Type 0 where
  pub same : new ≡ record old { below = new.below }
  pub joined : IsJoined old.below v new.below

-- the node above the trees of all children, if there was room for them
abbrev pub IsNode : PlainSignature → OpenNode → Option Below → Option Measured → Type 0
IsNode s n None v = v ≡ None
IsNode s n (Some b) None = ⊥
IsNode s n (Some b) (Some v) = (b.depth ≤ greatest_depth) × IsAbove s n.name.now.text (map plain_expr n.labels.now) b v

abbrev pub IsClosed : PlainSignature → OpenNode → Option Measured → Type 0
IsClosed s n v = IsNode s n n.below v

-- why there is none: the trees are too deep, or memory is wanted
abbrev pub IsUnclosed : Option Below → ValueStop → Type 0
IsUnclosed b (Stopped s) = s ≡ Memory
IsUnclosed b TooLarge = (c : Below) × (b ≡ Some c) × (greatest_depth < c.depth)
IsUnclosed b stop = ⊥

-- ---- which children have values

-- a list of expressions ends with these
abbrev pub IsEndOf : Xs → Xs → Type 0
IsEndOf rest no_x = rest ≡ no_x
IsEndOf rest (and_x x xs) = (rest ≡ and_x x xs) ⊎ IsEndOf rest xs

-- values of those before the rest of all; if no refusal is owed of the rest, none is of all
pub record SoFar (items : List Item) (printed : List Printed) (signature : PlainSignature) (rest all : Xs) (room : ℕ) (b : Option Below) : Type 0 where
  pub trees : List LabelTree
  pub whole : (us : List LabelTree) → AreValues items printed signature rest (trees_of us) → AreValues items printed signature all (trees_of (trees ++ us))
  pub unowed : OweNothing items printed signature rest → OweNothing items printed signature all
  pub typed : EachHasType signature (trees_of trees)
  pub kept : are_kept (trees_of trees) ≡ true
  pub held : AreHeld room trees b

module _ (g : Given) (of : List ℕ) where
  -- all children of an open literal but for the rest have values
  pub record IsOpen (n : OpenNode) (rest all : Xs) : Type 0 where
    pub end : IsEndOf rest all
    pub values : (printed : List Printed) → Tells g.trees.now printed → SoFar (items_in g) printed (type_in g of) rest all n.room n.below

  -- the expression has the value, or it is the literal before its first child
  abbrev pub IsBegun : X → ℕ → Begun → Type 0
  IsBegun x room (Whole v) = (printed : List Printed) → Tells g.trees.now printed → HasValue (items_in g) printed (type_in g of) x room v
  IsBegun x room (Part n) = IsFirst x room n

  module _ (x : X) (room : ℕ) where
    -- Of open literals within one another, the innermost first: each waits for a child, the innermost for y, and the outermost is x.
    abbrev pub AreAround : List OpenNode → X → ℕ → Type 0
    AreAround [] y left = (y ≡ x) × (left ≡ room)
    AreAround (n ∷ ns) y left = (all : Xs) × (left ≡ left_of n.room n.below) × IsOpen n (and_x y (plain_children n.rest.now)) all × AreAround ns (literal_of n all) n.room

    -- an expression within them has the value, or is a literal whose children are evaluated
    abbrev pub IsReached : List OpenNode → Begun → Type 0
    IsReached ns (Whole v) = (y : X) × (left : ℕ) × AreAround ns y left × IsBegun y left (Whole v)
    IsReached ns (Part n) = (all : Xs) × IsOpen n (plain_children n.rest.now) all × AreAround ns (literal_of n all) n.room
