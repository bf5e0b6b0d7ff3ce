-- Values of the first of several expressions, and of all once the others have some.
use Rattle.std.proofs.Common.{◌≤◌, ℕ, suc, List, [], ◌∷◌, ◌++◌, Option, Some, None, append-nil, append_assoc, refl, sym, subst, arith}
use Rattle.std.specs.Prelude.{IfSome}
use Rattle.model_tree.specs.Limits.{most_nodes, greatest_depth}
use Rattle.model_tree.specs.Tree.{trees_of, LabelTree}
use Rattle.model_tree.specs.Signature.{PlainSignature}
use Rattle.model_grammar.specs.Syntax.{X, named, one, two, literal, Xs, no_x, and_x, Item}
use Rattle.model_meaning.specs.Values.{Printed, AreValues}
use Rattle.fast_eval.specs.Table.{IsGrown}
use Rattle.fast_eval.specs.declared.built.Built.{Built}
use Rattle.fast_eval.proofs.Keeping.{known_grown, trans_known_grown}
use Rattle.tree_values.specs.declared.trees.Trees as table
use Rattle.tree_values.specs.declared.sizes.Measured.{Measured}
use Rattle.tree_values.specs.declared.sizes.Below.{Below}
use Rattle.tree_values.specs.Forms.{IsTreeKnown, AreTreesKnown}
use Rattle.tree_values.specs.Nodes.{SoFar}
use Rattle.tree_values.specs.Values.{IsHeld, AreHeld, left_of, IsJoined, HasValue, HaveValues}
use Rattle.tree_values.proofs.Owed.{none_owe, more_owe}
use Rattle.tree_values.proofs.Sized.{held_one_more, kept_one_more, typed_one_more}

module _ (items : List Item) (printed : List Printed) (signature : PlainSignature) where
  pub so_far_none : (all : Xs) (room : ℕ) (b : Option Below) → AreHeld room [] b → SoFar items printed signature all all room b
  so_far_none all room b held = record { trees = []; whole = λ us are. are; unowed = λ none. none; typed = tt; kept = refl; held = held }

  pub so_far_more : (x : X) (rest all : Xs) (room : ℕ) (b : Option Below) (v : Option Measured) (c : Option Below) → SoFar items printed signature (and_x x rest) all room b → HasValue items printed signature x (left_of room b) v → IsJoined b v c → SoFar items printed signature rest all room c
  so_far_more x rest all room b v c s value is = record {
    trees = s.trees ++ value.tree ∷ [];
    whole = λ us are. subst (λ ts. AreValues items printed signature all (trees_of ts)) (sym (append_assoc s.trees (value.tree ∷ []) us)) (s.whole (value.tree ∷ us) (value.is, are));
    unowed = λ others. s.unowed (more_owe items printed signature x rest value.unowed others);
    typed = typed_one_more signature s.trees value.tree s.typed value.typed;
    kept = kept_one_more s.trees value.tree s.kept value.kept;
    held = held_one_more room s.trees value.tree b v c s.held value.held is;
  }

  pub so_far_all : (all : Xs) (room : ℕ) (b : Option Below) → SoFar items printed signature no_x all room b → HaveValues items printed signature all room b
  so_far_all all room b s = record {
    trees = s.trees;
    are = subst (λ ts. AreValues items printed signature all (trees_of ts)) (append-nil s.trees) (s.whole [] tt);
    unowed = s.unowed (none_owe items printed signature);
    typed = s.typed;
    kept = s.kept;
    held = s.held;
  }

-- what is held is within bounds
pub below_bounds : (room : ℕ) → room ≤ most_nodes → (ts : List LabelTree) (b : Option Below) → AreHeld room ts b → IfSome b (λ c. (c.nodes ≤ most_nodes) × (c.depth ≤ suc greatest_depth))
below_bounds room low ts None held = tt
below_bounds room low ts (Some b) held = (omega (arith, held.fits, low), held.shallow)

pub below_room : (room : ℕ) (ts : List LabelTree) (b : Option Below) → AreHeld room ts b → IfSome b (λ c. c.nodes ≤ room)
below_room room ts None held = tt
below_room room ts (Some b) held = held.fits

pub left_low : (room most : ℕ) → room ≤ most → (b : Option Below) → left_of room b ≤ most
left_low room most low None = omega arith
left_low room most low (Some b) = omega (arith, low)

pub value_bounds : (room : ℕ) → room ≤ most_nodes → (t : LabelTree) (v : Option Measured) → IsHeld room t v → IfSome v (λ m. (m.nodes ≤ most_nodes) × (m.depth ≤ greatest_depth))
value_bounds room low t None held = tt
value_bounds room low t (Some v) held = (omega (arith, held.fits, low), held.shallow)

-- what is known stays known
module _ (items : List Item) (trees : table.Trees) (old new : Built) (grown : IsGrown old new) where
  mutual
    pub tree_known_grown : (x : X) → IsTreeKnown items trees old x → IsTreeKnown items trees new x
    tree_known_grown (named n) known = known
    tree_known_grown (one op place x) known = known_grown items old new grown x known
    tree_known_grown (two op place f x) known = (trans_known_grown items old new grown f known.0, tree_known_grown x known.1)
    tree_known_grown (literal name labels xs) known = trees_known_grown xs known

    pub trees_known_grown : (xs : Xs) → AreTreesKnown items trees old xs → AreTreesKnown items trees new xs
    trees_known_grown no_x known = tt
    trees_known_grown (and_x x xs) known = (tree_known_grown x known.0, trees_known_grown xs known.1)
