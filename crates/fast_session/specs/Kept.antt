-- What is kept of the items that are done.
use Rattle.std.specs.Prelude.{◌≡◌, ◌≤◌, true, List}
use Rattle.model_tree.specs.Limits.{most_classes}
use Rattle.model_grammar.specs.Syntax.{Item}
use Rattle.model_checks.specs.Sound.{StandsIn}
use Rattle.model_run.specs.Outcomes.{Outcome, trees_in}
use Rattle.fast_build.specs.Items.{items_of}
use Rattle.fast_eval.specs.Defined.{AreDefined}
use Rattle.fast_eval.specs.Table.{AreBuilt}
use Rattle.tree_values.specs.Trees.{Tells, AreTypedTrees, ArePrinted}
use Rattle.fast_session.specs.declared.items.Around.{Around}
use Rattle.fast_session.specs.declared.items.Kept.{Kept}

-- the items of the program
abbrev pub items_in : Around → List Item
items_in a = items_of a.checked.now

-- what was built is right, and trees have their types; each name of an item that is done has what it stands for
pub record IsKept (items done : List Item) (k : Kept) : Type 0 where
  pub built : AreBuilt items k.built
  pub typed : AreTypedTrees items k.trees
  pub defined : AreDefined k.built done
  pub printed : ArePrinted k.trees done

-- the item stands in the program, and those before it are done with some outcomes
pub record IsReady (a : Around) (item : Item) (k : Kept) : Type 0 where
  pub at : StandsIn (items_in a) item
  pub kept : IsKept (items_in a) at.before k
  pub outcomes : List Outcome
  pub told : Tells k.trees (trees_in outcomes)
  pub shallow : a.limit ≤ most_classes
