-- What is found of a statement.
use Rattle.fast_fault.specs.declared.place.Pos.{Pos}
use Rattle.model_grammar.specs.declared.Op2.TheVariants.{Intersect, Difference}
use Rattle.std.specs.Prelude.{◌≡◌, ◌≤◌, true, List}
use Rattle.model_tree.specs.Limits.{most_nodes, greatest_depth}
use Rattle.model_tree.specs.Tree.{LabelTree, relabel, node_count, depth}
use Rattle.model_tree.specs.Kept.{is_kept}
use Rattle.fast_tree.specs.Entries.{label_meaning}
use Rattle.fast_tree.specs.declared.label.Label.{Label}
use Rattle.model_grammar.specs.Syntax.{X, two, Claim, equal, empty, Item}
use Rattle.model_meaning.specs.Truth.{IsTrue, Shows}
use Rattle.model_run.specs.Causes.{AreAllLarge}
use Rattle.sta_ops.specs.declared.emptiness.Wanted.{Wanted}
use Rattle.sta_ops.specs.declared.emptiness.Wanted.TheVariants.{One, First, Both}
use Rattle.sta_ops.specs.declared.emptiness.Found.{Found}
use Rattle.sta_ops.specs.declared.emptiness.Found.TheVariants.{Absent, Shown, TooBig}

-- what a line may show, if its texts can be shown
pub record IsInLimits (t : LabelTree) : Type 0 where
  pub kept : is_kept t ≡ true
  pub small : node_count t ≤ most_nodes
  pub shallow : depth t ≤ greatest_depth

-- that the statement is true, a tree that shows that it is false, or that all such trees are too large
abbrev pub IsFoundOf : List Item → Claim → Found Label → Type 0
IsFoundOf items claim Absent = IsTrue items claim
IsFoundOf items claim (Shown t) = Shows items claim (relabel label_meaning t) × IsInLimits (relabel label_meaning t)
IsFoundOf items claim TooBig = AreAllLarge (Shows items claim)

-- the statement of two languages that is true exactly where no tree is wanted of them
abbrev pub wanted_claim : Wanted → Pos → X → X → Claim
wanted_claim One place x y = equal x y
wanted_claim First place x y = empty (two Difference place x y)
wanted_claim Both place x y = empty (two Intersect place x y)
