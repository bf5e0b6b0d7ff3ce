-- What is found of a language that is asked for a tree.
use Rattle.std.specs.Prelude.{List}
use Rattle.model_tree.specs.Tree.{LabelTree, relabel}
use Rattle.fast_tree.specs.Entries.{label_meaning}
use Rattle.fast_tree.specs.declared.label.Label.{Label}
use Rattle.model_grammar.specs.Syntax.{X, Item}
use Rattle.model_meaning.specs.Meaning.{IsTreeOf}
use Rattle.model_meaning.specs.Values.{IsLeastOf}
use Rattle.model_run.specs.Causes.{AreAllLarge}
use Rattle.sta_ops.specs.declared.emptiness.Found.{Found}
use Rattle.sta_ops.specs.declared.emptiness.Found.TheVariants.{Absent, Shown, TooBig}
use Rattle.fast_eval.specs.Found.{IsInLimits}

-- that it has no tree, a least one, or that all its trees are too large
abbrev pub IsWitnessOf : List Item → X → Found Label → Type 0
IsWitnessOf items x Absent = (t : LabelTree) → ¬ (IsTreeOf items x t)
IsWitnessOf items x (Shown t) = IsLeastOf items x (relabel label_meaning t) × IsInLimits (relabel label_meaning t)
IsWitnessOf items x TooBig = AreAllLarge (IsTreeOf items x)
