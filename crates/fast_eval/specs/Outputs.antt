-- What a transformation gives for a tree.
use Rattle.std.specs.Prelude.{◌≡◌, ◌≤◌, ℕ, List, Contains, length}
use Rattle.std.specs.List.{All, sum_by}
use Rattle.std.specs.declared.cmp.Ordering.TheVariants.{Less}
use Rattle.model_tree.specs.Limits.{most_nodes, most_outputs}
use Rattle.model_tree.specs.Tree.{LabelTree, relabel, node_count}
use Rattle.model_tree.specs.Signature.{HasType}
use Rattle.model_sta.specs.EachTwo.{EachTwo}
use Rattle.model_sttr.specs.Cuts.{tree_of}
use Rattle.fast_tree.specs.Entries.{label_meaning}
use Rattle.fast_tree.specs.declared.label.Label.{Label}
use Rattle.fast_cut.specs.Cuts.{plain_cut}
use Rattle.fast_cut.specs.declared.Cut.{Cut}
use Rattle.sttr_apply.specs.Plain.{load_of}
use Rattle.sttr_apply.specs.declared.stop.ApplyStop.{ApplyStop}
use Rattle.sttr_apply.specs.declared.stop.ApplyStop.TheVariants as apply
use Rattle.fast_eval.specs.declared.stops.EvalStop.TheVariants.{Memory}
use Rattle.fast_eval.specs.declared.stops.OutputStop.{OutputStop}
use Rattle.fast_eval.specs.declared.stops.OutputStop.TheVariants as stops
use Rattle.fast_eval.specs.Stops.{StopsExpression}
use Rattle.model_grammar.specs.Syntax.{X, Item}
use Rattle.model_meaning.specs.Meaning.{IsRelated, output_type}
use Rattle.model_run.specs.Causes.{HasFarOutput, HasLoad}
use Rattle.model_run.specs.Order.{label_tree_cmp}
use Rattle.fast_eval.specs.Found.{IsInLimits}

-- the tree that a cut stands for
abbrev pub cut_tree : Cut Label → LabelTree
cut_tree c = relabel label_meaning (tree_of (plain_cut c))

-- Exactly the outputs, each once, in order. They have the output type, and each can be shown if its texts can; together they
-- aren't too much.
pub record AreOutputsOf (items : List Item) (x : X) (t : LabelTree) (us : List LabelTree) : Type 0 where
  pub outputs : (u : LabelTree) → Contains us u → IsRelated items x t u
  pub all : (u : LabelTree) → IsRelated items x t u → Contains us u
  pub in_order : EachTwo (λ u w. label_tree_cmp u w ≡ Less) us
  pub typed : All (HasType (output_type items x)) us
  pub limits : All IsInLimits us
  pub few : length us ≤ most_outputs
  pub small : sum_by node_count us ≤ most_nodes

-- why there is no list of outputs: the evaluation of the expression stops, an output has a far number, or outputs are too much
abbrev pub StopsOutputs : List Item → X → ℕ → LabelTree → OutputStop → Type 0
StopsOutputs items x most t (stops.Stopped s) = StopsExpression items x most s
StopsOutputs items x most t (stops.Range n) = HasFarOutput items n x t
StopsOutputs items x most t (stops.Load load) = HasLoad items (load_of load) x t

abbrev pub by_outputs : ApplyStop → OutputStop
by_outputs (apply.Range n) = stops.Range n
by_outputs (apply.Load load) = stops.Load load
by_outputs apply.Memory = stops.Stopped Memory
