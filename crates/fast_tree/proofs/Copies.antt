-- Facts on copies of trees.
use Rattle.std.proofs.Common.{◌≡◌, List, map, ap, sym, ◌∙◌}
use Rattle.model_tree.specs.Label as model
use Rattle.model_tree.specs.Tree.{Tree, relabel}
use Rattle.model_tree.proofs.Trees.{relabel_twice}
use Rattle.fast_tree.specs.declared.label.Label.{Label}
use Rattle.fast_tree.specs.declared.label.Value.{Value}
use Rattle.fast_tree.specs.Entries.{entries_of, field_of, label_meaning}

meaning_of_values : List Value → model.Label
meaning_of_values values = model.row (map field_of values)

-- trees with the same values mean the same
pub meaning_from_values : (t u : Tree Label) → relabel entries_of u ≡ relabel entries_of t → relabel label_meaning u ≡ relabel label_meaning t
unfolding meaning_of_values
meaning_from_values t u e = sym (relabel_twice meaning_of_values entries_of u) ∙ ap (relabel meaning_of_values) e ∙ relabel_twice meaning_of_values entries_of t
