-- Copies of trees whose labels have the same values.
use Rattle.std.proofs.Common.{◌≡◌, ℕ, List, map, ap, sym, ◌∙◌}
use Rattle.model_tree.specs.Label as model
use Rattle.model_tree.specs.Tree.{Tree, node, trees_of, relabel}
use Rattle.model_tree.proofs.Trees.{relabel_twice, relabel_all_of_list}
use Rattle.fast_tree.specs.declared.label.Label.{Label}
use Rattle.fast_tree.specs.declared.label.Value.{Value}
use Rattle.fast_tree.specs.Entries.{entries_of, field_of, label_meaning}

meaning_of_values : List Value → model.Label
meaning_of_values values = model.row (map field_of values)

-- trees with the same values mean the same
pub meaning_from_values : (t u : Tree Label) → relabel entries_of u ≡ relabel entries_of t → relabel label_meaning u ≡ relabel label_meaning t
unfolding meaning_of_values
meaning_from_values t u e = sym (relabel_twice meaning_of_values entries_of u) ∙ ap (relabel meaning_of_values) e ∙ relabel_twice meaning_of_values entries_of t

module _ {A B : Type 0} (f : A → B) where
  -- nodes over children that are the same once relabelled
  pub same_nodes : (c : ℕ) (l m : A) (ts us : List (Tree A)) → f l ≡ f m → map (relabel f) ts ≡ map (relabel f) us → relabel f (node c l (trees_of ts)) ≡ relabel f (node c m (trees_of us))
  same_nodes c l m ts us e es = λ i. node c (e i) ((relabel_all_of_list f ts ∙ ap trees_of es ∙ sym (relabel_all_of_list f us)) i)
