use Rattle.model_sta.proofs.TreeOrder.{tree_total, tree_same, same_tree}
use Rattle.model_sta.proofs.laws_of_order.Goals as goal

pub returns : goal.returns
returns g c = record {
  ordered = tree_total;
  same = λ cmp label total same t u. (tree_same cmp total label same t u, same_tree cmp total label same t u);
}
