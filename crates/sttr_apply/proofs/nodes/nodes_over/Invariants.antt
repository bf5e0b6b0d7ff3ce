use Rattle.std.proofs.Common.{◌≡◌, ◌+◌, ◌++◌, ◌∷◌, [], map}
use Rattle.model_tree.specs.Limits.{most_nodes}
use Rattle.apply_laws.specs.Lists.{sum_of}
use Rattle.apply_laws.specs.Listing.{AreNodes}
use Rattle.sttr_apply.specs.Plain.{out_cut, row_cuts}
use Rattle.sttr_apply.proofs.nodes.nodes_over.Given as goal

abbrev pub invariant-rows : goal.invariant-rows
invariant-rows g l = record {
  whole : l.yielded ++ (l.row-iterator.rest.items ++ l.last ∷ []) ≡ l.fn.listing.rows.items;
  left : l.left + sum_of (λ y. y.nodes + 1) l.yielded ≡ most_nodes;
  sum : sum_of (λ o. o.nodes) l.outs.items ≡ sum_of (λ y. y.nodes + 1) l.yielded;
  made : AreNodes g.T.Theory.label_of l.constructor (g.T.Theory.label_of l.label) (map row_cuts l.yielded) (map out_cut l.outs.items);
}
