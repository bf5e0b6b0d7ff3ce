use Rattle.std.proofs.Common.{◌≡◌, ◌+◌, map, take}
use Rattle.model_tree.specs.Limits.{most_nodes}
use Rattle.apply_laws.specs.Meant.{meant}
use Rattle.apply_laws.specs.Listing.{products}
use Rattle.sttr_apply.specs.Plain.{out_cut}
use Rattle.sttr_apply.specs.Products.{product_nodes, meant_rows}
use Rattle.sttr_apply.proofs.products.product.Given as goal

abbrev pub invariant-firsts : goal.invariant-firsts
invariant-firsts g l = record {
  left : l.left + product_nodes (take l.first-index l.first-items) l.rests.items ≡ most_nodes;
  rows : meant_rows g.T.Theory.label_of l.rows.items ≡ products (map (meant g.T.Theory.label_of) (map out_cut (take l.first-index l.first-items))) (meant_rows g.T.Theory.label_of l.rests.items);
}
