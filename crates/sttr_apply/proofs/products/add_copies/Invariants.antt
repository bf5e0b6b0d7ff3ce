use Rattle.std.proofs.Common.{◌≡◌, ◌+◌, ◌++◌, map, take}
use Rattle.model_sttr.specs.Cuts.{cut}
use Rattle.apply_laws.specs.Meant.{meant}
use Rattle.sttr_apply.specs.Plain.{out_cut}
use Rattle.sttr_apply.specs.Products.{row_nodes, meant_rows}
use Rattle.sttr_apply.proofs.products.add_copies.Given as goal

abbrev pub invariant-rests : goal.invariant-rests
invariant-rests g l = record {
  left : l.left + row_nodes l.first (take l.rest-index l.rests) ≡ l.initial.left;
  rows : meant_rows g.T.Theory.label_of l.rows.items ≡ meant_rows g.T.Theory.label_of l.fn.rows.items ++ map (cut (meant g.T.Theory.label_of (out_cut l.first))) (meant_rows g.T.Theory.label_of (take l.rest-index l.rests));
}
