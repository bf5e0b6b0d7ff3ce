use Rattle.std.proofs.Common.{◌≡◌, map, take}
use Rattle.apply_laws.specs.Meant.{meant}
use Rattle.sttr_apply.specs.Plain.{out_cut}
use Rattle.sttr_apply.proofs.copies.copy_listing.Given as goal

abbrev pub invariant-outs : goal.invariant-outs
invariant-outs g l = record {
  cuts : map (meant g.T.Theory.label_of) (map out_cut l.outs.items) ≡ map (meant g.T.Theory.label_of) (map out_cut (take l.out-index l.out-items));
  nodes : map (λ o. o.nodes) l.outs.items ≡ map (λ o. o.nodes) (take l.out-index l.out-items);
}
