use Rattle.std.proofs.Common.{sym, ◌∙◌}
use Rattle.fast_cut.specs.Cuts.{plain_cut}
use Rattle.sttr_apply.proofs.Cutting.{same_nodes, same_levels}
use Rattle.sttr_apply.proofs.copies.copy_out.Goals as goal

pub invariant_of-result : goal.invariant_of-result
invariant_of-result g c = record {
  nodes_are = c.args.out.now.nodes_are ∙ sym (same_nodes g.T.Theory.label_of (plain_cut c.in_ok-cut.cut) (plain_cut c.args.out.now.cut) c.in_ok-cut.ensures);
  levels_are = c.args.out.now.levels_are ∙ sym (same_levels g.T.Theory.label_of (plain_cut c.in_ok-cut.cut) (plain_cut c.args.out.now.cut) c.in_ok-cut.ensures);
  shallow = c.args.out.now.shallow;
}
