use Rattle.std.proofs.Common.{refl, sym, map, ◌∙◌, []}
use Rattle.model_tree.specs.Label.{row}
use Rattle.model_meaning.specs.Outputs.{made_label}
use Rattle.fast_syntax.specs.Plain.{plain_expr}
use Rattle.tree_values.proofs.Labelled.{above_made}
use Rattle.tree_values.proofs.literals.above.Goals as goal

pub returns : goal.returns
returns c = record {
  tree = λ k e. above_made c.in_ok-number.number k c.in_ok-label.label (made_label [] [] (map plain_expr c.args.labels.now) (row [])) c.args.below.trees.items c.new.result c.new.ensures (sym (c.in_ok-number.ensures {u = tt}) ∙ e) (c.in_ok-label.ensures {u = tt});
  nodes = refl;
  levels = refl;
}
