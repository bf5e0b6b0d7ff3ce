use Rattle.fast_build.specs.Items.{items_of}
use Rattle.fast_eval.specs.Table.{IsBuiltNamed, IsTransBuiltNamed}
use Rattle.fast_eval.proofs.Places.{none_right}
use Rattle.fast_eval.proofs.built.Built.new.Goals as goal

pub returns : goal.returns
returns c = record {
  languages = none_right (IsBuiltNamed (items_of c.args.checked.now)) c.new.result c.new.ensures;
  transformations = none_right (IsTransBuiltNamed (items_of c.args.checked.now)) c.new-2.result c.new-2.ensures;
  labels = c.in_ok-labels.ensures;
}
