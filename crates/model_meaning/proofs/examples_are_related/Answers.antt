use Rattle.model_meaning.proofs.Related.{one_middle, no_other, no_middle, a_middle, no_tree, two_outputs, in_pre_image, in_swapping, not_in_swapping, in_demanded, not_in_demanded}
use Rattle.model_meaning.proofs.examples_are_related.Goals as goal

pub returns : goal.returns
returns c = record {
  one_middle = one_middle;
  no_other = no_other;
  no_middle = no_middle;
  a_middle = a_middle;
  no_tree = no_tree;
  two_outputs = two_outputs;
  in_pre_image = in_pre_image;
  in_swapping = in_swapping;
  not_in_swapping = not_in_swapping;
  in_demanded = in_demanded;
  not_in_demanded = not_in_demanded;
}
