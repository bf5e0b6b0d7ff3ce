use Rattle.fast_syntax.specs.Plain.{plain_x}
use Rattle.fast_eval.proofs.Sizes.{size_of}
use Rattle.fast_eval.proofs.names.+build_names.Given as goal

abbrev pub decreases-build_names : goal.decreases-build_names
decreases-build_names l = size_of (plain_x l.x.now)
