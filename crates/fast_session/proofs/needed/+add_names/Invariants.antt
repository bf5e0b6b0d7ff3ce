use Rattle.fast_syntax.specs.Plain.{plain_x}
use Rattle.fast_eval.proofs.Sizes.{size_of}
use Rattle.fast_session.proofs.needed.+add_names.Given as goal

abbrev pub decreases-add_names : goal.decreases-add_names
decreases-add_names l = size_of (plain_x l.x.now)
