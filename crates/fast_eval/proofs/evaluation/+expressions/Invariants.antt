use Rattle.std.proofs.Common.{◌+◌}
use Rattle.fast_syntax.specs.Plain.{plain_x}
use Rattle.fast_eval.proofs.Sizes.{size_of}
use Rattle.fast_eval.proofs.evaluation.+expressions.Given as goal

abbrev pub decreases-language : goal.decreases-language
decreases-language l = size_of (plain_x l.x.now) + size_of (plain_x l.x.now)

abbrev pub decreases-domain_of : goal.decreases-domain_of
decreases-domain_of l = size_of (plain_x l.f.now) + size_of (plain_x l.f.now) + 1

abbrev pub decreases-preimage_of : goal.decreases-preimage_of
decreases-preimage_of l = size_of (plain_x l.f.now) + size_of (plain_x l.f.now) + (size_of (plain_x l.y.now) + size_of (plain_x l.y.now)) + 1

abbrev pub decreases-transformation : goal.decreases-transformation
decreases-transformation l = size_of (plain_x l.f.now) + size_of (plain_x l.f.now)

abbrev pub decreases-restrict_of : goal.decreases-restrict_of
decreases-restrict_of l = size_of (plain_x l.f.now) + size_of (plain_x l.f.now) + (size_of (plain_x l.y.now) + size_of (plain_x l.y.now)) + 1

abbrev pub decreases-restrict_out_of : goal.decreases-restrict_out_of
decreases-restrict_out_of l = size_of (plain_x l.f.now) + size_of (plain_x l.f.now) + (size_of (plain_x l.y.now) + size_of (plain_x l.y.now)) + 1

abbrev pub decreases-compose_of : goal.decreases-compose_of
decreases-compose_of l = size_of (plain_x l.f.now) + size_of (plain_x l.f.now) + (size_of (plain_x l.g.now) + size_of (plain_x l.g.now)) + 1
