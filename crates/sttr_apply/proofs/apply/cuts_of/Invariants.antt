use Rattle.std.proofs.Common.{◌≡◌, map}
use Rattle.fast_cut.specs.Cuts.{plain_cut}
use Rattle.sttr_apply.specs.Plain.{out_cut}
use Rattle.sttr_apply.proofs.apply.cuts_of.Given as goal

abbrev pub invariant-outs : goal.invariant-outs
invariant-outs g l = map plain_cut l.cuts.items ≡ map out_cut l.yielded
