use Rattle.std.proofs.Common.{◌≡◌, take}
use Rattle.sta_min.specs.Written.{classes_in}
use Rattle.sta_min.proofs.written.classes_in.Given as goal

abbrev pub invariant-loop-class : goal.invariant-loop-class
invariant-loop-class l = l.those.items ≡ classes_in l.dense l.block (take l.class-index l.classes)
