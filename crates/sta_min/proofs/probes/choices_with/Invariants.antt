use Rattle.std.proofs.Common.{◌≡◌, take}
use Rattle.sta_classes.specs.Rows.{lists_of}
use Rattle.sta_min.specs.Probes.{with_one}
use Rattle.sta_min.proofs.probes.choices_with.Given as goal

abbrev pub invariant-places : goal.invariant-places
invariant-places l = lists_of l.choices.items ≡ with_one (take l.j (lists_of l.kinds)) l.place
