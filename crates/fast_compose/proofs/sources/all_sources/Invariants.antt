use Rattle.std.proofs.Common.{◌≤◌, ◌-◌, take, length, All, Contains}
use Rattle.fast_syntax.specs.Plain.{plain_x}
use Rattle.fast_build.specs.Items.{items_of}
use Rattle.fast_build.proofs.Closing.{IsClosedBy}
use Rattle.fast_compose.specs.Sources.{sources_in, opened_by, AreDeclared, IsSource}
use Rattle.fast_compose.proofs.sources.all_sources.Given as goal

abbrev pub invariant-open : goal.invariant-open
invariant-open l = record {
  declared : AreDeclared (items_of l.checked) l.names.keys;
  all : All (Contains l.names.keys) (sources_in (plain_x l.x));
  closed : IsClosedBy (opened_by (items_of l.checked)) l.names.keys (take l.done l.names.keys);
  only : All (IsSource (items_of l.checked) (plain_x l.x)) l.names.keys;
  count : l.done ≤ length l.names.keys;
}

abbrev pub decreases-open : goal.decreases-open
decreases-open l = length (items_of l.checked) - l.done
