use Rattle.std.proofs.Common.{length, map, ◌++◌}
use Rattle.read_forms.specs.Reads.{closed}
use Rattle.read_forms.proofs.Lists.{IsPartWay}
use Rattle.label_reader.specs.Results.{left}
use Rattle.label_reader.specs.Lists.{SomeTo, later_of, closing_of}
use Rattle.label_reader.proofs.lists.read_some_to.Given as goal

abbrev pub invariant-items : goal.invariant-items
invariant-items g l = let form = g.L.Items.spelled in
    IsPartWay (SomeTo l.fn.between form l.fn.close) (closing_of (later_of l.fn.between form) l.fn.close) closed (λ v. map g.L.Items.plain l.all.items ++ v.0) (left l.fn.reader) (left l.reader)

abbrev pub decreases-items : goal.decreases-items
decreases-items g l = length (left l.reader)
