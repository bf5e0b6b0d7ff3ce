use Rattle.std.proofs.Common.{◌≡◌, ◌++◌}
use Rattle.std.specs.List.{flat_map}
use Rattle.model_tree.specs.Printed.{escaped}
use Rattle.fast_syntax.proofs.page.Page.quoted.Given as goal

abbrev pub invariant-loop-character : goal.invariant-loop-character
invariant-loop-character l = l.self ≡ l.initial.self ++ flat_map escaped l.yielded
