use Rattle.std.proofs.Common.{ℕ, List, take, Contains}
use Rattle.model_meaning.specs.Reached.{Reaches}
use Rattle.fast_build.specs.Items.{items_of}
use Rattle.fast_compose.specs.Meetings.{IsMet}
use Rattle.fast_compose.proofs.meetings.met_by_all.Given as goal

abbrev pub invariant-names : goal.invariant-names
invariant-names l = IsMet (items_of l.checked) (λ q. (n : List ℕ) × Contains (take l.name-index l.names.keys) n × Reaches (items_of l.checked) n q) l.found
