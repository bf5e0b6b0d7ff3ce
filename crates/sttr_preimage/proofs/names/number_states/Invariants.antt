use Rattle.std.proofs.Common.{take}
use Rattle.sttr_preimage.specs.Names.{names_in, side_names, Numbers}
use Rattle.sttr_preimage.proofs.names.number_states.Given as goal

abbrev pub invariant-states : goal.invariant-states
invariant-states l = Numbers (names_in l.initial.names.keys) (names_in l.names.keys) l.initial.numbers.items l.numbers.items (side_names l.side (take l.state-index l.states))
