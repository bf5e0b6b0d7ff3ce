use Rattle.std.proofs.Common.{map, take}
use Rattle.fast_tree.specs.Signatures.{plain_signature}
use Rattle.fast_syntax.specs.Plain.{plain_trans}
use Rattle.sttr_core.specs.Machine.{plain_out as machine_out}
use Rattle.fast_build.specs.Numbers.{number_in}
use Rattle.fast_build.specs.OutRules.{AreOutStatesFor}
use Rattle.fast_build.proofs.out_rules.out_states_for.Given as goal

abbrev pub invariant-states : goal.invariant-states
invariant-states l =
    AreOutStatesFor (plain_signature l.from) (plain_signature l.into) (number_in l.looks.keys) (number_in l.called.names.keys) (map (λ those. map machine_out those.items) l.states.items) (map (λ t. (plain_trans t.now).rules) (take l.transformation-index l.called.transformations.items))
