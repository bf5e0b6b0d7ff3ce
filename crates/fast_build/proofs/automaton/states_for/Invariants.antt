use Rattle.std.proofs.Common.{map, take}
use Rattle.fast_tree.specs.Signatures.{plain_signature}
use Rattle.fast_syntax.specs.Plain.{plain_lang}
use Rattle.sta_core.specs.Machine.{plain_rule as machine_rule}
use Rattle.fast_build.specs.Numbers.{number_in}
use Rattle.fast_build.specs.Rules.{AreStatesFor}
use Rattle.fast_build.proofs.automaton.states_for.Given as goal

abbrev pub invariant-langs : goal.invariant-langs
invariant-langs l =
    AreStatesFor (plain_signature l.signature) (number_in l.reached.names.keys) (map (λ those. map machine_rule those.items) l.states.items) (map (λ x. (plain_lang x.now).rules) (take l.lang-index l.reached.langs.items))
