use Rattle.std.proofs.Common.{map, take}
use Rattle.sttr_theory.specs.Triples.{asked}
use Rattle.sttr_run.specs.Plain.{plain_triple}
use Rattle.sttr_preimage.specs.Names.{names_in, tidy, Numbers}
use Rattle.sttr_preimage.proofs.names.number_asked.Given as goal

abbrev pub invariant-triples : goal.invariant-triples
invariant-triples l = Numbers (names_in l.initial.names.keys) (names_in l.names.keys) l.initial.numbers.items l.numbers.items (asked (map tidy (map plain_triple (take l.triple-index l.triples))))
