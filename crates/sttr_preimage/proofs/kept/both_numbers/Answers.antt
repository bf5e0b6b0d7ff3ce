use Rattle.std.proofs.Common.{subst, []}
use Rattle.sttr_theory.specs.Triples.{firsts}
use Rattle.sttr_preimage.specs.Names.{names_in, Numbers}
use Rattle.sttr_preimage.proofs.Numbered.{numbers_then}
use Rattle.sttr_preimage.proofs.kept.both_numbers.Goals as goal

pub returns : goal.returns
returns c =
    let old = names_in c.args.names.now.keys in
    let mid = names_in c.number_states.new.names.keys in
    let new = names_in c.number_states-2.new.names.keys in
    numbers_then old mid new [] c.number_states.new.numbers.items c.number_states-2.new.numbers.items _ _ (subst (λ l. Numbers old mid l c.number_states.new.numbers.items (firsts c.args.first.now)) c.new-made.ensures.items c.in_ok-number_states.ensures) c.in_ok-number_states-2.ensures
