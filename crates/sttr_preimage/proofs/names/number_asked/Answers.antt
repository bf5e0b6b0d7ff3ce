use Rattle.std.proofs.Common.{sym, subst}
use Rattle.sttr_preimage.specs.Names.{names_in, Numbers}
use Rattle.sttr_preimage.proofs.Numbered.{numbers_then, asked_more}
use Rattle.sttr_preimage.proofs.names.number_asked.Goals as goal

pub triples-preserved : goal.triples-preserved
triples-preserved c =
    let old = names_in c.args.names.now.keys in
    let mid = names_in c.triples.names.keys in
    let new = names_in c.number_triple.new.names.keys in
    let before = c.args.numbers.now.items in
    let after = c.number_triple.new.numbers.items in
    subst (Numbers old new before after) (sym (asked_more c.args.triples.now c.triples.triple-index c.triple-item.result c.triples-test.true c.triple-item.is))
    (numbers_then old mid new before c.triples.numbers.items after _ _ c.triples.invariant c.in_ok-number_triple.ensures)
