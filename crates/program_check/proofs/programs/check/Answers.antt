use Rattle.std.proofs.Common.{List, map, ap, subst}
use Rattle.fast_syntax.specs.declared.items.Item.{Item}
use Rattle.fast_syntax.specs.Plain.{plain_item}
use Rattle.model_grammar.specs.Syntax as plain
use Rattle.program_check.specs.Signed.{Passes}
use Rattle.program_check.proofs.programs.check.Goals as goal

pub invariant_of-result : goal.invariant_of-result
invariant_of-result c =
    let same = ap (λ (xs : List Item). map plain_item xs) c.deref.ensures.value in
    let passes = subst (λ (items : List plain.Item). Passes items c.number_and_sign.new.declared c.in-Ok.signatures.items) same c.in-Ok.ensures in
    record { well_formed = passes.well_formed; numbered = passes.numbered; signed = passes.signed }
