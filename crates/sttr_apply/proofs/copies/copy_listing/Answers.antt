use Rattle.std.proofs.Common.{map, ap, ◌∙◌, arith}
use Rattle.std.proofs.lemmas.List.{take_all}
use Rattle.sttr_apply.proofs.Cutting.{same_length, same_sum}
use Rattle.sttr_apply.proofs.copies.copy_listing.Goals as goal

pub invariant_of-result : goal.invariant_of-result
invariant_of-result g c =
    let same = c.outs.invariant.nodes ∙ ap (map (λ o. o.nodes)) (take_all c.outs.out-index c.deref-out-items.result.now c.outs-test.false ∙ c.deref-out-items.ensures.value) in
    let long = same_length (λ o. o.nodes) (λ o. o.nodes) c.outs.outs.items c.args.listing.now.outs.items same in
    let sum = same_sum (λ o. o.nodes) c.outs.outs.items c.args.listing.now.outs.items same in
    record {
      few = omega (arith, long, c.args.listing.now.few);
      light = omega (arith, sum, c.args.listing.now.light);
    }
