use Rattle.std.proofs.Common.{◌≤◌, ap, sym, ◌∙◌, arith, length, take}
use Rattle.std.proofs.lemmas.List.{length-take-le}
use Rattle.lin_form.specs.Nest.{nest, base_of, divisors_of}
use Rattle.lin_form.proofs.Nests.{seen_base, seen_divisors, front_take}
use Rattle.lin_form.proofs.form.Dividend.front.Goals as goal

pub slice_bounds-from_slice-end : goal.slice_bounds-from_slice-end
slice_bounds-from_slice-end c =
    let is = seen_divisors c.args.self.now c.self.inside.base c.self.inside.divisors.items c.self.invariant.more c.self.view_is in
    let few : c.args.count ≤ length c.deref.result.now = (let r = c.requires in let l = ap length is in let m = ap length c.deref.ensures.value in omega arith) in
    sym (length-take-le c.args.count c.deref.result.now few)

pub returns : goal.returns
returns c =
    let base = (c.in_ok-base.ensures {u = tt}) ∙ sym (seen_base c.args.self.now c.self.inside.base c.self.inside.divisors.items c.self.invariant.more c.self.view_is) in
    let items = (c.in_ok-divisors.ensures {u = tt}).items ∙ ap (take c.args.count) (c.deref.ensures.value ∙ sym (seen_divisors c.args.self.now c.self.inside.base c.self.inside.divisors.items c.self.invariant.more c.self.view_is)) in
    (λ i. nest (base i) (items i)) ∙ front_take c.args.count (base_of c.args.self.now) (divisors_of c.args.self.now)
