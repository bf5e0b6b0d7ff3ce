use Rattle.std.proofs.Common.{◌≡◌, length, ap, ◌∙◌, arith}
use Rattle.sttr_apply.proofs.Measured.{count_more, levels_more, sizes_more, sizes_end, size_end}
use Rattle.sttr_apply.proofs.sizes.+measure.Goals as goal

pub children-preserved : goal.children-preserved
children-preserved g t c =
    let ts = c.children-child-items.result.now in
    record {
      nodes = omega (arith, c.children.invariant.nodes, (c.in-Some.ensures {u = tt}).1, ap (λ s. s.nodes) c.in_ok-below.ensures.size, count_more ts c.children.child-index c.child-item.result c.children-test.true c.child-item.is);
      levels = levels_more ts c.children.child-index c.child-item.result c.children-test.true c.child-item.is c.max-levels.result c.in_ok-below.below.levels c.children.levels c.max-levels.ensures (ap (λ s. s.levels) c.in_ok-below.ensures.size) c.children.invariant.levels;
      sizes = sizes_more c.args.sizes.now.items (record { nodes = 0; levels = 0 }) ts c.children.child-index c.child-item.result c.children-test.true c.child-item.is c.children.sizes.items c.measure.new.sizes.items c.in_ok-below.ensures.sizes c.children.invariant.sizes;
    }

pub returns-in-Some-checked_add-clause-size : goal.returns-in-Some-checked_add-clause-size
returns-in-Some-checked_add-clause-size g t c = size_end c.args.tree.now c.children-child-items.result.now c.children.child-index c.children.nodes c.children.levels c.children-child-items.ensures c.children-test.false c.children.invariant.nodes c.children.invariant.levels c.in-Some-checked_add.levels (c.in-Some-checked_add.ensures {u = tt}).1

pub returns-in-Some-checked_add-clause-sizes : goal.returns-in-Some-checked_add-clause-sizes
returns-in-Some-checked_add-clause-sizes g t c =
    let place : c.len-place.result ≡ length c.args.sizes.now.items = c.len-place.ensures ∙ c.args.sizes.now.ok.0 in
    sizes_end c.args.tree.now c.children-child-items.result.now c.children.child-index c.children.nodes c.children.levels c.children-child-items.ensures c.children-test.false c.children.invariant.nodes c.children.invariant.levels
    c.args.sizes.now.items c.children.sizes.items (record { nodes = 0; levels = 0 }) (record { nodes = c.children.nodes; levels = c.in-Some-checked_add.levels }) c.len-place.result place c.children.invariant.sizes
    (size_end c.args.tree.now c.children-child-items.result.now c.children.child-index c.children.nodes c.children.levels c.children-child-items.ensures c.children-test.false c.children.invariant.nodes c.children.invariant.levels c.in-Some-checked_add.levels (c.in-Some-checked_add.ensures {u = tt}).1)
