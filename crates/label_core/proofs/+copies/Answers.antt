use Rattle.std.proofs.Common.{rules, arith, map, ap, ◌∙◌, subst, take_all}
use Rattle.std.specs.Prelude.{IfOk, ◌≡◌}
use Rattle.model_tree.specs.Formula.{negation}
use Rattle.label_core.specs.Formula.{plain_formula}
use Rattle.label_core.proofs.Formulas.{not_of, and_of, or_of, joined_same}
use Rattle.label_core.proofs.Elements.{made_more}
use Rattle.label_core.proofs.+copies.Goals as goal

pub copies::copy_each-copy_within-requires : goal.copies::copy_each-copy_within-requires
copies::copy_each-copy_within-requires g t c κs within =
    let before = c.decreases in
    (omega arith, search rules)

pub copies::copy_each-loop-part-preserved : goal.copies::copy_each-loop-part-preserved
copies::copy_each-loop-part-preserved g t c =
    let (copy, made, pushed) = c.in_ok-added.ensures {u = tt} in
    made_more plain_formula plain_formula c.args.parts.now c.loop-part.part-index c.part-item.result c.loop-part-test.true c.part-item.is c.loop-part.copies.items c.added.new.list.items copy pushed c.loop-part.invariant (subst (λ r. IfOk r (λ f. plain_formula f ≡ plain_formula c.part-item.result)) made c.copy_within.ensures)

pub copies::copy_each-returns : goal.copies::copy_each-returns
copies::copy_each-returns g t c =
    c.joined.ensures ∙ joined_same c.args.every c.loop-part.copies.items c.args.parts.now (c.loop-part.invariant ∙ ap (map plain_formula) (take_all c.loop-part.part-index c.args.parts.now c.loop-part-test.false))

pub formula::Formula::copy_within-copy_within-requires : goal.formula::Formula::copy_within-copy_within-requires
formula::Formula::copy_within-copy_within-requires g t c κs within =
    let before = c.decreases in
    (omega arith, search rules)

pub formula::Formula::copy_within-copy_each-requires : goal.formula::Formula::copy_within-copy_each-requires
formula::Formula::copy_within-copy_each-requires g t c κs within =
    let before = c.decreases in
    (omega arith, search rules)

pub formula::Formula::copy_within-copy_each-requires-in-Or : goal.formula::Formula::copy_within-copy_each-requires-in-Or
formula::Formula::copy_within-copy_each-requires-in-Or g t c κs within =
    let before = c.decreases in
    (omega arith, search rules)

pub formula::Formula::copy_within-returns-in_ok-copy_within-in-Not : goal.formula::Formula::copy_within-returns-in_ok-copy_within-in-Not
formula::Formula::copy_within-returns-in_ok-copy_within-in-Not g t c =
    subst (λ f. IfOk c.negation.result (λ copy. plain_formula copy ≡ f)) (ap negation (c.in_ok-copy_within-in-Not.ensures {u = tt}) ∙ not_of c.args.self.now c.in-Not.inner c.deref.result.now c.in-Not.is c.deref.ensures) c.negation.ensures

pub formula::Formula::copy_within-returns-in-And : goal.formula::Formula::copy_within-returns-in-And
formula::Formula::copy_within-returns-in-And g t c =
    subst (λ f. IfOk c.copy_each.result (λ copy. plain_formula copy ≡ f)) (and_of c.args.self.now c.in-And.parts c.deref-in-And.result.now c.in-And.is c.deref-in-And.ensures.value) c.copy_each.ensures

pub formula::Formula::copy_within-returns-in-Or : goal.formula::Formula::copy_within-returns-in-Or
formula::Formula::copy_within-returns-in-Or g t c =
    subst (λ f. IfOk c.copy_each-in-Or.result (λ copy. plain_formula copy ≡ f)) (or_of c.args.self.now c.in-Or.parts c.deref-in-Or.result.now c.in-Or.is c.deref-in-Or.ensures.value) c.copy_each-in-Or.ensures
