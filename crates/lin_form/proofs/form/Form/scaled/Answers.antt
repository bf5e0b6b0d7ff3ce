use Rattle.std.proofs.Common.{◌≡◌, ap, sym, ◌∙◌, subst, rules, to_z, of_z}
use Rattle.std.specs.Prelude.{FitsSigned, pos}
use Rattle.std.specs.Int.{w128}
use Rattle.std.proofs.lemmas.Int.{to_z-of_z}
use Rattle.model_form.specs.Form.{form}
use Rattle.lin_form.specs.Nest.{depths}
use Rattle.model_form.specs.Sums.{scaled_fields, scaled_remainders, product_form}
use Rattle.model_tree.specs.Range.{IsLabelNumber}
use Rattle.model_form.specs.Ranges.{AreApart}
use Rattle.lin_form.specs.Terms.{plain_fields, plain_remainders}
use Rattle.lin_form.specs.Whole.{AreInner}
use Rattle.lin_form.proofs.Joined.{scaled_apart}
use Rattle.lin_form.proofs.Wholes.{scaled_inner, scaled_depths}
use Rattle.lin_form.proofs.Outside.{none_outside, held_constant, product_is}
use Rattle.lin_form.proofs.form.Form.scaled.Goals as goal

pub invariant_of-result : goal.invariant_of-result
invariant_of-result c =
    let k = c.in_ok-constant.ensures {u = tt} in
    let f = c.in_ok-fields.ensures {u = tt} in
    let r = c.in_ok-remainders.ensures {u = tt} in
    let fits : FitsSigned w128 c.in_ok-constant.constant = search rules in
    let number = to_z-of_z w128 c.in_ok-constant.constant fits in
    let by = to_z w128 (of_z w128 c.args.by) in
    let rs = plain_remainders c.self.inside.remainders.items in
    let made : plain_remainders c.in_ok-remainders.remainders.items ≡ scaled_remainders by rs = r.0 ∙ ap (λ ts. scaled_remainders by (plain_remainders ts)) c.deref-2.ensures.value in
    record {
      form = (subst IsLabelNumber (sym (number ∙ k.0)) k.1, f.1, r.1, subst AreApart (sym made) (scaled_apart by rs c.self.invariant.form.3));
      inner = subst AreInner (sym made) (scaled_inner by rs c.self.invariant.inner);
      depth = c.self.invariant.depth ∙ sym (ap depths made ∙ scaled_depths by rs);
    }

pub returns-clause-form : goal.returns-clause-form
returns-clause-form c =
    let k = c.in_ok-constant.ensures {u = tt} in
    let f = c.in_ok-fields.ensures {u = tt} in
    let r = c.in_ok-remainders.ensures {u = tt} in
    let fits : FitsSigned w128 c.in_ok-constant.constant = search rules in
    let number = to_z-of_z w128 c.in_ok-constant.constant fits in
    let back = to_z-of_z w128 c.args.by c.ranges.by in
    let n : c.args.by ≡ pos 0 → ⊥ = λ e. c.if-by-eq0.false (ap (of_z w128) e) in
    let constant = number ∙ k.0 ∙ held_constant c.args.by c.self.inside.constant c.requires c.self.invariant.form.0 in
    let fields = f.0 ∙ (λ i. scaled_fields (back i) (plain_fields (c.deref.ensures.value i))) in
    let remainders = r.0 ∙ (λ i. scaled_remainders (back i) (plain_remainders (c.deref-2.ensures.value i))) in
    (λ i. form (constant i) (fields i) (remainders i))
    ∙ sym (product_is c.args.by c.self.inside.constant (plain_fields c.self.inside.fields.items) (plain_remainders c.self.inside.remainders.items) n)
    ∙ ap (product_form c.args.by) c.self.view_is

pub returns-clause-in_range : goal.returns-clause-in_range
returns-clause-in_range c =
    let k = c.in_ok-constant.ensures {u = tt} in
    let f = c.in_ok-fields.ensures {u = tt} in
    let r = c.in_ok-remainders.ensures {u = tt} in
    let fits : FitsSigned w128 c.in_ok-constant.constant = search rules in
    let number = to_z-of_z w128 c.in_ok-constant.constant fits in
    none_outside (form (to_z w128 (of_z w128 c.in_ok-constant.constant)) (plain_fields c.in_ok-fields.fields.items) (plain_remainders c.in_ok-remainders.remainders.items))
    (subst IsLabelNumber (sym (number ∙ k.0)) k.1, f.1, r.1, subst AreApart (sym r.0) (subst (λ ts. AreApart (scaled_remainders (to_z w128 (of_z w128 c.args.by)) (plain_remainders ts))) (sym c.deref-2.ensures.value) (scaled_apart (to_z w128 (of_z w128 c.args.by)) (plain_remainders c.self.inside.remainders.items) c.self.invariant.form.3)))
