use Rattle.std.proofs.Common.{ap, sym, ◌∙◌, subst, rules}
use Rattle.std.specs.Prelude.{FitsSigned}
use Rattle.std.specs.Int.{w128}
use Rattle.std.proofs.lemmas.Int.{to_z-of_z}
use Rattle.lin_form.specs.Nest.{depths}
use Rattle.model_tree.specs.Range.{IsLabelNumber}
use Rattle.model_form.specs.Ranges.{AreApart}
use Rattle.form_laws.proofs.Coefficients.{without_zeros_apart}
use Rattle.lin_form.proofs.Wholes.{without_zeros_inner}
use Rattle.lin_form.specs.Terms.{plain_remainders}
use Rattle.lin_form.specs.Gathered.{plain_likes}
use Rattle.lin_form.specs.Whole.{AreInner}
use Rattle.lin_form.proofs.sum.Sum.finish.Goals as goal

pub invariant_of-result : goal.invariant_of-result
invariant_of-result c =
    let k = c.in_ok-constant.ensures {u = tt} in
    let f = c.in_ok-fields.ensures {u = tt} in
    let r = c.in_ok-remainders.ensures {u = tt} in
    let fits : FitsSigned w128 c.in_ok-constant.constant = search rules in
    let likes = plain_likes c.args.self.likes.items in
    record {
      form = (subst IsLabelNumber (sym (to_z-of_z w128 c.in_ok-constant.constant fits ∙ k.0)) k.1, f.1, r.1, subst AreApart (sym r.0) (without_zeros_apart likes (c.requires.1).apart));
      inner = subst AreInner (sym r.0) (without_zeros_inner likes (c.requires.1).inner);
      depth = c.depth_of.ensures ∙ ap (λ ts. depths (plain_remainders ts)) c.deref.ensures.value;
    }

pub returns-clause-in_range : goal.returns-clause-in_range
returns-clause-in_range c =
    let k = c.in_ok-constant.ensures {u = tt} in
    let f = c.in_ok-fields.ensures {u = tt} in
    let r = c.in_ok-remainders.ensures {u = tt} in
    let fits : FitsSigned w128 c.in_ok-constant.constant = search rules in
    (subst IsLabelNumber (sym (to_z-of_z w128 c.in_ok-constant.constant fits ∙ k.0)) k.1, f.1, r.1, subst AreApart (sym r.0) (without_zeros_apart (plain_likes c.args.self.likes.items) (c.requires.1).apart))
