use Rattle.std.proofs.Common.{ap, ◌∙◌}
use Rattle.std.specs.Int.{w128}
use Rattle.std.proofs.lemmas.Int.{to_z-of_z}
use Rattle.std.proofs.lemmas.Result.{on_ok_weaker}
use Rattle.model_form.specs.Sums.{add_form, add_fields, add_remainders}
use Rattle.lin_form.specs.Terms.{plain_fields, plain_remainders}
use Rattle.lin_form.specs.Gathered.{plain_likes, plain_sum}
use Rattle.lin_form.proofs.Outside.{has_constant}
use Rattle.lin_form.proofs.sum.Sum.add.Goals as goal

pub returns-clause-sum : goal.returns-clause-sum
returns-clause-sum c =
    let back = to_z-of_z w128 c.args.by c.ranges.by in
    let k = has_constant c.args.self.now.constant c.args.by c.form.inside.constant c.requires.constant c.requires.by c.form.invariant.form.0 in
    let t = c.add_fields.ensures ∙ (λ i. add_fields (back i) (plain_fields (c.deref.ensures.value i)) c.args.self.now.totals) in
    on_ok_weaker c.add_remainders.result
    (λ e. (λ i. record { constant = k.is i; totals = t i; terms = (e ∙ (λ j. add_remainders (back j) (plain_remainders (c.deref-2.ensures.value j)) (plain_likes c.args.self.now.likes.items))) i })
    ∙ ap (λ f. add_form c.args.by f (plain_sum c.args.self.now)) c.form.view_is)
    c.add_remainders.ensures
