use Rattle.std.proofs.Common.{◌≡◌, ◌+◌, ◌<◌, ◌≤◌, ap, sym, ◌∙◌, subst, arith, rules, drop, get_or, length, to_z, of_z}
use Rattle.std.specs.Prelude.{pos, ◌*ℤ◌, FitsSigned}
use Rattle.std.specs.Int.{w128}
use Rattle.std.proofs.lemmas.Int.{ints, to_z-of_z}
use Rattle.std.proofs.lemmas.List.{drop_all}
use Rattle.model_tree.specs.Limits.{greatest_divisor}
use Rattle.model_form.specs.Form.{remainder}
use Rattle.model_form.specs.Sums as model
use Rattle.model_form.specs.Simpler.{add_all_open, add_term_open, outer, reduced}
use Rattle.lin_form.specs.declared.sum.Like.{Like}
use Rattle.lin_form.specs.Gathered.{plain_likes, plain_sum}
use Rattle.lin_form.proofs.Reducing.{all_open_after, reduced_twice, held_reduced, likes_drop, divisor_at}
use Rattle.lin_form.proofs.Wholes.{like_item}
use Rattle.lin_form.proofs.sum.Sum.opened.Goals as goal

pub loop-like-init : goal.loop-like-init
loop-like-init c =
    let m = c.args.by in
    let some = c.requires.some in
    let all = plain_sum c.args.self.now in
    let items = c.deref-like-items.result.now in
    let fc : FitsSigned w128 c.args.self.now.constant = search rules in
    let constant = ap (λ (x : model.Sum). x.constant) c.of-sum.ensures ∙ to_z-of_z w128 c.args.self.now.constant fc in
    let terms = ap (λ (x : model.Sum). x.terms) c.of-sum.ensures in
    let done : plain_sum c.reduce.new.self ≡ reduced m (outer all) = c.reduce.ensures ∙ (λ i. reduced m (record { constant = constant i; totals = all.totals; terms = terms i })) in
    let g = c.requires.gathered.1 in
    record {
      value = ap (λ x. reduced m (add_all_open m (pos 1) (plain_likes items) x)) done
          ∙ all_open_after m (pos 1) (plain_likes items) (reduced m (outer all)) (outer all) some (reduced_twice m (outer all) some)
          ∙ (λ i. reduced m (add_all_open m (pos 1) (plain_likes (c.deref-like-items.ensures.value i)) (outer all)));
      reduced = held_reduced m (outer all) (plain_sum c.reduce.new.self) some c.requires.few done (record { eight = g.eight; bound = 0; likes = tt; apart = tt; inner = tt });
    }

pub add_term_open-requires-clause-divisor_some : goal.add_term_open-requires-clause-divisor_some
add_term_open-requires-clause-divisor_some c =
    let here : c.loop-like.like-index < length c.args.self.now.likes.items = subst (λ ts. c.loop-like.like-index < length ts) c.deref-like-items.ensures.value c.loop-like-test.true in
    let d = (divisor_at c.requires.gathered.0 c.args.self.now.likes.items c.loop-like.like-index c.like-item.result c.requires.gathered.1.likes here).0 in
    subst (λ (x : Like). 0 < x.divisor) (sym (c.like-item.is ∙ (λ i. get_or (c.deref-like-items.ensures.value i) c.loop-like.like-index c.like-item.result))) d

pub add_term_open-requires-clause-divisor_few : goal.add_term_open-requires-clause-divisor_few
add_term_open-requires-clause-divisor_few c =
    let here : c.loop-like.like-index < length c.args.self.now.likes.items = subst (λ ts. c.loop-like.like-index < length ts) c.deref-like-items.ensures.value c.loop-like-test.true in
    let d = (divisor_at c.requires.gathered.0 c.args.self.now.likes.items c.loop-like.like-index c.like-item.result c.requires.gathered.1.likes here).1 in
    subst (λ (x : Like). x.divisor ≤ greatest_divisor) (sym (c.like-item.is ∙ (λ i. get_or (c.deref-like-items.ensures.value i) c.loop-like.like-index c.like-item.result))) d

pub add_term_open-requires-clause-inner : goal.add_term_open-requires-clause-inner
add_term_open-requires-clause-inner c =
    like_item c.args.self.now.likes.items c.deref-like-items.result.now c.loop-like.like-index c.like-item.result c.requires.gathered.1.inner c.deref-like-items.ensures.value c.like-item.is c.loop-like-test.true

pub loop-like-preserved : goal.loop-like-preserved
loop-like-preserved c =
    let m = c.args.by in
    let some = c.requires.some in
    let i = c.loop-like.like-index in
    let it = c.like-item.result in
    let items = c.deref-like-items.result.now in
    let s = plain_sum c.loop-like.sum in
    let fc : FitsSigned w128 it.coefficient = search rules in
    let once : it.coefficient ≡ pos 1 *ℤ it.coefficient = omega (arith, ints) in
    let number : to_z w128 (of_z w128 it.coefficient) ≡ pos 1 *ℤ it.coefficient = to_z-of_z w128 it.coefficient fc ∙ once in
    let done = c.in_ok-add_term_open.ensures {u = tt} in
    let next = add_term_open m (pos 1 *ℤ it.coefficient) it.inner it.divisor s in
    let rest = plain_likes (drop (i + 1) items) in
    let here : plain_likes (drop i items) ≡ remainder it.coefficient it.inner it.divisor rest =
    likes_drop items i it c.loop-like-test.true ∙ ap (λ (x : Like). remainder x.coefficient x.inner x.divisor rest) (sym c.like-item.is) in
    record {
      value = ap (λ x. reduced m (add_all_open m (pos 1) rest x)) (done.sum ∙ ap (λ z. reduced m (add_term_open m z it.inner it.divisor s)) number)
          ∙ all_open_after m (pos 1) rest (reduced m next) next some (reduced_twice m next some)
          ∙ sym (ap (λ rs. reduced m (add_all_open m (pos 1) rs s)) here) ∙ c.loop-like.invariant.value;
      reduced = done.reduced;
    }

pub returns : goal.returns
returns c =
    let m = c.args.by in
    let past = drop_all c.loop-like.like-index c.deref-like-items.result.now c.loop-like-test.false in
    let r = c.loop-like.invariant.reduced in
    (sym r.same ∙ ap (λ ts. reduced m (add_all_open m (pos 1) (plain_likes ts) (plain_sum c.loop-like.sum))) (sym past) ∙ c.loop-like.invariant.value, r)
