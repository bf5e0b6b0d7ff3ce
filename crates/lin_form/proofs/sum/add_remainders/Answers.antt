use Rattle.std.proofs.Common.{suc, ◌≡◌, ap, sym, ◌∙◌, subst, arith, rules, get_or, drop, to_z, of_z, ◌+◌, ◌≤◌, ◌^◌, refl}
use Rattle.std.specs.Prelude.{FitsSigned, ◌*ℤ◌}
use Rattle.std.specs.Int.{w128}
use Rattle.std.proofs.lemmas.Int.{to_z-of_z}
use Rattle.std.proofs.lemmas.List.{drop_all}
use Rattle.model_form.specs.Sums.{add_remainders, add_like}
use Rattle.model_form.specs.Ranges.{IsCoefficient, AreApart}
use Rattle.lin_form.specs.Within.{LikesBefore, IsWithin}
use Rattle.lin_form.proofs.Gathering.{likes_begin, likes_end, like_step}
use Rattle.lin_form.specs.Terms.{plain_remainders}
use Rattle.lin_form.specs.Gathered.{plain_likes}
use Rattle.lin_form.specs.declared.form.RemTerm.{RemTerm}
use Rattle.lin_form.proofs.Likes.{remainders_drop, apart_drop, held_64}
use Rattle.lin_form.proofs.Evaluating.{remainder_at}
use Rattle.lin_form.proofs.sum.add_remainders.Goals as goal

pub loop-term-init : goal.loop-term-init
loop-term-init c = record {
  value = refl;
  small = (c.requires.small.0, c.requires.small.1, likes_begin c.requires.small.0 (plain_remainders c.args.terms.now) (plain_likes c.args.likes.now.items) c.requires.small.2);
}

pub product-coefficient-requires-clause-coefficient : goal.product-coefficient-requires-clause-coefficient
product-coefficient-requires-clause-coefficient c =
    let t = c.term-item.result in
    let h = (remainder_at c.args.terms.now c.loop-term.term-index t c.requires.terms c.loop-term-test.true).0 in
    let r : IsCoefficient t.coefficient = subst IsCoefficient (sym (ap (λ (x : RemTerm). x.coefficient) c.term-item.is)) h in
    subst IsCoefficient (sym (held_64 t.coefficient r)) r

pub add_like-requires-clause-small : goal.add_like-requires-clause-small
add_like-requires-clause-small c =
    let s = c.loop-term.invariant.small in
    let m : s.0 ≤ 2 ^ 64 + 16 = s.1 in
    (suc s.0, omega arith, likes_end s.0 (plain_remainders (drop c.loop-term.term-index c.args.terms.now)) (plain_likes c.loop-term.likes.items) s.2)

pub loop-term-preserved : goal.loop-term-preserved
loop-term-preserved c =
    let t = c.term-item.result in
    let l = c.loop-term-test.true in
    let by = to_z w128 (of_z w128 c.args.by) in
    let it = get_or c.args.terms.now c.loop-term.term-index t in
    let h = (remainder_at c.args.terms.now c.loop-term.term-index t c.requires.terms l) in
    let same = c.term-item.is in
    let r : IsCoefficient t.coefficient = subst IsCoefficient (sym (ap (λ (x : RemTerm). x.coefficient) same)) h.0 in
    let fp : FitsSigned w128 c.product-coefficient.result = search rules in
    let product : to_z w128 (of_z w128 c.product-coefficient.result) ≡ by *ℤ it.coefficient =
    to_z-of_z w128 c.product-coefficient.result fp ∙ c.product-coefficient.ensures.value ∙ ap (λ z. by *ℤ z) (held_64 t.coefficient r ∙ ap (λ (x : RemTerm). x.coefficient) same) in
    let done = c.in_ok-add_like.ensures {u = tt} in
    let added : plain_likes c.add_like.new.likes.items ≡ add_like (by *ℤ it.coefficient) it.inner it.divisor (plain_likes c.loop-term.likes.items) =
    done ∙ (λ i. add_like (product i) (same i).inner (same i).divisor (plain_likes c.loop-term.likes.items)) in
    let here = remainders_drop c.args.terms.now c.loop-term.term-index t l in
    let s = c.loop-term.invariant.small in
    let before = subst (λ rs. LikesBefore s.0 rs (plain_likes c.loop-term.likes.items)) here s.2 in
    let apart = subst AreApart here (apart_drop c.args.terms.now c.loop-term.term-index c.requires.apart) in
    let within = subst (IsWithin 1) (sym (to_z-of_z w128 c.product-coefficient.result fp) ∙ product) c.product-coefficient.ensures.small in
    let next = like_step s.0 (by *ℤ it.coefficient) it.inner it.divisor it.coefficient (plain_remainders (drop (c.loop-term.term-index + 1) c.args.terms.now)) (plain_likes c.loop-term.likes.items) within h.1 h.2 apart.0 before in
    record {
      value = ap (add_remainders by (plain_remainders (drop (c.loop-term.term-index + 1) c.args.terms.now))) added
          ∙ sym (ap (λ rs. add_remainders by rs (plain_likes c.loop-term.likes.items)) here) ∙ c.loop-term.invariant.value;
      small = (s.0, s.1, subst (LikesBefore s.0 (plain_remainders (drop (c.loop-term.term-index + 1) c.args.terms.now))) (sym added) next);
    }

pub returns : goal.returns
returns c =
    let past = drop_all c.loop-term.term-index c.args.terms.now c.loop-term-test.false in
    let back = to_z-of_z w128 c.args.by c.ranges.by in
    ap (λ ts. add_remainders (to_z w128 (of_z w128 c.args.by)) (plain_remainders ts) (plain_likes c.loop-term.likes.items)) (sym past) ∙ c.loop-term.invariant.value
    ∙ ap (λ by. add_remainders by (plain_remainders c.args.terms.now) (plain_likes c.args.likes.now.items)) back
