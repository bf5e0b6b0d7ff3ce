use Rattle.std.proofs.Common.{◌≡◌, get_or, length, ◌-◌, ◌+◌, ◌*◌, ◌<◌, ◌≤◌, ◌^◌, ap, sym, ◌∙◌, subst, arith, rules, drop, to_z, of_z, unsigned_abs, lit≤}
use Rattle.std.specs.Prelude.{pos, ◌*ℤ◌, FitsSigned}
use Rattle.std.specs.Int.{w128, int_rem_euclid}
use Rattle.std.proofs.lemmas.Int.{ints, to_z-of_z}
use Rattle.std.proofs.lemmas.List.{drop_all}
use Rattle.std.proofs.lemmas.Result.{on_ok_weaker}
use Rattle.model_tree.specs.Limits.{greatest_divisor}
use Rattle.model_form.specs.Form.{remainder, modulo, height, heights}
use Rattle.model_form.specs.Sums.{add_fields}
use Rattle.model_form.specs.Simpler.{add_open, add_all_open, add_outer, add_term, add_term_open, reduced}
use Rattle.lin_form.specs.declared.form.RemTerm.{RemTerm}
use Rattle.lin_form.specs.Terms.{plain_fields, plain_remainders}
use Rattle.lin_form.specs.Gathered.{plain_likes, plain_sum}
use Rattle.lin_form.specs.Within.{IsWithin}
use Rattle.std.proofs.lemmas.List.Elements.{All-get_or}
use Rattle.lin_form.specs.Nest.{bare, nest, nest_front, base_of, divisors_of}
use Rattle.lin_form.specs.Whole.{IsInner}
use Rattle.lin_form.proofs.Nests.{seen_base, seen_divisors, seen_next, open_bare, front_lower, inner_front}
use Rattle.lin_form.proofs.Evaluating.{remainder_item, small_product, fits_128}
use Rattle.lin_form.proofs.Likes.{remainders_drop}
use Rattle.lin_form.proofs.Outside.{has_constant}
use Rattle.lin_form.proofs.Putting.{held_128}
use Rattle.lin_form.proofs.Reducing.{all_open_after, reduced_twice, held_reduced, held_outer, held_term, opens, stays, small_within, inner_lower}
use Rattle.lin_form.proofs.Wholes.{inner_item}
use Rattle.lin_form.proofs.simpler.+open.Goals as goal

pub add_open-overflow_mul-product : goal.add_open-overflow_mul-product
add_open-overflow_mul-product t c =
    let a = c.term-item.result.coefficient in
    let h = (remainder_item c.form.inside.remainders.items c.deref-term-items.result.now c.loop-term.term-index c.term-item.result c.form.invariant.form.2 c.deref-term-items.ensures.value c.term-item.is c.loop-term-test.true).0 in
    let small : unsigned_abs a ≤ 2 ^ 31 = (let l : unsigned_abs a < 2 ^ 31 = h in omega arith) in
    let p = small_product c.args.coefficient a greatest_divisor (2 ^ 31) (2 ^ 43) c.requires.coefficient small (lit≤ tt) in
    let back = to_z-of_z w128 c.args.coefficient c.ranges.coefficient in
    subst (FitsSigned w128) (sym (λ i. back i *ℤ held_128 a h i)) (fits_128 (c.args.coefficient *ℤ a) (omega arith))

pub add_open-loop-term-init : goal.add_open-loop-term-init
add_open-loop-term-init t c =
    let m = c.args.by in
    let some = c.requires.some in
    let by = to_z w128 (of_z w128 c.args.coefficient) in
    let back = to_z-of_z w128 c.args.coefficient c.ranges.coefficient in
    let s = plain_sum c.args.sum.now in
    let n = c.form.inside.constant in
    let ts = plain_fields c.form.inside.fields.items in
    let items = c.deref-term-items.result.now in
    let k = has_constant c.args.sum.now.constant c.args.coefficient n (let z = c.requires.sum.constant in omega arith) (let z = c.requires.coefficient in omega arith) c.form.invariant.form.0 in
    let totals = c.add_fields.ensures ∙ (λ i. add_fields (back i) (plain_fields (c.deref.ensures.value i)) c.args.sum.now.totals) in
    let x = add_outer by n ts s in
    let done : plain_sum c.reduce.new.self ≡ reduced m x =
    c.reduce.ensures ∙ (λ i. reduced m (record { constant = k.is i; totals = totals i; terms = plain_likes c.args.sum.now.likes.items })) ∙ (λ i. reduced m (add_outer (sym back i) n ts s)) in
    record {
      value = ap (λ y. reduced m (add_all_open m by (plain_remainders items) y)) done
          ∙ all_open_after m by (plain_remainders items) (reduced m x) x some (reduced_twice m x some)
          ∙ (λ i. reduced m (add_all_open m by (plain_remainders (c.deref-term-items.ensures.value i)) x))
          ∙ ap (λ f. reduced m (add_open m by f s)) c.form.view_is;
      reduced = held_reduced m x (plain_sum c.reduce.new.self) some c.requires.few done (held_outer 1 by n ts s c.requires.sum.gathered);
    }

pub add_open-loop-term-preserved : goal.add_open-loop-term-preserved
add_open-loop-term-preserved t c =
    let m = c.args.by in
    let some = c.requires.some in
    let by = to_z w128 (of_z w128 c.args.coefficient) in
    let back = to_z-of_z w128 c.args.coefficient c.ranges.coefficient in
    let i = c.loop-term.term-index in
    let it = c.term-item.result in
    let items = c.deref-term-items.result.now in
    let s = plain_sum c.loop-term.sum in
    let h = (remainder_item c.form.inside.remainders.items items i it c.form.invariant.form.2 c.deref-term-items.ensures.value c.term-item.is c.loop-term-test.true).0 in
    let small : unsigned_abs it.coefficient ≤ 2 ^ 31 = (let l : unsigned_abs it.coefficient < 2 ^ 31 = h in omega arith) in
    let p = small_product c.args.coefficient it.coefficient greatest_divisor (2 ^ 31) (2 ^ 43) c.requires.coefficient small (lit≤ tt) in
    let fp = fits_128 (c.args.coefficient *ℤ it.coefficient) (omega arith) in
    let held = ap (λ z. to_z w128 (of_z w128 z)) (λ j. back j *ℤ held_128 it.coefficient h j) ∙ to_z-of_z w128 (c.args.coefficient *ℤ it.coefficient) fp ∙ (λ j. sym back j *ℤ it.coefficient) in
    let done = c.in_ok-add_term_open.ensures {u = tt} in
    let next = add_term_open m (by *ℤ it.coefficient) it.inner it.divisor s in
    let rest = plain_remainders (drop (i + 1) items) in
    let here : plain_remainders (drop i items) ≡ remainder it.coefficient it.inner it.divisor rest =
    remainders_drop items i it c.loop-term-test.true ∙ ap (λ (x : RemTerm). remainder x.coefficient x.inner x.divisor rest) (sym c.term-item.is) in
    record {
      value = ap (λ x. reduced m (add_all_open m by rest x)) (done.sum ∙ ap (λ z. reduced m (add_term_open m z it.inner it.divisor s)) held)
          ∙ all_open_after m by rest (reduced m next) next some (reduced_twice m next some)
          ∙ sym (ap (λ rs. reduced m (add_all_open m by rs s)) here) ∙ c.loop-term.invariant.value;
      reduced = done.reduced;
    }

pub add_open-returns-clause-sum : goal.add_open-returns-clause-sum
add_open-returns-clause-sum t c =
    let m = c.args.by in
    let by = to_z w128 (of_z w128 c.args.coefficient) in
    let back = to_z-of_z w128 c.args.coefficient c.ranges.coefficient in
    let past = drop_all c.loop-term.term-index c.deref-term-items.result.now c.loop-term-test.false in
    sym c.loop-term.invariant.reduced.same
    ∙ ap (λ ts. reduced m (add_all_open m by (plain_remainders ts) (plain_sum c.loop-term.sum))) (sym past) ∙ c.loop-term.invariant.value
    ∙ ap (λ z. reduced m (add_open m z c.args.form.now (plain_sum c.args.sum.now))) back

pub add_term_open-returns-then-divisor-by-eq0-clause-sum : goal.add_term_open-returns-then-divisor-by-eq0-clause-sum
add_term_open-returns-then-divisor-by-eq0-clause-sum t c =
    let m = c.args.by in
    let s = plain_sum c.args.sum.now in
    let fr : FitsSigned w128 c.rem-coefficient.result = search rules in
    let by : to_z w128 m ≡ pos m = omega (arith, ints) in
    let value : to_z w128 (of_z w128 c.rem-coefficient.result) ≡ modulo c.args.coefficient m =
    to_z-of_z w128 c.rem-coefficient.result fr ∙ c.rem-coefficient.ensures.value ∙ (λ j. int_rem_euclid (to_z-of_z w128 c.args.coefficient c.ranges.coefficient j) (by j)) in
    on_ok_weaker c.add_dividend.result
    (λ e. e ∙ opens m c.args.coefficient (to_z w128 (of_z w128 c.rem-coefficient.result)) c.args.inner.now c.args.divisor s c.requires.some value c.requires.sum.same c.if-divisor-by-eq0.true)
    c.add_dividend.ensures.sum

pub add_term_open-returns-clause-sum : goal.add_term_open-returns-clause-sum
add_term_open-returns-clause-sum t c =
    let m = c.args.by in
    let s = plain_sum c.args.sum.now in
    let fr : FitsSigned w128 c.rem-coefficient.result = search rules in
    let by : to_z w128 m ≡ pos m = omega (arith, ints) in
    let value : to_z w128 (of_z w128 c.rem-coefficient.result) ≡ modulo c.args.coefficient m =
    to_z-of_z w128 c.rem-coefficient.result fr ∙ c.rem-coefficient.ensures.value ∙ (λ j. int_rem_euclid (to_z-of_z w128 c.args.coefficient c.ranges.coefficient j) (by j)) in
    c.reduce.ensures
    ∙ ap (λ rs. reduced m (record { constant = s.constant; totals = s.totals; terms = rs })) (c.in_ok-add_like.ensures {u = tt})
    ∙ stays m c.args.coefficient (to_z w128 (of_z w128 c.rem-coefficient.result)) c.args.inner.now c.args.divisor s c.requires.some value c.requires.sum.same c.if-divisor-by-eq0.false

pub add_term_open-returns-clause-reduced : goal.add_term_open-returns-clause-reduced
add_term_open-returns-clause-reduced t c =
    let m = c.args.by in
    let s = plain_sum c.args.sum.now in
    let fr : FitsSigned w128 c.rem-coefficient.result = search rules in
    let by : to_z w128 m ≡ pos m = omega (arith, ints) in
    let d = to_z w128 (of_z w128 c.rem-coefficient.result) in
    let value : d ≡ modulo c.args.coefficient m =
    to_z-of_z w128 c.rem-coefficient.result fr ∙ c.rem-coefficient.ensures.value ∙ (λ j. int_rem_euclid (to_z-of_z w128 c.args.coefficient c.ranges.coefficient j) (by j)) in
    let within : IsWithin 1 d = subst (IsWithin 1) (sym value) (small_within c.args.coefficient m c.requires.some c.requires.few) in
    held_reduced m (add_term d c.args.inner.now c.args.divisor s) (plain_sum c.reduce.new.self) c.requires.some c.requires.few
    (c.reduce.ensures ∙ ap (λ rs. reduced m (record { constant = s.constant; totals = s.totals; terms = rs })) (c.in_ok-add_like.ensures {u = tt}))
    (held_term 1 d c.args.inner.now c.args.divisor s within c.requires.divisor_some c.requires.divisor_few c.requires.inner c.requires.sum.gathered)

pub add_open-add_term_open-requires : goal.add_open-add_term_open-requires
add_open-add_term_open-requires t c =
    let h = remainder_item c.form.inside.remainders.items c.deref-term-items.result.now c.loop-term.term-index c.term-item.result c.form.invariant.form.2 c.deref-term-items.ensures.value c.term-item.is c.loop-term-test.true in
    let it = c.term-item.result in
    let items = c.deref-term-items.result.now in
    let low : height it.inner ≤ heights (plain_remainders items) = subst (λ (x : RemTerm). height x.inner ≤ heights (plain_remainders items)) (sym c.term-item.is) (inner_lower items c.loop-term.term-index it c.loop-term-test.true) in
    let same = ap (λ ts. heights (plain_remainders ts)) c.deref-term-items.ensures.value in
    let view = ap height c.form.view_is in
    let falls = c.decreases in
    let inner = inner_item c.form.inside.remainders.items items c.loop-term.term-index it c.form.invariant.inner c.deref-term-items.ensures.value c.term-item.is c.loop-term-test.true in
    (let less : 3 * height it.inner + 2 < t = omega arith in less, (c.requires.some, (c.requires.few, (h.1, (h.2, (inner, c.loop-term.invariant.reduced))))))

pub add_dividend-returns-then-left-eq0-clause-sum : goal.add_dividend-returns-then-left-eq0-clause-sum
add_dividend-returns-then-left-eq0-clause-sum t c =
    let m = c.args.by in
    let s = plain_sum c.args.sum.now in
    let back = to_z-of_z w128 c.args.coefficient c.ranges.coefficient in
    let under = seen_base c.args.inner.now c.inner.inside.base c.inner.inside.divisors.items c.inner.invariant.more c.inner.view_is in
    let all = divisors_of c.args.inner.now in
    on_ok_weaker c.add_open.result
    (λ e. e ∙ (λ i. reduced m (add_open m (back i) (sym under i) s))
    ∙ ap (λ n. reduced m (add_open m c.args.coefficient (nest_front n (base_of c.args.inner.now) all) s)) (sym c.if-left-eq0.true)
    ∙ ap (reduced m) (c.count_left-left.ensures.same c.args.coefficient s))
    c.add_open.ensures.sum

pub add_dividend-index-requires : goal.add_dividend-index-requires
add_dividend-index-requires t c =
    let few = c.count_left-left.ensures.few in
    let n = c.if-left-eq0.false in
    let l = ap length (seen_divisors c.args.inner.now c.inner.inside.base c.inner.inside.divisors.items c.inner.invariant.more c.inner.view_is) in
    omega arith

pub add_dividend-add_term_open-requires : goal.add_dividend-add_term_open-requires
add_dividend-add_term_open-requires t c =
    let i = c.count_left-left.result - 1 in
    let inner = c.args.inner.now in
    let under = base_of inner in
    let all = divisors_of inner in
    let is = seen_divisors inner c.inner.inside.base c.inner.inside.divisors.items c.inner.invariant.more c.inner.view_is in
    let whole : nest under all ≡ inner = (λ j. nest (seen_base inner c.inner.inside.base c.inner.inside.divisors.items c.inner.invariant.more c.inner.view_is j) (is j)) ∙ c.inner.view_is in
    let front = c.in_ok-front.ensures {u = tt} in
    let few = c.count_left-left.ensures.few in
    let n = c.if-left-eq0.false in
    let l = ap length is in
    let low : i < length all = omega arith in
    let lower = front_lower i under all low in
    let high = ap height whole in
    let same = ap height front in
    let falls = c.decreases in
    let k = c.index.result.now in
    let range = subst (λ x. (0 < x) × (x ≤ greatest_divisor)) (sym c.index.ensures) (All-get_or (λ x. (0 < x) × (x ≤ greatest_divisor)) c.inner.inside.divisors.items i k (omega arith) c.inner.invariant.divisors) in
    (let less : 3 * height c.in_ok-front.front + 2 < t = omega arith in less, (c.requires.some, (c.requires.few, (range.0, (range.1, (subst IsInner (sym front) (inner_front i under all (subst IsInner (sym whole) c.requires.inner)), c.requires.sum))))))

pub add_dividend-returns-clause-sum : goal.add_dividend-returns-clause-sum
add_dividend-returns-clause-sum t c =
    let m = c.args.by in
    let s = plain_sum c.args.sum.now in
    let z = c.args.coefficient in
    let back = to_z-of_z w128 z c.ranges.coefficient in
    let i = c.count_left-left.result - 1 in
    let under = base_of c.args.inner.now in
    let all = divisors_of c.args.inner.now in
    let is = seen_divisors c.args.inner.now c.inner.inside.base c.inner.inside.divisors.items c.inner.invariant.more c.inner.view_is in
    let front = c.in_ok-front.ensures {u = tt} in
    let few = c.count_left-left.ensures.few in
    let n = c.if-left-eq0.false in
    let k = c.index.result.now in
    let here : k ≡ get_or all i k = c.index.ensures ∙ ap (λ xs. get_or xs i k) (sym is) in
    let next = seen_next i under all k (omega arith) in
    let e : i + 1 ≡ c.count_left-left.result = omega arith in
    on_ok_weaker c.add_term_open.result
    (λ p. p ∙ (λ j. reduced m (add_term_open m (back j) (front j) k s)) ∙ ap (reduced m) (sym (open_bare m z (nest_front i under all) k s)
    ∙ (λ j. add_open m z (bare (nest_front i under all) (here j)) s) ∙ ap (λ f. add_open m z f s) (sym next ∙ ap (λ x. nest_front x under all) e) ∙ c.count_left-left.ensures.same z s))
    c.add_term_open.ensures.sum
