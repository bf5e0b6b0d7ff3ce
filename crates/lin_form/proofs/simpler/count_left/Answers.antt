use Rattle.std.proofs.Common.{◌≡◌, ◌≤◌, ◌%◌, ◌+◌, ◌-◌, ap, sym, ◌∙◌, arith, length, get_or}
use Rattle.model_form.specs.Simpler.{add_open}
use Rattle.lin_form.specs.Nest.{bare, nest_front, base_of, divisors_of}
use Rattle.lin_form.proofs.Nests.{seen_divisors, seen_whole, seen_next, gives_way}
use Rattle.lin_form.proofs.simpler.count_left.Goals as goal

pub loop-i-init : goal.loop-i-init
loop-i-init c =
    let is = seen_divisors c.args.inner.now c.inner.inside.base c.inner.inside.divisors.items c.inner.invariant.more c.inner.view_is in
    let few : c.len-i.result ≡ length (divisors_of c.args.inner.now) = (let n = c.len-i.ensures in let l = ap length is in omega arith) in
    record {
      few = omega arith;
      same = λ x s. ap (λ f. add_open c.args.by x f s) (seen_whole c.len-i.result c.args.inner.now c.inner.inside.base c.inner.inside.divisors.items (divisors_of c.args.inner.now) c.inner.invariant.more c.inner.view_is is (omega arith));
    }

pub loop-i-preserved : goal.loop-i-preserved
loop-i-preserved c =
    let i = c.loop-i.i - 1 in
    let under = base_of c.args.inner.now in
    let all = divisors_of c.args.inner.now in
    let k = c.index.result.now in
    let is = seen_divisors c.args.inner.now c.inner.inside.base c.inner.inside.divisors.items c.inner.invariant.more c.inner.view_is in
    let here : k ≡ get_or all i k = c.index.ensures ∙ ap (λ xs. get_or xs i k) (sym is) in
    let some = c.loop-i-test.true in
    let low = c.loop-i.invariant.few in
    let next = seen_next i under all k (omega arith) in
    let e : i + 1 ≡ c.loop-i.i = omega arith in
    record {
      few = omega arith;
      same = λ x s.
          gives_way c.args.by x (nest_front i under all) k s c.if-index-by-ne0.false
          ∙ (λ j. add_open c.args.by x (bare (nest_front i under all) (here j)) s)
          ∙ ap (λ f. add_open c.args.by x f s) (sym next ∙ ap (λ n. nest_front n under all) e) ∙ c.loop-i.invariant.same x s;
    }
