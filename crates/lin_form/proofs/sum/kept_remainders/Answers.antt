use Rattle.std.proofs.Common.{List, ◌≡◌, ◌≢◌, ap, sym, ◌∙◌, subst, arith, rules, length, to_z, of_z, [], ◌∷◌, refl}
use Rattle.std.specs.Prelude.{pos, FitsSigned, ℤ}
use Rattle.std.specs.Int.{w64, w128}
use Rattle.std.specs.Vec.Iter.{into_iter_items}
use Rattle.std.proofs.lemmas.Int.{to_z-of_z}
use Rattle.std.proofs.lemmas.Result.{err_from_is_err_and}
use Rattle.model_form.specs.Sums.{without_zeros}
use Rattle.model_form.specs.Ranges.{IsOfRemainders, IsCoefficient, AreRemainders}
use Rattle.lin_form.specs.Terms.{plain_remainders}
use Rattle.lin_form.specs.Gathered.{plain_likes}
use Rattle.lin_form.specs.declared.form.RemTerm.{RemTerm}
use Rattle.lin_form.specs.declared.stop.FormStop.TheVariants.{Range}
use Rattle.lin_form.proofs.Joined.{joined, joined-none, without_zeros_are, remainders_range_push}
use Rattle.lin_form.proofs.Kept.{stops_by, likes_out, likes_push, held_number, held_range}
use Rattle.lin_form.proofs.sum.kept_remainders.Goals as goal

pub returns-in_err-coefficient : goal.returns-in_err-coefficient
returns-in_err-coefficient c =
    let p = err_from_is_err_and c.from_residual.result c.from_residual.ensures.1 in
    let k = c.in_err-coefficient.ensures {u = tt} in
    let f : FitsSigned w128 c.in-Some.like.coefficient = search rules in
    let number = to_z-of_z w128 c.in-Some.like.coefficient f in
    let steps = (c.in-Some.ensures {u = tt}).steps.0 in
    let n : c.in-Some.like.coefficient ≢ pos 0 = λ e. c.if-like-eq0.false (ap (of_z w128) e) in
    let whole = without_zeros (plain_likes c.args.likes.items) in
    let is = likes_out (plain_remainders c.loop-like.kept.items) whole c.in-Some.like (into_iter_items c.next.new.self) n (subst (λ xs. joined (plain_remainders c.loop-like.kept.items) (without_zeros (plain_likes xs)) ≡ whole) steps c.loop-like.invariant.value) in
    rw (p.1, p.2) (stops_by (λ n. IsOfRemainders n (without_zeros (plain_likes c.args.likes.items)) × (IsCoefficient n → ⊥)) c.in_err-coefficient.field-0.0 c.in-Some.like.coefficient (k.0 ∙ ap Range number) (is, λ h. k.1 (subst IsCoefficient (sym number) h)))

pub loop-like-preserved : goal.loop-like-preserved
loop-like-preserved c =
    let f : FitsSigned w128 c.in-Some.like.coefficient = search rules in
    let number = to_z-of_z w128 c.in-Some.like.coefficient f in
    let k = c.in_ok-coefficient.ensures {u = tt} in
    let items = (c.in_ok-push.ensures {u = tt}).items in
    let steps = (c.in-Some.ensures {u = tt}).steps.0 in
    let n : c.in-Some.like.coefficient ≢ pos 0 = λ e. c.if-like-eq0.false (ap (of_z w128) e) in
    let whole = without_zeros (plain_likes c.args.likes.items) in
    let held = k.0 ∙ number in
    let r : IsCoefficient c.in-Some.like.coefficient = subst IsCoefficient number k.1 in
    let t : RemTerm = record { coefficient = to_z w64 (of_z w64 c.in_ok-coefficient.field-0); inner = c.in-Some.like.inner; divisor = c.in-Some.like.divisor } in
    let before = subst (λ xs. joined (plain_remainders c.loop-like.kept.items) (without_zeros (plain_likes xs)) ≡ whole) steps c.loop-like.invariant.value in
    record {
      value = ap (λ ts. joined (plain_remainders ts) (without_zeros (plain_likes (into_iter_items c.next.new.self)))) items
          ∙ likes_push c.loop-like.kept.items t whole c.in-Some.like (into_iter_items c.next.new.self) n (held_number c.in-Some.like.coefficient c.in_ok-coefficient.field-0 held r) refl refl before;
      range = subst (λ ts. (n : ℤ) → IsOfRemainders n (plain_remainders ts) → IsCoefficient n) (sym items) (remainders_range_push c.loop-like.kept.items t c.loop-like.invariant.range (held_range c.in-Some.like.coefficient c.in_ok-coefficient.field-0 held r));
    }

pub returns : goal.returns
returns c =
    let steps = (c.in-None.ensures {u = tt}).steps.0 in
    let l : length (into_iter_items c.loop-like.like-iterator) ≡ 0 = omega arith in
    let none = nothing (into_iter_items c.loop-like.like-iterator) l in
    let e : plain_remainders c.loop-like.kept.items ≡ without_zeros (plain_likes c.args.likes.items) =
    sym (joined-none (plain_remainders c.loop-like.kept.items)) ∙ ap (λ xs. joined (plain_remainders c.loop-like.kept.items) (without_zeros (plain_likes xs))) (sym none) ∙ c.loop-like.invariant.value in
    (e, subst AreRemainders (sym e) (without_zeros_are c.requires.0 (plain_likes c.args.likes.items) c.requires.1 (λ n i. c.loop-like.invariant.range n (subst (IsOfRemainders n) (sym e) i))))
  where
    nothing : {A : Type 0} (xs : List A) → length xs ≡ 0 → xs ≡ []
    nothing [] e = refl
    nothing (x ∷ xs) e = absurd (omega arith)
