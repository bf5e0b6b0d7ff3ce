use Rattle.std.proofs.Common.{◌≡◌, ◌<◌, ap, sym, ◌∙◌, arith, rules, add-one, get_or, length, to_z, of_z}
use Rattle.std.proofs.Math.ListN.{set}
use Rattle.std.specs.Prelude.{pos, FitsSigned}
use Rattle.std.specs.Int.{w128, int_rem_euclid}
use Rattle.std.proofs.lemmas.Int.{ints, to_z-of_z}
use Rattle.model_form.specs.Form.{modulo}
use Rattle.lin_form.specs.declared.sum.Like.{Like}
use Rattle.lin_form.specs.Gathered.{plain_likes}
use Rattle.lin_form.proofs.Members.{get_or-any}
use Rattle.lin_form.proofs.Reducing.{front, front_step, front_all, length-front, reduced_like, likes_reduced}
use Rattle.lin_form.proofs.simpler.reduce_likes.Goals as goal

pub loop-i-preserved : goal.loop-i-preserved
loop-i-preserved c =
    let i = c.loop-i.i in
    let m = c.args.by in
    let it = c.index_mut.result.now in
    let x = c.index.result.now in
    let g = c.loop-i.invariant in
    let n = c.len-i-end.ensures in
    let low : i < length c.args.likes.now.items = omega (arith, c.loop-i-test.true) in
    let here : i < length c.loop-i.likes.items = (let e = ap length g ∙ length-front (reduced_like m) i c.args.likes.now.items in omega arith) in
    let same : x ≡ it = c.index.ensures ∙ get_or-any c.loop-i.likes.items i x it here ∙ sym c.index_mut.ensures.value in
    let ft : FitsSigned w128 x.coefficient = search rules in
    let fr : FitsSigned w128 c.rem.result = search rules in
    let by : to_z w128 m ≡ pos m = omega (arith, ints) in
    let value : to_z w128 (of_z w128 c.rem.result) ≡ modulo it.coefficient m =
    to_z-of_z w128 c.rem.result fr ∙ c.rem.ensures.value ∙ (λ j. int_rem_euclid (to_z-of_z w128 x.coefficient ft j) (by j)) ∙ ap (λ (y : Like). modulo y.coefficient m) same in
    (λ j. set c.loop-i.likes.items i (record { coefficient = value j; inner = it.inner; divisor = it.divisor }))
    ∙ ap (λ (y : Like). set c.loop-i.likes.items i (reduced_like m y)) c.index_mut.ensures.value
    ∙ (λ j. set (g j) i (reduced_like m (get_or (g j) i it)))
    ∙ front_step (reduced_like m) i c.args.likes.now.items it low
    ∙ ap (λ n. front (reduced_like m) n c.args.likes.now.items) (sym (add-one i))

pub returns : goal.returns
returns c =
    ap plain_likes (c.loop-i.invariant ∙ front_all (reduced_like c.args.by) c.loop-i.i c.args.likes.now.items (let h = c.loop-i-test.false in let n = c.len-i-end.ensures in omega arith))
    ∙ likes_reduced c.args.by c.args.likes.now.items
