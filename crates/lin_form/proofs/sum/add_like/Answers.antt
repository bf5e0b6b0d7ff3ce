use Rattle.std.proofs.Common.{◌++◌, ◌∷◌, [], ◌≡◌, ap, sym, ◌∙◌, subst, get_or, length, ℕ, ◌<◌, ◌≤◌, ◌+◌, ◌^◌}
use Rattle.std.proofs.Math.ListN.{set}
use Rattle.std.specs.Prelude.{false, true}
use Rattle.std.specs.Int.{w128}
use Rattle.std.proofs.lemmas.Int.{to_z-of_z}
use Rattle.model_form.specs.Sums.{is_like}
use Rattle.lin_form.specs.Within.{IsWithin}
use Rattle.lin_form.specs.Gathered.{plain_likes}
use Rattle.lin_form.specs.declared.sum.Like.{Like}
use Rattle.lin_form.proofs.Likes.{has_room, likes_at, like_found, like_new, more_of}
use Rattle.lin_form.proofs.sum.add_like.Goals as goal

pub overflow_add-index_mut : goal.overflow_add-index_mut
overflow_add-index_mut c =
    let h = (c.in-Some.ensures {u = tt}).here in
    let it = c.index_mut.result.now in
    let l : c.in-Some.i < length c.args.likes.now.items = subst (λ ts. c.in-Some.i < length ts) c.deref.ensures.value h.0 in
    let m : c.requires.small.0 ≤ 2 ^ 64 + 17 = c.requires.small.1 in
    let w = likes_at c.requires.small.0 c.args.likes.now.items c.in-Some.i it c.requires.small.2 l in
    (has_room c.requires.small.0 it.coefficient c.args.coefficient m (subst (IsWithin c.requires.small.0) (sym (ap (λ (x : Like). x.coefficient) c.index_mut.ensures.value)) w) c.requires.coefficient).fits

pub returns-in-Some : goal.returns-in-Some
returns-in-Some c =
    let h = (c.in-Some.ensures {u = tt}).here in
    let b = (c.in-Some.ensures {u = tt}).before in
    let it = c.index_mut.result.now in
    let ts = c.args.likes.now.items in
    let l : c.in-Some.i < length ts = subst (λ ts. c.in-Some.i < length ts) c.deref.ensures.value h.0 in
    let m : c.requires.small.0 ≤ 2 ^ 64 + 17 = c.requires.small.1 in
    let v : it ≡ get_or ts c.in-Some.i it = c.index_mut.ensures.value in
    let w = likes_at c.requires.small.0 ts c.in-Some.i it c.requires.small.2 l in
    let r = has_room c.requires.small.0 it.coefficient c.args.coefficient m (subst (IsWithin c.requires.small.0) (sym (ap (λ (x : Like). x.coefficient) v)) w) c.requires.coefficient in
    let before = subst (λ ts. (k : ℕ) (e : Like) → k < c.in-Some.i → is_like (get_or ts k e).inner (get_or ts k e).divisor c.args.inner.now c.args.divisor ≡ false) c.deref.ensures.value b in
    let here = subst (λ ts. is_like (get_or ts c.in-Some.i it).inner (get_or ts c.in-Some.i it).divisor c.args.inner.now c.args.divisor ≡ true) c.deref.ensures.value (h.1 it) in
    (λ j. plain_likes (set ts c.in-Some.i (record { coefficient = r.is j; inner = it.inner; divisor = it.divisor })))
    ∙ ap (λ (x : Like). plain_likes (set ts c.in-Some.i (more_of x c.args.coefficient))) v
    ∙ like_found ts c.in-Some.i c.args.coefficient c.args.inner.now c.args.divisor it l before here

pub returns : goal.returns
returns c =
    let b = (c.in_default.ensures {u = tt}).before in
    let items = (c.in_ok-push.ensures {u = tt}).items in
    let ts = c.args.likes.now.items in
    let number = to_z-of_z w128 c.args.coefficient c.ranges.coefficient in
    let copied = c.in_ok-inner.ensures {u = tt} in
    let t : Like = record { coefficient = c.args.coefficient; inner = c.args.inner.now; divisor = c.args.divisor } in
    let before = subst (λ ts. (k : ℕ) (e : Like) → k < length ts → is_like (get_or ts k e).inner (get_or ts k e).divisor c.args.inner.now c.args.divisor ≡ false) c.deref.ensures.value b in
    ap plain_likes items ∙ (λ j. plain_likes (ts ++ (record { coefficient = number j; inner = copied j; divisor = c.args.divisor }) ∷ [])) ∙ like_new ts t before
