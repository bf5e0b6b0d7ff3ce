use Rattle.std.proofs.Common.{◌≡◌, ◌+◌, [], ◌∷◌, ◌++◌, sym, ap, ◌∙◌, subst}
use Rattle.std.specs.List.{list_any}
use Rattle.lin_solve.specs.Kept.{is_same}
use Rattle.lin_solve.specs.contracts.compare.ComparePartialEq.TheImpl.{ghosts as compares}
use Rattle.lin_solve.proofs.Alike.{laws_of_equality}
use Rattle.lin_solve.proofs.Once.{KeepsOf, apart, none_kept, kept_there, kept_more, all_kept}
use Rattle.lin_solve.proofs.repeats.keep.Goals.{then-needs_side-sided+then-not-has+in_ok-copy_literal+in_ok-push, else-needs_side-sided, else-needs_side-sided-via-then-needs_side-sided+else-not-has, else-needs_side-sided-via-else-needs_side-sided}
use Rattle.lin_solve.proofs.repeats.keep.Goals as goal

pub loop-literal-init : goal.loop-literal-init
loop-literal-init c = none_kept compares.eq laws_of_equality c.args.literals.now _ c.args.sided

pub returns : goal.returns
returns c = all_kept compares.eq laws_of_equality c.args.literals.now _ c.args.sided c.loop-literal.literal-index _ c.loop-literal-test.false c.loop-literal.invariant

pub loop-literal-preserved : goal.loop-literal-preserved
loop-literal-preserved c =
    let E = compares.eq in
    let laws = laws_of_equality in
    let ls = c.args.literals.now in
    let i = c.loop-literal.literal-index in
    let l = c.literal-item.result in
    let ks = c.loop-literal.kept.items in
    let sided = c.args.sided in
    let old = c.args.kept.now.items in
    let low = c.loop-literal-test.true in
    elim c.if-needs_side-sided.branch [
      | then-needs_side-sided+then-not-has+in_ok-copy_literal+in_ok-push w ↦
          let has : w.has.result ≡ list_any (is_same E l) ks = w.has.ensures ∙ ap (λ ms. list_any (is_same E l) ms) w.deref.ensures.value in
          let is = ap (λ v. v.items) w.kept-is ∙ w.in_ok-push.ensures.items ∙ ap (λ x. ks ++ x ∷ []) w.in_ok-copy_literal.ensures in
          subst (KeepsOf E ls sided old (i + 1)) (sym is) (kept_more E laws ls old sided i l low c.literal-item.is ks c.loop-literal.invariant (sym has ∙ w.if-not-has.true))
      | else-needs_side-sided w ↦
          subst (KeepsOf E ls sided old (i + 1)) (sym (ap (λ v. v.items) w.kept-is)) (elim w.else-needs_side-sided.branch [
            | else-needs_side-sided-via-then-needs_side-sided+else-not-has v ↦
                let has : v.has.result ≡ list_any (is_same E l) ks = v.has.ensures ∙ ap (λ ms. list_any (is_same E l) ms) v.deref.ensures.value in
                kept_there E laws ls old sided i l low c.literal-item.is ks c.loop-literal.invariant (λ e. sym has ∙ v.if-not-has.false)
            | else-needs_side-sided-via-else-needs_side-sided v ↦
                kept_there E laws ls old sided i l low c.literal-item.is ks c.loop-literal.invariant (λ e. absurd (apart c.needs_side.result sided v.if-needs_side-sided.false (c.needs_side.ensures ∙ e)))
          ])
    ]
