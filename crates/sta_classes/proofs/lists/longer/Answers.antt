use Rattle.std.proofs.Common.{ℕ, ◌≡◌, ◌∷◌, ◌++◌, [], get_or, true≢false, inl, inr, sym, ap, refl, subst, ◌∙◌, arith, Contains}
use Rattle.std.proofs.lemmas.Result.{IfOk-from_err}
use Rattle.model_sta.proofs.Reached.{same_default}
use Rattle.sta_classes.specs.Grow.{Grown, Some}
use Rattle.sta_classes.specs.Lists.{MayStand}
use Rattle.sta_classes.specs.Rows.{lists_of}
use Rattle.sta_theory.proofs.Lists.{map_member, in_map}
use Rattle.sta_classes.proofs.Rows.{lists_push}
use Rattle.sta_classes.proofs.Grown.{nowhere, grown_none, grown_push, grown_same, grown_first, grown_more, grown_all}
use Rattle.sta_classes.proofs.lists.longer.Goals as goal
use Rattle.sta_classes.proofs.lists.longer.Goals.{then-may_stand+in_ok-longer+in_ok-push+in_ok-push-2, else-may_stand}

pub firsts-init : goal.firsts-init
firsts-init c = grown_first (λ x ks. MayStand c.args.place c.args.class c.args.j x × (c.list-item.result.items ++ x ∷ [] ≡ ks)) c.args.firsts.now (lists_of c.lists.made.items) (lists_of c.lists.made.items) refl

pub firsts-preserved : goal.firsts-preserved
firsts-preserved c = elim c.if-may_stand.branch [
  | then-may_stand+in_ok-longer+in_ok-push+in_ok-push-2 w ↦
      grown_more (λ x ks. MayStand c.args.place c.args.class c.args.j x × (c.list-item.result.items ++ x ∷ [] ≡ ks)) c.args.firsts.now (lists_of c.lists.made.items) (lists_of c.firsts.made.items) (lists_of c.if-may_stand.made.items) c.firsts.first-index (get_or c.args.firsts.now c.firsts.first-index 0) c.firsts-test.true
      (same_default c.args.firsts.now c.firsts.first-index 0 _ c.firsts-test.true) c.firsts.invariant
      (subst (λ l. Grown (lists_of c.firsts.made.items) l (λ ks. MayStand c.args.place c.args.class c.args.j (get_or c.args.firsts.now c.firsts.first-index 0) × (c.list-item.result.items ++ get_or c.args.firsts.now c.firsts.first-index 0 ∷ [] ≡ ks)))
      (sym (ap (λ v. lists_of v.items) w.made-is ∙ ap lists_of w.in_ok-push-2.ensures.items ∙ lists_push c.firsts.made.items w.push.new.self ∙ ap (λ l. lists_of c.firsts.made.items ++ l ∷ []) (w.in_ok-push.ensures.items ∙ ap (λ l. l ++ get_or c.args.firsts.now c.firsts.first-index 0 ∷ []) (w.in_ok-longer.ensures.items ∙ w.deref.ensures.value))))
      (grown_same (lists_of c.firsts.made.items) (lists_of c.firsts.made.items ++ (c.list-item.result.items ++ get_or c.args.firsts.now c.firsts.first-index 0 ∷ []) ∷ []) (λ p. (c.list-item.result.items ++ get_or c.args.firsts.now c.firsts.first-index 0 ∷ []) ≡ p) (λ ks. MayStand c.args.place c.args.class c.args.j (get_or c.args.firsts.now c.firsts.first-index 0) × (c.list-item.result.items ++ get_or c.args.firsts.now c.firsts.first-index 0 ∷ [] ≡ ks)) (grown_push (lists_of c.firsts.made.items) (c.list-item.result.items ++ get_or c.args.firsts.now c.firsts.first-index 0 ∷ [])) (λ p e. (c.may_stand.ensures.0 w.if-may_stand.true, e)) (λ p h. h.1)))
  | else-may_stand w ↦
      grown_more (λ x ks. MayStand c.args.place c.args.class c.args.j x × (c.list-item.result.items ++ x ∷ [] ≡ ks)) c.args.firsts.now (lists_of c.lists.made.items) (lists_of c.firsts.made.items) (lists_of c.if-may_stand.made.items) c.firsts.first-index (get_or c.args.firsts.now c.firsts.first-index 0) c.firsts-test.true
      (same_default c.args.firsts.now c.firsts.first-index 0 _ c.firsts-test.true) c.firsts.invariant
      (subst (λ l. Grown (lists_of c.firsts.made.items) l (λ ks. MayStand c.args.place c.args.class c.args.j (get_or c.args.firsts.now c.firsts.first-index 0) × (c.list-item.result.items ++ get_or c.args.firsts.now c.firsts.first-index 0 ∷ [] ≡ ks))) (sym (ap (λ v. lists_of v.items) w.made-is))
      (grown_none (lists_of c.firsts.made.items) (λ ks. MayStand c.args.place c.args.class c.args.j (get_or c.args.firsts.now c.firsts.first-index 0) × (c.list-item.result.items ++ get_or c.args.firsts.now c.firsts.first-index 0 ∷ [] ≡ ks)) (λ p h. true≢false (sym (c.may_stand.ensures.1 h.0) ∙ w.if-may_stand.false))))
]

pub lists-preserved : goal.lists-preserved
lists-preserved c =
    grown_more (λ v ks. (k : ℕ) × (Contains c.args.firsts.now k × MayStand c.args.place c.args.class c.args.j k) × (v.items ++ k ∷ [] ≡ ks)) c.args.lists.now [] (lists_of c.lists.made.items) (lists_of c.firsts.made.items) c.lists.list-index c.list-item.result c.lists-test.true c.list-item.is c.lists.invariant
    (grown_same (lists_of c.lists.made.items) (lists_of c.firsts.made.items) (Some (λ x ks. MayStand c.args.place c.args.class c.args.j x × (c.list-item.result.items ++ x ∷ [] ≡ ks)) c.args.firsts.now) (λ ks. (k : ℕ) × (Contains c.args.firsts.now k × MayStand c.args.place c.args.class c.args.j k) × (c.list-item.result.items ++ k ∷ [] ≡ ks))
    (grown_all (λ x ks. MayStand c.args.place c.args.class c.args.j x × (c.list-item.result.items ++ x ∷ [] ≡ ks)) c.args.firsts.now (lists_of c.lists.made.items) (lists_of c.firsts.made.items) c.firsts.first-index (omega (arith, c.firsts-test.false)) c.firsts.invariant)
    (λ p h. (let (x, inside, (may, e)) = h in (x, (inside, may), e))) (λ p h. (let (x, (inside, may), e) = h in (x, inside, (may, e)))))

pub returns : goal.returns
returns c ks =
    let h = grown_all (λ v ks. (k : ℕ) × (Contains c.args.firsts.now k × MayStand c.args.place c.args.class c.args.j k) × (v.items ++ k ∷ [] ≡ ks)) c.args.lists.now [] (lists_of c.lists.made.items) c.lists.list-index (omega (arith, c.lists-test.false)) c.lists.invariant in (
      (λ at. elim ((h ks).0 at) [
        | inl none ↦ absurd (nowhere ks none)
        | inr w ↦ (let (v, there, (k, chosen, e)) = w in (v.items, in_map (λ z. z.items) c.args.lists.now v there, k, chosen, e))
      ]),
      (λ w.
          let (front, there, k, chosen, e) = w in
          let (v, in_lists, is) = map_member (λ z. z.items) c.args.lists.now front there in
          (h ks).1 (inr (v, in_lists, (k, chosen, ap (λ l. l ++ k ∷ []) is ∙ e)))),
    )

pub returns-in_err-longer : goal.returns-in_err-longer
returns-in_err-longer c = IfOk-from_err c.from_residual.result _ c.from_residual.ensures.0

pub returns-in_err-push : goal.returns-in_err-push
returns-in_err-push c = IfOk-from_err c.from_residual-in_err-push.result _ c.from_residual-in_err-push.ensures.0

pub returns-in_err-push-2 : goal.returns-in_err-push-2
returns-in_err-push-2 c = IfOk-from_err c.from_residual-in_err-push-2.result _ c.from_residual-in_err-push-2.ensures.0
