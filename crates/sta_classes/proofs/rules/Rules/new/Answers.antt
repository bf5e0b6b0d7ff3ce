use Rattle.std.proofs.Common.{ℕ, ◌≡◌, ◌∙◌, ◌++◌, ◌∷◌, [], map, not, true, inl, inr, ap, sym, subst, arith, refl}
use Rattle.std.proofs.lemmas.List.{map-append}
use Rattle.std.proofs.lemmas.Result.{IfOk-from_err, IfOk-at_ok}
use Rattle.sta_core.specs.Machine.{PlainRule, plain_rule}
use Rattle.sta_classes.specs.Applying.{plain_owned, is_fixed, IsOwned, AreLike}
use Rattle.sta_classes.specs.Grow.{Grown, Some}
use Rattle.sta_classes.proofs.Grown.{nowhere, grown_none, grown_push, grown_same, grown_first, grown_more, grown_all, numbered_first, numbered_more, numbered_all}
use Rattle.sta_classes.proofs.rules.Rules.new.Goals as goal
use Rattle.sta_classes.proofs.rules.Rules.new.Goals.{then-rule-constructor+in_ok-push, else-rule-constructor}

pub states-init : goal.states-init
states-init g c = numbered_first (λ s those. Some (IsOwned c.args.constructor s) those.items) c.args.rules.now [] (map plain_owned c.new-list.result.items) (ap (map plain_owned) c.new-list.ensures.items)

pub rules-init : goal.rules-init
rules-init g c = grown_first (IsOwned c.args.constructor c.states.state) c.deref-rule-items.result.now (map plain_owned c.states.list.items) (map plain_owned c.states.list.items) refl

pub rules-preserved : goal.rules-preserved
rules-preserved g c =
    let q : ℕ × PlainRule g.row.A.Denot = (c.states.state, plain_rule c.rule-item.result) in
    let one : Grown (map plain_owned c.rules.list.items) (map plain_owned c.if-rule-constructor.list.items) (IsOwned c.args.constructor c.states.state c.rule-item.result) = elim c.if-rule-constructor.branch [
      | then-rule-constructor+in_ok-push w ↦
          let longer : map plain_owned w.push.new.self.items ≡ map plain_owned c.rules.list.items ++ q ∷ [] = ap (map plain_owned) w.in_ok-push.ensures.items ∙ map-append plain_owned c.rules.list.items _ in
          subst (λ l. Grown (map plain_owned c.rules.list.items) (map plain_owned l.items) (IsOwned c.args.constructor c.states.state c.rule-item.result)) (sym w.list-is)
          (subst (λ l. Grown (map plain_owned c.rules.list.items) l (IsOwned c.args.constructor c.states.state c.rule-item.result)) (sym longer)
          (grown_same (map plain_owned c.rules.list.items) (map plain_owned c.rules.list.items ++ q ∷ []) (λ p. q ≡ p) (IsOwned c.args.constructor c.states.state c.rule-item.result) (grown_push (map plain_owned c.rules.list.items) q) (λ p e. (w.if-rule-constructor.true, e)) (λ p o. o.1)))
      | else-rule-constructor w ↦ subst (λ l. Grown (map plain_owned c.rules.list.items) (map plain_owned l.items) (IsOwned c.args.constructor c.states.state c.rule-item.result)) (sym w.list-is) (grown_none (map plain_owned c.rules.list.items) (IsOwned c.args.constructor c.states.state c.rule-item.result) (λ p o. w.if-rule-constructor.false o.0))
    ] in
    grown_more (IsOwned c.args.constructor c.states.state) c.deref-rule-items.result.now (map plain_owned c.states.list.items) (map plain_owned c.rules.list.items) (map plain_owned c.if-rule-constructor.list.items) c.rules.rule-index c.rule-item.result c.rules-test.true c.rule-item.is c.rules.invariant one

pub states-preserved : goal.states-preserved
states-preserved g c =
    numbered_more (λ s those. Some (IsOwned c.args.constructor s) those.items) c.args.rules.now [] (map plain_owned c.states.list.items) (map plain_owned c.rules.list.items) c.states.state c.index-rules-state.result c.states-test.true c.index-rules-state.is c.states.invariant
    (subst (λ l. Grown (map plain_owned c.states.list.items) (map plain_owned c.rules.list.items) (Some (IsOwned c.args.constructor c.states.state) l)) c.deref-rule-items.ensures.value
    (grown_all (IsOwned c.args.constructor c.states.state) c.deref-rule-items.result.now (map plain_owned c.states.list.items) (map plain_owned c.rules.list.items) c.rules.rule-index (omega (arith, c.rules-test.false)) c.rules.invariant))

pub returns : goal.returns
returns g c =
    let h = numbered_all (λ s those. Some (IsOwned c.args.constructor s) those.items) c.args.rules.now [] (map plain_owned c.states.list.items) c.states.state (omega (arith, c.states-test.false)) c.states.invariant in
    let (numbers, likes) = c.in_ok-states.ensures in
    let (states, all, guarded) = IfOk-at_ok _ numbers c.numbers_of.ensures in
    record {
      owned = λ p. (
        (λ at. elim ((h p).0 at) [ inl none ↦ absurd (nowhere p none) | inr w ↦ (let (s, below, low, those, is, (r, r_in, owned)) = w in (s, low, those, is, r, r_in, owned)) ]),
        (λ w. let (s, low, those, is, r, r_in, owned) = w in (h p).1 (inr (s, low, low, those, is, (r, r_in, owned)))),
      );
      states_are = states ∙ ap (map (λ x. x.state)) c.deref.ensures.value;
      all_are = all ∙ ap (map (λ x. true)) c.deref.ensures.value;
      guarded_are = guarded ∙ ap (map (λ x. not (is_fixed (plain_rule x.rule.now).guard))) c.deref.ensures.value;
      alike = subst (λ l. AreLike g.A.PartialEq.eq l c.in_ok-states.likes.items) c.deref-2.ensures.value (IfOk-at_ok _ likes c.likes_of.ensures);
    }

pub returns-in_err-push : goal.returns-in_err-push
returns-in_err-push g c = IfOk-from_err c.from_residual.result _ c.from_residual.ensures.0

pub returns-in_err-states : goal.returns-in_err-states
returns-in_err-states g c = IfOk-from_err c.from_residual-in_err-states.result _ c.from_residual-in_err-states.ensures.0
