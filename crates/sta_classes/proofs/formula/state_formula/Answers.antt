use Rattle.std.proofs.lemmas.Result.{IfOk-from_err, IfOk-at_ok}
use Rattle.std.proofs.Common.{◌≡◌, sym, ap, ap₂, eq-eqb, ◌==◌, ◌&&◌, ◌∙◌, IfOk, subst, map, take_all, []}
use Rattle.model_sta.specs.Sets.{rows_meet}
use Rattle.model_tree.specs.Formula.{negation, some_of, formulas_of}
use Rattle.label_core.specs.Formula.{plain_formula}
use Rattle.sta_core.specs.Machine.{plain_rule}
use Rattle.sta_classes.specs.Guards.{firing_guards}
use Rattle.sta_classes.specs.RowFormula.{signed}
use Rattle.sta_classes.specs.Rows.{class_rows_at}
use Rattle.sta_classes.proofs.Kept.{not_equal, guard_added, guard_passed}
use Rattle.sta_classes.proofs.formula.state_formula.Goals as goal
use Rattle.sta_classes.proofs.formula.state_formula.Goals.{then-rule-constructor+then-demands_met+in_ok-added, else-rule-constructor, else-rule-constructor-via-then-rule-constructor+else-demands_met, else-rule-constructor-via-else-rule-constructor}

pub demands_met-requires : goal.demands_met-requires
demands_met-requires g c = c.requires.children

pub returns-in_err-added : goal.returns-in_err-added
returns-in_err-added g c = IfOk-from_err c.from_residual.result _ c.from_residual.ensures.0

pub loop-rule-preserved : goal.loop-rule-preserved
loop-rule-preserved g c =
    let qs = class_rows_at c.args.found.now c.args.children.now in
    elim c.if-rule-constructor.branch [
      | then-rule-constructor+then-demands_met+in_ok-added w ↦
          let (guard, made, items) = w.in_ok-added.ensures in
          guard_added (λ r. (r.constructor == c.args.constructor) && rows_meet qs r.demands) plain_rule c.args.rules.now c.loop-rule.rule-index c.rule-item.result c.loop-rule-test.true c.rule-item.is [] c.loop-rule.guards.items c.if-rule-constructor.guards.items c.loop-rule.invariant
          guard (sym (ap₂ (λ a b. a && b) (eq-eqb _ _ w.if-rule-constructor.true) (ap (λ ds. rows_meet qs (map (λ d. d.items) ds)) (sym w.deref.ensures.value) ∙ sym w.demands_met.ensures ∙ w.if-demands_met.true))) (ap (λ v. v.items) w.guards-is ∙ items) (IfOk-at_ok _ made w.copy.ensures)
      | else-rule-constructor w ↦
          guard_passed (λ r. (r.constructor == c.args.constructor) && rows_meet qs r.demands) plain_rule c.args.rules.now c.loop-rule.rule-index c.rule-item.result c.loop-rule-test.true c.rule-item.is [] c.loop-rule.guards.items c.if-rule-constructor.guards.items c.loop-rule.invariant
          (elim w.else-rule-constructor.branch [
            | else-rule-constructor-via-then-rule-constructor+else-demands_met u ↦ sym (ap₂ (λ a b. a && b) (eq-eqb _ _ u.if-rule-constructor.true) (ap (λ ds. rows_meet qs (map (λ d. d.items) ds)) (sym u.deref.ensures.value) ∙ sym u.demands_met.ensures ∙ u.if-demands_met.false))
            | else-rule-constructor-via-else-rule-constructor u ↦ ap (λ b. b && rows_meet qs (plain_rule c.rule-item.result).demands) (not_equal _ _ u.if-rule-constructor.false)
          ]) (ap (λ v. v.items) w.guards-is)
    ]

pub returns : goal.returns
returns g c =
    subst (λ f. IfOk c.negation.result (λ made. plain_formula made ≡ f)) (ap negation (c.disjunction-fires.ensures ∙ ap (λ fs. some_of (formulas_of fs)) (c.loop-rule.invariant ∙ ap (λ z. firing_guards c.args.constructor (class_rows_at c.args.found.now c.args.children.now) (map plain_rule z)) (take_all c.loop-rule.rule-index c.args.rules.now c.loop-rule-test.false))) ∙ ap (λ b. signed b (some_of (formulas_of (firing_guards c.args.constructor (class_rows_at c.args.found.now c.args.children.now) (map plain_rule c.args.rules.now))))) (sym c.if-sign.false)) c.negation.ensures
