use Rattle.std.proofs.lemmas.Result.{IfOk-from_err, IfOk-at_ok}
use Rattle.std.proofs.Common.{map, ap, sym, arith, ◌∙◌, ◌∷◌, []}
use Rattle.std.proofs.lemmas.List.{map-append}
use Rattle.label_core.specs.Formula.{plain_formula}
use Rattle.sta_core.specs.Machine.{plain_rule}
use Rattle.sta_classes.proofs.Applying.{element}
use Rattle.sta_classes.proofs.Numbers.{chosen_added, chosen_passed, chosen_all}
use Rattle.sta_classes.proofs.rules.guards_of.Goals as goal
use Rattle.sta_classes.proofs.rules.guards_of.Goals.{then-has+in_ok-added, else-has}

pub loop-i-preserved : goal.loop-i-preserved
loop-i-preserved g c =
    let (x, at) = element c.args.list.now c.loop-i.i c.loop-i-test.true in
    elim c.if-has.branch [
      | then-has+in_ok-added w ↦
          let (guard, made, items) = w.in_ok-added.ensures in
          chosen_added (λ z. (plain_rule z.rule.now).guard) plain_formula c.args.numbers.now c.args.list.now c.loop-i.i w.index-list-i.result c.loop-i-test.true w.index-list-i.is c.loop-i.guards.items c.if-has.guards.items c.loop-i.invariant guard w.if-has.ensures
          (ap (λ v. map plain_formula v.items) w.guards-is ∙ ap (map plain_formula) items ∙ map-append plain_formula c.loop-i.guards.items (guard ∷ [])) (IfOk-at_ok _ made w.copy.ensures ∙ ap (λ z. (plain_rule z.rule.now).guard) (sym w.index-list-i.is))
      | else-has w ↦
          chosen_passed (λ z. (plain_rule z.rule.now).guard) plain_formula c.args.numbers.now c.args.list.now c.loop-i.i x c.loop-i-test.true (sym at) c.loop-i.guards.items c.if-has.guards.items c.loop-i.invariant w.if-has.ensures (ap (λ v. v.items) w.guards-is)
    ]

pub returns : goal.returns
returns g c = chosen_all (λ x. (plain_rule x.rule.now).guard) c.args.numbers.now c.args.list.now c.loop-i.i (omega (arith, c.loop-i-test.false)) (map plain_formula c.loop-i.guards.items) c.loop-i.invariant

pub returns-in_err-added : goal.returns-in_err-added
returns-in_err-added g c = IfOk-from_err c.from_residual.result _ c.from_residual.ensures.0
