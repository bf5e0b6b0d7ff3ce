use Rattle.std.proofs.Common.{◌≡◌, ◌++◌, ◌∷◌, [], map, sym, ap, subst, ◌∙◌}
use Rattle.std.proofs.lemmas.List.{map-append}
use Rattle.label_core.specs.Formula.{plain_formula}
use Rattle.sta_core.specs.Machine.{plain_rule}
use Rattle.sta_classes.specs.Grow.{Grown}
use Rattle.sta_classes.proofs.Grown.{grown_push, grown_same}
use Rattle.sta_min.specs.Values.{IsGuardAt}
use Rattle.sta_min.proofs.values.add_guard.Goals as goal

pub returns-in_ok-push : goal.returns-in_ok-push
returns-in_ok-push g c =
    let old = map plain_formula c.args.guards.now.items in
    let f = (plain_rule c.args.rule.now).guard in
    let put : map plain_formula c.push.new.self.items ≡ old ++ f ∷ [] = ap (map plain_formula) c.in_ok-push.ensures.items ∙ map-append plain_formula c.args.guards.now.items _ ∙ ap (λ x. old ++ x ∷ []) c.in_ok-copy.ensures in
    subst (λ l. Grown old l (IsGuardAt c.args.constructor (plain_rule c.args.rule.now))) (sym put)
    (grown_same old (old ++ f ∷ []) (λ p. f ≡ p) (IsGuardAt c.args.constructor (plain_rule c.args.rule.now)) (grown_push old f) (λ p e. (c.if-rule-constructor.true, e)) (λ p w. w.1))
