use Rattle.std.proofs.Common.{◌≡◌, ◌+◌, ◌++◌, ◌∷◌, suc, map, drop, add-one, append-nil, sym, ap, subst, ◌∙◌, arith}
use Rattle.std.proofs.lemmas.List.{drop_more, drop_all}
use Rattle.sta_core.specs.Machine.{plain_rule}
use Rattle.sta_marks.specs.Rules.{plain_rules, owned_of, owned_from, plain_owned}
use Rattle.sta_marks.proofs.Grouped.{from_push}
use Rattle.sta_marks.proofs.rules.rules_with.Goals as goal

pub states-preserved : goal.states-preserved
states-preserved g c =
    let k = c.states.state in
    let rules = c.args.rules.now in
    let v = c.index-rules-state.result in
    let rest = plain_rules (drop (k + 1) rules) in
    let old = map plain_owned c.states.list.items in
    let new = map plain_owned c.add_rules.new.list.items in
    let whole = owned_from c.args.constructor 0 (plain_rules rules) in
    let next : plain_rules (drop k rules) ≡ map plain_rule v.items ∷ rest = ap plain_rules (drop_more rules k v (omega (arith, c.states-test.true)) ∙ ap (λ x. x ∷ drop (k + 1) rules) (sym c.index-rules-state.is)) in
    let added : new ≡ old ++ owned_of c.args.constructor k (map plain_rule v.items) = c.in_ok-add_rules.ensures ∙ ap (λ l. old ++ owned_of c.args.constructor k (map plain_rule l)) c.deref.ensures.value in
    subst (λ n. new ++ owned_from c.args.constructor n rest ≡ whole) (sym (add-one k))
    (from_push c.args.constructor k (map plain_rule v.items) rest old new whole added (ap (λ r. old ++ owned_from c.args.constructor k r) (sym next) ∙ c.states.invariant))

pub returns : goal.returns
returns g c =
    let list = map plain_owned c.states.list.items in
    sym (append-nil list) ∙ ap (λ r. list ++ owned_from c.args.constructor c.states.state (plain_rules r)) (sym (drop_all c.states.state c.args.rules.now (omega (arith, c.states-test.false)))) ∙ c.states.invariant
