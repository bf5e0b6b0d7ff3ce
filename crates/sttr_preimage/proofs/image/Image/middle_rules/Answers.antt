use Rattle.sttr_run.specs.Plain.{plain_second}
use Rattle.std.proofs.Common.{map, take, None, subst, ap, ◌∙◌, take_all}
use Rattle.std.proofs.lemmas.List.{map-append}
use Rattle.model_sttr.specs.Transducer.{run}
use Rattle.sta_core.specs.Machine.{plain_rule}
use Rattle.sttr_core.specs.Machine.{plain_out}
use Rattle.sttr_theory.specs.Triples.{Triple}
use Rattle.sttr_preimage.specs.Names.{names_in}
use Rattle.sttr_preimage.specs.Images.{HasRulesOver, HasAllWays}
use Rattle.sttr_preimage.proofs.Copying.{take_mapped}
use Rattle.sttr_preimage.proofs.Middles.{over_none, over_more, middle_done}
use Rattle.sttr_preimage.proofs.Standing.{item_there}
use Rattle.sttr_preimage.proofs.image.Image.middle_rules.Goals as goal

pub rules-init : goal.rules-init
rules-init g c =
    let T = g.T in
    over_none T.Labels.is_put T.Labels.make (T.Theory.meaning c.args.self.now.theory.now) (T.Theory.atom_fits c.args.self.now.theory.now) c.args.self.now.sttr.now (plain_second c.args.self.now.second) (names_in c.args.names.now.keys) (record { first = run c.args.state; all = c.args.all.now; second = None }) (map plain_rule c.new-rules.result.items) (ap (map plain_rule) c.new-rules.ensures.items)

pub rules_over-requires-clause-rule : goal.rules_over-requires-clause-rule
rules_over-requires-clause-rule g c =
    (c.args.state, (c.requires.state, item_there c.args.self.now.sttr.now c.args.state c.rules_of-rule-items.result.now c.rules.rule-index c.rule-item.result c.rules_of-rule-items.ensures c.rules-test.true c.rule-item.is))

pub rules-preserved : goal.rules-preserved
rules-preserved g c =
    let T = g.T in
    let N = T.Theory.meaning c.args.self.now.theory.now in
    let fits = T.Theory.atom_fits c.args.self.now.theory.now in
    let f = c.args.self.now.sttr.now in
    let a = (plain_second c.args.self.now.second) in
    let t : Triple = record { first = run c.args.state; all = c.args.all.now; second = None } in
    let b = names_in c.rules.names.keys in
    let new = names_in c.rules_over.new.names.keys in
    let made = map plain_rule c.in_ok-rules_over.field-0.items in
    let (ys, ways, has) = subst (λ z. HasAllWays T.Labels.is_put T.Labels.make N fits f a b new z (plain_out c.rule-item.result) made) c.in_ok-triple.ensures c.in_ok-rules_over.ensures.rules in
    over_more T.Labels.is_put T.Labels.make N fits f a (names_in c.args.names.now.keys) b new t (map plain_out (take c.rules.rule-index c.rules_of-rule-items.result.now)) (map plain_out (take _ c.rules_of-rule-items.result.now)) (plain_out c.rule-item.result)
    (map plain_rule c.rules.rules.items) made (map plain_rule c.add_all.new.those.items) ys c.rules.invariant ways has
    (take_mapped plain_out c.rules_of-rule-items.result.now c.rules.rule-index c.rule-item.result c.rules-test.true c.rule-item.is) (ap (map plain_rule) c.in_ok-add_all.ensures ∙ map-append plain_rule c.rules.rules.items c.in_ok-rules_over.field-0.items)

pub returns-clause-rules : goal.returns-clause-rules
returns-clause-rules g c =
    let T = g.T in
    let N = T.Theory.meaning c.args.self.now.theory.now in
    let fits = T.Theory.atom_fits c.args.self.now.theory.now in
    let f = c.args.self.now.sttr.now in
    let a = (plain_second c.args.self.now.second) in
    let t : Triple = record { first = run c.args.state; all = c.args.all.now; second = None } in
    let old = names_in c.args.names.now.keys in
    let new = names_in c.rules.names.keys in
    let whole = ap (map plain_out) (take_all c.rules.rule-index c.rules_of-rule-items.result.now c.rules-test.false) ∙ c.rules_of-rule-items.ensures in
    middle_done T.Labels.is_put T.Labels.make N fits f a old new c.args.state c.args.all.now (map plain_rule c.rules.rules.items)
    (subst (λ ρs. HasRulesOver T.Labels.is_put T.Labels.make N fits f a old new t ρs (map plain_rule c.rules.rules.items)) whole c.rules.invariant)
