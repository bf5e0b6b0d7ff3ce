use Rattle.std.proofs.Common.{map, take, take_all, length, ◌<◌, subst, ap, ◌∙◌}
use Rattle.std.proofs.lemmas.List.{map-append}
use Rattle.model_sttr.specs.Transducer.{IsHead}
use Rattle.sttr_core.specs.Machine.{plain_out, transducer_of}
use Rattle.sttr_run.specs.Plain.{plain_second, plain_triple}
use Rattle.sttr_preimage.specs.Called.{called_in}
use Rattle.sttr_preimage.specs.Names.{names_in}
use Rattle.sttr_preimage.specs.Outs.{HasOutsOver}
use Rattle.sttr_preimage.specs.Through.{IsThroughMap}
use Rattle.sttr_preimage.proofs.Copying.{take_mapped}
use Rattle.sttr_preimage.proofs.Outing.{outs_over_none, outs_over_more, state_done}
use Rattle.sttr_preimage.proofs.Standing.{item_there, as_many_rules}
use Rattle.sttr_preimage.proofs.image.Image.rules_through.Goals as goal

state_low : goal.rules_of-rule-items-requires
state_low g c =
    let T = g.T in
    let f = c.args.self.now.sttr.now in
    subst (λ n. c.args.state < n) (as_many_rules T.Theory.atom_holds T.Labels.make f) (subst (IsHead (transducer_of T.Theory.atom_holds T.Labels.make f)) c.requires.first c.requires.known.is_first)

pub rules_of-rule-items-requires : goal.rules_of-rule-items-requires
rules_of-rule-items-requires g c = state_low g c

pub rules-init : goal.rules-init
rules-init g c =
    let T = g.T in
    let N = T.Theory.meaning c.args.self.now.theory.now in
    let fits = T.Theory.atom_fits c.args.self.now.theory.now in
    let f = c.args.self.now.sttr.now in
    let s = plain_second c.args.self.now.second in
    let Q = (IsThroughMap T.Map.PartialEq.eq T.Labels.is_chained (T.Labels.map_fits c.args.self.now.theory.now) T.Labels.map_makes f s) in
    outs_over_none T.Labels.is_put T.Labels.make N fits f s Q (names_in c.args.names.now.keys) (called_in c.args.called.now.keys) (plain_triple c.args.triple.now) (map plain_out c.new-rules.result.items) (ap (map plain_out) c.new-rules.ensures.items)

pub outs_over-requires-clause-rule : goal.outs_over-requires-clause-rule
outs_over-requires-clause-rule g c =
    let T = g.T in
    let f = c.args.self.now.sttr.now in
    let low : c.args.state < length f.rules = subst (λ n. c.args.state < n) (as_many_rules T.Theory.atom_holds T.Labels.make f) (subst (IsHead (transducer_of T.Theory.atom_holds T.Labels.make f)) c.requires.first c.requires.known.is_first) in
    (c.args.state, (low, item_there f c.args.state c.rules_of-rule-items.result.now c.rules.rule-index c.rule-item.result c.rules_of-rule-items.ensures c.rules-test.true c.rule-item.is), c.requires.first)

pub rules-preserved : goal.rules-preserved
rules-preserved g c =
    let T = g.T in
    let N = T.Theory.meaning c.args.self.now.theory.now in
    let fits = T.Theory.atom_fits c.args.self.now.theory.now in
    let f = c.args.self.now.sttr.now in
    let s = plain_second c.args.self.now.second in
    let Q = (IsThroughMap T.Map.PartialEq.eq T.Labels.is_chained (T.Labels.map_fits c.args.self.now.theory.now) T.Labels.map_makes f s) in
    let t = plain_triple c.args.triple.now in
    let b = names_in c.rules.names.keys in
    let new = names_in c.outs_over.new.names.keys in
    let q = called_in c.rules.called.keys in
    let after = called_in c.outs_over.new.called.keys in
    let made = map plain_out c.in_ok-outs_over.field-0.items in
    let (ys, ways, has) = c.in_ok-outs_over.ensures.rules in
    outs_over_more T.Labels.is_put T.Labels.make N fits f s Q (names_in c.args.names.now.keys) b new (called_in c.args.called.now.keys) q after t (map plain_out (take c.rules.rule-index c.rules_of-rule-items.result.now)) (map plain_out (take _ c.rules_of-rule-items.result.now)) (plain_out c.rule-item.result)
    (map plain_out c.rules.rules.items) made (map plain_out c.add_all.new.those.items) ys c.rules.invariant ways has
    (take_mapped plain_out c.rules_of-rule-items.result.now c.rules.rule-index c.rule-item.result c.rules-test.true c.rule-item.is) (ap (map plain_out) c.in_ok-add_all.ensures ∙ map-append plain_out c.rules.rules.items c.in_ok-outs_over.field-0.items)

pub returns-clause-rules : goal.returns-clause-rules
returns-clause-rules g c =
    let T = g.T in
    let N = T.Theory.meaning c.args.self.now.theory.now in
    let fits = T.Theory.atom_fits c.args.self.now.theory.now in
    let f = c.args.self.now.sttr.now in
    let s = plain_second c.args.self.now.second in
    let Q = (IsThroughMap T.Map.PartialEq.eq T.Labels.is_chained (T.Labels.map_fits c.args.self.now.theory.now) T.Labels.map_makes f s) in
    let t = plain_triple c.args.triple.now in
    let old = names_in c.args.names.now.keys in
    let new = names_in c.rules.names.keys in
    let before = called_in c.args.called.now.keys in
    let after = called_in c.rules.called.keys in
    let whole = ap (map plain_out) (take_all c.rules.rule-index c.rules_of-rule-items.result.now c.rules-test.false) ∙ c.rules_of-rule-items.ensures in
    state_done T.Labels.is_put T.Labels.make N fits f s Q old new before after c.args.state t c.requires.first (map plain_out c.rules.rules.items)
    (subst (λ ρs. HasOutsOver T.Labels.is_put T.Labels.make N fits f s Q old new before after t ρs (map plain_out c.rules.rules.items)) whole c.rules.invariant)
