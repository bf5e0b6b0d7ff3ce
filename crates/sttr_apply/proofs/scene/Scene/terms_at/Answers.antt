use Rattle.std.proofs.Common.{◌++◌, ◌∷◌, [], true, false, map, sym, ap, subst, ◌∙◌, arith, append-nil}
use Rattle.model_tree.specs.Formula.{EveryAtom}
use Rattle.sta_core.specs.Machine.{plain_rule}
use Rattle.std.proofs.lemmas.List.{map-append, take_all}
use Rattle.model_tree.specs.Tree.{relabel}
use Rattle.model_sttr.specs.Terms.{with_maps}
use Rattle.sta_core.specs.Sta.{automaton_of}
use Rattle.sttr_core.specs.Fits.{EveryMap}
use Rattle.sttr_core.specs.Machine.{plain_out}
use Rattle.sttr_core.specs.Terms.{plain_term}
use Rattle.sttr_core.proofs.Meaning.{meaning_of}
use Rattle.apply_laws.specs.Reached.{terms_of}
use Rattle.sttr_apply.proofs.Placed.{state_guards, state_maps, rules_of_state, terms_more, all_push}
use Rattle.sttr_apply.proofs.scene.Scene.terms_at.Goals as goal

pub applies-requires-clause-atoms : goal.applies-requires-clause-atoms
applies-requires-clause-atoms g c =
    let all = state_guards (g.T.Theory.atom_fits c.args.self.now.theory.now) (g.T.Labels.map_fits c.args.self.now.theory.now) c.args.self.now.sttr.now c.requires.fits c.args.state c.rules_of-rule-items.result.now (omega (arith, c.if-state-states.false, c.states.ensures)) c.rules_of-rule-items.ensures in
    subst (λ r. EveryAtom (g.T.Theory.atom_fits c.args.self.now.theory.now) (plain_rule r.rule).guard) (sym c.rule-item.is) (all c.rules.rule-index c.rule-item.result c.rules-test.true)

pub rules-preserved : goal.rules-preserved
rules-preserved g c =
    let all = state_maps (g.T.Theory.atom_fits c.args.self.now.theory.now) (g.T.Labels.map_fits c.args.self.now.theory.now) c.args.self.now.sttr.now c.requires.fits c.args.state c.rules_of-rule-items.result.now (omega (arith, c.if-state-states.false, c.states.ensures)) c.rules_of-rule-items.ensures in
    let maps = subst (λ r. EveryMap (g.T.Labels.map_fits c.args.self.now.theory.now) (plain_term r.term)) (sym c.rule-item.is) (all c.rules.rule-index c.rule-item.result c.rules-test.true) in
    let more = terms_more g.T.Theory.label_of (automaton_of g.T.Theory.atom_holds c.args.self.now.sttr.now.looks) (λ r. meaning_of g.T.Theory.atom_holds g.T.Labels.make (plain_out r)) (relabel g.T.Theory.label_of c.args.tree.now) c.rules_of-rule-items.result.now c.rules.rule-index c.rule-item.result c.rules-test.true c.rule-item.is true (sym c.if-not-applies.false ∙ c.applies.ensures) in
    record {
      terms = ap (map (λ t. with_maps g.T.Labels.make (plain_term t.now))) c.in_ok-push.ensures.items ∙ (map-append (λ t. with_maps g.T.Labels.make (plain_term t.now)) c.rules.terms.items _ ∙ (ap (λ ts. ts ++ with_maps g.T.Labels.make (plain_term c.rule-item.result.term) ∷ []) c.rules.invariant.terms ∙ sym more));
      maps = all_push (λ t. EveryMap (g.T.Labels.map_fits c.args.self.now.theory.now) (plain_term t.now)) c.rules.terms.items c.push.new.self.items _ c.rules.invariant.maps maps c.in_ok-push.ensures.items;
    }

pub rules-preserved-then-not-applies : goal.rules-preserved-then-not-applies
rules-preserved-then-not-applies g c =
    let more = terms_more g.T.Theory.label_of (automaton_of g.T.Theory.atom_holds c.args.self.now.sttr.now.looks) (λ r. meaning_of g.T.Theory.atom_holds g.T.Labels.make (plain_out r)) (relabel g.T.Theory.label_of c.args.tree.now) c.rules_of-rule-items.result.now c.rules.rule-index c.rule-item.result c.rules-test.true c.rule-item.is false (sym c.if-not-applies.true ∙ c.applies.ensures) in
    record { terms = c.rules.invariant.terms ∙ sym (more ∙ append-nil _); maps = c.rules.invariant.maps }

pub returns-clause-terms : goal.returns-clause-terms
returns-clause-terms g c =
    c.rules.invariant.terms
    ∙ ap (λ rs. terms_of (automaton_of g.T.Theory.atom_holds c.args.self.now.sttr.now.looks) (relabel g.T.Theory.label_of c.args.tree.now) (map (λ r. meaning_of g.T.Theory.atom_holds g.T.Labels.make (plain_out r)) rs)) (take_all c.rules.rule-index c.rules_of-rule-items.result.now c.rules-test.false)
    ∙ ap (terms_of (automaton_of g.T.Theory.atom_holds c.args.self.now.sttr.now.looks) (relabel g.T.Theory.label_of c.args.tree.now)) (rules_of_state g.T.Theory.atom_holds g.T.Labels.make c.args.self.now.sttr.now c.args.state c.rules_of-rule-items.result.now c.rules_of-rule-items.ensures)

pub returns-clause-maps : goal.returns-clause-maps
returns-clause-maps g c = c.rules.invariant.maps
