use Rattle.std.proofs.Common.{◌++◌, ◌∷◌, [], map, take, All, Some, refl, inr, subst, sym, ap, ◌∙◌, arith}
use Rattle.std.proofs.lemmas.List.{take_all, map-append}
use Rattle.std.proofs.lemmas.List.Elements.{All-nil}
use Rattle.sttr_core.specs.Machine.{plain_out}
use Rattle.sttr_core.specs.Terms.{plain_term}
use Rattle.sttr_theory.proofs.Members.{to_mapped}
use Rattle.sttr_run.specs.Found.{FiredStands}
use Rattle.sttr_run.specs.Picks.{AreFired}
use Rattle.sttr_run.specs.Plain.{plain_second, plain_triple}
use Rattle.sttr_run.proofs.Firing.{fired_none, fired_skip, fired_more}
use Rattle.sttr_run.proofs.Members.{taken, at_place, all_push}
use Rattle.sttr_run.proofs.picks.Run.rules.Goals as goal

pub rules-init : goal.rules-init
rules-init g c = record {
  fired = subst (AreFired g.T.Theory.atom_holds g.T.Labels.make (g.T.Theory.meaning c.args.self.now.theory.now).has c.args.node.now.constructor c.args.node.now.map.now (λ r. r.rule) (λ r. Some r.term) []) (sym c.new-fired.ensures.items) (fired_none g.T.Theory.atom_holds g.T.Labels.make (g.T.Theory.meaning c.args.self.now.theory.now).has c.args.node.now.constructor c.args.node.now.map.now (λ r. r.rule) (λ r. Some r.term));
  stand = subst (All (FiredStands g.T.Map.PartialEq.eq g.T.Labels.is_put g.T.Labels.is_chained (g.T.Theory.atom_fits c.args.self.now.theory.now) (g.T.Labels.map_fits c.args.self.now.theory.now) g.T.Labels.map_makes (plain_second c.args.self.now.second.now) (plain_term c.args.self.now.term.now) (plain_triple c.args.self.now.triple.now).second)) (sym c.new-fired.ensures.items) (All-nil (FiredStands g.T.Map.PartialEq.eq g.T.Labels.is_put g.T.Labels.is_chained (g.T.Theory.atom_fits c.args.self.now.theory.now) (g.T.Labels.map_fits c.args.self.now.theory.now) g.T.Labels.map_makes (plain_second c.args.self.now.second.now) (plain_term c.args.self.now.term.now) (plain_triple c.args.self.now.triple.now).second));
}

pub rules-preserved-then-rule-node : goal.rules-preserved-then-rule-node
rules-preserved-then-rule-node g c = record {
  fired = subst (λ rs. AreFired g.T.Theory.atom_holds g.T.Labels.make (g.T.Theory.meaning c.args.self.now.theory.now).has c.args.node.now.constructor c.args.node.now.map.now (λ r. r.rule) (λ r. Some r.term) rs c.rules.fired.items) (sym (ap (map plain_out) (taken c.args.rules.now c.rules.rule-index c.rule-item.result c.rules-test.true c.rule-item.is) ∙ map-append plain_out (take c.rules.rule-index c.args.rules.now) (c.rule-item.result ∷ [])))
      (fired_skip g.T.Theory.atom_holds g.T.Labels.make (g.T.Theory.meaning c.args.self.now.theory.now).has c.args.node.now.constructor c.args.node.now.map.now (λ r. r.rule) (λ r. Some r.term) (map plain_out (take c.rules.rule-index c.args.rules.now)) c.rules.fired.items (plain_out c.rule-item.result) c.if-rule-node.true c.rules.invariant.fired);
  stand = c.rules.invariant.stand;
}

pub put-requires-clause-guard : goal.put-requires-clause-guard
put-requires-clause-guard g c = inr (map plain_out c.args.rules.now, c.requires.rules, plain_out c.rule-item.result, to_mapped plain_out c.args.rules.now c.rule-item.result (at_place c.args.rules.now c.rules.rule-index c.rule-item.result c.rules-test.true c.rule-item.is), refl)

pub rules-preserved : goal.rules-preserved
rules-preserved g c =
    record {
      fired = subst (λ rs. AreFired g.T.Theory.atom_holds g.T.Labels.make (g.T.Theory.meaning c.args.self.now.theory.now).has c.args.node.now.constructor c.args.node.now.map.now (λ r. r.rule) (λ r. Some r.term) rs c.push.new.self.items) (sym (ap (map plain_out) (taken c.args.rules.now c.rules.rule-index c.rule-item.result c.rules-test.true c.rule-item.is) ∙ map-append plain_out (take c.rules.rule-index c.args.rules.now) (c.rule-item.result ∷ [])))
          (subst (AreFired g.T.Theory.atom_holds g.T.Labels.make (g.T.Theory.meaning c.args.self.now.theory.now).has c.args.node.now.constructor c.args.node.now.map.now (λ r. r.rule) (λ r. Some r.term) (map plain_out (take c.rules.rule-index c.args.rules.now) ++ plain_out c.rule-item.result ∷ [])) (sym c.in_ok-push.ensures.items)
          (fired_more g.T.Theory.atom_holds g.T.Labels.make (g.T.Theory.meaning c.args.self.now.theory.now).has c.args.node.now.constructor c.args.node.now.map.now (λ r. r.rule) (λ r. Some r.term) (map plain_out (take c.rules.rule-index c.args.rules.now)) c.rules.fired.items (plain_out c.rule-item.result) _ (record { same_constructor = c.if-rule-node.false; same_guard = c.in_ok-guard.ensures.holds; same_demands = ap (map (λ s. s.items)) c.deref.ensures.value }) refl c.rules.invariant.fired));
      stand = all_push (FiredStands g.T.Map.PartialEq.eq g.T.Labels.is_put g.T.Labels.is_chained (g.T.Theory.atom_fits c.args.self.now.theory.now) (g.T.Labels.map_fits c.args.self.now.theory.now) g.T.Labels.map_makes (plain_second c.args.self.now.second.now) (plain_term c.args.self.now.term.now) (plain_triple c.args.self.now.triple.now).second) c.rules.fired.items c.push.new.self.items _ c.in_ok-push.ensures.items c.rules.invariant.stand (record { guard = c.in_ok-guard.ensures.stands; term = (map plain_out c.args.rules.now, c.requires.rules, plain_out c.rule-item.result, to_mapped plain_out c.args.rules.now c.rule-item.result (at_place c.args.rules.now c.rules.rule-index c.rule-item.result c.rules-test.true c.rule-item.is), refl) });
    }

pub returns-clause-fired : goal.returns-clause-fired
returns-clause-fired g c = subst (λ rs. AreFired g.T.Theory.atom_holds g.T.Labels.make (g.T.Theory.meaning c.args.self.now.theory.now).has c.args.node.now.constructor c.args.node.now.map.now (λ r. r.rule) (λ r. Some r.term) (map plain_out rs) c.rules.fired.items) (take_all c.rules.rule-index c.args.rules.now (omega (arith, c.rules-test.false))) c.rules.invariant.fired
