use Rattle.std.proofs.Common.{◌∷◌, map, Contains, subst, sym, ap, ◌∙◌}
use Rattle.sta_core.specs.Machine.{plain_rule}
use Rattle.sta_core.specs.Sta.{automaton_of, rule_meaning}
use Rattle.sta_core.proofs.Meaning.{rules_of_automaton}
use Rattle.sttr_core.specs.Terms.{plain_term}
use Rattle.sttr_run.specs.Picks.{ArePicks, AreWithEach}
use Rattle.sttr_run.specs.Plain.{plain_second, plain_triple}
use Rattle.sttr_run.proofs.Firing.{picks_with, picks_stop, each_stands}
use Rattle.sttr_run.proofs.Members.{found_at, none_at}
use Rattle.sttr_run.proofs.picks.Run.with_look.Goals as goal

pub looks-requires-clause-rules : goal.looks-requires-clause-rules
looks-requires-clause-rules g c =
    subst (λ rs. Contains (plain_second c.args.self.now.second.now).looks.rules (map plain_rule rs)) (sym c.deref.ensures.value)
    (found_at (λ those. map plain_rule those.items) c.rules.result.now (plain_second c.args.self.now.second.now).looks.rules c.args.state c.in-Some.rules.now c.rules.ensures.rules c.in-Some.ensures.lookup.3.0 c.in-Some.ensures.lookup.1).0

pub returns-in_ok-picks-in-Some-clause-picks : goal.returns-in_ok-picks-in-Some-clause-picks
returns-in_ok-picks-in-Some-clause-picks g c = λ all picks.
    picks_with g.T.Theory.atom_holds g.T.Labels.make (g.T.Theory.meaning c.args.self.now.theory.now).has c.args.node.now.constructor c.args.node.now.map.now (automaton_of g.T.Theory.atom_holds (plain_second c.args.self.now.second.now).looks) (map plain_rule c.deref.result.now) c.args.state
    (rules_of_automaton g.T.Theory.atom_holds (plain_second c.args.self.now.second.now).looks c.args.state ∙ ap (map (rule_meaning g.T.Theory.atom_holds)) ((found_at (λ those. map plain_rule those.items) c.rules.result.now (plain_second c.args.self.now.second.now).looks.rules c.args.state c.in-Some.rules.now c.rules.ensures.rules c.in-Some.ensures.lookup.3.0 c.in-Some.ensures.lookup.1).1 ∙ ap (map plain_rule) (sym c.deref.ensures.value)))
    all c.args.picks.now c.in_ok-picks-in-Some.picks.items c.in_ok-fired-in-Some.fired.items c.in_ok-fired-in-Some.ensures.fired
    (subst (λ fs. AreWithEach c.args.picks.now fs c.in_ok-picks-in-Some.picks.items) c.deref-in-Some.ensures.value c.in_ok-picks-in-Some.ensures) picks

pub returns-in_ok-picks-in-Some-clause-stand : goal.returns-in_ok-picks-in-Some-clause-stand
returns-in_ok-picks-in-Some-clause-stand g c =
    each_stands g.T.Map.PartialEq.eq g.T.Labels.is_put g.T.Labels.is_chained (g.T.Theory.atom_fits c.args.self.now.theory.now) (g.T.Labels.map_fits c.args.self.now.theory.now) g.T.Labels.map_makes (plain_second c.args.self.now.second.now) (plain_term c.args.self.now.term.now) (plain_triple c.args.self.now.triple.now).second c.args.picks.now c.in_ok-picks-in-Some.picks.items c.in_ok-fired-in-Some.fired.items
    (subst (λ fs. AreWithEach c.args.picks.now fs c.in_ok-picks-in-Some.picks.items) c.deref-in-Some.ensures.value c.in_ok-picks-in-Some.ensures) c.requires.stand c.in_ok-fired-in-Some.ensures.stand

pub returns-in-None-clause-picks : goal.returns-in-None-clause-picks
returns-in-None-clause-picks g c = λ all picks.
    subst (ArePicks g.T.Theory.atom_holds g.T.Labels.make (g.T.Theory.meaning c.args.self.now.theory.now).has c.args.node.now.constructor c.args.node.now.map.now (automaton_of g.T.Theory.atom_holds (plain_second c.args.self.now.second.now).looks) (c.args.state ∷ all)) (sym c.new.ensures.items)
    (picks_stop g.T.Theory.atom_holds g.T.Labels.make (g.T.Theory.meaning c.args.self.now.theory.now).has c.args.node.now.constructor c.args.node.now.map.now (automaton_of g.T.Theory.atom_holds (plain_second c.args.self.now.second.now).looks) c.args.state all
    (rules_of_automaton g.T.Theory.atom_holds (plain_second c.args.self.now.second.now).looks c.args.state ∙ ap (map (rule_meaning g.T.Theory.atom_holds)) (none_at (λ those. map plain_rule those.items) c.rules.result.now (plain_second c.args.self.now.second.now).looks.rules c.args.state c.rules.ensures.rules c.in-None.ensures.lookup.3)))
