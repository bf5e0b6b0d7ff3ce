use Rattle.std.proofs.Common.{◌≡◌, ◌+◌, ◌-◌, ◌<◌, ◌∷◌, [], map, get_or, length, drop, All, subst, sym, ap, ◌∙◌, arith}
use Rattle.label_core.specs.Formula.{plain_formula}
use Rattle.sta_core.specs.Sta.{automaton_of}
use Rattle.sttr_core.specs.Terms.{plain_term}
use Rattle.sttr_theory.proofs.Members.{in_single}
use Rattle.sttr_run.specs.Found.{GuardStands, PickStands, IsTermOf}
use Rattle.sttr_run.specs.Picks.{ArePicks}
use Rattle.sttr_run.specs.Plain.{plain_second, plain_triple}
use Rattle.std.proofs.lemmas.List.{drop_all, drop_more}
use Rattle.std.specs.Option.{option_map}
use Rattle.std.proofs.lemmas.List.Elements.{All-nil}
use Rattle.sttr_run.specs.Runs.{OnTerm}
use Rattle.sttr_run.proofs.Firing.{picks_none, picks_holding}
use Rattle.sttr_run.proofs.Members.{all_of, all_at}
use Rattle.sttr_run.proofs.picks.Run.picks.Goals as goal

pub states-init : goal.states-init
states-init g c =
    let (x, is, gs, ds, t) = c.in_ok-picks.ensures in record {
      low = omega arith;
      picks = subst (λ all. ArePicks g.T.Theory.atom_holds g.T.Labels.make (g.T.Theory.meaning c.args.self.now.theory.now).has c.args.node.now.constructor c.args.node.now.map.now (automaton_of g.T.Theory.atom_holds (plain_second c.args.self.now.second.now).looks) all c.in_ok-picks.picks.items) (sym (drop_all (length c.as_slice-states.result.now) c.as_slice-states.result.now (omega arith)))
          (subst (ArePicks g.T.Theory.atom_holds g.T.Labels.make (g.T.Theory.meaning c.args.self.now.theory.now).has c.args.node.now.constructor c.args.node.now.map.now (automaton_of g.T.Theory.atom_holds (plain_second c.args.self.now.second.now).looks) []) (sym is) (picks_none g.T.Theory.atom_holds g.T.Labels.make (g.T.Theory.meaning c.args.self.now.theory.now).has c.args.node.now.constructor c.args.node.now.map.now (automaton_of g.T.Theory.atom_holds (plain_second c.args.self.now.second.now).looks) x (ap (map plain_formula) gs) (ap (map (λ d. map (λ s. s.items) d.now)) ds)));
      stand = subst (All (PickStands g.T.Map.PartialEq.eq g.T.Labels.is_put g.T.Labels.is_chained (g.T.Theory.atom_fits c.args.self.now.theory.now) (g.T.Labels.map_fits c.args.self.now.theory.now) g.T.Labels.map_makes (plain_second c.args.self.now.second.now) (plain_term c.args.self.now.term.now) (plain_triple c.args.self.now.triple.now).second)) (sym is) (all_of (PickStands g.T.Map.PartialEq.eq g.T.Labels.is_put g.T.Labels.is_chained (g.T.Theory.atom_fits c.args.self.now.theory.now) (g.T.Labels.map_fits c.args.self.now.theory.now) g.T.Labels.map_makes (plain_second c.args.self.now.second.now) (plain_term c.args.self.now.term.now) (plain_triple c.args.self.now.triple.now).second) (x ∷ []) (λ y at. subst (PickStands g.T.Map.PartialEq.eq g.T.Labels.is_put g.T.Labels.is_chained (g.T.Theory.atom_fits c.args.self.now.theory.now) (g.T.Labels.map_fits c.args.self.now.theory.now) g.T.Labels.map_makes (plain_second c.args.self.now.second.now) (plain_term c.args.self.now.term.now) (plain_triple c.args.self.now.triple.now).second) (in_single x y at) (record {
        guards = subst (λ gs. All (GuardStands g.T.Map.PartialEq.eq g.T.Labels.is_put g.T.Labels.is_chained (g.T.Theory.atom_fits c.args.self.now.theory.now) (g.T.Labels.map_fits c.args.self.now.theory.now) g.T.Labels.map_makes (plain_second c.args.self.now.second.now) (plain_term c.args.self.now.term.now) (plain_triple c.args.self.now.triple.now).second) (map plain_formula gs)) (sym gs) (All-nil (GuardStands g.T.Map.PartialEq.eq g.T.Labels.is_put g.T.Labels.is_chained (g.T.Theory.atom_fits c.args.self.now.theory.now) (g.T.Labels.map_fits c.args.self.now.theory.now) g.T.Labels.map_makes (plain_second c.args.self.now.second.now) (plain_term c.args.self.now.term.now) (plain_triple c.args.self.now.triple.now).second));
        term = subst (λ o. OnTerm (IsTermOf (plain_second c.args.self.now.second.now)) (option_map (λ t. plain_term t.now) o)) (sym t) tt;
      })));
    }

pub states-preserved : goal.states-preserved
states-preserved g c =
    let low : c.states.left - 1 < length c.as_slice-states.result.now = omega (arith, c.states-test.true, c.states.invariant.low) in
    let up : c.states.left - 1 + 1 ≡ c.states.left = omega (arith, c.states-test.true) in
    let e = drop_more c.as_slice-states.result.now (c.states.left - 1) 0 low ∙ ap (λ n. get_or c.as_slice-states.result.now (c.states.left - 1) 0 ∷ drop n c.as_slice-states.result.now) up in record {
      low = omega (arith, low);
      picks = subst (λ all. ArePicks g.T.Theory.atom_holds g.T.Labels.make (g.T.Theory.meaning c.args.self.now.theory.now).has c.args.node.now.constructor c.args.node.now.map.now (automaton_of g.T.Theory.atom_holds (plain_second c.args.self.now.second.now).looks) all c.in_ok-picks-2.picks.items) (sym e)
          (c.in_ok-picks-2.ensures.picks (drop c.states.left c.as_slice-states.result.now) (subst (ArePicks g.T.Theory.atom_holds g.T.Labels.make (g.T.Theory.meaning c.args.self.now.theory.now).has c.args.node.now.constructor c.args.node.now.map.now (automaton_of g.T.Theory.atom_holds (plain_second c.args.self.now.second.now).looks) (drop c.states.left c.as_slice-states.result.now)) (sym c.deref.ensures.value) c.states.invariant.picks));
      stand = c.in_ok-picks-2.ensures.stand;
    }

pub returns-clause-picks : goal.returns-clause-picks
returns-clause-picks g c =
    let none : c.states.left ≡ 0 = omega (arith, c.states-test.false) in
    subst (λ all. ArePicks g.T.Theory.atom_holds g.T.Labels.make (g.T.Theory.meaning c.args.self.now.theory.now).has c.args.node.now.constructor c.args.node.now.map.now (automaton_of g.T.Theory.atom_holds (plain_second c.args.self.now.second.now).looks) all c.in_ok-picks-3.picks.items) (ap (λ n. drop n c.as_slice-states.result.now) none ∙ c.as_slice-states.ensures.states)
    (picks_holding g.T.Theory.atom_holds g.T.Labels.make (g.T.Theory.meaning c.args.self.now.theory.now).has c.args.node.now.constructor c.args.node.now.map.now (automaton_of g.T.Theory.atom_holds (plain_second c.args.self.now.second.now).looks) (drop c.states.left c.as_slice-states.result.now) c.states.picks.items c.in_ok-picks-3.picks.items c.in_ok-picks-3.ensures.kept c.states.invariant.picks)

pub returns-clause-stand : goal.returns-clause-stand
returns-clause-stand g c = all_of (PickStands g.T.Map.PartialEq.eq g.T.Labels.is_put g.T.Labels.is_chained (g.T.Theory.atom_fits c.args.self.now.theory.now) (g.T.Labels.map_fits c.args.self.now.theory.now) g.T.Labels.map_makes (plain_second c.args.self.now.second.now) (plain_term c.args.self.now.term.now) (plain_triple c.args.self.now.triple.now).second) c.in_ok-picks-3.picks.items (λ x at. all_at (PickStands g.T.Map.PartialEq.eq g.T.Labels.is_put g.T.Labels.is_chained (g.T.Theory.atom_fits c.args.self.now.theory.now) (g.T.Labels.map_fits c.args.self.now.theory.now) g.T.Labels.map_makes (plain_second c.args.self.now.second.now) (plain_term c.args.self.now.term.now) (plain_triple c.args.self.now.triple.now).second) c.states.picks.items x c.states.invariant.stand (c.in_ok-picks-3.ensures.kept.each x at))
