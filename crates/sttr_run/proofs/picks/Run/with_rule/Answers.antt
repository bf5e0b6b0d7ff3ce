use Rattle.std.proofs.Common.{[], map, get_or, Contains, IsSome, refl, subst, sym, ap, ◌∙◌}
use Rattle.sttr_core.specs.Machine.{plain_out}
use Rattle.sttr_core.specs.Terms.{plain_term}
use Rattle.sttr_run.specs.Found.{PickStands}
use Rattle.sttr_run.specs.Picks.{AreApplied, AreWithEach}
use Rattle.sttr_run.specs.Plain.{plain_second, plain_triple}
use Rattle.sttr_run.proofs.Firing.{applied_with, applied_none, each_stands}
use Rattle.sttr_run.proofs.Members.{found_at, none_at, all_of, all_at, some_mapped}
use Rattle.sttr_run.proofs.picks.Run.with_rule.Goals as goal

pub rules-requires-clause-rules : goal.rules-requires-clause-rules
rules-requires-clause-rules g c =
    subst (λ rs. Contains (plain_second c.args.self.now.second.now).rules (map plain_out rs)) (sym c.deref.ensures.value)
    (found_at (λ those. map plain_out those.items) c.args.self.now.second.now.rules.now (plain_second c.args.self.now.second.now).rules c.args.state c.in-Some.rules.now refl c.in-Some.ensures.lookup.3.0 c.in-Some.ensures.lookup.1).0

pub holding-requires : goal.holding-requires
holding-requires g c = record { stand = each_stands g.T.Map.PartialEq.eq g.T.Labels.is_put g.T.Labels.is_chained (g.T.Theory.atom_fits c.args.self.now.theory.now) (g.T.Labels.map_fits c.args.self.now.theory.now) g.T.Labels.map_makes (plain_second c.args.self.now.second.now) (plain_term c.args.self.now.term.now) (plain_triple c.args.self.now.triple.now).second c.args.picks.now c.in_ok-picks-in-Some.picks.items c.in_ok-fired-in-Some.fired.items (subst (λ fs. AreWithEach c.args.picks.now fs c.in_ok-picks-in-Some.picks.items) c.deref-in-Some.ensures.value c.in_ok-picks-in-Some.ensures) c.requires.stand c.in_ok-fired-in-Some.ensures.stand }

pub returns-in_ok-picks-in-Some-2-clause-picks : goal.returns-in_ok-picks-in-Some-2-clause-picks
returns-in_ok-picks-in-Some-2-clause-picks g c =
    subst (λ rs. AreApplied g.T.Theory.atom_holds g.T.Labels.make (g.T.Theory.meaning c.args.self.now.theory.now).has c.args.node.now.constructor c.args.node.now.map.now rs c.args.picks.now c.in_ok-picks-in-Some-2.picks.items)
    (ap (map plain_out) c.deref.ensures.value ∙ sym (found_at (λ those. map plain_out those.items) c.args.self.now.second.now.rules.now (plain_second c.args.self.now.second.now).rules c.args.state c.in-Some.rules.now refl c.in-Some.ensures.lookup.3.0 c.in-Some.ensures.lookup.1).1)
    (applied_with g.T.Theory.atom_holds g.T.Labels.make (g.T.Theory.meaning c.args.self.now.theory.now).has c.args.node.now.constructor c.args.node.now.map.now (map plain_out c.deref.result.now) c.args.picks.now c.in_ok-picks-in-Some.picks.items c.in_ok-picks-in-Some-2.picks.items c.in_ok-fired-in-Some.fired.items c.in_ok-fired-in-Some.ensures.fired (subst (λ fs. AreWithEach c.args.picks.now fs c.in_ok-picks-in-Some.picks.items) c.deref-in-Some.ensures.value c.in_ok-picks-in-Some.ensures) c.in_ok-picks-in-Some-2.ensures.kept)

pub returns-in_ok-picks-in-Some-2-clause-terms : goal.returns-in_ok-picks-in-Some-2-clause-terms
returns-in_ok-picks-in-Some-2-clause-terms g c =
    all_of (λ x. IsSome x.term) c.in_ok-picks-in-Some-2.picks.items (λ y at.
    let (f, in_fs, x, in_xs, is) = (subst (λ fs. AreWithEach c.args.picks.now fs c.in_ok-picks-in-Some.picks.items) c.deref-in-Some.ensures.value c.in_ok-picks-in-Some.ensures).each y (c.in_ok-picks-in-Some-2.ensures.kept.each y at) in
    let (r, in_rs, fired, t) = c.in_ok-fired-in-Some.ensures.fired.each f in_fs in
    some_mapped (λ t. plain_term t.now) y.term r.term (is.same_term ∙ t))

pub returns-in_ok-picks-in-Some-2-clause-stand : goal.returns-in_ok-picks-in-Some-2-clause-stand
returns-in_ok-picks-in-Some-2-clause-stand g c =
    let stand = each_stands g.T.Map.PartialEq.eq g.T.Labels.is_put g.T.Labels.is_chained (g.T.Theory.atom_fits c.args.self.now.theory.now) (g.T.Labels.map_fits c.args.self.now.theory.now) g.T.Labels.map_makes (plain_second c.args.self.now.second.now) (plain_term c.args.self.now.term.now) (plain_triple c.args.self.now.triple.now).second c.args.picks.now c.in_ok-picks-in-Some.picks.items c.in_ok-fired-in-Some.fired.items (subst (λ fs. AreWithEach c.args.picks.now fs c.in_ok-picks-in-Some.picks.items) c.deref-in-Some.ensures.value c.in_ok-picks-in-Some.ensures) c.requires.stand c.in_ok-fired-in-Some.ensures.stand in
    all_of (PickStands g.T.Map.PartialEq.eq g.T.Labels.is_put g.T.Labels.is_chained (g.T.Theory.atom_fits c.args.self.now.theory.now) (g.T.Labels.map_fits c.args.self.now.theory.now) g.T.Labels.map_makes (plain_second c.args.self.now.second.now) (plain_term c.args.self.now.term.now) (plain_triple c.args.self.now.triple.now).second) c.in_ok-picks-in-Some-2.picks.items (λ y at. all_at (PickStands g.T.Map.PartialEq.eq g.T.Labels.is_put g.T.Labels.is_chained (g.T.Theory.atom_fits c.args.self.now.theory.now) (g.T.Labels.map_fits c.args.self.now.theory.now) g.T.Labels.map_makes (plain_second c.args.self.now.second.now) (plain_term c.args.self.now.term.now) (plain_triple c.args.self.now.triple.now).second) c.in_ok-picks-in-Some.picks.items y stand (c.in_ok-picks-in-Some-2.ensures.kept.each y at))

pub returns-in-None-clause-picks : goal.returns-in-None-clause-picks
returns-in-None-clause-picks g c =
    subst (AreApplied g.T.Theory.atom_holds g.T.Labels.make (g.T.Theory.meaning c.args.self.now.theory.now).has c.args.node.now.constructor c.args.node.now.map.now (get_or (plain_second c.args.self.now.second.now).rules c.args.state []) c.args.picks.now) (sym c.new.ensures.items)
    (applied_none g.T.Theory.atom_holds g.T.Labels.make (g.T.Theory.meaning c.args.self.now.theory.now).has c.args.node.now.constructor c.args.node.now.map.now (get_or (plain_second c.args.self.now.second.now).rules c.args.state []) c.args.picks.now (none_at (λ those. map plain_out those.items) c.args.self.now.second.now.rules.now (plain_second c.args.self.now.second.now).rules c.args.state refl c.in-None.ensures.lookup.3))
