use Rattle.std.proofs.Common.{[], Contains, subst}
use Rattle.sttr_core.specs.Terms.{plain_term}
use Rattle.sttr_run.specs.Found.{DraftStands}
use Rattle.sttr_run.specs.Plain.{plain_second, plain_triple}
use Rattle.sttr_run.specs.Runs.{WayIsMade}
use Rattle.sttr_run.specs.Sets.{Grown}
use Rattle.sttr_run.proofs.Members.{all_of, all_at}
use Rattle.sttr_run.proofs.Results.{are_ways, one_term, way_made}
use Rattle.sttr_run.proofs.running.ways.Goals as goal

pub returns-clause-ways : goal.returns-clause-ways
returns-clause-ways g c = λ f.
    are_ways g.T.Theory.atom_holds g.T.Labels.make (g.T.Theory.meaning c.args.theory.now).has (plain_second c.args.second.now) c.looks_stand.ensures c.requires.can.stands (plain_term c.args.term.now) (plain_triple c.args.triple.now) c.requires.can.states c.in_ok-all.all.states.items (subst (λ zs. Grown [] c.in_ok-all.all.states.items (Contains zs)) c.deref.ensures.value c.in_ok-all.ensures) c.in_ok-drafts.drafts.items c.in_ok-ways.ways.items c.in_ok-ways.ensures f c.in_ok-drafts.ensures.found

pub returns-clause-made : goal.returns-clause-made
returns-clause-made g c =
    all_of (WayIsMade g.T.Map.PartialEq.eq g.T.Labels.is_put g.T.Labels.is_chained (g.T.Theory.atom_fits c.args.theory.now) (g.T.Labels.map_fits c.args.theory.now) g.T.Labels.map_makes (plain_second c.args.second.now) (plain_term c.args.term.now) (plain_triple c.args.triple.now).second) c.in_ok-ways.ways.items (λ w at.
    let (y, in_ys, f) = c.in_ok-ways.ensures.each w at in
    way_made g.T.Map.PartialEq.eq g.T.Labels.is_put g.T.Labels.is_chained (g.T.Theory.atom_fits c.args.theory.now) (g.T.Labels.map_fits c.args.theory.now) g.T.Labels.map_makes (plain_second c.args.second.now) (plain_term c.args.term.now) (plain_triple c.args.triple.now).second y w f (one_term g.T.Theory.atom_holds g.T.Labels.make (g.T.Theory.meaning c.args.theory.now).has (plain_second c.args.second.now) (plain_term c.args.term.now) c.in_ok-all.all.states.items (plain_triple c.args.triple.now).all (subst (λ zs. Grown [] c.in_ok-all.all.states.items (Contains zs)) c.deref.ensures.value c.in_ok-all.ensures) (plain_triple c.args.triple.now).second c.in_ok-drafts.drafts.items c.in_ok-drafts.ensures.found y in_ys) (all_at (DraftStands g.T.Map.PartialEq.eq g.T.Labels.is_put g.T.Labels.is_chained (g.T.Theory.atom_fits c.args.theory.now) (g.T.Labels.map_fits c.args.theory.now) g.T.Labels.map_makes (plain_second c.args.second.now) (plain_term c.args.term.now) (plain_triple c.args.triple.now).second) c.in_ok-drafts.drafts.items y c.in_ok-drafts.ensures.made in_ys))
