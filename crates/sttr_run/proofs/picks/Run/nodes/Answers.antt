use Rattle.std.proofs.Common.{◌++◌, ◌∷◌, [], map, refl, subst, sym, ap, ◌∙◌, arith}
use Rattle.std.specs.Option.{option_map}
use Rattle.std.proofs.lemmas.List.{nil_from_length}
use Rattle.sttr_core.specs.Terms.{plain_term}
use Rattle.sttr_run.specs.Found.{MapStands, IsNodeOver, chained}
use Rattle.sttr_run.specs.Plain.{plain_second, plain_triple, plain_way_term}
use Rattle.sttr_run.specs.declared.drafts.Draft.{Draft}
use Rattle.sttr_run.specs.declared.triples.WayTerm.TheVariants.{Node}
use Rattle.sttr_run.proofs.Copies.{node_is}
use Rattle.sttr_run.proofs.Popping.{EachSoFar, so_far_start, so_far_more, so_far_end}
use Rattle.sttr_run.proofs.picks.Run.nodes.Goals as goal

pub rows-init : goal.rows-init
rows-init g c = subst (EachSoFar (IsNodeOver g.T.Labels.make (g.T.Theory.meaning c.args.self.now.theory.now).has (MapStands g.T.Map.PartialEq.eq g.T.Labels.is_put g.T.Labels.is_chained (g.T.Theory.atom_fits c.args.self.now.theory.now) (g.T.Labels.map_fits c.args.self.now.theory.now) g.T.Labels.map_makes (plain_second c.args.self.now.second.now) (plain_term c.args.self.now.term.now) (plain_triple c.args.self.now.triple.now).second) c.args.constructor (chained g.T.Labels.make c.args.first.now (option_map (λ n. n.now) c.args.then))) c.args.rows.items c.args.rows.items) (sym c.new-made.ensures.items) (so_far_start (IsNodeOver g.T.Labels.make (g.T.Theory.meaning c.args.self.now.theory.now).has (MapStands g.T.Map.PartialEq.eq g.T.Labels.is_put g.T.Labels.is_chained (g.T.Theory.atom_fits c.args.self.now.theory.now) (g.T.Labels.map_fits c.args.self.now.theory.now) g.T.Labels.map_makes (plain_second c.args.self.now.second.now) (plain_term c.args.self.now.term.now) (plain_triple c.args.self.now.triple.now).second) c.args.constructor (chained g.T.Labels.make c.args.first.now (option_map (λ n. n.now) c.args.then))) c.args.rows.items)

pub rows-preserved : goal.rows-preserved
rows-preserved g c =
    let y : Draft g.row.T-Atom.Denot g.row.T-Map.Denot = record { guards = c.in-Some.row.guards; demands = c.in-Some.row.demands; terms = c.push.new.self } in
    so_far_more (IsNodeOver g.T.Labels.make (g.T.Theory.meaning c.args.self.now.theory.now).has (MapStands g.T.Map.PartialEq.eq g.T.Labels.is_put g.T.Labels.is_chained (g.T.Theory.atom_fits c.args.self.now.theory.now) (g.T.Labels.map_fits c.args.self.now.theory.now) g.T.Labels.map_makes (plain_second c.args.self.now.second.now) (plain_term c.args.self.now.term.now) (plain_triple c.args.self.now.triple.now).second) c.args.constructor (chained g.T.Labels.make c.args.first.now (option_map (λ n. n.now) c.args.then))) c.args.rows.items c.rows.rows.items c.pop.new.self.items c.rows.made.items c.push-in-Some.new.self.items c.in-Some.row y c.in-Some.ensures.items c.in_ok-push-2.ensures.items c.rows.invariant
    (record {
      same_guards = refl;
      same_demands = refl;
      label_map = c.in_ok-map.map;
      stands = c.in_ok-map.ensures.stands;
      makes = c.in_ok-map.ensures.makes;
      node = ap (map plain_way_term) (c.in_ok-push.ensures.items ∙ ap (λ xs. xs ++ Node c.args.constructor c.in_ok-map.map c.in-Some.row.terms ∷ []) c.new-terms.ensures.items) ∙ ap (λ t. t ∷ []) (node_is c.args.constructor c.in_ok-map.map c.in-Some.row.terms);
    })

pub returns-clause-nodes : goal.returns-clause-nodes
returns-clause-nodes g c = so_far_end (IsNodeOver g.T.Labels.make (g.T.Theory.meaning c.args.self.now.theory.now).has (MapStands g.T.Map.PartialEq.eq g.T.Labels.is_put g.T.Labels.is_chained (g.T.Theory.atom_fits c.args.self.now.theory.now) (g.T.Labels.map_fits c.args.self.now.theory.now) g.T.Labels.map_makes (plain_second c.args.self.now.second.now) (plain_term c.args.self.now.term.now) (plain_triple c.args.self.now.triple.now).second) c.args.constructor (chained g.T.Labels.make c.args.first.now (option_map (λ n. n.now) c.args.then))) c.args.rows.items c.rows.rows.items c.rows.made.items (nil_from_length c.rows.rows.items (omega (arith, c.in_default.ensures.cases.0, c.rows.rows.ok.0))) c.rows.invariant
