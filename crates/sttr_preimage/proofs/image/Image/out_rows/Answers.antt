use Rattle.std.specs.Prelude.{MatchOption}
use Rattle.std.proofs.Common.{map, Option, length, ◌≤◌, subst, ap}
use Rattle.sttr_core.specs.Machine.{plain_out}
use Rattle.sttr_theory.specs.Lists.{IsAt}
use Rattle.sttr_run.specs.Plain.{plain_second}
use Rattle.sttr_preimage.specs.Called.{called_in, plain_called, KeepsOutput}
use Rattle.sttr_preimage.specs.declared.called.Called.{Called}
use Rattle.sttr_preimage.specs.Names.{names_in}
use Rattle.sttr_preimage.specs.Images.{HasOne}
use Rattle.sttr_preimage.specs.Through.{IsThroughMap}
use Rattle.sttr_preimage.proofs.Chained.{map_wide}
use Rattle.sttr_preimage.proofs.Copying.{push_mapped}
use Rattle.sttr_preimage.proofs.Outing.{states_none, states_next, own_state}
use Rattle.sttr_preimage.proofs.image.Image.out_rows.Goals as goal

pub places-init : goal.places-init
places-init g c =
    let T = g.T in
    let N = T.Theory.meaning c.args.self.now.theory.now in
    let fits = T.Theory.atom_fits c.args.self.now.theory.now in
    let f = c.args.self.now.sttr.now in
    let s = plain_second c.args.self.now.second in
    let Q = (IsThroughMap T.Map.PartialEq.eq T.Labels.is_chained (T.Labels.map_fits c.args.self.now.theory.now) T.Labels.map_makes f s) in
    states_none T.Labels.is_put T.Labels.make N fits f s Q (HasOne KeepsOutput (called_in c.args.called.now.keys)) (names_in c.args.names.now.keys) (called_in c.args.called.now.keys) (map (λ those. map plain_out those.items) c.new-rows.result.items) c.requires.known (ap (map (λ those. map plain_out those.items)) c.new-rows.ensures.items)

pub out_rules-requires-clause-known : goal.out_rules-requires-clause-known
out_rules-requires-clause-known g c =
    let T = g.T in
    let N = T.Theory.meaning c.args.self.now.theory.now in
    let fits = T.Theory.atom_fits c.args.self.now.theory.now in
    let f = c.args.self.now.sttr.now in
    let s = plain_second c.args.self.now.second in
    let Q = (IsThroughMap T.Map.PartialEq.eq T.Labels.is_chained (T.Labels.map_fits c.args.self.now.theory.now) T.Labels.map_makes f s) in
    let mid = called_in c.places.called.keys in
    let at : IsAt mid c.places.place (plain_called c.in-Some.one) = subst (λ (o : Option Called). MatchOption o (length c.places.called.keys ≤ c.places.place) (λ one. IsAt mid c.places.place (plain_called one))) c.in-Some.is c.in_ok-one.ensures in
    own_state T.Labels.is_put T.Labels.make N fits f s Q (HasOne KeepsOutput (called_in c.args.called.now.keys)) (plain_called c.in-Some.one) (c.places.invariant.known (plain_called c.in-Some.one) (c.places.place, at.0, at.1))

pub places-preserved : goal.places-preserved
places-preserved g c =
    let T = g.T in
    let N = T.Theory.meaning c.args.self.now.theory.now in
    let fits = T.Theory.atom_fits c.args.self.now.theory.now in
    let f = c.args.self.now.sttr.now in
    let s = plain_second c.args.self.now.second in
    let Q = (IsThroughMap T.Map.PartialEq.eq T.Labels.is_chained (T.Labels.map_fits c.args.self.now.theory.now) T.Labels.map_makes f s) in
    let mid = called_in c.places.called.keys in
    let at : IsAt mid c.places.place (plain_called c.in-Some.one) = subst (λ (o : Option Called). MatchOption o (length c.places.called.keys ≤ c.places.place) (λ one. IsAt mid c.places.place (plain_called one))) c.in-Some.is c.in_ok-one.ensures in
    let K = HasOne KeepsOutput (called_in c.args.called.now.keys) in
    states_next T.Labels.is_put T.Labels.make N fits f s Q K (λ K' to m is. map_wide T.Map.PartialEq.eq T.Labels.is_chained (T.Labels.map_fits c.args.self.now.theory.now) T.Labels.map_makes f s K' K to m is) (names_in c.args.names.now.keys) (names_in c.places.names.keys) (names_in c.out_rules.new.names.keys)
    (called_in c.args.called.now.keys) mid (called_in c.out_rules.new.called.keys) (plain_called c.in-Some.one) (map (λ those. map plain_out those.items) c.places.rows.items) (map (λ those. map plain_out those.items) c.push.new.self.items) (map plain_out c.in_ok-out_rules.field-0.items) c.places.place
    c.places.invariant at c.in_ok-out_rules.ensures.rules (push_mapped (λ those. map plain_out those.items) c.places.rows.items c.push.new.self.items c.in_ok-out_rules.field-0 c.in_ok-push.ensures.items)
