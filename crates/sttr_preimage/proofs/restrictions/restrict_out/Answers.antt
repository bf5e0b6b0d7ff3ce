use Rattle.std.proofs.Common.{sym, subst, inl, inr}
use Rattle.sttr_preimage.specs.Called.{KeepsOutput}
use Rattle.sttr_preimage.specs.Outs.{HasState, IsTransFor}
use Rattle.sttr_preimage.specs.Results.{IsOutRestricted, IsTransPutFrom, IsImageStop}
use Rattle.sttr_run.proofs.Asking.{ok_map}
use Rattle.sttr_preimage.proofs.Atoms.{err_map}
use Rattle.sttr_preimage.proofs.Finished.{can_ask, stop_asked}
use Rattle.sttr_preimage.specs.Through.{nothing_of, IsThroughMap}
use Rattle.sttr_preimage.proofs.Restricted.{start_known, out_relation, out_made}
use Rattle.sttr_preimage.proofs.Standing.{sttr_fits}
use Rattle.sttr_preimage.proofs.restrictions.restrict_out.Goals as goal

pub trans_for-requires-clause-can : goal.trans_for-requires-clause-can
trans_for-requires-clause-can g c =
    let T = g.T in
    can_ask c.args.lang.now.sta T.Theory.atom_fits T.Labels.map_fits T.Labels.map_makes c.args.theory.now c.args.trans.now.sttr _ _ c.looks_of-looks.ensures.stand c.requires.stands c.requires.labels c.rules_stand.ensures (λ p. c.requires.makes) (λ e. elim e [ inl child ↦ c.requires.unchanged child | inr none ↦ absurd none ])

pub trans_for-requires-clause-known : goal.trans_for-requires-clause-known
trans_for-requires-clause-known g c =
    let T = g.T in
    let N = T.Theory.meaning c.args.theory.now in
    let fits = T.Theory.atom_fits c.args.theory.now in
    let f = c.args.trans.now.sttr in
    let a = c.args.lang.now.sta in
    subst (λ x. HasState T.Labels.is_put T.Labels.make N fits f (nothing_of a) (KeepsOutput x) x) (sym c.in_ok-start_called.ensures) (start_known T.Labels.is_put T.Labels.make N fits f a c.args.trans.now.state c.args.lang.now.state c.requires.start c.requires.state)

pub returns-clause-relation : goal.returns-clause-relation
returns-clause-relation g c =
    let T = g.T in
    let N = T.Theory.meaning c.args.theory.now in
    let fits = T.Theory.atom_fits c.args.theory.now in
    let map_fits = T.Labels.map_fits c.args.theory.now in
    let f = c.args.trans.now in
    let a = c.args.lang.now in
    let own = sttr_fits T.Theory.atom_holds T.Labels.make f.sttr c.looks_of-looks.ensures.stand c.requires.stands in
    ok_map _ (IsOutRestricted T.Labels.make N f a) c.trans_for.result
    (λ d h. out_relation T.Labels.is_put T.Labels.make N fits f a T.Map.PartialEq.eq T.Labels.is_chained map_fits T.Labels.map_makes d
    (subst (λ x. IsTransFor T.Labels.is_put T.Labels.make N fits f.sttr (nothing_of a.sta) (IsThroughMap T.Map.PartialEq.eq T.Labels.is_chained map_fits T.Labels.map_makes f.sttr (nothing_of a.sta)) x d) c.in_ok-start_called.ensures h) own) c.trans_for.ensures.trans

pub returns-clause-made : goal.returns-clause-made
returns-clause-made g c =
    let T = g.T in
    let N = T.Theory.meaning c.args.theory.now in
    let fits = T.Theory.atom_fits c.args.theory.now in
    let map_fits = T.Labels.map_fits c.args.theory.now in
    let f = c.args.trans.now in
    let a = c.args.lang.now in
    let own = sttr_fits T.Theory.atom_holds T.Labels.make f.sttr c.looks_of-looks.ensures.stand c.requires.stands in
    ok_map _ (IsTransPutFrom T.Map.PartialEq.eq T.Labels.is_put N fits map_fits T.Labels.map_makes f.sttr a.sta.rules) c.trans_for.result
    (λ d h. out_made T.Labels.is_put T.Labels.make N fits f a T.Map.PartialEq.eq T.Labels.is_chained map_fits T.Labels.map_makes d
    (subst (λ x. IsTransFor T.Labels.is_put T.Labels.make N fits f.sttr (nothing_of a.sta) (IsThroughMap T.Map.PartialEq.eq T.Labels.is_chained map_fits T.Labels.map_makes f.sttr (nothing_of a.sta)) x d) c.in_ok-start_called.ensures h) own
    c.requires.labels.maps (λ m n e k. g.met.T.Labels.equal_maps_fit c.args.theory.now m n e k) (λ made m n e k. g.met.T.Labels.equal_maps_make made m n e k)) c.trans_for.ensures.trans

pub returns-clause-stop : goal.returns-clause-stop
returns-clause-stop g c =
    let T = g.T in
    err_map _ (IsImageStop T.Labels.put_outside c.args.trans.now.sttr c.args.lang.now.sta.rules) c.trans_for.result (λ e h. stop_asked c.args.lang.now.sta T.Labels.put_outside T.Labels.chain_outside c.args.trans.now.sttr e h) c.trans_for.ensures.stop
