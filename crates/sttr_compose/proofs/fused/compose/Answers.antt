use Rattle.std.specs.Prelude.{⊤}
use Rattle.std.proofs.Common.{sym, subst, ap}
use Rattle.model_sttr.specs.Transducer.{run}
use Rattle.sttr_run.specs.Plain.{plain_second}
use Rattle.sttr_preimage.specs.Called.{through, KeepsOutput}
use Rattle.sttr_preimage.specs.Images.{CanAsk}
use Rattle.sttr_preimage.specs.Outs.{HasState}
use Rattle.sttr_preimage.specs.Through.{IsThroughStop}
use Rattle.sttr_run.proofs.Asking.{ok_map}
use Rattle.sttr_preimage.proofs.Atoms.{err_map}
use Rattle.sttr_preimage.proofs.Standing.{sttr_fits}
use Rattle.sttr_compose.specs.Results.{IsComposed, IsTransThrough, IsComposeStop}
use Rattle.sttr_compose.proofs.Composed.{pair_known, can_compose, stop_through, trans_as, composed, made_through}
use Rattle.sttr_compose.proofs.fused.compose.Goals as goal

pub trans_for-requires-clause-can : goal.trans_for-requires-clause-can
trans_for-requires-clause-can g c =
    let T = g.T in
    let N = T.Theory.meaning c.args.theory.now in
    let fits = T.Theory.atom_fits c.args.theory.now in
    let map_fits = T.Labels.map_fits c.args.theory.now in
    let f = c.args.first.now in
    let k = c.args.second.now in
    subst (λ s. CanAsk T.Theory.atom_fits T.Labels.map_fits T.Labels.map_makes c.args.theory.now f.sttr s ⊥ ⊤) (sym c.as_second.ensures.same)
    (can_compose T.Theory.atom_fits T.Labels.map_fits T.Labels.map_makes c.args.theory.now f.sttr k.sttr c.looks_of-looks.ensures.stand c.requires.first_stands c.requires.labels c.as_second.ensures.stand c.requires.second_stands c.requires.makes c.requires.unchanged)

pub trans_for-requires-clause-known : goal.trans_for-requires-clause-known
trans_for-requires-clause-known g c =
    let T = g.T in
    let N = T.Theory.meaning c.args.theory.now in
    let fits = T.Theory.atom_fits c.args.theory.now in
    let map_fits = T.Labels.map_fits c.args.theory.now in
    let f = c.args.first.now in
    let k = c.args.second.now in
    let start = ap (λ all. through f.state all (run k.state)) c.new-all.ensures.items in
    subst (λ s. HasState T.Labels.is_put T.Labels.make N fits f.sttr s (KeepsOutput (through f.state c.new-all.result.items (run k.state))) (through f.state c.new-all.result.items (run k.state))) (sym c.as_second.ensures.same)
    (subst (λ x. HasState T.Labels.is_put T.Labels.make N fits f.sttr k.sttr (KeepsOutput x) x) (sym start) (pair_known T.Labels.is_put T.Labels.make N fits f.sttr k.sttr f.state k.state c.requires.first_start c.requires.second_start))

pub returns-clause-relation : goal.returns-clause-relation
returns-clause-relation g c =
    let T = g.T in
    let N = T.Theory.meaning c.args.theory.now in
    let fits = T.Theory.atom_fits c.args.theory.now in
    let map_fits = T.Labels.map_fits c.args.theory.now in
    let f = c.args.first.now in
    let k = c.args.second.now in
    let own = sttr_fits T.Theory.atom_holds T.Labels.make f.sttr c.looks_of-looks.ensures.stand c.requires.first_stands in
    ok_map _ (IsComposed T.Labels.make N f k) c.trans_for.result
    (λ d h. composed T.Labels.is_put T.Labels.make N fits T.Map.PartialEq.eq T.Labels.is_chained map_fits T.Labels.map_makes f k d
    (trans_as T.Labels.is_put T.Labels.make N fits T.Map.PartialEq.eq T.Labels.is_chained map_fits T.Labels.map_makes f.sttr (plain_second c.as_second.result) k.sttr c.as_second.ensures.same f.state k.state c.new-all.result.items c.new-all.ensures.items d h) own c.requires.can) c.trans_for.ensures.trans

pub returns-clause-made : goal.returns-clause-made
returns-clause-made g c =
    let T = g.T in
    let N = T.Theory.meaning c.args.theory.now in
    let fits = T.Theory.atom_fits c.args.theory.now in
    let map_fits = T.Labels.map_fits c.args.theory.now in
    let f = c.args.first.now in
    let k = c.args.second.now in
    let own = sttr_fits T.Theory.atom_holds T.Labels.make f.sttr c.looks_of-looks.ensures.stand c.requires.first_stands in
    ok_map _ (IsTransThrough T.Map.PartialEq.eq T.Labels.is_put T.Labels.is_chained N fits map_fits T.Labels.map_makes f.sttr k.sttr) c.trans_for.result
    (λ d h. made_through T.Labels.is_put T.Labels.make N fits T.Map.PartialEq.eq T.Labels.is_chained map_fits T.Labels.map_makes f k d
    (trans_as T.Labels.is_put T.Labels.make N fits T.Map.PartialEq.eq T.Labels.is_chained map_fits T.Labels.map_makes f.sttr (plain_second c.as_second.result) k.sttr c.as_second.ensures.same f.state k.state c.new-all.result.items c.new-all.ensures.items d h) own (λ made m n e i. g.met.T.Labels.equal_maps_make made m n e i)) c.trans_for.ensures.trans

pub returns-clause-stop : goal.returns-clause-stop
returns-clause-stop g c =
    let T = g.T in
    let N = T.Theory.meaning c.args.theory.now in
    let fits = T.Theory.atom_fits c.args.theory.now in
    let map_fits = T.Labels.map_fits c.args.theory.now in
    let f = c.args.first.now in
    let k = c.args.second.now in
    err_map _ (IsComposeStop T.Labels.put_outside T.Labels.chain_outside f.sttr k.sttr) c.trans_for.result
    (λ e h. stop_through T.Labels.put_outside T.Labels.chain_outside f.sttr k.sttr e (subst (λ s. IsThroughStop T.Labels.put_outside T.Labels.chain_outside f.sttr s e) c.as_second.ensures.same h)) c.trans_for.ensures.stop
