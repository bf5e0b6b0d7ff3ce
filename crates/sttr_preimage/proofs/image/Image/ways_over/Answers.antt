use Rattle.std.proofs.Common.{sym, subst, ◌≡◌, map, All, true}
use Rattle.sttr_core.specs.Machine.{plain_out}
use Rattle.sttr_core.specs.Terms.{plain_term}
use Rattle.model_sttr.specs.Terms.{with_maps}
use Rattle.sttr_theory.specs.Triples.{AreWays}
use Rattle.sttr_run.specs.Plain.{plain_second, plain_triple, way_at}
use Rattle.sttr_preimage.specs.Called.{KeepsOutput}
use Rattle.sttr_preimage.specs.Images.{first_of, second_of, WayStands}
use Rattle.sttr_preimage.specs.Through.{IsThroughMap, IsThroughStop}
use Rattle.sttr_preimage.specs.Tidy.{tidy_way}
use Rattle.sttr_run.proofs.Asking.{ok_map}
use Rattle.sttr_preimage.proofs.Atoms.{err_map, all_map}
use Rattle.sttr_preimage.proofs.Tidied.{tidy_are_ways}
use Rattle.sttr_preimage.proofs.Running.{can_run, stop_of, way_stands}
use Rattle.sttr_preimage.proofs.image.Image.ways_over.Goals as goal

pub ways-requires : goal.ways-requires
ways-requires g c =
    let T = g.T in
    let (q, there) = c.requires.rule in
    record { can = can_run c.args.self.now.sttr.now (plain_second c.args.self.now.second) q (plain_out c.args.rule.now) there T.Theory.atom_fits T.Labels.map_fits T.Labels.map_makes c.args.self.now.theory.now c.requires.can (plain_triple c.args.triple.now) c.requires.states }

pub returns-clause-ways : goal.returns-clause-ways
returns-clause-ways g c =
    let T = g.T in
    let F = first_of T.Theory.atom_holds T.Labels.make c.args.self.now.sttr.now (plain_second c.args.self.now.second) in
    let G = second_of T.Theory.atom_holds T.Labels.make c.args.self.now.sttr.now (plain_second c.args.self.now.second) in
    let D = (T.Theory.meaning c.args.self.now.theory.now).has in
    let p = with_maps T.Labels.make (plain_term c.args.rule.now.term) in
    let x = plain_triple c.args.triple.now in
    ok_map _ (λ ys. AreWays F G D p x (map tidy_way (map (way_at T.Theory.atom_holds T.Labels.make) ys.items))) c.ways.result (λ ys h. tidy_are_ways D F G p x (map (way_at T.Theory.atom_holds T.Labels.make) ys.items) (h F)) c.ways.ensures.ways

pub returns-clause-made : goal.returns-clause-made
returns-clause-made g c =
    let T = g.T in
    let f = c.args.self.now.sttr.now in
    let s = plain_second c.args.self.now.second in
    let N = T.Theory.meaning c.args.self.now.theory.now in
    let fits = T.Theory.atom_fits c.args.self.now.theory.now in
    let map_fits = T.Labels.map_fits c.args.self.now.theory.now in
    let x = plain_triple c.args.triple.now in
    let (q, there) = c.requires.rule in
    let reflexive = subst (λ eq. (b : _) → eq b b ≡ true) (sym (g.met.T.Theory.equal_is_own c.args.self.now.theory.now)) (λ b. g.met.T.Atom.Eq.laws.refl b) in
    ok_map _ (λ ys. All (WayStands T.Labels.is_put T.Labels.make N fits f s (IsThroughMap T.Map.PartialEq.eq T.Labels.is_chained map_fits T.Labels.map_makes f s (KeepsOutput x))) ys.items) c.ways.result
    (λ ys h. all_map _ _ ys.items (λ y made. way_stands f s q (plain_out c.args.rule.now) there T.Map.PartialEq.eq T.Labels.is_put T.Labels.is_chained T.Labels.make N fits map_fits T.Labels.map_makes reflexive x.second y made) h) c.ways.ensures.made

pub returns-clause-stop : goal.returns-clause-stop
returns-clause-stop g c =
    let T = g.T in
    let (q, there) = c.requires.rule in
    err_map _ (IsThroughStop T.Labels.put_outside T.Labels.chain_outside c.args.self.now.sttr.now (plain_second c.args.self.now.second)) c.ways.result
    (λ e h. stop_of c.args.self.now.sttr.now (plain_second c.args.self.now.second) q (plain_out c.args.rule.now) there T.Labels.put_outside T.Labels.chain_outside e h) c.ways.ensures.stop
