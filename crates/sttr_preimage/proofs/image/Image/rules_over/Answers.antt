use Rattle.std.proofs.Common.{map, sym, subst, true, ◌≡◌}
use Rattle.sta_core.specs.Machine.{plain_rule}
use Rattle.sttr_core.specs.Machine.{plain_out}
use Rattle.sttr_run.specs.Plain.{plain_second, plain_triple, way_at}
use Rattle.sttr_preimage.specs.Called.{KeepsOutput}
use Rattle.sttr_preimage.specs.Through.{IsThroughMap}
use Rattle.sttr_preimage.specs.Names.{names_in}
use Rattle.sttr_preimage.specs.Rules.{AreWayMade}
use Rattle.sttr_preimage.specs.Tidy.{tidy_way}
use Rattle.sttr_preimage.proofs.Middles.{all_ways_done}
use Rattle.sttr_preimage.proofs.image.Image.rules_over.Goals as goal

pub returns-clause-rules : goal.returns-clause-rules
returns-clause-rules g c =
    let T = g.T in
    let N = T.Theory.meaning c.args.self.now.theory.now in
    let can = c.requires.can in
    let (q, there) = c.requires.rule in
    let ys = c.in_ok-ways.ways.items in
    let old = names_in c.args.names.now.keys in
    let new = names_in c.way_rules.new.names.keys in
    let made = map plain_rule c.in_ok-rules.rules.items in
    let reflexive = subst (λ eq. (b : _) → eq b b ≡ true) (sym (g.met.T.Theory.equal_is_own c.args.self.now.theory.now)) (λ b. g.met.T.Atom.Eq.laws.refl b) in (
      map tidy_way (map (way_at T.Theory.atom_holds T.Labels.make) ys),
      c.in_ok-ways.ensures.ways,
      all_ways_done T.Labels.is_put T.Labels.make N (T.Theory.atom_fits c.args.self.now.theory.now) c.args.self.now.sttr.now (plain_second c.args.self.now.second) can.looks can.stands can.labels.guards reflexive (IsThroughMap T.Map.PartialEq.eq T.Labels.is_chained (T.Labels.map_fits c.args.self.now.theory.now) T.Labels.map_makes c.args.self.now.sttr.now (plain_second c.args.self.now.second) (KeepsOutput (plain_triple c.args.triple.now))) q (plain_out c.args.rule.now) there
          (plain_triple c.args.triple.now) ys c.in_ok-ways.ensures.ways c.in_ok-ways.ensures.made old new made (subst (λ l. AreWayMade T.Theory.atom_holds N.has old new (plain_out c.args.rule.now).rule l made) c.deref.ensures.value c.in_ok-rules.ensures),
    )
