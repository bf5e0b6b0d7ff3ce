use Rattle.std.proofs.Common.{map, sym, subst, true, ◌≡◌, All}
use Rattle.model_tree.specs.Formula.{EveryAtom}
use Rattle.label_core.specs.Formula.{plain_formula}
use Rattle.sttr_core.specs.Machine.{plain_out}
use Rattle.sttr_run.specs.Plain.{plain_second, plain_triple, way_at}
use Rattle.sttr_preimage.specs.Called.{called_in, KeepsOutput, HasTerm, AreOutMade}
use Rattle.sttr_preimage.specs.Names.{names_in}
use Rattle.sttr_preimage.specs.Through.{IsThroughMap}
use Rattle.sttr_preimage.specs.Tidy.{tidy_way}
use Rattle.sttr_preimage.proofs.Chained.{map_same}
use Rattle.sttr_preimage.proofs.Middles.{guard_at, way_guards}
use Rattle.sttr_preimage.proofs.Outing.{terms_there, outs_done}
use Rattle.sttr_preimage.proofs.Running.{triple_states}
use Rattle.sttr_preimage.proofs.image.Image.outs_over.Goals as goal

pub ways_over-requires-clause-rule : goal.ways_over-requires-clause-rule
ways_over-requires-clause-rule g c = let (q, there, first) = c.requires.rule in (q, there)

pub ways_over-requires-clause-states : goal.ways_over-requires-clause-states
ways_over-requires-clause-states g c = triple_states g.T.Theory.atom_holds g.T.Labels.make (plain_second c.args.self.now.second) (plain_triple c.args.triple.now) c.requires.known.are

pub outs_of_ways-requires : goal.outs_of_ways-requires
outs_of_ways-requires g c =
    let T = g.T in
    let N = T.Theory.meaning c.args.self.now.theory.now in
    let fits = T.Theory.atom_fits c.args.self.now.theory.now in
    let f = c.args.self.now.sttr.now in
    let s = plain_second c.args.self.now.second in
    let can = c.requires.can in
    let (q, there, first) = c.requires.rule in
    let x = plain_triple c.args.triple.now in
    let Q = (IsThroughMap T.Map.PartialEq.eq T.Labels.is_chained (T.Labels.map_fits c.args.self.now.theory.now) T.Labels.map_makes f s) in
    let reflexive = subst (λ eq. (b : _) → eq b b ≡ true) (sym (g.met.T.Theory.equal_is_own c.args.self.now.theory.now)) (λ b. g.met.T.Atom.Eq.laws.refl b) in
    record {
      guard = guard_at fits f q (plain_out c.args.rule.now) there can.labels.guards;
      guards = subst (All (λ y. EveryAtom fits (plain_formula y.guard))) (sym c.deref.ensures.value) (way_guards T.Labels.is_put T.Labels.make N fits f s (Q (KeepsOutput x)) c.in_ok-ways.ways.items c.in_ok-ways.ensures.made);
      terms = subst (All (λ y. HasTerm y.term)) (sym c.deref.ensures.value) (terms_there T.Labels.is_put T.Labels.make N fits f s Q can.looks can.stands can.labels.guards reflexive q (plain_out c.args.rule.now) there x first c.requires.known c.in_ok-ways.ways.items c.in_ok-ways.ensures.ways c.in_ok-ways.ensures.made);
    }

pub returns-clause-rules : goal.returns-clause-rules
returns-clause-rules g c =
    let T = g.T in
    let N = T.Theory.meaning c.args.self.now.theory.now in
    let fits = T.Theory.atom_fits c.args.self.now.theory.now in
    let f = c.args.self.now.sttr.now in
    let s = plain_second c.args.self.now.second in
    let eq = T.Map.PartialEq.eq in
    let can = c.requires.can in
    let (q, there, first) = c.requires.rule in
    let ys = c.in_ok-ways.ways.items in
    let x = plain_triple c.args.triple.now in
    let old = names_in c.args.names.now.keys in
    let new = names_in c.outs_of_ways.new.names.keys in
    let before = called_in c.args.called.now.keys in
    let after = called_in c.outs_of_ways.new.called.keys in
    let made = map plain_out c.in_ok-rules.rules.items in
    let Q = (IsThroughMap T.Map.PartialEq.eq T.Labels.is_chained (T.Labels.map_fits c.args.self.now.theory.now) T.Labels.map_makes f s) in
    let reflexive = subst (λ eq. (b : _) → eq b b ≡ true) (sym (g.met.T.Theory.equal_is_own c.args.self.now.theory.now)) (λ b. g.met.T.Atom.Eq.laws.refl b) in (
      map tidy_way (map (way_at T.Theory.atom_holds T.Labels.make) ys),
      c.in_ok-ways.ensures.ways,
      outs_done T.Labels.is_put T.Labels.make N fits f s Q can.looks can.stands can.labels.guards reflexive q (plain_out c.args.rule.now) there x first c.requires.known ys c.in_ok-ways.ensures.ways c.in_ok-ways.ensures.made eq (map_same T.Map.PartialEq.eq T.Labels.is_chained (T.Labels.map_fits c.args.self.now.theory.now) T.Labels.map_makes f s g.met.T.Map.Eq.laws.congr (λ m n e k. g.met.T.Labels.equal_maps_fit c.args.self.now.theory.now m n e k) (λ made m n e k. g.met.T.Labels.equal_maps_make made m n e k) (KeepsOutput x)) old new before after made
          (subst (λ l. AreOutMade T.Labels.make N.has eq T.Theory.atom_holds old new before after (plain_out c.args.rule.now).rule l made) c.deref.ensures.value c.in_ok-rules.ensures),
    )
