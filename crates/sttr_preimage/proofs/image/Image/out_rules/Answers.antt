use Rattle.std.proofs.Common.{map, ◌<◌, true, ◌≡◌, inl, sym, subst, ap, ◌∙◌}
use Rattle.model_sttr.specs.Transducer.{run}
use Rattle.sttr_core.specs.Machine.{plain_out}
use Rattle.sttr_theory.specs.Copies.{on_same}
use Rattle.sttr_run.specs.Plain.{plain_second}
use Rattle.sttr_preimage.specs.Names.{names_in}
use Rattle.sttr_preimage.specs.Called.{plain_called, called_in, KeepsOutput, AreOwnRules}
use Rattle.sttr_preimage.specs.Images.{first_of, second_of}
use Rattle.sttr_preimage.specs.Outs.{HasState, HasOuts}
use Rattle.sttr_preimage.specs.Through.{IsThroughMap}
use Rattle.sttr_preimage.proofs.Chained.{map_same, map_own}
use Rattle.sttr_preimage.proofs.Owning.{own_low, rules_at, own_done}
use Rattle.sttr_preimage.proofs.Standing.{as_many_rules, gives_child}
use Rattle.sttr_preimage.proofs.image.Image.out_rules.Goals as goal

pub returns-in_ok-own_rules-in-Own-clause-rules : goal.returns-in_ok-own_rules-in-Own-clause-rules
returns-in_ok-own_rules-in-Own-clause-rules g c =
    let T = g.T in
    let N = T.Theory.meaning c.args.self.now.theory.now in
    let fits = T.Theory.atom_fits c.args.self.now.theory.now in
    let map_fits = T.Labels.map_fits c.args.self.now.theory.now in
    let f = c.args.self.now.sttr.now in
    let s = plain_second c.args.self.now.second in
    let eq = T.Map.PartialEq.eq in
    let can = c.requires.can in
    let Q = IsThroughMap eq T.Labels.is_chained map_fits T.Labels.map_makes f s in
    let F = first_of T.Theory.atom_holds T.Labels.make f s in
    let G = second_of T.Theory.atom_holds T.Labels.make f s in
    let old = names_in c.args.names.now.keys in
    let new = names_in c.own_rules.new.names.keys in
    let before = called_in c.args.called.now.keys in
    let after = called_in c.own_rules.new.called.keys in
    let made = map plain_out c.in_ok-own_rules-in-Own.field-0.items in
    let q = c.in-Own.state in
    let x = on_same (run q) in
    let is = ap plain_called c.in-Own.is in
    let reflexive = subst (λ eq. (b : _) → eq b b ≡ true) (sym (g.met.T.Theory.equal_is_own c.args.self.now.theory.now)) (λ b. g.met.T.Atom.Eq.laws.refl b) in
    let known = subst (λ x. HasState T.Labels.is_put T.Labels.make N fits f s (KeepsOutput x) x) is c.requires.known in
    let low = subst (λ n. q < n) (as_many_rules T.Theory.atom_holds T.Labels.make s) (own_low F G (KeepsOutput x) q known) in
    let child = gives_child T.Theory.atom_holds T.Labels.make f known.is_first in
    let place = rules_at c.args.self.now.second.rules.now q c.index-self-state.result low in
    let own = subst (λ rs. AreOwnRules T.Labels.make N.has eq old new before after rs made) (ap (map plain_out) c.deref-in-Own.ensures.value ∙ sym place) c.in_ok-own_rules-in-Own.ensures in
    subst (λ x. HasOuts T.Labels.is_put T.Labels.make N fits f s Q old new before after x made) (sym is)
    (own_done T.Labels.is_put T.Labels.make N fits f s Q eq can.second_looks can.second_stands known.is_first (can.ranks (inl child)) (can.speaks (inl child)).guards reflexive q low old new before after made own
    (λ m has. map_own eq T.Labels.is_chained map_fits T.Labels.map_makes f s (λ m. g.met.T.Map.Eq.laws.refl m) child (can.speaks (inl child)).maps (KeepsOutput x) m has)
    (map_same eq T.Labels.is_chained map_fits T.Labels.map_makes f s g.met.T.Map.Eq.laws.congr (λ m n e k. g.met.T.Labels.equal_maps_fit c.args.self.now.theory.now m n e k) (λ made m n e k. g.met.T.Labels.equal_maps_make made m n e k) (KeepsOutput x)))
