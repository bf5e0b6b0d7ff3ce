use Rattle.std.proofs.Common.{◌≡◌, ◌<◌, map, get_or, length, Contains, refl, sym, ap, subst, ◌∙◌, arith, eqb-true}
use Rattle.std.proofs.Math.Dec.{eqb}
use Rattle.std.proofs.lemmas.List.{take_all}
use Rattle.std.proofs.lemmas.Option.{get_or_from_slice_get, slice_get_within}
use Rattle.model_sta.proofs.Reached.{same_default}
use Rattle.sta_ops.specs.Trimmed.{state_named, AreNames}
use Rattle.sta_ops.proofs.Trimming.{meets_none, meets_key, meets_then, named_none, named_next, state_stays, map_own}
use Rattle.sta_ops.proofs.trim.name_states.Goals as goal

pub states-init : goal.states-init
states-init c = record { meets = meets_none c.args.met.now.keys c.args.met.now.keys (Contains c.args.states.now) refl; named = named_none state_named (λ s k. s ≡ k) state_stays c.args.met.now.keys (map (λ s. s) c.new-names.result.items) (ap (map (λ s. s)) c.new-names.ensures.items) }

pub states-preserved : goal.states-preserved
states-preserved c =
    let i = c.states.state-index in
    let s = get_or c.args.states.now i 0 in
    let within : i < length c.args.states.now = c.states-test.true in
    let own : get_or c.args.states.now i s ≡ s = same_default c.args.states.now i s 0 within in
    let old = c.states.met.keys in
    let new = c.insert_full.new.self.keys in
    let (k, at, equal) = c.in_ok-name.ensures.stored in
    let named : state_named new c.in_ok-name.name ≡ s = get_or_from_slice_get new c.in_ok-name.name k 0 at ∙ sym (eqb-true s k equal) in
    let low : c.in_ok-name.name < length new = slice_get_within new c.in_ok-name.name k at in
    let meets = meets_key eqb old new s c.in_ok-name.ensures.keys in
    record {
      meets = meets_then c.args.met.now.keys old new (Contains c.args.states.now) (λ t. s ≡ t) (Contains c.args.states.now) c.states.invariant.meets meets (λ t h. h) (λ t e. subst (Contains c.args.states.now) e (i, within, own));
      named = named_next state_named (λ s k. s ≡ k) state_stays (λ s. s) (λ s. s) c.args.states.now i s within (sym own) old new (λ t. s ≡ t) c.states.names.items c.push.new.self.items c.in_ok-name.name c.in_ok-push.ensures.items meets named (λ k e. subst (λ z. z < length new) e low) c.states.invariant.named;
    }

pub returns : goal.returns
returns c = (
  c.states.invariant.meets,
  subst (λ ns. AreNames c.states.met.keys c.args.states.now ns) (map_own c.states.names.items)
      (subst (λ ss. AreNames c.states.met.keys ss (map (λ s. s) c.states.names.items)) (map_own _ ∙ take_all c.states.state-index c.args.states.now (omega (arith, c.states-test.false))) c.states.invariant.named),
)
