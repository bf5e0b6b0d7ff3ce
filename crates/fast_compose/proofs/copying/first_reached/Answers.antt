use Rattle.std.proofs.Common.{◌≡◌, inl, inr, ◌+◌, take, Contains, sym, subst, ◌∙◌, take_all}
use Rattle.model_checks.proofs.SoundWhole.{sound}
use Rattle.model_meaning.proofs.Members.{none_of}
use Rattle.fast_build.specs.Items.{items_of}
use Rattle.fast_compose.specs.Copying.{IsFirst}
use Rattle.fast_compose.proofs.First.{first_of_both, none_copies, trans_none, first_of_names}
use Rattle.fast_compose.proofs.Rounds.{front_more, last_more, either_more}
use Rattle.fast_compose.proofs.copying.first_reached.Goals as goal

pub returns-then-is_none : goal.returns-then-is_none
returns-then-is_none c =
    let items = items_of c.args.checked.now in
    none_copies items (sound items c.args.checked.now.well_formed) c.args.name.now (trans_none c.trans.result _ _ c.if-is_none.ensures c.trans.ensures)

pub reached-init : goal.reached-init
reached-init c = λ q i r at copies. absurd (none_of q at)

pub reached-preserved : goal.reached-preserved
reached-preserved c =
    let items = items_of c.args.checked.now in
    let names = c.as_slice-own-items.result.now in
    let k = c.reached.own-index in
    let own = c.own-item.result in
    let more = either_more names k own c.reached-test.true c.own-item.is in
    subst (IsFirst items (λ q i. Contains (take (k + 1) names) q)) (sym c.earlier-first.ensures)
    (first_of_both items (λ q i. Contains (take k names) q) (λ q i. q ≡ own) (λ q i. Contains (take (k + 1) names) q)
    (λ q i at. front_more names k own c.reached-test.true c.own-item.is q at) (λ q i same. subst (Contains (take (k + 1) names)) (sym same) (last_more names k own c.reached-test.true c.own-item.is))
    (λ q i at. elim (more q at) [ inl here ↦ inl here | inr same ↦ inr (sym same) ])
    c.reached.first c.in_ok-found.found c.reached.invariant c.in_ok-found.ensures)

pub returns : goal.returns
returns c =
    let items = items_of c.args.checked.now in
    let names = c.as_slice-own-items.result.now in
    let all : take c.reached.own-index names ≡ c.in_ok-built.built.names.keys = take_all c.reached.own-index names c.reached-test.false ∙ c.as_slice-own-items.ensures.keys in
    first_of_names items (sound items c.args.checked.now.well_formed) c.args.name.now c.in_ok-built.built.names.keys _ c.in_ok-built.ensures.transducer c.reached.first
    (subst (λ ns. IsFirst items (λ q i. Contains ns q) c.reached.first) all c.reached.invariant)
