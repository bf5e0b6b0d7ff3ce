use Rattle.std.proofs.Common.{List, ℕ, ◌≡◌, ◌↔◌, length, Contains, map, refl, sym, ap, subst, ◌∙◌, arith}
use Rattle.std.proofs.lemmas.List.{length-map}
use Rattle.sta_classes.specs.Grow.{Grown, Some}
use Rattle.sta_classes.specs.Rows.{lists_of}
use Rattle.sta_min.specs.Lists.{IsListOf}
use Rattle.sta_min.specs.Probes.{plain_probe, with_one, IsProbeWith, IsProbeAt}
use Rattle.sta_min.proofs.Probing.{up_none, up_more, up_all, of_lists}
use Rattle.sta_min.proofs.probes.add_places.Goals as goal

pub places-init : goal.places-init
places-init c = up_none (IsProbeAt c.args.constructor c.args.values (lists_of c.args.kinds.now)) (map plain_probe c.args.probes.now.items) (map plain_probe c.args.probes.now.items) 0 refl refl

pub places-preserved : goal.places-preserved
places-preserved c =
    let place = c.places.place in
    let kinds = lists_of c.args.kinds.now in
    let choice : lists_of c.deref.result.now ≡ with_one kinds place = ap lists_of c.deref.ensures.value ∙ c.in_ok-choices.ensures in
    let long : length c.deref.result.now ≡ length (with_one kinds place) = sym (length-map c.deref.result.now (λ v. v.items)) ∙ ap length choice in
    let are : (ks : List ℕ) → Contains (lists_of c.in_ok-lists.lists.items) ks ↔ IsListOf (with_one kinds place) (length (with_one kinds place)) ks =
    λ ks. subst (λ n. Contains (lists_of c.in_ok-lists.lists.items) ks ↔ IsListOf (with_one kinds place) n ks) long (subst (λ l. Contains (lists_of c.in_ok-lists.lists.items) ks ↔ IsListOf l (length c.deref.result.now) ks) choice (c.in_ok-lists.ensures ks)) in
    up_more (IsProbeAt c.args.constructor c.args.values kinds) (map plain_probe c.args.probes.now.items) (map plain_probe c.places.probes.items) (map plain_probe c.add_lists.new.probes.items) place c.places.invariant
    (of_lists c.args.constructor c.args.values place kinds c.in_ok-lists.lists.items are (map plain_probe c.places.probes.items) (map plain_probe c.add_lists.new.probes.items)
    (subst (λ l. Grown (map plain_probe c.places.probes.items) (map plain_probe c.add_lists.new.probes.items) (Some (λ v. IsProbeWith c.args.constructor place c.args.values v.items) l)) c.deref-in-places.ensures.value c.in_ok-add_lists.ensures))

pub returns : goal.returns
returns c =
    up_all (IsProbeAt c.args.constructor c.args.values (lists_of c.args.kinds.now)) (map plain_probe c.args.probes.now.items) (map plain_probe c.places.probes.items) c.places.place (length (lists_of c.args.kinds.now)) (omega (arith, c.places.auto.place-end, length-map c.args.kinds.now (λ v. v.items)))
    (omega (arith, c.places-test.false, length-map c.args.kinds.now (λ v. v.items))) c.places.invariant
