use Rattle.std.proofs.Common.{◌≡◌, inl, inr, [], length, map, get_or, refl, sym, ap, subst, ◌∙◌, arith}
use Rattle.std.proofs.lemmas.List.{length-map, get_or-map}
use Rattle.sta_classes.specs.Grow.{Grown}
use Rattle.sta_classes.specs.Rows.{lists_of}
use Rattle.sta_classes.proofs.Grown.{nowhere}
use Rattle.sta_min.specs.Kinds.{nested}
use Rattle.sta_min.specs.Probes.{plain_probe, IsProbeOf}
use Rattle.sta_min.proofs.Probing.{up_none, up_more, up_all}
use Rattle.sta_min.proofs.probes.all_probes.Goals as goal

pub constructors-init : goal.constructors-init
constructors-init g c = up_none (λ k. IsProbeOf k (get_or (map (λ v. length v.items) c.args.values.now) k 0) (get_or (nested c.args.kinds.now) k [])) [] (map plain_probe c.new-probes.result.items) 0 refl (ap (map plain_probe) c.new-probes.ensures.items)

pub constructors-preserved : goal.constructors-preserved
constructors-preserved g c =
    let k = c.constructors.constructor in
    let count : c.len-count.result ≡ get_or (map (λ v. length v.items) c.args.values.now) k 0 =
    let x = c.index-values-constructor.result in
    let long : c.len-count.result ≡ length x.items = omega (arith, c.len-count.ensures, x.ok.0) in
    long ∙ ap (λ v. length v.items) c.index-values-constructor.is ∙ sym (get_or-map (λ v. length v.items) c.args.values.now k x 0 (omega (arith, c.constructors-test.true, c.requires.values))) in
    let kinds : lists_of c.deref.result.now ≡ get_or (nested c.args.kinds.now) k [] =
    ap lists_of c.deref.ensures.value ∙ ap (λ v. lists_of v.items) c.index-kinds-constructor.is ∙ sym (get_or-map (λ v. lists_of v.items) c.args.kinds.now k c.index-kinds-constructor.result [] c.constructors-test.true) in
    up_more (λ k. IsProbeOf k (get_or (map (λ v. length v.items) c.args.values.now) k 0) (get_or (nested c.args.kinds.now) k [])) [] (map plain_probe c.constructors.probes.items) (map plain_probe c.add_places.new.probes.items) k c.constructors.invariant
    (subst (λ n. Grown (map plain_probe c.constructors.probes.items) (map plain_probe c.add_places.new.probes.items) (IsProbeOf k n (get_or (nested c.args.kinds.now) k []))) count
    (subst (λ l. Grown (map plain_probe c.constructors.probes.items) (map plain_probe c.add_places.new.probes.items) (IsProbeOf k c.len-count.result l)) kinds c.in_ok-add_places.ensures))

pub returns : goal.returns
returns g c p =
    let h = up_all (λ k. IsProbeOf k (get_or (map (λ v. length v.items) c.args.values.now) k 0) (get_or (nested c.args.kinds.now) k [])) [] (map plain_probe c.constructors.probes.items) c.constructors.constructor (length (nested c.args.kinds.now))
    (omega (arith, c.constructors.auto.constructor-end, length-map c.args.kinds.now (λ v. lists_of v.items))) (omega (arith, c.constructors-test.false, length-map c.args.kinds.now (λ v. lists_of v.items))) c.constructors.invariant in
    ((λ at. elim ((h p).0 at) [ inl none ↦ absurd (nowhere p none) | inr w ↦ w ]), (λ w. (h p).1 (inr w)))
