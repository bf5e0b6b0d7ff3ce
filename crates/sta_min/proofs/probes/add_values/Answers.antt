use Rattle.std.proofs.Common.{◌≡◌, ◌++◌, ◌∷◌, [], map, refl, sym, ap, subst, ◌∙◌, arith}
use Rattle.std.proofs.lemmas.List.{map-append}
use Rattle.sta_classes.specs.Grow.{Grown}
use Rattle.sta_classes.proofs.Grown.{grown_push}
use Rattle.sta_min.specs.Probes.{PlainProbe, plain_probe}
use Rattle.sta_min.proofs.Probing.{up_none, up_more, up_all}
use Rattle.sta_min.proofs.probes.add_values.Goals as goal

pub values-init : goal.values-init
values-init c = up_none (λ v p. record { constructor = c.args.constructor; value = v; place = c.args.place; children = c.args.children.now } ≡ p) (map plain_probe c.args.probes.now.items) (map plain_probe c.args.probes.now.items) 0 refl refl

pub values-preserved : goal.values-preserved
values-preserved c =
    let made : PlainProbe = record { constructor = c.args.constructor; value = c.values.value; place = c.args.place; children = c.args.children.now } in
    let put : map plain_probe c.push.new.self.items ≡ map plain_probe c.values.probes.items ++ made ∷ [] =
    ap (map plain_probe) c.in_ok-push.ensures.items ∙ map-append plain_probe c.values.probes.items _
    ∙ ap (λ l. map plain_probe c.values.probes.items ++ record { constructor = c.args.constructor; value = c.values.value; place = c.args.place; children = l } ∷ []) c.in_ok-children.ensures.items in
    up_more (λ v p. record { constructor = c.args.constructor; value = v; place = c.args.place; children = c.args.children.now } ≡ p) (map plain_probe c.args.probes.now.items) (map plain_probe c.values.probes.items) (map plain_probe c.push.new.self.items) c.values.value c.values.invariant
    (subst (λ l. Grown (map plain_probe c.values.probes.items) l (λ p. made ≡ p)) (sym put) (grown_push (map plain_probe c.values.probes.items) made))

pub returns : goal.returns
returns c =
    up_all (λ v p. record { constructor = c.args.constructor; value = v; place = c.args.place; children = c.args.children.now } ≡ p) (map plain_probe c.args.probes.now.items) (map plain_probe c.values.probes.items) c.values.value c.args.values c.values.auto.value-end (omega (arith, c.values-test.false)) c.values.invariant
