use Rattle.std.proofs.Common.{◌+◌, ap, map, sym, ◌∙◌}
use Rattle.std.proofs.lemmas.Simd.{map-map}
use Rattle.sta_ops.proofs.Moved.{same_parts}
use Rattle.sta_ops.proofs.copies.move_rule.Goals as goal

pub returns : goal.returns
returns g c =
    same_parts c.args.rule.now.constructor _ _ _ _ c.in_ok-guard.ensures
    (c.in_ok-demands.ensures ∙ ap (map (λ d. map (λ s. c.args.by + s) d.items)) c.deref.ensures.value ∙ sym (map-map (map (λ s. c.args.by + s)) (λ d. d.items) c.args.rule.now.demands.items))
