use Rattle.std.proofs.Common.{◌<◌, ◌++◌, ◌∷◌, [], length, ap, ap₂, map, sym, ◌∙◌, arith}
use Rattle.std.proofs.lemmas.List.{map-append}
use Rattle.sta_ops.proofs.Moved.{joined_more}
use Rattle.sta_ops.proofs.pairs.join_demands.Goals as goal

pub loop-i-preserved : goal.loop-i-preserved
loop-i-preserved c =
    let low : c.loop-i.i < length c.args.second.now = omega (arith, c.loop-i-test.true, c.requires) in
    ap (map (λ d. d.items)) c.in_ok-push.ensures.items ∙ map-append (λ d. d.items) c.loop-i.demands.items (c.in_ok-concat.field-0 ∷ [])
    ∙ ap₂ (λ a b. a ++ b ∷ []) c.loop-i.invariant (c.in_ok-concat.ensures ∙ ap₂ (λ a b. a ++ b) c.deref.ensures.value c.deref-in-loop-i.ensures.value)
    ∙ sym (joined_more (λ d. d.items) c.args.first.now c.args.second.now c.loop-i.i c.index-first-i.result c.index-second-i.result c.loop-i-test.true low c.index-first-i.is c.index-second-i.is)
