use Rattle.std.proofs.Common.{◌≡◌, ◌++◌, ◌∷◌, [], true, false, get_or, ap, ◌∙◌}
use Rattle.sta_classes.specs.Rows.{lists_of}
use Rattle.sta_classes.proofs.Rows.{lists_push}
use Rattle.sta_min.specs.Demands.{free_in}
use Rattle.sta_min.proofs.Demanding.{keys_next}
use Rattle.sta_min.proofs.demands.demands_of.Goals as goal
use Rattle.sta_min.proofs.demands.demands_of.Goals.{then-not-free-j+in_ok-push, else-not-free-j}

pub places-preserved : goal.places-preserved
places-preserved c =
    let last : lists_of c.push-in-places.new.self.items ≡ lists_of c.places.demands.items ++ c.if-not-free-j.those.items ∷ [] = ap lists_of c.in_ok-push-2.ensures.items ∙ lists_push c.places.demands.items c.if-not-free-j.those in
    elim c.if-not-free-j.branch [
      | then-not-free-j+in_ok-push w ↦
          keys_next (free_in c.args.free.now) c.args.blocks.now c.places.j c.places-test.true (lists_of c.places.demands.items) (lists_of c.push-in-places.new.self.items) c.if-not-free-j.those.items c.places.invariant last false w.if-not-free-j.true
          (ap (λ v. v.items) w.those-is ∙ w.in_ok-push.ensures.items ∙ ap (λ l. l ++ get_or c.args.blocks.now c.places.j 0 ∷ []) c.new-those.ensures.items)
      | else-not-free-j w ↦
          keys_next (free_in c.args.free.now) c.args.blocks.now c.places.j c.places-test.true (lists_of c.places.demands.items) (lists_of c.push-in-places.new.self.items) c.if-not-free-j.those.items c.places.invariant last true w.if-not-free-j.false
          (ap (λ v. v.items) w.those-is ∙ c.new-those.ensures.items)
    ]
