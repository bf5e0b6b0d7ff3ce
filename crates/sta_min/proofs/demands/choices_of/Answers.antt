use Rattle.std.proofs.Common.{◌≡◌, ◌<◌, ◌↔◌, cond, Contains, sym, ap, subst, ◌∙◌}
use Rattle.sta_min.specs.Demands.{free_in}
use Rattle.sta_min.proofs.Demanding.{choices_more}
use Rattle.sta_min.proofs.demands.choices_of.Goals as goal
use Rattle.sta_min.proofs.demands.choices_of.Goals.{then-free-j, else-free-j}

pub places-preserved : goal.places-preserved
places-preserved c =
    let so_many : c.if-free-j.numbers ≡ cond (free_in c.args.free.now c.places.j) 1 c.args.count = elim c.if-free-j.branch [
      | then-free-j w ↦ w.numbers-is ∙ sym (ap (λ b. cond b 1 c.args.count) w.if-free-j.true)
      | else-free-j w ↦ w.numbers-is ∙ sym (ap (λ b. cond b 1 c.args.count) w.if-free-j.false)
    ] in
    choices_more (free_in c.args.free.now) c.args.count c.places.j c.places.choices.items c.push.new.self.items c.in_ok-numbers.field-0 c.places.invariant
    (λ k. subst (λ n. Contains c.in_ok-numbers.field-0.items k ↔ (k < n)) so_many (c.in_ok-numbers.ensures k)) c.in_ok-push.ensures.items
