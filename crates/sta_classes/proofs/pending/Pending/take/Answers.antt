use Rattle.std.proofs.Common.{◌≡◌, [], None, set, sym, ap, refl, subst, ◌∙◌, arith}
use Rattle.std.specs.Prelude.{MatchOption}
use Rattle.std.specs.Vec.{with_item}
use Rattle.std.specs.BinaryHeap.{heap_items}
use Rattle.model_sta.proofs.Reached.{same_default}
use Rattle.sta_classes.specs.Pending.{IsDone, IsTaken}
use Rattle.sta_classes.proofs.Offers.{leaving}
use Rattle.std.proofs.lemmas.List.{nil_from_length}
use Rattle.sta_classes.proofs.Offered.{taken_from, done_from, same_order}
use Rattle.sta_classes.proofs.Takes.{number_low, kept_stale, kept_taken, taken}
use Rattle.sta_classes.proofs.pending.Pending.take.Goals as goal

pub index-requires : goal.index-requires
index-requires g c = omega (arith, (number_low c.order.self (record { sets = c.order.self.sets; best = c.order.self.best; order = c.pop.new.self }) c.order.invariant.kept c.in-Some.first.0 c.in-Some.first.1 c.in-Some.ensures.permutation c.in-Some.ensures.heap_order refl), c.order.self.best.ok.0)

pub index_mut-requires : goal.index_mut-requires
index_mut-requires g c = omega (arith, (number_low c.order.self (record { sets = c.order.self.sets; best = c.order.self.best; order = c.pop.new.self }) c.order.invariant.kept c.in-Some.first.0 c.in-Some.first.1 c.in-Some.ensures.permutation c.in-Some.ensures.heap_order refl), c.order.self.best.ok.0)

pub returns-then-leaves : goal.returns-then-leaves
returns-then-leaves g c = record {
  kept = kept_taken c.order.self (record { sets = c.order.self.sets; best = with_item c.order.self.best c.in-Some.first.1 c.take.new.self; order = c.pop.new.self }) c.order.invariant.kept c.in-Some.first.0 c.in-Some.first.1 c.in-Some.ensures.permutation c.in-Some.ensures.heap_order refl
      (ap (set c.order.self.best.items c.in-Some.first.1) c.take.ensures.after) c.index.result.now (sym (c.index.ensures ∙ same_default c.order.self.best.items c.in-Some.first.1 c.index.result.now None (number_low c.order.self (record { sets = c.order.self.sets; best = c.order.self.best; order = c.pop.new.self }) c.order.invariant.kept c.in-Some.first.0 c.in-Some.first.1 c.in-Some.ensures.permutation c.in-Some.ensures.heap_order refl))) (sym c.leaves.ensures ∙ c.if-leaves.true);
  taken = let (d, is, capped, left) = leaving c.index.result.now c.in-Some.first.0 (sym c.leaves.ensures ∙ c.if-leaves.true) in
      let same : c.take.result ≡ c.index.result.now = c.take.ensures.value ∙ c.index_mut.ensures.value ∙ same_default c.order.self.best.items c.in-Some.first.1 c.index_mut.result.now None (number_low c.order.self (record { sets = c.order.self.sets; best = c.order.self.best; order = c.pop.new.self }) c.order.invariant.kept c.in-Some.first.0 c.in-Some.first.1 c.in-Some.ensures.permutation c.in-Some.ensures.heap_order refl) ∙ (sym (c.index.ensures ∙ same_default c.order.self.best.items c.in-Some.first.1 c.index.result.now None (number_low c.order.self (record { sets = c.order.self.sets; best = c.order.self.best; order = c.pop.new.self }) c.order.invariant.kept c.in-Some.first.0 c.in-Some.first.1 c.in-Some.ensures.permutation c.in-Some.ensures.heap_order refl))) in
      subst (λ o. MatchOption o (IsDone c.args.self.now (record { sets = c.order.self.sets; best = with_item c.order.self.best c.in-Some.first.1 c.take.new.self; order = c.pop.new.self })) (IsTaken c.args.self.now (record { sets = c.order.self.sets; best = with_item c.order.self.best c.in-Some.first.1 c.take.new.self; order = c.pop.new.self }))) (sym (same ∙ is))
      (taken_from c.args.self.now c.order.self c.order.invariant.sets c.order.invariant.best (record { sets = c.order.self.sets; best = with_item c.order.self.best c.in-Some.first.1 c.take.new.self; order = c.pop.new.self }) d
      (taken c.order.self (record { sets = c.order.self.sets; best = with_item c.order.self.best c.in-Some.first.1 c.take.new.self; order = c.pop.new.self }) c.order.invariant.kept c.in-Some.first.0 c.in-Some.first.1 c.in-Some.ensures.permutation c.in-Some.ensures.heap_order refl
      (ap (set c.order.self.best.items c.in-Some.first.1) c.take.ensures.after) c.index.result.now (sym (c.index.ensures ∙ same_default c.order.self.best.items c.in-Some.first.1 c.index.result.now None (number_low c.order.self (record { sets = c.order.self.sets; best = c.order.self.best; order = c.pop.new.self }) c.order.invariant.kept c.in-Some.first.0 c.in-Some.first.1 c.in-Some.ensures.permutation c.in-Some.ensures.heap_order refl))) (sym c.leaves.ensures ∙ c.if-leaves.true) d is));
}

pub order-preserved : goal.order-preserved
order-preserved g c = record {
  kept = kept_stale c.order.self (record { sets = c.order.self.sets; best = c.order.self.best; order = c.pop.new.self }) c.order.invariant.kept c.in-Some.first.0 c.in-Some.first.1 c.in-Some.ensures.permutation c.in-Some.ensures.heap_order refl refl c.index.result.now (sym (c.index.ensures ∙ same_default c.order.self.best.items c.in-Some.first.1 c.index.result.now None (number_low c.order.self (record { sets = c.order.self.sets; best = c.order.self.best; order = c.pop.new.self }) c.order.invariant.kept c.in-Some.first.0 c.in-Some.first.1 c.in-Some.ensures.permutation c.in-Some.ensures.heap_order refl))) (sym c.leaves.ensures ∙ c.if-leaves.false);
  sets = c.order.invariant.sets;
  best = c.order.invariant.best;
}

pub returns : goal.returns
returns g c = record {
  kept = same_order c.order.self (record { sets = c.order.self.sets; best = c.order.self.best; order = c.pop.new.self }) c.order.invariant.kept refl refl (c.in_default.ensures.unchanged).0;
  taken = let empty : heap_items c.order.self.order ≡ [] = nil_from_length (heap_items c.order.self.order) (omega (arith, c.in_default.ensures.none, c.order.self.order.data.ok.0)) in
      done_from c.args.self.now c.order.self c.order.invariant.sets c.order.invariant.best (record { sets = c.order.self.sets; best = c.order.self.best; order = c.pop.new.self }) c.order.invariant.kept empty refl refl;
}
