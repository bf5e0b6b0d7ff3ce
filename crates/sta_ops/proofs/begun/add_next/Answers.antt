use Rattle.std.proofs.Common.{ℕ, List, ◌++◌, ◌∷◌, [], map, get_or, Contains, sym, ap, subst, ◌∙◌, arith}
use Rattle.std.proofs.lemmas.List.{length-map}
use Rattle.model_sta.specs.Least.{rows_of}
use Rattle.model_sta.proofs.Reached.{same_default}
use Rattle.sta_ops.specs.Opposites.{PlainBegun, plain_begun, with_child}
use Rattle.sta_ops.proofs.Growing.{grown, all_taken}
use Rattle.sta_ops.proofs.Moved.{right_end}
use Rattle.sta_ops.proofs.begun.add_next.Goals as goal

pub loop-class-init : goal.loop-class-init
loop-class-init g c = sym (right_end (map plain_begun c.args.nodes.now.items))

pub answers-requires-clause-class : goal.answers-requires-clause-class
answers-requires-clause-class g c =
    let k = get_or c.deref-class-items.result.now c.loop-class.class-index 0 in
    let at : Contains c.in_ok-picked.picked.items k = subst (λ l. Contains l k) c.deref-class-items.ensures.value (c.loop-class.class-index, c.loop-class-test.true, same_default c.deref-class-items.result.now c.loop-class.class-index k 0 c.loop-class-test.true) in
    omega (arith, c.in_ok-picked.ensures.low k at, length-map c.args.table.now.found (λ f. f.row))

pub loop-class-preserved : goal.loop-class-preserved
loop-class-preserved g c =
    let k = get_or c.deref-class-items.result.now c.loop-class.class-index 0 in
    let x : PlainBegun = plain_begun c.args.begun.now in
    grown (with_child (rows_of c.args.table.now.found) c.args.opposites.now c.args.states.now x) c.deref-class-items.result.now c.loop-class.class-index k c.loop-class-test.true (sym (same_default c.deref-class-items.result.now c.loop-class.class-index k 0 c.loop-class-test.true))
    plain_begun (map plain_begun c.args.nodes.now.items) c.loop-class.nodes.items c.push.new.self.items c.in_ok-with_child.field-0 c.in_ok-push.ensures.items
    (c.in_ok-with_child.ensures ∙ ap (child x k) c.in_ok-states.ensures) c.loop-class.invariant
  where
    child : PlainBegun → ℕ → List ℕ → PlainBegun
    child x k d = record { children = x.children ++ k ∷ []; demands = x.demands ++ d ∷ [] }

pub returns : goal.returns
returns g c =
    let made = λ (l : List ℕ). map plain_begun c.args.nodes.now.items ++ map (with_child (rows_of c.args.table.now.found) c.args.opposites.now c.args.states.now (plain_begun c.args.begun.now)) l in (
      c.in_ok-picked.picked.items,
      c.in_ok-picked.ensures,
      all_taken made c.deref-class-items.result.now c.loop-class.class-index (map plain_begun c.loop-class.nodes.items) (omega (arith, c.loop-class-test.false)) c.loop-class.invariant ∙ ap made c.deref-class-items.ensures.value,
    )
