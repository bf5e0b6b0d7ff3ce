use Rattle.std.proofs.Common.{◌≡◌, ◌+◌, [], ◌∷◌, ◌++◌, get_or, length, ap, sym, subst, ◌∙◌, arith}
use Rattle.model_sta.proofs.Reached.{same_default}
use Rattle.sta_theory.specs.Rounds.{IsDense}
use Rattle.sta_min.proofs.Refining.{IsDenseSoFar, first_dense, next_first, next_later}
use Rattle.sta_min.proofs.dense.blocks_of.Goals as goal
use Rattle.sta_min.proofs.dense.blocks_of.Goals.{then-first-class+in_ok-push+in_ok-push-2, else-first-class+in_ok-push-3}

pub classes-init : goal.classes-init
classes-init c = first_dense c.args.numbers.now c.new-firsts.result.items c.new-dense.result.items c.new-firsts.ensures.items c.new-dense.ensures.items

pub overflow_cast-len : goal.overflow_cast-len
overflow_cast-len c = omega (arith, c.classes.invariant.few, c.classes-test.true, c.requires.few, c.len.ensures, c.classes.firsts.ok.0)

pub index-requires : goal.index-requires
index-requires c = omega (arith, c.requires.numbers.up_to c.classes.class c.classes-test.true, c.if-first-class.false, c.classes.invariant.is.many, c.classes.dense.ok.0)

pub classes-preserved : goal.classes-preserved
classes-preserved c = elim c.if-first-class.branch [
  | then-first-class+in_ok-push+in_ok-push-2 w ↦
      next_first c.args.numbers.now c.requires.numbers c.classes.class c.classes-test.true c.classes.firsts.items c.classes.dense.items c.classes.invariant w.if-first-class.true c.if-first-class.firsts.items c.if-first-class.dense.items
      (ap (λ v. v.items) w.firsts-is ∙ w.in_ok-push-2.ensures.items) (ap (λ v. v.items) w.dense-is ∙ w.in_ok-push.ensures.items ∙ ap (λ n. c.classes.dense.items ++ n ∷ []) (let e : w.len.result ≡ length c.classes.firsts.items = omega (arith, w.len.ensures, c.classes.firsts.ok.0) in e))
  | else-first-class+in_ok-push-3 w ↦
      subst (λ l. IsDenseSoFar c.args.numbers.now (c.classes.class + 1) l c.if-first-class.dense.items) (sym (ap (λ v. v.items) w.firsts-is))
      (next_later c.args.numbers.now c.requires.numbers c.classes.class c.classes-test.true c.classes.firsts.items c.classes.dense.items c.classes.invariant w.if-first-class.false w.index.result.now
      (w.index.ensures ∙ same_default c.classes.dense.items (get_or c.args.numbers.now c.classes.class 0) w.index.result.now 0 (omega (arith, c.requires.numbers.up_to c.classes.class c.classes-test.true, w.if-first-class.false, c.classes.invariant.is.many))) c.if-first-class.dense.items (ap (λ v. v.items) w.dense-is ∙ w.in_ok-push-3.ensures.items))
]

pub returns-clause-few : goal.returns-clause-few
returns-clause-few c = omega (arith, c.classes.invariant.few, c.classes.auto.class-end)

pub returns-clause-dense : goal.returns-clause-dense
returns-clause-dense c = subst (λ n. IsDense n c.args.numbers.now c.classes.firsts.items c.classes.dense.items) (let e : c.classes.class ≡ length c.args.numbers.now = omega (arith, c.classes-test.false, c.classes.auto.class-end) in e) c.classes.invariant.is
