use Rattle.std.proofs.lemmas.Result.{IfOk-from_err, IfOk-at_ok}
use Rattle.std.proofs.Common.{◌+◌, length, ap, ◌∙◌, arith}
use Rattle.std.proofs.lemmas.List.{length_push}
use Rattle.sta_classes.proofs.SameGuards.{likes_more}
use Rattle.sta_classes.proofs.likes.likes_of.Goals as goal

pub loop-number-preserved : goal.loop-number-preserved
loop-number-preserved g c =
    let (like, made, items) = c.in_ok-added.ensures in
    record {
      many = ap length items ∙ length_push c.loop-number.likes.items like ∙ ap (λ n. n + 1) c.loop-number.invariant.many;
      each = likes_more c.args.list.now g.A.PartialEq.eq c.loop-number.likes.items c.added.new.list.items c.loop-number.number like c.loop-number.invariant.many items (IfOk-at_ok _ made c.like_at.ensures) c.loop-number.invariant.each;
    }

pub like_at-requires : goal.like_at-requires
like_at-requires g c = c.loop-number-test.true

pub returns-in_err-added : goal.returns-in_err-added
returns-in_err-added g c = IfOk-from_err c.from_residual.result _ c.from_residual.ensures.0

pub loop-number-init : goal.loop-number-init
loop-number-init g c = record { many = ap length c.new-likes.ensures.items; each = λ i low. absurd (omega (arith, low)) }

pub returns : goal.returns
returns g c = record {
  many = omega (arith, c.loop-number.invariant.many, c.loop-number.auto.number-end, c.loop-number-test.false);
  each = λ i low. c.loop-number.invariant.each i (omega (arith, low, c.loop-number-test.false));
}
