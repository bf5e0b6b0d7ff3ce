use Rattle.std.proofs.Common.{◌≡◌, ◌∙◌, ◌+◌, [], length, ap, arith, subst}
use Rattle.std.proofs.lemmas.Result.{IfOk-from_err}
use Rattle.std.proofs.lemmas.List.{length_push}
use Rattle.sta_classes.specs.Splits.{AreFresh}
use Rattle.sta_classes.proofs.Keys.{element_pushed}
use Rattle.sta_classes.proofs.splits.no_splits.Goals as goal

pub constructors-init : goal.constructors-init
constructors-init g c = record { many = ap length c.new-splits.ensures.items; none = λ n s low. absurd (omega (arith, low, ap length c.new-splits.ensures.items)) }

pub constructors-preserved : goal.constructors-preserved
constructors-preserved g c = record {
  many = ap length c.in_ok-push.ensures.items ∙ length_push c.constructors.splits.items _ ∙ ap (λ n. n + 1) c.constructors.invariant.many;
  none = element_pushed (λ n s. (s.met.items ≡ []) × ((s.sets.keys ≡ []) × (s.told.items ≡ []))) c.constructors.splits.items c.push.new.self.items _ c.in_ok-push.ensures.items (c.new.ensures.items, (c.new-in-constructors.ensures.empty, c.new-in-constructors-2.ensures.items)) c.constructors.invariant.none;
}

pub returns : goal.returns
returns g c = subst (λ n. AreFresh n c.constructors.splits.items) (omega (arith, c.constructors.auto.counter-end, c.constructors-test.false)) c.constructors.invariant

pub returns-in_err-push : goal.returns-in_err-push
returns-in_err-push g c = IfOk-from_err c.from_residual.result _ c.from_residual.ensures.0
