use Rattle.std.proofs.lemmas.Result.{IfOk-from_err, IfOk-at_ok}
use Rattle.std.proofs.Common.{◌∙◌, ◌+◌, length, sym, ap, subst, arith}
use Rattle.std.proofs.lemmas.List.{length_push}
use Rattle.sta_classes.specs.Applying.{IsRules}
use Rattle.sta_classes.proofs.Keys.{element_pushed}
use Rattle.sta_classes.proofs.rules.each_rules.Goals as goal

pub constructors-preserved : goal.constructors-preserved
constructors-preserved g c =
    let (own, made, items) = c.in_ok-added.ensures in
    record {
      many = ap length items ∙ length_push c.constructors.each.items own ∙ ap (λ n. n + 1) c.constructors.invariant.many;
      are = element_pushed (λ n own. IsRules g.A.PartialEq.eq c.args.rules.now n own) c.constructors.each.items c.added.new.list.items own items (subst (λ n. IsRules g.A.PartialEq.eq c.args.rules.now n own) (sym c.constructors.invariant.many) (IfOk-at_ok _ made c.new.ensures)) c.constructors.invariant.are;
    }

pub returns-in_err-added : goal.returns-in_err-added
returns-in_err-added g c = IfOk-from_err c.from_residual.result _ c.from_residual.ensures.0

pub returns : goal.returns
returns g c = record {
  few = omega (arith, c.if-constructors.false);
  many = omega (arith, c.constructors.invariant.many, c.constructors.auto.constructor-end, c.constructors-test.false);
  are = c.constructors.invariant.are;
}
