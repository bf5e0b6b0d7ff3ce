use Rattle.std.proofs.Common.{arith, [], inl, inr, subst, sym}
use Rattle.model_sta.specs.Least.{rows_at}
use Rattle.sta_core.specs.Machine.{plain_rule}
use Rattle.sta_ops.specs.Opposites.{Asks}
use Rattle.sta_classes.proofs.Grown.{nowhere, grown_more, grown_all}
use Rattle.sta_theory.proofs.Lists.{map_member, in_map}
use Rattle.sta_ops.proofs.begun.asked_states.Goals as goal

pub rules-preserved : goal.rules-preserved
rules-preserved g c =
    grown_more (λ r s. Asks c.args.constructor (plain_rule r) (rows_at c.args.table.now.found c.args.children.now) s) c.args.rules.now [] c.rules.asked.keys c.add_of_rule.new.asked.keys c.rules.rule-index c.rule-item.result c.rules-test.true c.rule-item.is c.rules.invariant c.in_ok-add_of_rule.ensures

pub returns : goal.returns
returns g c s =
    let h = grown_all (λ r s. Asks c.args.constructor (plain_rule r) (rows_at c.args.table.now.found c.args.children.now) s) c.args.rules.now [] c.rules.asked.keys c.rules.rule-index (omega (arith, c.rules-test.false)) c.rules.invariant in (
      (λ at. elim ((h s).0 at) [
        | inl none ↦ absurd (nowhere s none)
        | inr w ↦ (let (r, at_r, asks) = w in (plain_rule r, in_map plain_rule c.args.rules.now r at_r, asks))
      ]),
      (λ w. (let (p, at_p, asks) = w in let (r, at_r, is) = map_member plain_rule c.args.rules.now p at_p in (h s).1 (inr (r, at_r, subst (λ q. Asks c.args.constructor q (rows_at c.args.table.now.found c.args.children.now) s) (sym is) asks)))),
    )
