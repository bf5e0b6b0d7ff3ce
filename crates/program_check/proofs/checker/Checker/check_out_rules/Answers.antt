use Rattle.std.proofs.Common.{Option, [], sym, ap, subst, map}
use Rattle.std.specs.List.{flat_map}
use Rattle.std.proofs.lemmas.List.{drop_all}
use Rattle.fast_syntax.specs.Plain.{plain_rule, plain_out_rule}
use Rattle.model_checks.specs.Rules.{rule_limit, out_rule_failures}
use Rattle.program_check.specs.Contexts.{items_of}
use Rattle.program_check.proofs.Noting.{next, as_same, nothing, more, done, one_of}
use Rattle.std.specs.Option.{option_map_or}
use Rattle.model_tree.specs.Limits.{most_rules}
use Rattle.model_checks.specs.Failures.{failure}
use Rattle.fast_fault.specs.declared.code.Code.TheVariants.{TooMany}
use Rattle.model_grammar.specs.Syntax as plain
use Rattle.fast_syntax.specs.declared.items.OutRule.{OutRule}
use Rattle.program_check.specs.declared.checker.Checker.{Checker}
use Rattle.program_check.specs.Notes.{Notes}
use Rattle.program_check.proofs.Found.{there_by, past_by}
use Rattle.program_check.proofs.checker.Checker.check_out_rules.Goals as goal
use Rattle.program_check.proofs.checker.Checker.check_out_rules.Goals.{then-rules-gt-MOST_RULES, else-rules-gt-MOST_RULES}

pub rules-preserved : goal.rules-preserved
rules-preserved c from into found h =
    let one = c.check_rule.ensures from into found h in
    let each = out_rule_failures (items_of c.args.context.now) from into in
    more _ one (one_of each plain_out_rule c.args.rules.now c.rules.rule-index c.rule-item.result c.rules-test.true c.rule-item.is) (c.rules.invariant from into found one.had)

pub returns : goal.returns
returns c from into found h =
    let each = out_rule_failures (items_of c.args.context.now) from into in
    let rest = done (ap (λ xs. flat_map each (map plain_out_rule xs)) (drop_all c.rules.rule-index c.args.rules.now c.rules-test.false)) (c.rules.invariant from into found h) in
    let plain_limit = λ (o : Option plain.Rule). option_map_or (λ (x : plain.Rule). failure TooMany x.ctor.place) o [] in
    let limit : Notes c.args.self.now c.if-rules-gt-MOST_RULES.self (rule_limit (map (λ (r : OutRule). plain_rule r.rule) c.args.rules.now)) = elim c.if-rules-gt-MOST_RULES.branch [
      | then-rules-gt-MOST_RULES w ↦ subst (λ (x : Checker). Notes c.args.self.now x (rule_limit (map (λ (r : OutRule). plain_rule r.rule) c.args.rules.now))) (sym w.self-is)
          (as_same (ap plain_limit (there_by (λ (r : OutRule). plain_rule r.rule) c.args.rules.now most_rules w.index-rules-4096.result w.if-rules-gt-MOST_RULES.true w.index-rules-4096.is)) (as_same (ap (λ (x : OutRule). failure TooMany x.rule.ctor.place) (sym w.index-rules-4096.is)) w.note.ensures))
      | else-rules-gt-MOST_RULES w ↦ subst (λ (x : Checker). Notes c.args.self.now x (rule_limit (map (λ (r : OutRule). plain_rule r.rule) c.args.rules.now))) (sym w.self-is) (as_same (ap plain_limit (past_by (λ (r : OutRule). plain_rule r.rule) c.args.rules.now most_rules w.if-rules-gt-MOST_RULES.false)) (nothing c.args.self.now))
    ] in
    next (limit rest.had) rest
