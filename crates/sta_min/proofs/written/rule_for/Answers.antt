use Rattle.std.proofs.Common.{◌≡◌, ◌<◌, All, length, sym, ap, subst, ◌∙◌}
use Rattle.sta_core.specs.Machine.{plain_rule}
use Rattle.sta_min.specs.Parents.{plain_parents}
use Rattle.sta_min.specs.Written.{classes_in, IsRuleOver}
use Rattle.sta_min.proofs.Ruling.{none_is_in, known_in, empty_list}
use Rattle.sta_min.proofs.written.rule_for.Goals as goal

pub classes_in-requires : goal.classes_in-requires
classes_in-requires g c =
    subst (All (λ k. k < length c.args.dense.now)) (sym c.deref.ensures.value) (subst (λ n. All (λ k. k < n) c.args.parents.now.targets.items) (sym c.requires.dense) c.requires.parents.targets)

pub rule_over-requires-clause-classes : goal.rule_over-requires-clause-classes
rule_over-requires-clause-classes g c =
    subst (All (λ k. k < length c.args.table.now.found)) (sym (c.deref-2.ensures.value ∙ c.in_ok-classes.ensures ∙ ap (classes_in c.args.dense.now c.args.block) c.deref.ensures.value))
    (known_in c.args.dense.now c.args.block (length c.args.table.now.found) c.args.parents.now.targets.items c.requires.parents.targets)

pub returns-then-is_empty : goal.returns-then-is_empty
returns-then-is_empty g c =
    let all : c.in_ok-classes.classes.items ≡ classes_in c.args.dense.now c.args.block c.args.parents.now.targets.items = c.in_ok-classes.ensures ∙ ap (classes_in c.args.dense.now c.args.block) c.deref.ensures.value in
    none_is_in c.args.dense.now c.args.block (plain_parents c.args.parents.now) (sym all ∙ empty_list c.in_ok-classes.classes.items c.in_ok-classes.classes.len c.in_ok-classes.classes.ok.0 (sym c.is_empty.ensures ∙ c.if-is_empty.true))

pub returns : goal.returns
returns g c =
    subst (λ l. IsRuleOver g.T.Atom.PartialEq.eq g.T.Theory.atom_holds c.args.table.now (plain_parents c.args.parents.now) l (plain_rule c.in_ok-rule.rule))
    (c.deref-2.ensures.value ∙ c.in_ok-classes.ensures ∙ ap (classes_in c.args.dense.now c.args.block) c.deref.ensures.value) c.in_ok-rule.ensures
