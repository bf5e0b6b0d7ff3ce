use Rattle.std.proofs.Common.{map, sym, ap, subst, ◌∙◌}
use Rattle.model_tree.specs.Tree.{relabel_all, trees_of, children_of}
use Rattle.model_tree.specs.TreeCode.{trees_of-list_of}
use Rattle.model_sta.specs.Sets.{sets_of, rows_meet}
use Rattle.sta_core.specs.Machine.{plain_rule}
use Rattle.sta_core.specs.Sta.{automaton_of, rule_meaning}
use Rattle.sta_marks.specs.Nodes.{nodes_of, nodes_of_all}
use Rattle.sttr_apply.specs.Sizes.{StandsAt}
use Rattle.sttr_apply.proofs.Placed.{apart_by_constructor, apart_by_demands, applies_by_guard}
use Rattle.sttr_apply.proofs.scene.Scene.applies.Goals as goal

pub demands_met-requires-clause-placed : goal.demands_met-requires-clause-placed
demands_met-requires-clause-placed g c = subst (λ ts. StandsAt c.args.first (nodes_of_all ts) (nodes_of c.args.self.now.root.now)) (sym (ap trees_of c.children.ensures ∙ trees_of-list_of (children_of c.args.tree.now))) c.requires.placed

pub returns-then-rule-constructor : goal.returns-then-rule-constructor
returns-then-rule-constructor g c = apart_by_constructor g.T.Theory.label_of (automaton_of g.T.Theory.atom_holds c.args.self.now.sttr.now.looks) c.args.tree.now (rule_meaning g.T.Theory.atom_holds (plain_rule c.args.rule.now)) (λ e. c.if-rule-constructor.true (e ∙ sym c.constructor.ensures))

pub returns-then-not-demands_met : goal.returns-then-not-demands_met
returns-then-not-demands_met g c =
    let looks = automaton_of g.T.Theory.atom_holds c.args.self.now.sttr.now.looks in
    let here = ap (λ ts. rows_meet (sets_of looks (relabel_all g.T.Theory.label_of ts)) (map (λ d. d.items) c.deref.result.now)) (ap trees_of c.children.ensures ∙ trees_of-list_of (children_of c.args.tree.now)) in
    apart_by_demands g.T.Theory.label_of looks c.args.tree.now (rule_meaning g.T.Theory.atom_holds (plain_rule c.args.rule.now))
    (ap (λ ds. rows_meet (sets_of looks (relabel_all g.T.Theory.label_of (children_of c.args.tree.now))) (map (λ d. d.items) ds)) (sym c.deref.ensures.value) ∙ (sym here ∙ (sym c.demands_met.ensures ∙ c.if-not-demands_met.true)))

pub returns : goal.returns
returns g c =
    let looks = automaton_of g.T.Theory.atom_holds c.args.self.now.sttr.now.looks in
    let r = rule_meaning g.T.Theory.atom_holds (plain_rule c.args.rule.now) in
    let here = ap (λ ts. rows_meet (sets_of looks (relabel_all g.T.Theory.label_of ts)) (map (λ d. d.items) c.deref.result.now)) (ap trees_of c.children.ensures ∙ trees_of-list_of (children_of c.args.tree.now)) in
    c.holds.ensures ∙ ap (λ v. r.guard (g.T.Theory.label_of v)) c.label.ensures
    ∙ applies_by_guard g.T.Theory.label_of looks c.args.tree.now r (c.if-rule-constructor.false ∙ c.constructor.ensures)
    (ap (λ ds. rows_meet (sets_of looks (relabel_all g.T.Theory.label_of (children_of c.args.tree.now))) (map (λ d. d.items) ds)) (sym c.deref.ensures.value) ∙ (sym here ∙ (sym c.demands_met.ensures ∙ c.if-not-demands_met.false)))
