use Rattle.std.proofs.Common.{◌≡◌, ◌≤◌, ◌+◌, ◌*◌, All, length, map, drop}
use Rattle.std.specs.List.{list_any, list_all}
use Rattle.model_tree.specs.Tree.{depth, depth_all, trees_of, relabel, relabel_all}
use Rattle.model_sta.specs.Automaton.{is_accepted, meet_demands, rule_applies}
use Rattle.model_tree.specs.Formula.{EveryAtom}
use Rattle.sta_core.specs.Machine.{plain_rule}
use Rattle.sta_core.specs.Sta.{automaton_of, rule_meaning}
use Rattle.sta_core.proofs.+accepts.Given as goal

abbrev pub decreases-applies : goal.decreases-applies
decreases-applies g l = 4 * depth l.tree.now

abbrev pub decreases-accepts : goal.decreases-accepts
decreases-accepts g l = 4 * depth l.tree.now + 1

abbrev pub decreases-accepted_by_each : goal.decreases-accepted_by_each
decreases-accepted_by_each g l = 4 * depth l.tree.now + 2

abbrev pub decreases-children_meet : goal.decreases-children_meet
decreases-children_meet g l = 4 * depth_all (trees_of l.children.now) + 3

abbrev pub invariant-accepts-loop-rule : goal.invariant-accepts-loop-rule
invariant-accepts-loop-rule g l =
    let rules = automaton_of g.T.Theory.atom_holds l.sta in
    let tree = relabel g.T.Theory.label_of l.tree in
    (list_any (rule_applies rules tree) (map (λ r. rule_meaning g.T.Theory.atom_holds (plain_rule r)) (drop l.rule-index l.rule-items)) ≡ is_accepted rules tree l.state)
    × All (λ r. EveryAtom (g.T.Theory.atom_fits l.theory) (plain_rule r).guard) l.rule-items

abbrev pub invariant-accepted_by_each-loop-state : goal.invariant-accepted_by_each-loop-state
invariant-accepted_by_each-loop-state g l =
    let accepted = is_accepted (automaton_of g.T.Theory.atom_holds l.sta) (relabel g.T.Theory.label_of l.tree) in
    list_all accepted (drop l.state-index l.states) ≡ list_all accepted l.states

abbrev pub invariant-children_meet-loop-child : goal.invariant-children_meet-loop-child
invariant-children_meet-loop-child g l =
    let rules = automaton_of g.T.Theory.atom_holds l.sta in
    (l.i ≡ l.child-index) × (l.i ≤ length l.demands)
    × (meet_demands rules (relabel_all g.T.Theory.label_of (trees_of (drop l.i l.children))) (map (λ d. d.items) (drop l.i l.demands)) ≡ meet_demands rules (relabel_all g.T.Theory.label_of (trees_of l.children)) (map (λ d. d.items) l.demands))
