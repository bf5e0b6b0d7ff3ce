use Rattle.std.proofs.Common.{◌≡◌, ◌≢◌, [], ◌∷◌, ◌++◌, All, length, set, sym, ap, subst, ◌∙◌, arith}
use Rattle.model_tree.specs.Tree.{constructor_of, label_of}
use Rattle.model_sta.specs.Sets.{step}
use Rattle.sta_core.specs.Sta.{automaton_of}
use Rattle.sta_marks.specs.Rows.{no_state, rows_at}
use Rattle.sta_marks.proofs.Passed.{one_done, apart_at_end, marked_at_end}
use Rattle.sta_marks.proofs.pass.+mark.Goals as goal

pub loop-child-preserved : goal.loop-child-preserved
loop-child-preserved g t c =
    let rules = automaton_of g.T.Theory.atom_holds c.args.table.now.sta.now in
    let start = c.args.marks.now in
    record {
      states = c.in_ok-mark.ensures.states ∙ c.loop-child.invariant.states;
      done = one_done g.T.Theory.label_of rules start.rows c.loop-child.marks.rows (no_state start.states) c.loop-child.children.items c.children-child-items.result.now c.loop-child.child-index c.child-item.result
          (omega (arith, c.loop-child-test.true)) c.child-item.is c.loop-child.invariant.done c.mark.new.marks.rows c.push.new.self.items c.in_ok-mark.ensures.rows
          (c.in_ok-push.ensures.items ∙ ap (λ k. c.loop-child.children.items ++ k ∷ []) c.nodes.ensures);
    }

pub mark_root-requires-clause-apart : goal.mark_root-requires-clause-apart
mark_root-requires-clause-apart g t c =
    let rules = automaton_of g.T.Theory.atom_holds c.args.table.now.sta.now in
    let start = c.args.marks.now in
    let all = apart_at_end g.T.Theory.label_of rules c.args.tree.now start.rows c.loop-child.marks.rows (no_state start.states) c.loop-child.children.items c.children-child-items.result.now c.loop-child.child-index c.children-child-items.ensures (omega (arith, c.loop-child-test.false)) c.loop-child.invariant.done in
    subst (λ n. All (λ k. k ≢ n) c.deref.result.now) (sym c.nodes-node.ensures) (subst (All (λ k. k ≢ length start.rows)) (sym c.deref.ensures.value) all)

pub returns-clause-rows : goal.returns-clause-rows
returns-clause-rows g t c =
    let rules = automaton_of g.T.Theory.atom_holds c.args.table.now.sta.now in
    let start = c.args.marks.now in
    let now = c.loop-child.marks in
    let over = step rules (constructor_of c.args.tree.now) (g.T.Theory.label_of (label_of c.args.tree.now)) in
    let row = over (rows_at now c.deref.result.now) in
    marked_at_end g.T.Theory.label_of rules c.args.tree.now start.rows now.rows (no_state start.states) c.loop-child.children.items c.children-child-items.result.now c.loop-child.child-index c.children-child-items.ensures (omega (arith, c.loop-child-test.false)) c.loop-child.invariant.done
    row c.mark_root.new.marks.rows (ap (λ ks. over (rows_at now ks)) c.deref.ensures.value) (ap (λ m. m.rows) c.mark_root.ensures ∙ ap (λ n. set now.rows n row) c.nodes-node.ensures)
