use Rattle.std.proofs.Common.{[], map, length, get_or, sym, subst, subst₂}
use Rattle.model_tree.specs.Tree.{relabel}
use Rattle.model_sta.specs.Reached.{IsComplete}
use Rattle.model_sta.specs.Least.{relabel_found, HasNoTreeBelow, IsLeastTree}
use Rattle.sta_core.specs.Sta.{automaton_of}
use Rattle.sta_classes.specs.declared.class.TheConstants.{CAP}
use Rattle.sta_ops.specs.Asked.{has_asked}
use Rattle.sta_ops.specs.LeastClass.{HasNoClass, IsLeastClass}
use Rattle.sta_ops.proofs.Trees.{rows_same, counts_same, none_of, shown_of, big_of}
use Rattle.sta_ops.proofs.emptiness.least_tree.Goals as goal

pub returns-in-None : goal.returns-in-None
returns-in-None g c =
    let has = (g.T.Theory.meaning c.args.theory.now).has in
    let keeps = (g.T.Theory.meaning c.args.theory.now).keeps in
    let t = c.args.table.now in
    let found = map (relabel_found g.T.Theory.label_of) t.found in
    let rules = automaton_of g.T.Theory.atom_holds t.machine in
    let complete = subst (IsComplete t.machine.ranks has rules) (sym (rows_same g.T.Theory.label_of t.found)) c.requires.table.complete in
    none_of t.machine.ranks has keeps (g.met.T.Theory.keeps_labels c.args.theory.now) rules found c.requires.built complete (has_asked c.args.asked)
    (subst₂ (λ rs ns. HasNoClass rs ns (has_asked c.args.asked)) (sym (rows_same g.T.Theory.label_of t.found)) (sym (counts_same g.T.Theory.label_of t.found)) c.in-None.ensures)

pub returns-in-Some-2 : goal.returns-in-Some-2
returns-in-Some-2 g c =
    let has = (g.T.Theory.meaning c.args.theory.now).has in
    let keeps = (g.T.Theory.meaning c.args.theory.now).keeps in
    let t = c.args.table.now in
    let found = map (relabel_found g.T.Theory.label_of) t.found in
    let rules = automaton_of g.T.Theory.atom_holds t.machine in
    let complete = subst (IsComplete t.machine.ranks has rules) (sym (rows_same g.T.Theory.label_of t.found)) c.requires.table.complete in
    let shown = rw c.in-Some-2.is at c.in_ok-tree-in-Some.ensures in
    shown_of t.machine.ranks has keeps (g.met.T.Theory.keeps_labels c.args.theory.now) rules found c.requires.built complete (has_asked c.args.asked) c.in-Some.class
    (subst₂ (λ rs ns. IsLeastClass rs ns (has_asked c.args.asked) c.in-Some.class) (sym (rows_same g.T.Theory.label_of t.found)) (sym (counts_same g.T.Theory.label_of t.found)) c.in-Some.ensures)
    (length t.found) c.args.most (relabel g.T.Theory.label_of c.in-Some-2.tree) c.requires.few
    (subst (λ rs. IsLeastTree CAP t.machine.ranks has keeps rules (length t.found) (get_or rs c.in-Some.class []) (relabel g.T.Theory.label_of c.in-Some-2.tree)) (sym (rows_same g.T.Theory.label_of t.found)) shown)

pub returns-in-None-2 : goal.returns-in-None-2
returns-in-None-2 g c =
    let has = (g.T.Theory.meaning c.args.theory.now).has in
    let keeps = (g.T.Theory.meaning c.args.theory.now).keeps in
    let t = c.args.table.now in
    let found = map (relabel_found g.T.Theory.label_of) t.found in
    let rules = automaton_of g.T.Theory.atom_holds t.machine in
    let complete = subst (IsComplete t.machine.ranks has rules) (sym (rows_same g.T.Theory.label_of t.found)) c.requires.table.complete in
    let none = rw c.in-None-2.is at c.in_ok-tree-in-Some.ensures in
    big_of t.machine.ranks has keeps (g.met.T.Theory.keeps_labels c.args.theory.now) rules found c.requires.built complete (has_asked c.args.asked) c.in-Some.class
    (subst₂ (λ rs ns. IsLeastClass rs ns (has_asked c.args.asked) c.in-Some.class) (sym (rows_same g.T.Theory.label_of t.found)) (sym (counts_same g.T.Theory.label_of t.found)) c.in-Some.ensures)
    (subst (λ rs. HasNoTreeBelow CAP t.machine.ranks has rules (get_or rs c.in-Some.class [])) (sym (rows_same g.T.Theory.label_of t.found)) none)
