use Rattle.std.proofs.lemmas.Result.{IfOk-from_err}
use Rattle.model_tree.specs.Tree.{relabel}
use Rattle.sta_classes.specs.declared.class.TheConstants.{CAP}
use Rattle.sta_classes.proofs.Trees.{none_here, shown_here}
use Rattle.sta_classes.proofs.table.Table.witness.Goals as goal

pub returns-then-index-ge-CAP : goal.returns-then-index-ge-CAP
returns-then-index-ge-CAP g c = none_here _ c.self.inside.known.classes.items _ c.args.self.now c.self.view_is c.args.class c.index.result.now c.requires.known c.index.ensures g.T.Theory.label_of CAP g.T.Theory.atom_holds (g.T.Theory.meaning c.args.theory.now).has (g.T.Theory.meaning c.args.theory.now).keeps c.requires.built c.if-index-ge-CAP.true

pub returns : goal.returns
returns g c = shown_here _ c.self.inside.known.classes.items _ c.args.self.now c.self.view_is c.args.class c.index.result.now c.requires.known c.index.ensures g.T.Theory.label_of CAP g.T.Theory.atom_holds (g.T.Theory.meaning c.args.theory.now).has (g.T.Theory.meaning c.args.theory.now).keeps c.requires.built c.if-index-ge-CAP.false (relabel g.T.Theory.label_of c.in_ok-tree.tree) c.in_ok-tree.ensures

pub returns-in_err-tree : goal.returns-in_err-tree
returns-in_err-tree g c = IfOk-from_err c.from_residual.result _ c.from_residual.ensures.0
