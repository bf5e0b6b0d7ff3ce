use Rattle.std.proofs.lemmas.Result.{IfOk-from_err, IfOk-at_ok}
use Rattle.std.proofs.Common.{arith, ap, ◌∙◌, ◌∷◌, [], ◌<◌, get_or, map}
use Rattle.std.proofs.lemmas.List.{map-append}
use Rattle.model_tree.specs.Tree.{relabel}
use Rattle.sta_classes.specs.declared.class.TheConstants.{CAP}
use Rattle.sta_classes.proofs.Trees.{child_here, kids_here, built_here}
use Rattle.sta_classes.proofs.table.Table.+build.Goals as goal

pub build-requires : goal.build-requires
build-requires g t c κs within =
    let low : get_or c.deref-child-items.result.now c.children.child-index 0 < c.args.class = child_here _ c.self.inside.known.classes.items _ c.args.self.now c.self.view_is c.args.class c.index-made.result.now c.requires.known c.index-made.ensures g.T.Theory.label_of CAP g.T.Theory.atom_holds (g.T.Theory.meaning c.args.theory.now).keeps c.requires.made c.deref-child-items.result.now c.children.child-index c.deref-child-items.ensures.value c.children-test.true in
    (omega arith, (within.0, (within.1.0, (within.1.1.0, (within.1.1.1, (c.requires.made, omega (arith, low, c.requires.known)))))))

pub children-preserved : goal.children-preserved
children-preserved g t c =
    let (tree, made, items) = c.in_ok-added.ensures in
    let low = child_here _ c.self.inside.known.classes.items _ c.args.self.now c.self.view_is c.args.class c.index-made.result.now c.requires.known c.index-made.ensures g.T.Theory.label_of CAP g.T.Theory.atom_holds (g.T.Theory.meaning c.args.theory.now).keeps c.requires.made c.deref-child-items.result.now c.children.child-index c.deref-child-items.ensures.value c.children-test.true in
    kids_here _ c.self.inside.known.classes.items _ c.args.self.now c.self.view_is c.args.class c.index-made.result.now c.requires.known c.index-made.ensures g.T.Theory.label_of CAP g.T.Theory.atom_holds (g.T.Theory.meaning c.args.theory.now).keeps c.requires.made c.deref-child-items.result.now c.children.child-index _ _ (relabel g.T.Theory.label_of tree) c.children-test.true
    (ap (λ ts. map (relabel g.T.Theory.label_of) ts) items ∙ map-append (relabel g.T.Theory.label_of) c.children.children.items (tree ∷ [])) low (IfOk-at_ok _ made c.build.ensures) c.children.invariant

pub returns : goal.returns
returns g t c =
    built_here _ c.self.inside.known.classes.items _ c.args.self.now c.self.view_is c.args.class c.index-made.result.now c.requires.known c.index-made.ensures g.T.Theory.label_of CAP g.T.Theory.atom_holds (g.T.Theory.meaning c.args.theory.now).keeps c.requires.made
    c.in_ok-label.label c.children.children.items c.deref-child-items.result.now c.children.child-index c.new.result c.deref-child-items.ensures.value c.children-test.false c.children.invariant c.in_ok-label.ensures c.new.ensures

pub returns-in_err-added : goal.returns-in_err-added
returns-in_err-added g t c = IfOk-from_err c.from_residual.result _ c.from_residual.ensures.0

pub returns-in_err-label : goal.returns-in_err-label
returns-in_err-label g t c = IfOk-from_err c.from_residual-in_err-label.result _ c.from_residual-in_err-label.ensures.0
