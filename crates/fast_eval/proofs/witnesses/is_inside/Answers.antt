use Rattle.model_tree.specs.Tree.{relabel}
use Rattle.fast_tree.specs.Entries.{label_meaning}
use Rattle.fast_syntax.specs.Plain.{plain_x}
use Rattle.fast_eval.specs.Scopes.{items_in, type_in}
use Rattle.fast_eval.proofs.Ready.{operand_built, atoms_fit}
use Rattle.fast_eval.proofs.Witnessed.{inside_where_accepted, kept_labels}
use Rattle.fast_eval.proofs.witnesses.is_inside.Goals as goal

pub has_tree-requires : goal.has_tree-requires
has_tree-requires c =
    let s = c.args.scope.now in
    let y = plain_x c.args.y.now in
    let l = c.lang_of-lang.result.now in
    let built = operand_built (items_in s) y (type_in s) s.built.now c.in_ok-a.a l c.in_ok-a.ensures.built c.lang_of-lang.ensures in
    record {
      fits = atoms_fit (items_in s) (type_in s) y l built s.theory.now c.requires.scope.labels;
      labels = kept_labels (items_in s) (type_in s) s.theory.now c.requires.scope.labels y l built c.args.tree.now c.requires.typed c.requires.kept;
    }

pub returns-clause-inside : goal.returns-clause-inside
returns-clause-inside c =
    let s = c.args.scope.now in
    let y = plain_x c.args.y.now in
    let l = c.lang_of-lang.result.now in
    let built = operand_built (items_in s) y (type_in s) s.built.now c.in_ok-a.a l c.in_ok-a.ensures.built c.lang_of-lang.ensures in
    inside_where_accepted (items_in s) (type_in s) s.theory.now c.requires.scope.labels y l built (relabel label_meaning c.args.tree.now) c.requires.typed c.in_ok-has_tree.field-0 c.in_ok-has_tree.ensures
