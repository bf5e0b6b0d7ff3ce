use Rattle.std.proofs.Common.{◌≡◌, length, map, ap, ◌∙◌, arith}
use Rattle.fast_tree.specs.Signatures.{plain_field}
use Rattle.fast_syntax.specs.View.{plain_name}
use Rattle.model_grammar.specs.TreeFiles.{trees_of}
use Rattle.model_checks.specs.Failures.{first_among}
use Rattle.model_run.specs.Texts.{label_failures, trees_failures}
use Rattle.tree_reader.specs.declared.FileTree.{out-FileTree}
use Rattle.tree_reader.specs.Plain.{plain_constant, plain_tree}
use Rattle.tree_files.specs.Heads.{name_failures, count_failures}
use Rattle.tree_files.specs.Types.{plain_type}
use Rattle.tree_files.proofs.Failing.{tree_more}
use Rattle.tree_files.proofs.Opened.{tree_noted}
use Rattle.tree_files.proofs.check.+trees.Goals as goal

pub first_of_tree-returns : goal.first_of_tree-returns
first_of_tree-returns t c =
    let s = plain_type c.args.of.now in
    let o = out-FileTree c.args.tree.now in
    let name = plain_name o.name in
    let children : c.len.result ≡ length o.children.items = omega (arith, c.len.ensures, o.children.ok.0) in
    let labels : c.len-2.result ≡ length o.labels.items = omega (arith, c.len-2.ensures, o.labels.ok.0) in
    tree_noted s c.args.tree.now c.args.known c.first_of_name-named.result c.first_of_count-counted.result c.first_of_labels-labelled.result c.first_of_trees.result
    (c.first_of_name-named.ensures ∙ ap (λ n. first_among c.args.known (name_failures s name n)) children)
    (c.first_of_count-counted.ensures ∙ ap (λ n. first_among c.first_of_name-named.result (count_failures s name n)) labels)
    (c.first_of_labels-labelled.ensures ∙ ap (λ fs. first_among c.first_of_count-counted.result (label_failures (map plain_field fs) (map plain_constant c.deref-2.result.now))) c.deref.ensures.value
    ∙ ap (λ ls. first_among c.first_of_count-counted.result (label_failures s.fields (map plain_constant ls))) c.deref-2.ensures.value)
    (c.first_of_trees.ensures ∙ ap (λ ts. first_among c.first_of_labels-labelled.result (trees_failures s (trees_of (map plain_tree ts)))) c.deref-3.ensures.value)

pub first_of_trees-trees-preserved : goal.first_of_trees-trees-preserved
first_of_trees-trees-preserved t c =
    tree_more (plain_type c.args.of.now) c.args.trees.now c.trees.tree-index c.tree-item.result c.trees.first c.first_of_tree-first.result _ c.trees-test.true c.tree-item.is c.first_of_tree-first.ensures c.trees.invariant
