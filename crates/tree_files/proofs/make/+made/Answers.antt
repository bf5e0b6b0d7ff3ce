use Rattle.std.proofs.Common.{◌≡◌, true, [], ◌∷◌, List, map, sym, ap, ◌∙◌, subst, arith}
use Rattle.std.specs.List.{list_all}
use Rattle.std.proofs.lemmas.List.{map-append}
use Rattle.model_tree.specs.Label.{row}
use Rattle.model_tree.specs.Kept.{is_kept_field}
use Rattle.model_tree.specs.Tree as model
use Rattle.model_tree.proofs.Trees.{relabel_all_of_list}
use Rattle.model_grammar.specs.TreeFiles.{node, trees_of}
use Rattle.model_run.specs.Texts.{tree_failures, trees_failures}
use Rattle.fast_syntax.specs.View.{plain_name}
use Rattle.fast_tree.specs.Entries.{label_meaning}
use Rattle.tree_reader.specs.declared.Constant.{Constant}
use Rattle.tree_reader.specs.declared.FileTree.{FileTree, out-FileTree}
use Rattle.tree_reader.specs.Plain.{plain_constant, plain_tree}
use Rattle.tree_files.specs.Labels.{meant_by}
use Rattle.tree_files.specs.Placed.{meant, IsMade, AreMade}
use Rattle.tree_files.specs.Types.{plain_type}
use Rattle.tree_files.proofs.Constants.{all_kept}
use Rattle.tree_files.proofs.Opened.{opened}
use Rattle.tree_files.proofs.Standing.{is_named, sound_labels, sound_children, node_made, one_made, sound_at}
use Rattle.tree_files.proofs.Weights.{weight, weights, weight_at}
use Rattle.tree_files.proofs.make.+made.Goals as goal

pub made_tree-unreachable-requires : goal.made_tree-unreachable-requires
made_tree-unreachable-requires t c =
    let s = plain_type c.args.of.now in
    let o = out-FileTree c.args.tree.now in
    is_named s o.place (plain_name o.name) (map plain_constant o.labels.items) (trees_of (map plain_tree o.children.items)) (sym (ap (tree_failures s) (opened c.args.tree.now)) ∙ c.requires.sound) (sym (c.in_default.ensures {u = tt}))

pub made_tree-label_of-requires : goal.made_tree-label_of-requires
made_tree-label_of-requires t c =
    let s = plain_type c.args.of.now in
    let o = out-FileTree c.args.tree.now in
    let fit = sound_labels s o.place (plain_name o.name) (map plain_constant o.labels.items) (trees_of (map plain_tree o.children.items)) (sym (ap (tree_failures s) (opened c.args.tree.now)) ∙ c.requires.sound) in
    subst (λ (cs : List Constant). list_all (λ (k : Constant). is_kept_field (meant_by k.value)) cs ≡ true) (sym c.deref.ensures.value) (all_kept s.fields o.labels.items fit)

pub made_tree-made_trees-requires : goal.made_tree-made_trees-requires
made_tree-made_trees-requires t c =
    let s = plain_type c.args.of.now in
    let o = out-FileTree c.args.tree.now in
    let sound = sound_children s o.place (plain_name o.name) (map plain_constant o.labels.items) (trees_of (map plain_tree o.children.items)) (sym (ap (tree_failures s) (opened c.args.tree.now)) ∙ c.requires.sound) in
    let whole = ap weight (opened c.args.tree.now) in
    let below = ap (λ (ts : List FileTree). weights (trees_of (map plain_tree ts))) c.deref-2.ensures.value in
    (omega (arith, whole, below, c.decreases), (c.requires.numbered, subst (λ (ts : List FileTree). trees_failures s (trees_of (map plain_tree ts)) ≡ []) (sym c.deref-2.ensures.value) sound))

pub made_tree-returns : goal.made_tree-returns
made_tree-returns t c =
    let s = plain_type c.args.of.now in
    let o = out-FileTree c.args.tree.now in
    let name = plain_name o.name in
    let labels = map plain_constant o.labels.items in
    let reads = trees_of (map plain_tree o.children.items) in
    let sound = sym (ap (tree_failures s) (opened c.args.tree.now)) ∙ c.requires.sound in
    let number = c.in-Some.number in
    let label = c.in_ok-label.label in
    let children = c.in_ok-children.children.items in
    let label_is = c.in_ok-label.ensures ∙ ap (λ (cs : List Constant). row (map (λ (k : Constant). meant_by k.value) cs)) c.deref.ensures.value in
    let below = subst (λ (ts : List FileTree). AreMade s (trees_of (map plain_tree ts)) (model.trees_of (map meant children))) c.deref-2.ensures.value c.in_ok-children.ensures in
    let made = node_made s o.place name o.labels.items reads number (label_meaning label) (model.trees_of (map meant children)) sound (sym (c.in-Some.ensures {u = tt})) label_is below in
    let is : meant c.new.result ≡ model.node number (label_meaning label) (model.trees_of (map meant children)) =
    ap meant c.new.ensures ∙ ap (λ ts. model.node number (label_meaning label) ts) (relabel_all_of_list label_meaning children) in
    subst (λ r. IsMade s r (meant c.new.result)) (sym (opened c.args.tree.now)) (subst (λ u. IsMade s (node o.place name labels reads) u) (sym is) made)

pub made_trees-made_tree-requires : goal.made_trees-made_tree-requires
made_trees-made_tree-requires t c =
    let s = plain_type c.args.of.now in
    let low = weight_at c.args.trees.now c.trees.tree-index c.tree-item.result c.trees-test.true c.tree-item.is in
    (omega (arith, low, c.decreases), (c.requires.numbered, sound_at s c.args.trees.now c.trees.tree-index c.tree-item.result c.requires.sound c.trees-test.true c.tree-item.is))

pub made_trees-trees-preserved : goal.made_trees-trees-preserved
made_trees-trees-preserved t c =
    let made = c.in_ok-made_tree.field-0 in
    one_made (plain_type c.args.of.now) c.args.trees.now c.trees.tree-index c.tree-item.result (map meant c.trees.made.items) (map meant c.push.new.self.items) (meant made) c.trees-test.true c.tree-item.is
    (ap (map meant) c.in_ok-push.ensures.items ∙ map-append meant c.trees.made.items (made ∷ [])) c.in_ok-made_tree.ensures c.trees.invariant
