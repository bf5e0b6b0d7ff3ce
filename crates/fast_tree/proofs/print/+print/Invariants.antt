use Rattle.std.proofs.Common.{◌≡◌, ◌+◌, ◌*◌, ◌++◌, drop}
use Rattle.std.specs.Str.{encode_utf8_all}
use Rattle.model_tree.specs.Tree.{relabel_all, trees_of, depth, depth_all}
use Rattle.model_tree.specs.Signature.{EachHasType, names_of}
use Rattle.model_tree.specs.Printed.{printed_children}
use Rattle.fast_tree.specs.Entries.{label_meaning}
use Rattle.fast_tree.specs.Signatures.{plain_signature}
use Rattle.fast_tree.proofs.Scalars.{children_have}
use Rattle.fast_tree.proofs.print.+print.Given as goal

abbrev pub decreases-append_tree : goal.decreases-append_tree
decreases-append_tree l = 2 * depth l.tree.now

abbrev pub decreases-append_children : goal.decreases-append_children
decreases-append_children l = 2 * depth_all (trees_of l.children.now) + 1

abbrev pub invariant-append_children-loop-child : goal.invariant-append_children-loop-child
invariant-append_children-loop-child l =
    let names = names_of (plain_signature l.signature) in
    (l.out.items ++ encode_utf8_all (printed_children names (relabel_all label_meaning (trees_of (drop l.child-index l.children)))) ≡ l.initial.out.items ++ encode_utf8_all (printed_children names (relabel_all label_meaning (trees_of l.children))))
    × EachHasType (plain_signature l.signature) (relabel_all label_meaning (trees_of (drop l.child-index l.children)))
    × (children_have label_meaning (drop l.child-index l.children) → children_have label_meaning l.children)
