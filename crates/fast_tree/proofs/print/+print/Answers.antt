use Rattle.std.proofs.Common.{◌≡◌, ◌+◌, ◌++◌, [], true, drop, get_or, refl, ap, sym, subst, ◌∙◌, append-nil, arith}
use Rattle.std.proofs.lemmas.List.{drop_all}
use Rattle.std.specs.Prelude.{codes}
use Rattle.std.specs.Str.{encode_utf8_all}
use Rattle.fast_tree.specs.declared.signature.CtorOf.{CtorOf}
use Rattle.model_tree.specs.Tree.{relabel, relabel_all, trees_of, list_of, constructor_of, label_of, children_of, depth}
use Rattle.model_tree.specs.Signature.{EachHasType, names_of}
use Rattle.model_tree.specs.Printed.{printed_tree, printed_children, printed_label}
use Rattle.model_tree.proofs.Trees.{depth_of_children, depth_of_child}
use Rattle.fast_tree.specs.Entries.{label_meaning}
use Rattle.fast_tree.specs.Signatures.{plain_signature}
use Rattle.model_tree.specs.Scalars.{label_has_scalars}
use Rattle.fast_tree.proofs.Scalars.{children_have, tree_has, child_more as scalars_more}
use Rattle.fast_tree.proofs.Printing.{drop_at, child_more, node_written, name_at, typed_number}
use Rattle.model_tree.proofs.Typed.{typed_children, printed_parts}
use Rattle.fast_tree.proofs.print.+print.Goals as goal

pub append_children-append_tree-requires : goal.append_children-append_tree-requires
append_children-append_tree-requires t c =
    let first = drop_at c.args.children.now c.loop-child.child-index c.child-item.result (omega arith) c.child-item.is in
    let falls = depth_of_child c.args.children.now c.loop-child.child-index c.child-item.result (omega arith) in
    (omega (arith, falls, ap depth c.child-item.is), (subst (λ ts. EachHasType (plain_signature c.args.signature.now) (relabel_all label_meaning (trees_of ts))) first c.loop-child.invariant.1).0)

pub append_children-loop-child-preserved : goal.append_children-loop-child-preserved
append_children-loop-child-preserved t c =
    let i = c.loop-child.child-index in
    let names = names_of (plain_signature c.args.signature.now) in
    let first = drop_at c.args.children.now i c.child-item.result (omega arith) c.child-item.is in
    let written = c.in_ok-append_tree.ensures.text ∙ ap (λ xs. xs ++ encode_utf8_all (printed_tree names (relabel label_meaning c.child-item.result))) c.in_ok-push.ensures.items in
    let rest = printed_children names (relabel_all label_meaning (trees_of (drop (i + 1) c.args.children.now))) in (
      ap (λ xs. xs ++ encode_utf8_all rest) written ∙ child_more c.loop-child.out.items (printed_tree names (relabel label_meaning c.child-item.result)) rest ∙ ap (λ ts. c.loop-child.out.items ++ encode_utf8_all (printed_children names (relabel_all label_meaning (trees_of ts)))) (sym first) ∙ c.loop-child.invariant.0,
      (subst (λ ts. EachHasType (plain_signature c.args.signature.now) (relabel_all label_meaning (trees_of ts))) first c.loop-child.invariant.1).1,
      scalars_more label_meaning c.args.children.now (drop i c.args.children.now) c.child-item.result (drop (i + 1) c.args.children.now) first c.in_ok-append_tree.ensures.scalars c.loop-child.invariant.2,
    )

pub append_tree-append_children-requires : goal.append_tree-append_children-requires
append_tree-append_children-requires t c =
    let falls = depth_of_children c.args.tree.now in
    (rw c.children.ensures (omega (arith, falls)), subst (λ ts. EachHasType (plain_signature c.args.signature.now) (relabel_all label_meaning (trees_of ts))) (sym c.children.ensures) (typed_children label_meaning (plain_signature c.args.signature.now) c.args.tree.now c.requires))

pub append_tree-returns-clause-text : goal.append_tree-returns-clause-text
append_tree-returns-clause-text t c =
    let constructor = c.index-constructor.result.now in
    let labelled = printed_label (label_meaning (label_of c.args.tree.now)) in
    let below = printed_children (names_of (plain_signature c.args.signature.now)) (relabel_all label_meaning (trees_of (list_of (children_of c.args.tree.now)))) in
    let bytes = c.as_bytes.ensures.value ∙ c.as_str.ensures.bytes in
    let number = typed_number label_meaning c.args.signature.now c.args.tree.now c.requires in
    let named : get_or (names_of (plain_signature c.args.signature.now)) (constructor_of c.args.tree.now) [] ≡ constructor.name = name_at c.args.signature.now (constructor_of c.args.tree.now) constructor number ∙ ap (λ (x : CtorOf). x.name) (sym (c.index-constructor.ensures ∙ ap (λ n. get_or c.args.signature.now.constructors.items n constructor) c.constructor.ensures)) in
    node_written c.args.out.now.items constructor.name labelled below
    c.in_ok-push.ensures.items
    (c.in_ok-extend_from_slice.ensures.items ∙ ap (λ xs. c.push.new.self.items ++ xs) bytes)
    c.in_ok-extend_from_slice-2.ensures.items
    (c.in_ok-append_label.ensures.text ∙ ap (λ l. c.extend_from_slice-2.new.self.items ++ encode_utf8_all (printed_label (label_meaning l))) c.label.ensures)
    c.in_ok-push-2.ensures.items
    (c.in_ok-append_children.ensures.text ∙ ap (λ ts. c.push-2.new.self.items ++ encode_utf8_all (printed_children (names_of (plain_signature c.args.signature.now)) (relabel_all label_meaning (trees_of ts)))) c.children.ensures)
    c.in_ok-push-3.ensures.items
    ∙ ap (λ xs. c.args.out.now.items ++ encode_utf8_all xs) (ap (λ name. codes "(" ++ (name ++ (codes " [" ++ (labelled ++ (codes "]" ++ (below ++ codes ")")))))) (sym named) ∙ sym (printed_parts label_meaning (names_of (plain_signature c.args.signature.now)) c.args.tree.now))

pub append_tree-returns-clause-scalars : goal.append_tree-returns-clause-scalars
append_tree-returns-clause-scalars t c =
    tree_has label_meaning c.args.tree.now
    (subst (λ l. label_has_scalars (label_meaning l) ≡ true) c.label.ensures c.in_ok-append_label.ensures.scalars)
    (subst (children_have label_meaning) c.children.ensures c.in_ok-append_children.ensures.scalars)

pub append_children-loop-child-init : goal.append_children-loop-child-init
append_children-loop-child-init t c = (refl, c.requires, λ have. have)

pub append_children-returns : goal.append_children-returns
append_children-returns t c =
    let names = names_of (plain_signature c.args.signature.now) in
    let none = drop_all c.loop-child.child-index c.args.children.now c.loop-child-test.false in
    record {
      text = sym (append-nil c.loop-child.out.items) ∙ ap (λ ts. c.loop-child.out.items ++ encode_utf8_all (printed_children names (relabel_all label_meaning (trees_of ts)))) (sym none) ∙ c.loop-child.invariant.0;
      scalars = c.loop-child.invariant.2 (subst (children_have label_meaning) (sym none) refl);
    }
