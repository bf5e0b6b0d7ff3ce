-- Loads of states are loads of relations of which the expression is made.
use Rattle.std.proofs.Common.{inl, inr, Some, sym, subst}
use Rattle.std.proofs.lemmas.List.Elements.{All-weaker}
use Rattle.model_tree.specs.Label.{Label}
use Rattle.model_tree.specs.Tree.{node, Trees, no_trees, tree, LabelTree}
use Rattle.model_tree.specs.Signature.{PlainSignature, HasType, EachHasType}
use Rattle.model_sta.specs.Loads.{Load, outputs, nodes, depths, IsTooMuch, IsSubtree, IsSubtreeOfOne}
use Rattle.model_meaning.specs.Meaning.{signature_named}
use Rattle.model_layers.specs.Causes.{LoadsGoUp}

module _ (signature : PlainSignature) where
  mutual
    -- a tree in a typed one is typed
    part_typed : (s t : LabelTree) → IsSubtree s t → HasType signature t → HasType signature s
    part_typed s (node c l ts) (inl same) typed = subst (HasType signature) (sym same) typed
    part_typed s (node c l ts) (inr below) typed = part_typed_in s ts below typed.3

    part_typed_in : (s : LabelTree) (ts : Trees Label) → IsSubtreeOfOne s ts → EachHasType signature ts → HasType signature s
    part_typed_in s no_trees below typed = absurd below
    part_typed_in s (tree t ts) (inl here) typed = part_typed s t here typed.0
    part_typed_in s (tree t ts) (inr there) typed = part_typed_in s ts there typed.1

-- too much of a relation is too much of one that has at least its pairs
more_too : (load : Load) (R S : LabelTree → LabelTree → Type 0) (t : LabelTree) → ((u : LabelTree) → R t u → S t u) → IsTooMuch load R t → IsTooMuch load S t
more_too outputs R S t to (us, each, apart, many) = (us, All-weaker (R t) (S t) to us each, apart, many)
more_too nodes R S t to (us, each, apart, many) = (us, All-weaker (R t) (S t) to us each, apart, many)
more_too depths R S t to (u, given, deep) = (u, to u given, deep)

pub loads_go_up : LoadsGoUp
loads_go_up items e from into f load t built typed (q, low, s, within, much) =
    let d = built.each_state q low in
    (from, into, d.0, built.goes.1, d.1, s, within, more_too load _ _ s (λ u. (d.2 s u (part_typed (signature_named items (Some from)) s t within typed)).0) much)
