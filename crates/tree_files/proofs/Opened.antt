-- The plain form of a tree, by its parts.
use Rattle.std.proofs.Common.{◌≡◌, suc, List, [], ◌∷◌, ◌++◌, Option, length, map, refl, sym, ap, ◌∙◌}
use Rattle.std.specs.Prelude.{◌==◌, not}
use Rattle.fast_fault.specs.declared.code.Code.TheVariants.{WrongRank}
use Rattle.fast_fault.specs.declared.refusal.Refusal.{Refusal}
use Rattle.fast_syntax.specs.View.{plain_name}
use Rattle.model_tree.specs.Signature.{PlainSignature, names_of}
use Rattle.model_grammar.specs.TreeFiles.{node, trees_of}
use Rattle.model_checks.specs.Failures.{fails_if, first_among}
use Rattle.model_meaning.specs.Outputs.{number_named}
use Rattle.model_run.specs.Texts.{file_place, file_tree_count, head_failures, label_failures, tree_failures, trees_failures}
use Rattle.tree_reader.specs.declared.FileTree.{FileTree, out-FileTree}
use Rattle.tree_reader.specs.declared.FileTree.TheViews.{roll-out-FileTree}
use Rattle.tree_reader.specs.Plain.{plain_constant, plain_tree}
use Rattle.tree_reader.proofs.Rows.{plain_node}
use Rattle.tree_files.specs.Heads.{name_failures, count_failures}
use Rattle.tree_files.proofs.Failing.{then}

pub opened : (t : FileTree) → plain_tree t ≡ node (out-FileTree t).place (plain_name (out-FileTree t).name) (map plain_constant (out-FileTree t).labels.items) (trees_of (map plain_tree (out-FileTree t).children.items))
opened t = let o = out-FileTree t in ap plain_tree (sym (roll-out-FileTree t)) ∙ plain_node o.place o.name o.labels o.children

pub opened_place : (t : FileTree) → (out-FileTree t).place ≡ file_place (plain_tree t)
opened_place t = ap file_place (sym (opened t))

length_mapped : {A B : Type 0} (f : A → B) (xs : List A) → length (map f xs) ≡ length xs
length_mapped f [] = refl
length_mapped f (x ∷ xs) = ap suc (length_mapped f xs)

counted_trees : (ts : List FileTree) → file_tree_count (trees_of (map plain_tree ts)) ≡ length ts
counted_trees [] = refl
counted_trees (t ∷ ts) = ap suc (counted_trees ts)

-- the parts of a tree one after another
module _ (s : PlainSignature) (t : FileTree) (known named counted labelled last : Option Refusal) where
  pub tree_noted : named ≡ first_among known (name_failures s (plain_name (out-FileTree t).name) (length (out-FileTree t).children.items))
      → counted ≡ first_among named (count_failures s (plain_name (out-FileTree t).name) (length (out-FileTree t).labels.items))
      → labelled ≡ first_among counted (label_failures s.fields (map plain_constant (out-FileTree t).labels.items))
      → last ≡ first_among labelled (trees_failures s (trees_of (map plain_tree (out-FileTree t).children.items))) → last ≡ first_among known (tree_failures s (plain_tree t))
  tree_noted one two three four =
      let o = out-FileTree t in
      let name = plain_name o.name in
      let labels = map plain_constant o.labels.items in
      let reads = trees_of (map plain_tree o.children.items) in
      let heads = head_failures s (number_named (names_of s) name.text) (file_tree_count reads) name.place in
      let counts = fails_if (not (length s.fields == length labels)) WrongRank name.place in
      let below = label_failures s.fields labels in
      let first = one ∙ ap (λ n. first_among known (name_failures s name n)) (sym (counted_trees o.children.items)) in
      let second = two ∙ ap (λ n. first_among named (count_failures s name n)) (sym (length_mapped plain_constant o.labels.items)) in
      then known named last heads (counts ++ (below ++ trees_failures s reads)) first (then named counted last counts (below ++ trees_failures s reads) second (then counted labelled last below (trees_failures s reads) three four))
      ∙ ap (λ r. first_among known (tree_failures s r)) (sym (opened t))
