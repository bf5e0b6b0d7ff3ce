-- Sizes that are gathered child by child.
use Rattle.std.proofs.Common.{ℕ, suc, ◌≡◌, ◌+◌, ◌<◌, ◌≤◌, max, List, [], ◌∷◌, ◌++◌, map, length, get_or, set, take, refl, sym, ap, ◌∙◌, arith, append_assoc, append-nil}
use Rattle.std.proofs.lemmas.List.{map-append, take_more, take_all}
use Rattle.std.proofs.Math.Seq.{set-append_seam}
use Rattle.model_tree.specs.Tree.{Tree, node, trees_of, list_of, children_of, node_count, node_count_all, depth, depth_all}
use Rattle.model_tree.specs.TreeCode.{trees_of-list_of}
use Rattle.sta_marks.specs.Nodes.{nodes_of, nodes_of_all}
use Rattle.sttr_apply.specs.Sizes.{size_of}
use Rattle.sttr_apply.specs.declared.sizes.Size.{Size}

module _ {V : Type 0} where
  count_push : (ts : List (Tree V)) (t : Tree V) → node_count_all (trees_of (ts ++ t ∷ [])) ≡ node_count_all (trees_of ts) + node_count t
  count_push [] t = omega arith
  count_push (u ∷ ts) t = omega (arith, count_push ts t)

  levels_push : (ts : List (Tree V)) (t : Tree V) → depth_all (trees_of (ts ++ t ∷ [])) ≡ max (depth_all (trees_of ts)) (depth t)
  levels_push [] t = omega arith
  levels_push (u ∷ ts) t = omega (arith, levels_push ts t)

  nodes_push : (ts : List (Tree V)) (t : Tree V) → nodes_of_all (trees_of (ts ++ t ∷ [])) ≡ nodes_of_all (trees_of ts) ++ nodes_of t
  nodes_push [] t = append-nil (nodes_of t)
  nodes_push (u ∷ ts) t = ap (λ ns. nodes_of u ++ ns) (nodes_push ts t) ∙ sym (append_assoc (nodes_of u) (nodes_of_all (trees_of ts)) (nodes_of t))

  one_more : (ts : List (Tree V)) (i : ℕ) (t : Tree V) → i < length ts → t ≡ get_or ts i t → take (i + 1) ts ≡ take i ts ++ t ∷ []
  one_more ts i t low at = take_more ts i t low ∙ ap (λ z. take i ts ++ z ∷ []) (sym at)

  pub count_more : (ts : List (Tree V)) (i : ℕ) (t : Tree V) → i < length ts → t ≡ get_or ts i t → node_count_all (trees_of (take (i + 1) ts)) ≡ node_count_all (trees_of (take i ts)) + node_count t
  count_more ts i t low at = ap (λ us. node_count_all (trees_of us)) (one_more ts i t low at) ∙ count_push (take i ts) t

  pub levels_more : (ts : List (Tree V)) (i : ℕ) (t : Tree V) → i < length ts → t ≡ get_or ts i t → (new below old : ℕ) → new ≡ max below old → below ≡ depth t → old ≡ depth_all (trees_of (take i ts)) → new ≡ depth_all (trees_of (take (i + 1) ts))
  levels_more ts i t low at new below old e f g =
      let more = ap (λ us. depth_all (trees_of us)) (one_more ts i t low at) ∙ levels_push (take i ts) t in
      omega (arith, e, f, g, more)

  pub sizes_more : (start : List Size) (holder : Size) (ts : List (Tree V)) (i : ℕ) (t : Tree V) → i < length ts → t ≡ get_or ts i t → (old new : List Size) → new ≡ old ++ map size_of (nodes_of t) → old ≡ start ++ (holder ∷ map size_of (nodes_of_all (trees_of (take i ts))))
      → new ≡ start ++ (holder ∷ map size_of (nodes_of_all (trees_of (take (i + 1) ts))))
  sizes_more start holder ts i t low at old new e h =
      e ∙ ap (λ ss. ss ++ map size_of (nodes_of t)) h ∙ append_assoc start (holder ∷ map size_of (nodes_of_all (trees_of (take i ts)))) (map size_of (nodes_of t))
      ∙ ap (λ ss. start ++ (holder ∷ ss)) (sym (map-append size_of (nodes_of_all (trees_of (take i ts))) (nodes_of t)) ∙ ap (map size_of) (sym (nodes_push (take i ts) t) ∙ ap (λ us. nodes_of_all (trees_of us)) (sym (one_more ts i t low at))))

  module _ (t : Tree V) (ts : List (Tree V)) (i nodes levels : ℕ) (all : ts ≡ list_of (children_of t)) (end : length ts ≤ i) (n : nodes ≡ suc (node_count_all (trees_of (take i ts)))) (l : levels ≡ depth_all (trees_of (take i ts))) where
    done : trees_of (take i ts) ≡ children_of t
    done = ap trees_of (take_all i ts end ∙ all) ∙ trees_of-list_of (children_of t)

    whole : (u : Tree V) → size_of u ≡ record { nodes = suc (node_count_all (children_of u)); levels = suc (depth_all (children_of u)) }
    whole (node c m us) = refl

    size_is : (k : ℕ) → k ≡ suc levels → (s : Size) → s ≡ record { nodes = nodes; levels = k } → s ≡ size_of t
    size_is k e s is = is ∙ (λ j. record { nodes = (n ∙ ap (λ us. suc (node_count_all us)) done) j; levels = (e ∙ ap suc (l ∙ ap depth_all done)) j }) ∙ sym (whole t)

    pub size_end : (k : ℕ) → k ≡ levels + 1 → record { nodes = nodes; levels = k } ≡ size_of t
    size_end k e = let up : k ≡ suc levels = omega (arith, e) in size_is k up (record { nodes = nodes; levels = k }) refl

    nodes_whole : (u : Tree V) → nodes_of u ≡ u ∷ nodes_of_all (children_of u)
    nodes_whole (node c m us) = refl

    pub sizes_end : (start old : List Size) (holder s : Size) (place : ℕ) → place ≡ length start → old ≡ start ++ (holder ∷ map size_of (nodes_of_all (trees_of (take i ts)))) → s ≡ size_of t → set old place s ≡ start ++ map size_of (nodes_of t)
    sizes_end start old holder s place at h e =
        (λ j. set (h j) (at j) s) ∙ set-append_seam start holder (map size_of (nodes_of_all (trees_of (take i ts)))) s
        ∙ (λ j. start ++ (e j ∷ map size_of (nodes_of_all (done j)))) ∙ ap (λ ns. start ++ map size_of ns) (sym (nodes_whole t))
