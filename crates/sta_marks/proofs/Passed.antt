-- The marks of a tree's nodes, once those of its children are there.
use Rattle.std.proofs.Common.{ℕ, suc, ◌≡◌, ◌≢◌, ◌<◌, ◌≤◌, ◌+◌, ◌++◌, List, [], ◌∷◌, All, map, length, get_or, set, take, refl, sym, ap, ap₂, subst, ◌∙◌, arith, length-append, append_assoc, append-nil, take_all}
use Rattle.std.proofs.lemmas.List.{length-map, get_or-map, map-append, take_more, get_or_at, get_or-set_other}
use Rattle.std.proofs.lemmas.List.Elements.{All-nil, All-cons}
use Rattle.std.proofs.Math.Seq.{set-append_seam}
use Rattle.model_tree.specs.Tree.{Tree, node, Trees, no_trees, tree, constructor_of, label_of, children_of, list_of, trees_of, relabel, relabel_all, node_count, node_count_all}
use Rattle.model_tree.specs.TreeCode.{trees_of-list_of}
use Rattle.model_tree.proofs.Trees.{node_count-relabel, node_count_all-relabel_all, EveryLabel_root, EveryLabel_children, depth_of_children, depth_of_child}
use Rattle.model_sta.specs.Automaton.{Rule, is_accepted}
use Rattle.model_sta.specs.Sets.{Row, has, step, set_of, sets_of}
use Rattle.model_sta.proofs.Sets.{set_is_accepted}
use Rattle.sta_marks.specs.Nodes.{nodes_of, nodes_of_all, marks_of}
use Rattle.sta_marks.specs.Rows.{Marked, rows_at, with_row}

module _ {L : Type 0} where
  mutual
    -- as many nodes as are counted
    pub length-nodes_of : (t : Tree L) → length (nodes_of t) ≡ node_count t
    length-nodes_of (node c l ts) = ap suc (length-nodes_of_all ts)

    pub length-nodes_of_all : (ts : Trees L) → length (nodes_of_all ts) ≡ node_count_all ts
    length-nodes_of_all no_trees = refl
    length-nodes_of_all (tree t ts) = length-append (nodes_of t) (nodes_of_all ts) ∙ ap₂ (λ a b. a + b) (length-nodes_of t) (length-nodes_of_all ts)

module _ {V : Type 0} where
  -- the numbers of the trees' roots, where the first one has this number
  abbrev pub roots : ℕ → Trees V → List ℕ
  roots n no_trees = []
  roots n (tree t ts) = n ∷ roots (n + node_count t) ts

  roots_push : (n : ℕ) (us : List (Tree V)) (t : Tree V) → roots n (trees_of (us ++ t ∷ [])) ≡ roots n (trees_of us) ++ (n + node_count_all (trees_of us)) ∷ []
  roots_push n [] t = ap (λ k. k ∷ []) (omega arith)
  roots_push n (u ∷ us) t = ap (λ ks. n ∷ ks) (roots_push (n + node_count u) us t ∙ ap (λ k. roots (n + node_count u) (trees_of us) ++ k ∷ []) (omega arith))

  -- a node of a lower number is none of them
  pub roots_apart : (n m : ℕ) (ts : Trees V) → m < n → All (λ k. k ≢ m) (roots n ts)
  roots_apart n m no_trees low = All-nil (λ k. k ≢ m)
  roots_apart n m (tree t ts) low = All-cons (λ k. k ≢ m) n (roots (n + node_count t) ts) (λ e. omega (arith, e, low)) (roots_apart (n + node_count t) m ts (omega (arith, low)))

module _ {V L : Type 0} (f : V → L) (rules : List (List (Rule L))) where
  abbrev pub below : Trees V → List Row
  below ts = map (set_of rules) (nodes_of_all (relabel_all f ts))

  below_length : (ts : Trees V) → length (below ts) ≡ node_count_all ts
  below_length ts = length-map (nodes_of_all (relabel_all f ts)) (set_of rules) ∙ length-nodes_of_all (relabel_all f ts) ∙ node_count_all-relabel_all f ts

  marks_length : (t : Tree V) → length (marks_of rules (relabel f t)) ≡ node_count t
  marks_length t = length-map (nodes_of (relabel f t)) (set_of rules) ∙ length-nodes_of (relabel f t) ∙ node_count-relabel f t

  below_push : (us : List (Tree V)) (t : Tree V) → below (trees_of (us ++ t ∷ [])) ≡ below (trees_of us) ++ marks_of rules (relabel f t)
  below_push [] t = ap (map (set_of rules)) (append-nil (nodes_of (relabel f t)))
  below_push (u ∷ us) t =
      map-append (set_of rules) (nodes_of (relabel f u)) (nodes_of_all (relabel_all f (trees_of (us ++ t ∷ []))))
      ∙ ap (λ x. marks_of rules (relabel f u) ++ x) (below_push us t)
      ∙ sym (append_assoc (marks_of rules (relabel f u)) (below (trees_of us)) (marks_of rules (relabel f t)))
      ∙ ap (λ x. x ++ marks_of rules (relabel f t)) (sym (map-append (set_of rules) (nodes_of (relabel f u)) (nodes_of_all (relabel_all f (trees_of us)))))

  marks_begin : (t : Tree V) → (more : List Row) × (marks_of rules (relabel f t) ≡ set_of rules (relabel f t) ∷ more)
  marks_begin (node c l ts) = (below ts, refl)

  -- the rows of the roots are the sets of the trees
  rows_of_roots : (rows before : List Row) (n : ℕ) (ts : Trees V) → n ≡ length before → rows ≡ before ++ below ts → map (λ k. get_or rows k []) (roots n ts) ≡ sets_of rules (relabel_all f ts)
  rows_of_roots rows before n no_trees at is = refl
  rows_of_roots rows before n (tree t ts) at is =
      let w = marks_begin t in
      let split : rows ≡ before ++ (marks_of rules (relabel f t) ++ below ts) = is ∙ ap (λ x. before ++ x) (map-append (set_of rules) (nodes_of (relabel f t)) (nodes_of_all (relabel_all f ts))) in
      let first : get_or rows n [] ≡ set_of rules (relabel f t) =
      ap (λ r. get_or r n []) (split ∙ ap (λ x. before ++ (x ++ below ts)) w.1) ∙ get_or_at before (set_of rules (relabel f t)) (w.0 ++ below ts) [] n (sym at) in
      ap₂ (λ x xs. x ∷ xs) first
      (rows_of_roots rows (before ++ marks_of rules (relabel f t)) (n + node_count t) ts (ap₂ (λ a b. a + b) at (sym (marks_length t)) ∙ sym (length-append before (marks_of rules (relabel f t)))) (split ∙ sym (append_assoc before (marks_of rules (relabel f t)) (below ts))))

  -- ---- the loop over children

  -- before the children with these numbers there are these rows and one of the root; the first children are done
  pub record AreDone (start rows : List Row) (blank : Row) (children : List ℕ) (done : List (Tree V)) : Type 0 where
    pub rows_are : rows ≡ start ++ (blank ∷ below (trees_of done))
    pub children_are : children ≡ roots (suc (length start)) (trees_of done)

  pub none_done : (start rows : List Row) (blank : Row) (items : List (Tree V)) (children : List ℕ) → rows ≡ start ++ blank ∷ [] → children ≡ [] → AreDone start rows blank children (take 0 items)
  none_done start rows blank [] children is none = record { rows_are = is; children_are = none }
  none_done start rows blank (u ∷ us) children is none = record { rows_are = is; children_are = none }

  pub length_done : (start rows : List Row) (blank : Row) (children : List ℕ) (done : List (Tree V)) → AreDone start rows blank children done → length rows ≡ suc (length start) + node_count_all (trees_of done)
  length_done start rows blank children done h =
      let n = length-append start (blank ∷ below (trees_of done)) in
      let m = below_length (trees_of done) in
      let k = ap length h.rows_are in
      omega (arith, n, m, k)

  pub one_done : (start rows : List Row) (blank : Row) (children : List ℕ) (items : List (Tree V)) (i : ℕ) (t : Tree V) → i < length items → t ≡ get_or items i t → AreDone start rows blank children (take i items)
      → (new_rows : List Row) (new_children : List ℕ) → new_rows ≡ rows ++ marks_of rules (relabel f t) → new_children ≡ children ++ length rows ∷ [] → AreDone start new_rows blank new_children (take (i + 1) items)
  one_done start rows blank children items i t low at h new_rows new_children are is =
      let more : take (i + 1) items ≡ take i items ++ t ∷ [] = take_more items i t low ∙ ap (λ u. take i items ++ u ∷ []) (sym at) in
      record {
        rows_are = are ∙ ap (λ x. x ++ marks_of rules (relabel f t)) h.rows_are ∙ append_assoc start (blank ∷ below (trees_of (take i items))) (marks_of rules (relabel f t))
            ∙ ap (λ x. start ++ (blank ∷ x)) (sym (below_push (take i items) t) ∙ ap (λ us. below (trees_of us)) (sym more));
        children_are = is ∙ ap₂ (λ ks k. ks ++ k ∷ []) h.children_are (length_done start rows blank children (take i items) h) ∙ sym (roots_push (suc (length start)) (take i items) t) ∙ ap (λ us. roots (suc (length start)) (trees_of us)) (sym more);
      }

  -- ---- after it

  module _ (t : Tree V) (start rows : List Row) (blank : Row) (children : List ℕ) (items : List (Tree V)) (i : ℕ) (all : items ≡ list_of (children_of t)) (end : length items ≤ i) (h : AreDone start rows blank children (take i items)) where
    done_are : trees_of (take i items) ≡ children_of t
    done_are = ap trees_of (take_all i items end ∙ all) ∙ trees_of-list_of (children_of t)

    pub rows_at_end : rows ≡ start ++ (blank ∷ below (children_of t))
    rows_at_end = h.rows_are ∙ ap (λ ts. start ++ (blank ∷ below ts)) done_are

    children_at_end : children ≡ roots (suc (length start)) (children_of t)
    children_at_end = h.children_are ∙ ap (roots (suc (length start))) done_are

    pub apart_at_end : All (λ k. k ≢ length start) children
    apart_at_end = subst (All (λ k. k ≢ length start)) (sym children_at_end) (roots_apart (suc (length start)) (length start) (children_of t) (omega arith))

    pub blank_at_end : get_or rows (length start) [] ≡ blank
    blank_at_end = ap (λ r. get_or r (length start) []) rows_at_end ∙ get_or_at start blank (below (children_of t)) [] (length start) refl

    pub low_at_end : length start < length rows
    low_at_end =
        let n = ap length rows_at_end in
        let m = length-append start (blank ∷ below (children_of t)) in
        omega (arith, n, m)

    sets_at_end : map (λ k. get_or rows k []) children ≡ sets_of rules (relabel_all f (children_of t))
    sets_at_end =
        ap (map (λ k. get_or rows k [])) children_at_end
        ∙ rows_of_roots rows (start ++ blank ∷ []) (suc (length start)) (children_of t) (let n = length-append start (blank ∷ []) in omega (arith, n)) (rows_at_end ∙ sym (append_assoc start (blank ∷ []) (below (children_of t))))

    -- the marks of the tree, once its root is marked
    pub marked_at_end : (row : Row) (new : List Row) → row ≡ step rules (constructor_of t) (f (label_of t)) (map (λ k. get_or rows k []) children) → new ≡ set rows (length start) row → new ≡ start ++ marks_of rules (relabel f t)
    marked_at_end row new is are =
        are ∙ ap (λ r. set r (length start) row) rows_at_end ∙ set-append_seam start blank (below (children_of t)) row
        ∙ ap (λ r. start ++ (r ∷ below (children_of t))) (is ∙ ap (step rules (constructor_of t) (f (label_of t))) sets_at_end) ∙ ap (λ r. start ++ r) (whole t)
      where
        whole : (u : Tree V) → step rules (constructor_of u) (f (label_of u)) (sets_of rules (relabel_all f (children_of u))) ∷ below (children_of u) ≡ marks_of rules (relabel f u)
        whole (node c l ts) = refl

pub ruleset on_marks = (EveryLabel_root, EveryLabel_children, depth_of_children, depth_of_child, trees_of-list_of)

-- ---- what marks say

module _ {L : Type 0} (rules : List (List (Rule L))) (t : Tree L) where
  -- a node is marked by the states that accept the subtree at it
  pub mark_is : (n s : ℕ) (d : Tree L) → n < length (nodes_of t) → has (get_or (marks_of rules t) n []) s ≡ is_accepted rules (get_or (nodes_of t) n d) s
  mark_is n s d low = ap (λ r. has r s) (get_or-map (set_of rules) (nodes_of t) n d [] low) ∙ set_is_accepted rules (get_or (nodes_of t) n d) s

-- and the root by those that accept the tree
pub root_mark : {L : Type 0} (rules : List (List (Rule L))) (t : Tree L) (s : ℕ) → has (get_or (marks_of rules t) 0 []) s ≡ is_accepted rules t s
root_mark rules (node c l ts) s = set_is_accepted rules (node c l ts) s
