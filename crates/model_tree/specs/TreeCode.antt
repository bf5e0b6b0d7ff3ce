-- A code for trees: the root, and what is below it as a list of nodes with their numbers of children, in preorder.
use Rattle.std.specs.Prelude.{◌≡◌, ℕ, List, [], ◌∷◌, ◌++◌, length, take, drop, refl}
use Rattle.std.specs.Coded.{Coded, code_by, coded×, coded_ℕ, coded_list}
use Rattle.std.proofs.Common.{ap, sym, ◌∙◌, append_assoc, append-nil}
use Rattle.std.proofs.Math.Seq.{take-append_seam, drop-append_seam}
use Rattle.model_tree.specs.Tree.{Tree, node, Trees, no_trees, tree, list_of, trees_of}

module _ {A : Type 0} where
  abbrev mutual
    pub cells : Tree A → List (ℕ × (A × ℕ))
    cells (node c l ts) = (c, (l, length (list_of ts))) ∷ cells_of_all ts

    pub cells_of_all : Trees A → List (ℕ × (A × ℕ))
    cells_of_all no_trees = []
    cells_of_all (tree t ts) = cells t ++ cells_of_all ts

  abbrev pub gather : (ℕ × (A × ℕ)) → List (Tree A) → List (Tree A)
  gather cell later = node cell.0 cell.1.0 (trees_of (take cell.1.1 later)) ∷ drop cell.1.1 later

  abbrev pub read : List (ℕ × (A × ℕ)) → List (Tree A)
  read [] = []
  read (cell ∷ cells) = gather cell (read cells)

  pub trees_of-list_of : (ts : Trees A) → trees_of (list_of ts) ≡ ts
  trees_of-list_of no_trees = refl
  trees_of-list_of (tree t ts) = ap (tree t) (trees_of-list_of ts)

  gather-own : (c : ℕ) (l : A) (ts : Trees A) (later : List (Tree A)) → gather (c, (l, length (list_of ts))) (list_of ts ++ later) ≡ node c l ts ∷ later
  gather-own c l ts later = rw (take-append_seam (list_of ts) later, drop-append_seam (list_of ts) later, trees_of-list_of ts)

  mutual
    pub read-cells : (t : Tree A) (later : List (ℕ × (A × ℕ))) → read (cells t ++ later) ≡ t ∷ read later
    read-cells (node c l ts) later = ap (gather (c, (l, length (list_of ts)))) (read-cells_of_all ts later) ∙ gather-own c l ts (read later)

    pub read-cells_of_all : (ts : Trees A) (later : List (ℕ × (A × ℕ))) → read (cells_of_all ts ++ later) ≡ list_of ts ++ read later
    read-cells_of_all no_trees later = refl
    read-cells_of_all (tree t ts) later = rw append_assoc (read-cells t (cells_of_all ts ++ later) ∙ ap (λ us. t ∷ us) (read-cells_of_all ts later))

  abbrev open_tree : Tree A → ℕ × (A × List (ℕ × (A × ℕ)))
  open_tree (node c l ts) = (c, (l, cells_of_all ts))

  abbrev close_tree : ℕ × (A × List (ℕ × (A × ℕ))) → Tree A
  close_tree p = node p.0 p.1.0 (trees_of (read p.1.1))

  pub close-open : (t : Tree A) → close_tree (open_tree t) ≡ t
  close-open (node c l ts) = ap (λ us. node c l (trees_of us)) (ap read (sym (append-nil (cells_of_all ts))) ∙ read-cells_of_all ts [] ∙ append-nil (list_of ts)) ∙ ap (node c l) (trees_of-list_of ts)

  abbrev pub coded_tree : Coded A → Coded (Tree A)
  coded_tree a = code_by (ℕ × (A × List (ℕ × (A × ℕ)))) (coded× coded_ℕ (coded× a (coded_list (coded× coded_ℕ (coded× a coded_ℕ))))) open_tree close_tree close-open
