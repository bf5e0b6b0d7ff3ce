-- Trees that operations show have labels that the theory keeps.
use Rattle.std.specs.Prelude.{◌≡◌, ℕ, List, refl}
use Rattle.model_tree.specs.Label.{Label}
use Rattle.model_tree.specs.Tree.{Tree, node, Trees, no_trees, tree, relabel, relabel_all, EveryLabel, EveryLabelOfAll}
use Rattle.model_sta.specs.Sets.{Fits, FitsAll}
use Rattle.sta_ops.specs.declared.emptiness.Found.{Found}
use Rattle.sta_ops.specs.declared.emptiness.Found.TheVariants.{Absent, Shown, TooBig}
use Rattle.ops_tests.specs.Over.{Shows}

module _ {V : Type 0} (ranks : List ℕ) (keeps : Label → Type 0) (label_of : V → Label) where
  mutual
    kept : (t : Tree V) → Fits ranks keeps (relabel label_of t) → EveryLabel (λ v. keeps (label_of v)) t
    kept (node c l ts) fits = (fits.1, all_kept ts fits.3)

    all_kept : (ts : Trees V) → FitsAll ranks keeps (relabel_all label_of ts) → EveryLabelOfAll (λ v. keeps (label_of v)) ts
    all_kept no_trees fits = tt
    all_kept (tree t ts) fits = (kept t fits.0, all_kept ts fits.1)

  -- where a tree that is shown is one of kept labels
  pub kept_of_shown : (found : Found V) → ((t : Tree V) → found ≡ Shown t → Fits ranks keeps (relabel label_of t)) → Shows (λ v. keeps (label_of v)) found
  kept_of_shown Absent fits = tt
  kept_of_shown (Shown t) fits = kept t (fits t refl)
  kept_of_shown TooBig fits = tt
