-- Trees of a type, as trees over its ranks and its labels.
pub use Rattle.fast_build.proofs.Typed.{fits_from_type, type_from_fits}
use Rattle.std.proofs.Common.{◌≡◌, ℕ, true, ◌&&◌, List, refl, ap₂}
use Rattle.model_tree.specs.Label.{Label}
use Rattle.model_tree.specs.Tree.{node, Trees, no_trees, tree, LabelTree}
use Rattle.model_tree.specs.Signature.{Sort, HasSorts}
use Rattle.model_tree.specs.Kept.{is_kept, are_kept}
use Rattle.model_sta.specs.Sets.{Fits, FitsAll}
use Rattle.record_label.specs.Rows.{KeepsSorts}

module _ (ranks : List ℕ) (sorts : List Sort) where
  mutual
    -- a tree of kept labels is one of labels
    pub fits_if_kept : (u : LabelTree) → Fits ranks (KeepsSorts sorts) u → Fits ranks (HasSorts sorts) u
    fits_if_kept (node c l us) (low, label, many, each) = (low, label.0, many, all_fit_if_kept us each)

    all_fit_if_kept : (us : Trees Label) → FitsAll ranks (KeepsSorts sorts) us → FitsAll ranks (HasSorts sorts) us
    all_fit_if_kept no_trees each = tt
    all_fit_if_kept (tree u us) each = (fits_if_kept u each.0, all_fit_if_kept us each.1)

  mutual
    pub kept_if_fits : (u : LabelTree) → Fits ranks (KeepsSorts sorts) u → is_kept u ≡ true
    kept_if_fits (node c l us) (low, label, many, each) = ap₂ (λ a b. a && b) label.1 (all_kept_if_fit us each)

    all_kept_if_fit : (us : Trees Label) → FitsAll ranks (KeepsSorts sorts) us → are_kept us ≡ true
    all_kept_if_fit no_trees each = refl
    all_kept_if_fit (tree u us) each = ap₂ (λ a b. a && b) (kept_if_fits u each.0) (all_kept_if_fit us each.1)
