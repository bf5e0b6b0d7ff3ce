-- Trees of a type, as trees over its ranks and its labels.
use Rattle.std.proofs.Common.{◌≡◌, suc, length, refl, sym, ap, ◌∙◌}
use Rattle.model_tree.specs.Label.{Label}
use Rattle.model_tree.specs.Tree.{node, Trees, no_trees, tree, list_of, LabelTree}
use Rattle.model_tree.specs.Signature.{PlainSignature, ranks_of, sorts_of, HasSorts, HasType, EachHasType}
use Rattle.model_sta.specs.Sets.{width, Fits, FitsAll}

many_children : (ts : Trees Label) → length (list_of ts) ≡ width ts
many_children no_trees = refl
many_children (tree t ts) = ap suc (many_children ts)

module _ (t : PlainSignature) where
  mutual
    -- a tree of the type is one over its ranks and sorts
    pub fits_from_type : (u : LabelTree) → HasType t u → Fits (ranks_of t) (HasSorts (sorts_of t)) u
    fits_from_type (node c l us) (low, many, sorts, each) = (low, sorts, sym (many_children us) ∙ many, all_from_type us each)

    all_from_type : (us : Trees Label) → EachHasType t us → FitsAll (ranks_of t) (HasSorts (sorts_of t)) us
    all_from_type no_trees each = tt
    all_from_type (tree u us) each = (fits_from_type u each.0, all_from_type us each.1)

  mutual
    pub type_from_fits : (u : LabelTree) → Fits (ranks_of t) (HasSorts (sorts_of t)) u → HasType t u
    type_from_fits (node c l us) (low, sorts, many, each) = (low, many_children us ∙ many, sorts, types_from_all us each)

    types_from_all : (us : Trees Label) → FitsAll (ranks_of t) (HasSorts (sorts_of t)) us → EachHasType t us
    types_from_all no_trees each = tt
    types_from_all (tree u us) each = (type_from_fits u each.0, types_from_all us each.1)
