-- Cuts whose labels are values, as what they mean: cuts with the labels that the values stand for.
use Rattle.std.specs.Prelude.{ℕ}
use Rattle.model_tree.specs.Tree.{Tree, Trees, relabel, relabel_all}
use Rattle.model_sttr.specs.Terms.{Term, Parts}
use Rattle.model_sttr.specs.Transducer.{Head, Sttr}
use Rattle.model_sttr.specs.Cuts.{Cut, keep, new, Cuts, no_cuts, cut, IsMadeBy, AreMadeBy, IsCut, IsCutAt}

module _ {V L : Type 0} (label : V → L) where
  abbrev mutual
    -- the same cut, with the label that each value stands for in its place
    pub meant : Cut V → Cut L
    meant (keep t) = keep (relabel label t)
    meant (new c v xs) = new c (label v) (all_meant xs)

    pub all_meant : Cuts V → Cuts L
    all_meant no_cuts = no_cuts
    all_meant (cut x xs) = cut (meant x) (all_meant xs)

  -- what the cut means is made by the term
  abbrev pub IsCutOf : (Head → ℕ → Cut L → Type 0) → L → Term Head (L → L) → Cut V → Type 0
  IsCutOf O l p x = IsMadeBy O l p (meant x)

  abbrev pub AreCutsOf : (Head → ℕ → Cut L → Type 0) → L → Parts Head (L → L) → Cuts V → Type 0
  AreCutsOf O l ps xs = AreMadeBy O l ps (all_meant xs)

  -- what it means is a cut that the head gives on the tree
  abbrev pub GivesCut : Sttr L → Head → Tree V → Cut V → Type 0
  GivesCut f h t x = IsCut f h (relabel label t) (meant x)

  abbrev pub GivesCutAt : Sttr L → Head → ℕ → Trees V → Cut V → Type 0
  GivesCutAt f h j ts x = IsCutAt f h j (relabel_all label ts) (meant x)
