-- The plain cut that a cut is.
use Rattle.model_sttr.specs.Cuts.{keep, new, Cuts, no_cuts, cut}
use Rattle.model_sttr.specs.Cuts as model
use Rattle.fast_cut.specs.declared.Cut.{Cut, Keep, Node', Row_of-Cut, end_of-Cut, more_of-Cut}

module _ {V : Type 0} where
  abbrev mutual
    pub plain_cut : Cut V → model.Cut V
    plain_cut (Keep t) = keep t.now
    plain_cut (Node' c l shape parts) = new c l (plain_cuts parts)

    pub plain_cuts : {n : _} → Row_of-Cut V n → Cuts V
    plain_cuts end_of-Cut = no_cuts
    plain_cuts (more_of-Cut part parts) = cut (plain_cut part) (plain_cuts parts)
