-- Lists of cuts.
use Rattle.std.specs.Prelude.{List, [], ◌∷◌}
use Rattle.model_sttr.specs.Cuts.{Cut, Cuts, no_cuts, cut}

abbrev pub cuts_in : {V : Type 0} → List (Cut V) → Cuts V
cuts_in [] = no_cuts
cuts_in (x ∷ xs) = cut x (cuts_in xs)
