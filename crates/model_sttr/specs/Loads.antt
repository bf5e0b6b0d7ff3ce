-- When a transducer has too many or too large outputs.
use Rattle.std.specs.Prelude.{◌<◌, ℕ, length}
use Rattle.model_tree.specs.Tree.{Tree}
use Rattle.model_sta.specs.Loads.{Load, IsTooMuch, IsSubtree}
use Rattle.model_sttr.specs.Transducer.{run, Sttr, Gives}

-- some state gives too much on the tree, or on a tree in it
abbrev pub GivesTooMuch : {L : Type 0} → Sttr L → Load → Tree L → Type 0
GivesTooMuch {L} f load t = (q : ℕ) × (q < length f.rules) × (s : Tree L) × IsSubtree s t × IsTooMuch load (Gives f (run q)) s
