-- Labels that are kept, and numbers that aren't.
use Rattle.std.specs.Prelude.{ℤ, Bool}
use Rattle.model_tree.specs.Label.{Label}
use Rattle.model_tree.specs.Kept.{is_kept_label}
use Rattle.model_tree.specs.Range.{IsLabelNumber}
use Rattle.label_core.specs.Maps.{HasNumber}

abbrev pub keeps : Label → Bool
keeps l = is_kept_label l

-- the number is one of the label, and outside the label range
abbrev pub Outside : Label → ℤ → Type 0
Outside l n = HasNumber l n × (IsLabelNumber n → ⊥)
