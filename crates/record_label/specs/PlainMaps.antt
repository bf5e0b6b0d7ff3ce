-- The entries of a map as plain data.
use Rattle.std.specs.Prelude.{◌≡◌, ℤ, true, MatchResult}
use Rattle.std.specs.declared.result.Result.{Result}
use Rattle.model_tree.specs.Range.{IsLabelNumber}
use Rattle.model_tree.specs.Label.{Field, whole}
use Rattle.model_tree.specs.Kept.{is_kept_field}
use Rattle.fast_tree.specs.declared.label.Value.{Value}
use Rattle.fast_tree.specs.Entries.{field_of}
use Rattle.lin_form.specs.declared.stop.FormStop.{FormStop}
use Rattle.lin_form.specs.Stops.{StopsAt}
use Rattle.label_core.specs.declared.labels.Applied.{Applied}
use Rattle.label_core.specs.declared.labels.Applied.TheVariants as applied
use Rattle.label_core.specs.Formula.{plain_formula}
use Rattle.record_label.specs.declared.maps.RowEntry.{RowEntry}
use Rattle.record_label.specs.declared.maps.RowEntry.TheVariants.{Number, Truth, Text}
use Rattle.record_label.specs.Maps.{Entry, number_by, truth_by, text_by}

abbrev pub plain_entry : RowEntry → Entry
plain_entry (Number f) = number_by f
plain_entry (Truth f) = truth_by (plain_formula f)
plain_entry (Text s) = text_by s

-- a value of the field, of 64 bits if it is a whole number; or the whole number that it is, which has more
abbrev pub IsMadeField : Field → Applied Value → Type 0
IsMadeField f (applied.Value v) = (field_of v ≡ f) × (is_kept_field f ≡ true)
IsMadeField f (applied.Range n) = (f ≡ whole n) × (IsLabelNumber n → ⊥)

-- a value seen as it is asked for, where no number is outside; or a number that is
abbrev pub Gives : {A X : Type 0} → (A → X) → X → (ℤ → Type 0) → Result A FormStop → Type 0
Gives view asked outside result = MatchResult result (λ made. (view made ≡ asked) × ((n : ℤ) → outside n → ⊥)) (λ stop. StopsAt outside stop)
