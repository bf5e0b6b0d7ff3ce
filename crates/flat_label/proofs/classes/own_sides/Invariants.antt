use Rattle.std.proofs.Common.{◌≡◌, ◌<◌, ℕ, length, get_or}
use Rattle.flat_label.specs.declared.texts.TextSide.{TextSide}
use Rattle.flat_label.specs.declared.texts.TextSide.TheVariants.{Field}
use Rattle.flat_label.proofs.classes.own_sides.Given as goal

abbrev pub invariant-loop-field : goal.invariant-loop-field
invariant-loop-field l = (length l.sides.items ≡ l.field) × ((k : ℕ) (d : TextSide) → k < l.field → get_or l.sides.items k d ≡ Field k)
