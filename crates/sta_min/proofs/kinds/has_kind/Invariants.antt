use Rattle.std.proofs.Common.{ℕ, ◌≡◌, ◌<◌, get_or}
use Rattle.sta_classes.specs.Plain.{kind_at}
use Rattle.sta_min.proofs.kinds.has_kind.Given as goal

abbrev pub invariant-classes : goal.invariant-classes
invariant-classes g l = (i : ℕ) → i < l.class-index → ¬ (kind_at l.table l.constructor l.place (get_or l.classes i 0) ≡ l.kind)
