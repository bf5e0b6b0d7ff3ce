use Rattle.std.proofs.Common.{◌≡◌, ◌<◌, ◌≢◌, ℕ, Some, get_or}
use Rattle.std.specs.Option.{MatchOption}
use Rattle.label_core.specs.declared.formula.Formula.{Formula}
use Rattle.label_split.specs.Known.{settled}
use Rattle.label_split.proofs.force.only_open.Given as goal

abbrev pub invariant-loop-i : goal.invariant-loop-i
invariant-loop-i l = MatchOption l.open
    ((m : ℕ) (d : Formula ℕ) → m < l.i → settled l.known.signs.items (get_or l.parts m d) ≡ Some l.value)
    (λ k. (k < l.i) × ((m : ℕ) (d : Formula ℕ) → m < l.i → m ≢ k → settled l.known.signs.items (get_or l.parts m d) ≡ Some l.value))
