use Rattle.std.proofs.Common.{IsSome, All, take}
use Rattle.label_split.specs.Known.{settled}
use Rattle.label_split.proofs.known.+open.Given as goal

abbrev pub invariant-open_among-loop-formula : goal.invariant-open_among-loop-formula
invariant-open_among-loop-formula l = All (λ f. IsSome (settled l.known.signs.items f)) (take l.formula-index l.formulas)
