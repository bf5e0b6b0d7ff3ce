use Rattle.cooper_solve.proofs.bounds.is_listed.Given as goal

abbrev pub invariant-loop-bound : goal.invariant-loop-bound
invariant-loop-bound l = Unit {0}
