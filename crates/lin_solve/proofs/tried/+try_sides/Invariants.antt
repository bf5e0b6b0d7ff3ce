use Rattle.lin_solve.proofs.tried.+try_sides.Given as goal

abbrev pub decreases-try_sides : goal.decreases-try_sides
decreases-try_sides l = l.left
