use Rattle.math_cooper.proofs.Steps.{step_decides, solution_solves}
use Rattle.math_cooper.proofs.laws_of_steps.Goals as goal

pub returns : goal.returns
returns c = record {
  decides = step_decides;
  solves = solution_solves;
}
