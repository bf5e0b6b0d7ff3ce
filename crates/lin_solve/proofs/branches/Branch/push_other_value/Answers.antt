use Rattle.std.proofs.Common.{◌∙◌, sym, rules}
use Rattle.std.specs.Int.{w64}
use Rattle.std.proofs.lemmas.Int.{to_z-of_z}
use Rattle.lin_solve.proofs.branches.Branch.push_other_value.Goals as goal

pub returns-in_ok-push_value-clause-value : goal.returns-in_ok-push_value-clause-value
returns-in_ok-push_value-clause-value c = λ _ us eight h e. (c.in_ok-push_value.ensures {u = tt}).value us eight h (e ∙ sym (to_z-of_z w64 c.args.value (search rules)))
