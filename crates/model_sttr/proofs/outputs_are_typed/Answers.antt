use Rattle.std.proofs.Common.{◌≡◌, true}
use Rattle.model_sttr.proofs.Heads.{as_run}
use Rattle.model_sttr.proofs.Single.{output_fits}
use Rattle.model_sttr.specs.Transducer.{run}
use Rattle.model_sttr.proofs.outputs_are_typed.Goals as goal

pub returns : goal.returns
returns g c = λ ranks into d e f makes same q t u typed gives. output_fits ranks (λ l. d l ≡ true) f into (λ l. e l ≡ true) makes same t typed (run q) (as_run f q) u gives
