use Rattle.std.proofs.Common.{drop}
use Rattle.std.proofs.lemmas.List.{take-append-drop}
use Rattle.fast_fault.proofs.sink.front_of.Goals as goal

-- the rest of the bytes stands behind the front
pub returns-then-count-bytes-clause-rest : goal.returns-then-count-bytes-clause-rest
returns-then-count-bytes-clause-rest c = (drop c.args.count c.args.bytes.now, take-append-drop c.args.count c.args.bytes.now)
