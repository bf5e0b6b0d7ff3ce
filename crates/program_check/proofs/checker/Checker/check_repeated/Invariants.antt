use Rattle.program_check.specs.Notes.{HasMemory}
use Rattle.program_check.proofs.Repeating.{SoFar}
use Rattle.program_check.proofs.checker.Checker.check_repeated.Given as goal

abbrev pub invariant-all : goal.invariant-all
invariant-all g l = HasMemory l.self → SoFar g.N.Named.name_of l.code l.all l.place l.initial.self l.self l.names
