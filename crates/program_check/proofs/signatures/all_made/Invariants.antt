use Rattle.std.proofs.Common.{◌≡◌, map, take}
use Rattle.program_check.proofs.signatures.all_made.Given as goal

abbrev pub invariant-all : goal.invariant-all
invariant-all g l = map g.S.Signed.plain l.made.items ≡ map g.S.Signed.signed (take l.one-index l.all)
