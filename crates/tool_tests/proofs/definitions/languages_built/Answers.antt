use Rattle.std.proofs.Common.{[], inl}
use Rattle.tool_tests.proofs.definitions.languages_built.Goals as goal

pub loop-init : goal.loop-init
loop-init c = inl ([], c.in-Ok.ensures.at)
