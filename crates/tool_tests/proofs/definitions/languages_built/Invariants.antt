use Rattle.fast_session.specs.Sessions.{IsSession}
use Rattle.tool_tests.proofs.definitions.languages_built.Given as goal

abbrev pub invariant-loop : goal.invariant-loop
invariant-loop l = IsSession l.session
