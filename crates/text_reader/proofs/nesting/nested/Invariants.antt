use Rattle.std.proofs.Common.{drop, map, ◌≤◌}
use Rattle.fast_lex.specs.Tokens.{lexeme}
use Rattle.text_reader.proofs.Counting.{IsUnderWay}
use Rattle.text_reader.proofs.nesting.nested.Given as goal

abbrev pub invariant-loop-token : goal.invariant-loop-token
invariant-loop-token l = IsUnderWay (map lexeme l.fn.tokens) (map lexeme (drop l.token-index l.tokens)) l.levels × (l.levels.rounds ≤ l.token-index)
