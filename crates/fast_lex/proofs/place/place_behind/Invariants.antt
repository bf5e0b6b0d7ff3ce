use Rattle.std.proofs.Common.{◌≡◌, ◌+◌, ◌≤◌, length}
use denote.Text.{Utf8}
use denote.Shadow.{shadow}
use Rattle.std.specs.Str.{chars}
use Rattle.model_program.specs.Cuts.{place_behind}
use Rattle.fast_lex.proofs.place.place_behind.Given as goal

abbrev pub invariant-loop-c : goal.invariant-loop-c
invariant-loop-c l = shadow (Utf8 l.rest) × (place_behind l.fn.from (chars l.fn.passed) ≡ place_behind l.place (chars l.rest))
    × (l.place.line + length l.rest ≤ l.fn.from.line + length l.fn.passed) × (l.place.column + length l.rest ≤ l.fn.from.column + 1 + length l.fn.passed)

abbrev pub decreases-loop-c : goal.decreases-loop-c
decreases-loop-c l = length l.rest
