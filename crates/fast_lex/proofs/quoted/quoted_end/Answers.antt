use Rattle.fast_lex.proofs.UnitLemmas.{unit_shorter, inside_starts, inside_more, inside_ends, inside_none_unit, inside_none_ended}
use Rattle.fast_lex.proofs.RunLemmas.{behind_one, utf8_behind}
use Rattle.fast_lex.proofs.quoted.quoted_end.Goals as goal

pub loop-c-init : goal.loop-c-init
loop-c-init c = (c.utf8.inside, inside_starts _)

pub returns-then-c-eq34 : goal.returns-then-c-eq34
returns-then-c-eq34 c = let e = c.in-Some.ensures in inside_ends _ _ _ _ c.loop-c.invariant.1 (behind_one _ _ _ e.bytes e.chars) c.if-c-eq34.true

pub returns-in_err-behind : goal.returns-in_err-behind
returns-in_err-behind c = rw c.from_residual.ensures (inside_none_unit _ _ _ _ c.loop-c.invariant.1 c.in-Some.ensures.chars c.if-c-eq34.false c.in_err-behind.ensures)

pub loop-c-smaller : goal.loop-c-smaller
loop-c-smaller c = unit_shorter _ _ _ c.in_ok-behind.ensures

pub loop-c-preserved : goal.loop-c-preserved
loop-c-preserved c = let e = c.in_ok-behind.ensures in (utf8_behind _ _ _ c.loop-c.invariant.0 e.behind.bytes, inside_more _ _ _ _ c.loop-c.invariant.1 e)

pub returns : goal.returns
returns c = inside_none_ended _ _ c.loop-c.invariant.1 c.in_default.ensures.chars
