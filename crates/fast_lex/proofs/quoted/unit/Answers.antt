use Rattle.fast_lex.proofs.UnitLemmas.{unit_plain, unit_long, unit_short}
use Rattle.fast_lex.proofs.RunLemmas.{behind_one}
use Rattle.fast_lex.proofs.quoted.unit.Goals as goal

pub returns-then-c-ne92 : goal.returns-then-c-ne92
returns-then-c-ne92 c = let e = c.in_ok-c.ensures in unit_plain _ _ _ (behind_one _ _ _ e.bytes e.chars) c.if-c-eq34.false c.if-c-eq10.false c.if-c-ne92.true

pub returns-then-d-eq117 : goal.returns-then-d-eq117
returns-then-d-eq117 c = let e = c.in_ok-c.ensures in let f = c.in_ok-d.ensures in
    unit_long _ _ _ _ _ (behind_one _ _ _ e.bytes e.chars) c.if-c-ne92.false (behind_one _ _ _ f.bytes f.chars) c.if-d-eq117.true _ c.braced.ensures

pub returns : goal.returns
returns c = let e = c.in_ok-c.ensures in let f = c.in_ok-d.ensures in
    unit_short _ _ _ _ _ _ (behind_one _ _ _ e.bytes e.chars) c.if-c-ne92.false (behind_one _ _ _ f.bytes f.chars) c.in_ok-value.ensures
