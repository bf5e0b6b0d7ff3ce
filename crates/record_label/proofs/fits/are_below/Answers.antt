use Rattle.std.proofs.Common.{refl}
use Rattle.record_label.proofs.FitFacts.{below_more, not_below, below_all}
use Rattle.record_label.proofs.fits.are_below.Goals as goal

pub loop-term-preserved : goal.loop-term-preserved
loop-term-preserved c = below_more c.args.fields c.args.terms.now c.loop-term.term-index _ c.loop-term-test.true c.if-term-fields.false c.loop-term.invariant

pub returns-then-term-fields : goal.returns-then-term-fields
returns-then-term-fields c = (λ e. cc, λ w. absurd (not_below c.args.fields c.args.terms.now c.loop-term.term-index _ c.loop-term-test.true c.if-term-fields.true c.loop-term.invariant w))

pub returns : goal.returns
returns c = (λ e. below_all c.args.fields c.args.terms.now c.loop-term.term-index c.loop-term-test.false c.loop-term.invariant, λ w. refl)
