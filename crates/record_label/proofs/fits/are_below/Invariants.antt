use Rattle.std.proofs.Common.{◌↔◌, drop}
use Rattle.model_form.specs.Over.{AreBelow}
use Rattle.lin_form.specs.Terms.{plain_fields}
use Rattle.record_label.proofs.fits.are_below.Given as goal

abbrev pub invariant-loop-term : goal.invariant-loop-term
invariant-loop-term l = AreBelow l.fields (plain_fields (drop l.term-index l.terms)) ↔ AreBelow l.fields (plain_fields l.terms)
