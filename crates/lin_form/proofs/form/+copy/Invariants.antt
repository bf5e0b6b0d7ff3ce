use Rattle.std.proofs.Common.{◌≡◌, take}
use Rattle.lin_form.proofs.form.+copy.Given as goal

abbrev pub invariant-Form::copy-loop-term : goal.invariant-Form::copy-loop-term
invariant-Form::copy-loop-term l = l.remainders.items ≡ take l.term-index l.self-inside.remainders.items
