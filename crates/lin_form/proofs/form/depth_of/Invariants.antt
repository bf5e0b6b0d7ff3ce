use Rattle.std.proofs.Common.{◌≡◌, max, drop}
use Rattle.lin_form.specs.Nest.{depths}
use Rattle.lin_form.specs.Terms.{plain_remainders}
use Rattle.lin_form.proofs.form.depth_of.Given as goal

abbrev pub invariant-loop-term : goal.invariant-loop-term
invariant-loop-term l = max l.depth (depths (plain_remainders (drop l.term-index l.terms))) ≡ depths (plain_remainders l.terms)
