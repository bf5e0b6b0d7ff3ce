use Rattle.std.proofs.Common.{◌≡◌, ◌*◌, ◌+◌, ℕ, ◌<◌, get_or}
use Rattle.model_form.specs.Form.{height}
use Rattle.model_form.specs.Same.{members, IsIn}
use Rattle.lin_form.specs.Terms.{plain_remainders, member}
use Rattle.lin_form.specs.declared.form.RemTerm.{RemTerm}
use Rattle.lin_form.proofs.+same.Given as goal

abbrev pub decreases-form::Form::is_same : goal.decreases-form::Form::is_same
decreases-form::Form::is_same l = 3 * height l.self.now

abbrev pub decreases-same::has : goal.decreases-same::has
decreases-same::has l = 3 * height l.term.now.inner + 2

abbrev pub invariant-form::Form::is_same-loop-term : goal.invariant-form::Form::is_same-loop-term
invariant-form::Form::is_same-loop-term l = (k : ℕ) (d : RemTerm) → k < l.term-index → IsIn (member (get_or l.terms k d)) (members (plain_remainders l.others))

abbrev pub invariant-same::has-loop-other : goal.invariant-same::has-loop-other
invariant-same::has-loop-other l = (k : ℕ) (d : RemTerm) → k < l.other-index → (member l.term ≡ member (get_or l.terms k d)) → ⊥

abbrev pub decreases-form::Dividend::is_same : goal.decreases-form::Dividend::is_same
decreases-form::Dividend::is_same l = 3 * height l.self.now + 1
