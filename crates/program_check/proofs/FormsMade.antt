-- Forms that are in range, and those that aren't.
use Rattle.std.proofs.Common.{◌≡◌, cond, Option, Some, None, sym, ap, ◌∙◌, not}
use Rattle.std.proofs.Math.IntN.{ℤ}
use Rattle.std.specs.Prelude.{Result, Ok, Err, IfOk, MatchResult}
use Rattle.model_form.specs.Form.{Form}
use Rattle.model_form.specs.Ranges.{IsOutside}
use Rattle.model_checks.specs.Forms.{is_in_range, kept, is_out_of_range}
use Rattle.model_checks.proofs.InRange.{is_outside, is_within}
use Rattle.lin_form.specs.declared.stop.FormStop.{FormStop}
use Rattle.lin_form.specs.declared.stop.FormStop.TheVariants.{Range, Memory}
use Rattle.lin_form.specs.Stops.{StopsAt}
use Rattle.program_check.specs.Known.{IsTaken, form_made, is_range, IsMade}
use Rattle.program_check.proofs.Noting.{if_made}

-- what a call that makes a form says
pub record Makes (f : Form) (made : Result Form FormStop) : Type 0 where
  pub is : MatchResult made (λ g. g ≡ f) (λ stop. StopsAt (IsOutside f) stop)
  pub in_range : MatchResult made (λ g. (n : ℤ) → IsOutside g n → ⊥) (λ _. Unit {0})

pub range_is : (f : Form) (made : Result Form FormStop) → Makes f made → IsMade made → is_range made ≡ is_out_of_range (Some f)
range_is f (Ok g) h m = ap not (sym (is_within g h.in_range)) ∙ ap (λ x. not (is_in_range x)) h.is
range_is f (Err (Range n)) h m = ap not (sym (is_outside f n h.is))
range_is f (Err Memory) h m = absurd m

pub form_is : (f : Form) (made : Result Form FormStop) → Makes f made → IsMade made → form_made made ≡ kept (Some f)
form_is f (Ok g) h m = ap (λ b. cond b (Some g) None) (sym (is_within g h.in_range)) ∙ ap (λ x. kept (Some x)) h.is
form_is f (Err (Range n)) h m = ap (λ b. cond b (Some f) None) (sym (is_outside f n h.is))
form_is f (Err Memory) h m = absurd m

pub makes : (f : Form) (made : Result Form FormStop) → MatchResult made (λ g. g ≡ f) (λ stop. StopsAt (IsOutside f) stop) → MatchResult made (λ g. (n : ℤ) → IsOutside g n → ⊥) (λ _. Unit {0}) → Makes f made
makes f made is in_range = record { is = is; in_range = in_range }

-- the form that was made is taken
pub taken : {E : Type 0} (made : Result Form E) (form : Option Form) (f : Form) → IsTaken made form → IfOk made (λ g. g ≡ f) → form ≡ Some f
taken made None f none is = absurd none
taken made (Some g) f e is = ap Some (if_made (λ g. g ≡ f) e is)
