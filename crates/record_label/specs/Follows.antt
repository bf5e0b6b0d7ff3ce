-- What is made of values that may not have been made.
use Rattle.std.specs.Prelude.{◌≡◌, ℤ, ◌⊎◌, Result, Ok, Err, MatchResult}
use Rattle.lin_form.specs.declared.stop.FormStop.{FormStop}
use Rattle.lin_form.specs.declared.stop.FormStop.TheVariants.{Memory}
use Rattle.lin_form.specs.Stops.{StopsAt}

-- so it is unless memory is wanted
abbrev pub UnlessMemory : {B : Type 0} → Result B FormStop → (B → Type 0) → Type 0
UnlessMemory result is = MatchResult result is (λ stop. stop ≡ Memory)

-- what is so by the value, or a stop at such a number; where there is no value, why it wasn't made
abbrev pub Follows : {A B : Type 0} → Result A FormStop → (A → B → Type 0) → (A → ℤ → Type 0) → Result B FormStop → Type 0
Follows (Ok a) is outside result = MatchResult result (is a) (StopsAt (outside a))
Follows (Err stop) is outside result = result ≡ Err stop

-- what is so by both values; where one of them isn't there, why one wasn't made; or want of memory
abbrev pub FollowsBoth : {A B C : Type 0} → Result A FormStop → Result B FormStop → (A → B → C → Type 0) → Result C FormStop → Type 0
FollowsBoth {A} {B} first second is result = MatchResult result (λ c. (a : A) × (b : B) × (first ≡ Ok a) × (second ≡ Ok b) × is a b c) (λ stop. (stop ≡ Memory) ⊎ (first ≡ Err stop) ⊎ (second ≡ Err stop))
