-- What is so of results that follow from other ones.
use Rattle.std.proofs.Common.{◌++◌, inl, inr, List, Result, Ok, Err, MatchResult, sym, subst}
use Rattle.std.proofs.Math.IntN.{ℤ}
use Rattle.model_form.specs.Form.{Form}
use Rattle.model_guard.specs.Forms.{HasOutside}
use Rattle.lin_form.specs.declared.stop.FormStop.{FormStop}
use Rattle.lin_form.specs.Stops.{StopsAt}
use Rattle.lin_form.proofs.Putting.{stops_weaker}
use Rattle.record_label.specs.Follows.{UnlessMemory, Follows, FollowsBoth}
use Rattle.record_label.proofs.FormFacts.{outside_left, outside_right}

-- want of memory tells nothing of numbers
pub unless_memory : {B : Type 0} (r : Result B FormStop) (P P' : B → Type 0) (Q : ℤ → Type 0) → ((b : B) → P b → P' b) → UnlessMemory r P → MatchResult r P' (StopsAt Q)
unless_memory (Ok b) P P' Q f h = f b h
unless_memory (Err e) P P' Q f h = subst (StopsAt Q) (sym h) tt

-- what follows from a value of which this is so, or from a stop at these numbers
pub follows : {A B : Type 0} (made : Result A FormStop) (r : Result B FormStop) (is : A → B → Type 0) (outside : A → ℤ → Type 0) (P : A → Type 0) (P' : B → Type 0) (Q Q' : ℤ → Type 0) → ((a : A) → P a → (b : B) → is a b → P' b) → ((n : ℤ) → Q n → Q' n) → ((a : A) → P a → (n : ℤ) → outside a n → Q' n) → MatchResult made P (StopsAt Q) → Follows made is outside r → MatchResult r P' (StopsAt Q')
follows (Ok a) (Ok b) is outside P P' Q Q' f g o h k = f a h b k
follows (Ok a) (Err e) is outside P P' Q Q' f g o h k = stops_weaker (outside a) Q' e (o a h) k
follows (Err e) r is outside P P' Q Q' f g o h k = subst (λ s. MatchResult s P' (StopsAt Q')) (sym k) (stops_weaker Q Q' e g h)

pub follows_both : {A B C : Type 0} (first : Result A FormStop) (second : Result B FormStop) (r : Result C FormStop) (is : A → B → C → Type 0) (P : A → Type 0) (P' : B → Type 0) (R : C → Type 0) (fs gs : List Form) → ((a : A) → P a → (b : B) → P' b → (c : C) → is a b c → R c) → MatchResult first P (StopsAt (HasOutside fs)) → MatchResult second P' (StopsAt (HasOutside gs)) → FollowsBoth first second is r → MatchResult r R (StopsAt (HasOutside (fs ++ gs)))
follows_both first second (Ok c) is P P' R fs gs f h k (a, b, one, other, so) = f a (subst (λ s. MatchResult s P (StopsAt (HasOutside fs))) one h) b (subst (λ s. MatchResult s P' (StopsAt (HasOutside gs))) other k) c so
follows_both first second (Err e) is P P' R fs gs f h k (inl want) = subst (StopsAt (HasOutside (fs ++ gs))) (sym want) tt
follows_both first second (Err e) is P P' R fs gs f h k (inr (inl one)) = stops_weaker (HasOutside fs) (HasOutside (fs ++ gs)) e (outside_left fs gs) (subst (λ s. MatchResult s P (StopsAt (HasOutside fs))) one h)
follows_both first second (Err e) is P P' R fs gs f h k (inr (inr other)) = stops_weaker (HasOutside gs) (HasOutside (fs ++ gs)) e (outside_right fs gs) (subst (λ s. MatchResult s P' (StopsAt (HasOutside gs))) other k)

-- the stop that it is, and the value where there is none
pub stops_after : {A B : Type 0} (made : Result A FormStop) (e : FormStop) (is : A → B → Type 0) (outside : A → ℤ → Type 0) (P : A → Type 0) (Q Q' : ℤ → Type 0) → ((n : ℤ) → Q n → Q' n) → ((a : A) → P a → (n : ℤ) → outside a n → Q' n) → MatchResult made P (StopsAt Q) → Follows made is outside (Err e) → StopsAt Q' e
stops_after {A} {B} made e is outside P Q Q' g o h k = follows made (Err e) is outside P (λ (b : B). Unit {0}) Q Q' (λ a p b i. tt) g o h k

pub taken : {A B : Type 0} (made : Result A FormStop) (b : B) (is : A → B → Type 0) (outside : A → ℤ → Type 0) (P : A → Type 0) (Q : ℤ → Type 0) → MatchResult made P (StopsAt Q) → Follows made is outside (Ok b) → (a : A) × P a × is a b
taken (Ok a) b is outside P Q h k = (a, h, k)
taken (Err e) b is outside P Q h k = absurd cc
