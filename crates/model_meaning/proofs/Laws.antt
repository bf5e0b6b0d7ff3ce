-- Operations on languages, and statements that a tree shows to be false.
use Rattle.std.proofs.Common.{◌⊎◌, ◌↔◌, inl, inr, List}
use Rattle.fast_fault.specs.declared.place.Pos.{Pos}
use Rattle.model_grammar.specs.Syntax.{X, equal, member, empty, type_check, Item}
use Rattle.model_meaning.specs.Truth.{ExactlyOne}
use Rattle.model_meaning.specs.Laws.{AreOperations, ShownIsFalse, AreTrueWhereNotShown}

pub are_operations : (items : List Item) (place : Pos) (x y : X) → AreOperations items place x y
are_operations items place x y = record {
  intersect = λ t. (λ h. h, λ h. h);
  union = λ t. (λ h. h, λ h. h);
  difference = λ t. (λ h. h, λ h. h);
  complement = λ t. (λ h. h, λ h. h);
  minimize = λ t. (λ h. h, λ h. h);
  pre_image = λ t. (λ h. h, λ h. h);
  domain = λ t. (λ h. h, λ h. h);
  compose = λ t w. (λ h. h, λ h. h);
  restrict = λ t u. (λ h. h, λ h. h);
  restrict_out = λ t u. (λ h. h, λ h. h);
}

one_alone : (A B : Type 0) → ExactlyOne A B → (A → B) → (B → A) → ⊥
one_alone A B (inl (a, none)) to from = none (to a)
one_alone A B (inr (b, none)) to from = none (from b)

pub shown_is_false : ShownIsFalse
shown_is_false items (equal x y) t (typed, one) holds = one_alone _ _ one (holds t typed).0 (holds t typed).1
shown_is_false items (empty x) t (typed, among) holds = holds t typed among
shown_is_false items (type_check x f y) t (typed, inside, (u, related, outside)) holds = outside (holds t u typed inside related)
shown_is_false items (member x y) t shown holds = shown

by_cases : (A B : Type 0) → A ⊎ ¬ A → B ⊎ ¬ B → ¬ (ExactlyOne A B) → A ↔ B
by_cases A B (inl a) (inl b) not_one = (λ _. b, λ _. a)
by_cases A B (inl a) (inr none) not_one = absurd (not_one (inl (a, none)))
by_cases A B (inr none) (inl b) not_one = absurd (not_one (inr (b, none)))
by_cases A B (inr none) (inr other) not_one = (λ a. absurd (none a), λ b. absurd (other b))

by_one : (A : Type 0) → A ⊎ ¬ A → ¬ (¬ A) → A
by_one A (inl a) not_none = a
by_one A (inr none) not_none = absurd (not_none none)

pub true_where_not_shown : AreTrueWhereNotShown
true_where_not_shown = record {
  equal_languages = λ items x y first second unshown t typed. by_cases _ _ (first t) (second t) (λ one. unshown t (typed, one));
  empty_ones = λ items x unshown t typed among. unshown t (typed, among);
  type_checks = λ items x f y second unshown t u typed inside related. by_one _ (second u) (λ outside. unshown t (typed, inside, (u, related, outside)));
}
