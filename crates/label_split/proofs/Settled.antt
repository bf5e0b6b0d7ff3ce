-- What is known of formulas that are joined, part by part.
use Rattle.std.proofs.Common.{◌≡◌, Bool, true, false, not, Option, Some, None, List, [], ◌∷◌, drop, length, get_or, ℕ, ◌+◌, ◌<◌, ◌≤◌, refl, sym, ap, ◌∙◌}
use Rattle.std.proofs.lemmas.List.{at_drop_more, at_drop_all}
use Rattle.label_core.specs.Formula.{plain_formula, joined}
use Rattle.label_core.specs.declared.formula.Formula.{Formula}
use Rattle.label_split.specs.Known.{both, either, formula_known, while_open_all, while_open_some}

-- what is left to say of the formulas, where some may be unknown
abbrev pub while_open : Bool → Bool → Option Bool → Option Bool
while_open true unknown y = while_open_all unknown y
while_open false unknown y = while_open_some unknown y

both_open : (unknown : Bool) (x y : Option Bool) → x ≡ None → while_open_all true y ≡ while_open_all unknown (both x y)
both_open true None None e = refl
both_open true None (Some true) e = refl
both_open true None (Some false) e = refl
both_open false None y e = refl
both_open unknown (Some b) y e = cc

either_open : (unknown : Bool) (x y : Option Bool) → x ≡ None → while_open_some true y ≡ while_open_some unknown (either x y)
either_open true None None e = refl
either_open true None (Some true) e = refl
either_open true None (Some false) e = refl
either_open false None y e = refl
either_open unknown (Some b) y e = cc

both_same : (x y : Option Bool) → x ≡ Some true → y ≡ both x y
both_same None y e = cc
both_same (Some true) y e = refl
both_same (Some false) y e = cc

either_same : (x y : Option Bool) → x ≡ Some false → y ≡ either x y
either_same None y e = cc
either_same (Some true) y e = cc
either_same (Some false) y e = refl

both_other : (unknown : Bool) (x y : Option Bool) → x ≡ Some false → Some false ≡ while_open_all unknown (both x y)
both_other unknown None y e = cc
both_other unknown (Some true) y e = cc
both_other true (Some false) y e = refl
both_other false (Some false) y e = refl

either_other : (unknown : Bool) (x y : Option Bool) → x ≡ Some true → Some true ≡ while_open_some unknown (either x y)
either_other unknown None y e = cc
either_other true (Some true) y e = refl
either_other false (Some true) y e = refl
either_other unknown (Some false) y e = cc

-- two truth values that aren't equal
turned : (every b : Bool) (x : Option Bool) → x ≡ Some b → (b ≡ every → ⊥) → x ≡ Some (not every)
turned true true x e n = absurd (n refl)
turned true false x e n = e
turned false true x e n = e
turned false false x e n = absurd (n refl)

module _ {A : Type 0} (k : A → Option Bool) where
  abbrev pub joined_known : Bool → List (Formula A) → Option Bool
  joined_known every fs = formula_known k (joined every fs)

  next_open : (every unknown : Bool) (f : Formula A) (fs : List (Formula A)) → formula_known k (plain_formula f) ≡ None → while_open every true (joined_known every fs) ≡ while_open every unknown (joined_known every (f ∷ fs))
  next_open true unknown f fs e = both_open unknown (formula_known k (plain_formula f)) (joined_known true fs) e
  next_open false unknown f fs e = either_open unknown (formula_known k (plain_formula f)) (joined_known false fs) e

  next_same : (every unknown : Bool) (f : Formula A) (fs : List (Formula A)) → formula_known k (plain_formula f) ≡ Some every → while_open every unknown (joined_known every fs) ≡ while_open every unknown (joined_known every (f ∷ fs))
  next_same true unknown f fs e = ap (while_open_all unknown) (both_same (formula_known k (plain_formula f)) (joined_known true fs) e)
  next_same false unknown f fs e = ap (while_open_some unknown) (either_same (formula_known k (plain_formula f)) (joined_known false fs) e)

  next_other : (every unknown : Bool) (f : Formula A) (fs : List (Formula A)) → formula_known k (plain_formula f) ≡ Some (not every) → Some (not every) ≡ while_open every unknown (joined_known every (f ∷ fs))
  next_other true unknown f fs e = both_other unknown (formula_known k (plain_formula f)) (joined_known true fs) e
  next_other false unknown f fs e = either_other unknown (formula_known k (plain_formula f)) (joined_known false fs) e

  module _ (every unknown : Bool) (parts : List (Formula A)) (i : ℕ) where
    -- the formulas from an index on say what all do
    abbrev pub SayAll : Type 0
    SayAll = while_open every unknown (joined_known every (drop i parts)) ≡ joined_known every parts

    ended : length parts ≤ i → SayAll → while_open every unknown (Some every) ≡ joined_known every parts
    ended high before = none every ∙ sym (at_drop_all (λ fs. while_open every unknown (joined_known every fs)) parts i high) ∙ before
      where
        none : (e : Bool) → while_open e unknown (Some e) ≡ while_open e unknown (joined_known e [])
        none true = refl
        none false = refl

    module _ (f : Formula A) (low : i < length parts) (is : f ≡ get_or parts i f) (before : SayAll) where
      here : while_open every unknown (joined_known every (f ∷ drop (i + 1) parts)) ≡ joined_known every parts
      here = ap (λ g. while_open every unknown (joined_known every (g ∷ drop (i + 1) parts))) is ∙ sym (at_drop_more (λ fs. while_open every unknown (joined_known every fs)) parts i f low) ∙ before

      pub more_open : formula_known k (plain_formula f) ≡ None → while_open every true (joined_known every (drop (i + 1) parts)) ≡ joined_known every parts
      more_open e = next_open every unknown f (drop (i + 1) parts) e ∙ here

      pub more_told : (b : Bool) → formula_known k (plain_formula f) ≡ Some b → b ≡ every → while_open every unknown (joined_known every (drop (i + 1) parts)) ≡ joined_known every parts
      more_told b e same = next_same every unknown f (drop (i + 1) parts) (e ∙ ap Some same) ∙ here

      pub told_other : (b : Bool) → formula_known k (plain_formula f) ≡ Some b → (b ≡ every → ⊥) → Some (not every) ≡ joined_known every parts
      told_other b e other = next_other every unknown f (drop (i + 1) parts) (turned every b (formula_known k (plain_formula f)) e other) ∙ here

  pub start : (every : Bool) (parts : List (Formula A)) → SayAll every false parts 0
  start true parts = refl
  start false parts = refl

  -- the end, where some are unknown, and where none is
  pub ended_open : (every unknown : Bool) (parts : List (Formula A)) (i : ℕ) → length parts ≤ i → unknown ≡ true → SayAll every unknown parts i → None ≡ joined_known every parts
  ended_open every unknown parts i high is before = none every ∙ ap (λ o. while_open every o (Some every)) (sym is) ∙ ended every unknown parts i high before
    where
      none : (e : Bool) → None ≡ while_open e true (Some e)
      none true = refl
      none false = refl

  pub ended_told : (every unknown : Bool) (parts : List (Formula A)) (i : ℕ) → length parts ≤ i → unknown ≡ false → SayAll every unknown parts i → Some every ≡ joined_known every parts
  ended_told every unknown parts i high is before = none every ∙ ap (λ o. while_open every o (Some every)) (sym is) ∙ ended every unknown parts i high before
    where
      none : (e : Bool) → Some e ≡ while_open e false (Some e)
      none true = refl
      none false = refl
