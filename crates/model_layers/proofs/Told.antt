-- Trees that states tell apart are told apart by the expressions, and what contexts tell apart goes up.
use Rattle.std.proofs.Common.{◌≡◌, ◌↔◌, inl, inr, ℕ, Bool, true, false, List, [], ◌∷◌, Contains, All, refl, sym, subst, ◌∙◌}
use Rattle.std.proofs.lemmas.List.Elements.{All-nil, All-cons, All-head, All-tail}
use Rattle.model_tree.specs.Label.{Label}
use Rattle.model_tree.specs.Tree.{LabelTree}
use Rattle.model_tree.specs.Signature.{HasType}
use Rattle.model_sta.specs.Automaton.{Rule, is_accepted}
use Rattle.model_sta.specs.EachTwo.{EachTwo}
use Rattle.model_sta.specs.Told.{AreTold, AreToldByEither, HasMoreApart}
use Rattle.model_sta.proofs.Counts.{same_count}
use Rattle.model_grammar.specs.Syntax.{X, Item}
use Rattle.model_meaning.specs.Truth.{ExactlyOne}
use Rattle.model_meaning.specs.Meaning.{input_type, signature_named}
use Rattle.model_run.specs.Parts.{AreApart, HasMoreTrees}
use Rattle.model_run.specs.Counts.{Differ}
use Rattle.model_layers.specs.Carries.{IsTyped, AreParts}
use Rattle.model_layers.specs.Causes.{TreesGoUp, CountsGoUp}
use Rattle.model_layers.proofs.Chosen.{first_of, second_of}

pub exactly_one : (a b : Bool) → ¬ (a ≡ b) → ExactlyOne (a ≡ true) (b ≡ true)
exactly_one true true apart = absurd (apart refl)
exactly_one true false apart = inl (refl, λ e. cc)
exactly_one false true apart = inr (refl, λ e. cc)
exactly_one false false apart = absurd (apart refl)

differing : (a b : Bool) → ExactlyOne (a ≡ true) (b ≡ true) → ¬ (a ≡ b)
differing a b (inl (yes_a, none)) e = none (sym e ∙ yes_a)
differing a b (inr (yes_b, none)) e = none (e ∙ yes_b)

-- exactly one of two that are as two others
pub exactly_as : (P Q R S : Type 0) → P ↔ R → Q ↔ S → ExactlyOne P Q → ExactlyOne R S
exactly_as P Q R S f g (inl (p, none)) = inl (f.0 p, λ s. none (g.1 s))
exactly_as P Q R S f g (inr (q, none)) = inr (g.0 q, λ r. none (f.1 r))

module _ (items : List Item) (type : List ℕ) where
  abbrev Typed : LabelTree → Type 0
  Typed = IsTyped items type

  -- told apart by a state of an automaton that was built for one of the expressions
  by_state : (es : List X) (e : X) (rules : List (List (Rule Label))) → Contains es e → AreParts items e type rules → (s t : LabelTree) → Typed s → Typed t → AreTold rules s t → AreApart items es type s t
  by_state es e rules at parts s t first second (q, low, told) =
      let d = parts q low in
      (e, at, d.0, d.1, exactly_as _ _ _ _ (d.2 s first) (d.2 t second) (exactly_one _ _ told))

  module _ (es : List X) (R : LabelTree → LabelTree → Type 0) (told : (s t : LabelTree) → Typed s → Typed t → R s t → AreApart items es type s t) where
    all_apart : (s : LabelTree) → Typed s → (ts : List LabelTree) → All Typed ts → All (R s) ts → All (AreApart items es type s) ts
    all_apart s first [] typed each = All-nil (AreApart items es type s)
    all_apart s first (t ∷ ts) typed each =
        All-cons (AreApart items es type s) t ts (told s t first (All-head Typed t ts typed) (All-head (R s) t ts each)) (all_apart s first ts (All-tail Typed t ts typed) (All-tail (R s) t ts each))

    each_two : (ts : List LabelTree) → All Typed ts → EachTwo R ts → EachTwo (AreApart items es type) ts
    each_two [] typed each = tt
    each_two (t ∷ ts) typed each = (all_apart t (All-head Typed t ts typed) ts (All-tail Typed t ts typed) each.0, each_two ts (All-tail Typed t ts typed) each.1)

    more_trees : (most : ℕ) → HasMoreApart Typed R most → HasMoreTrees items es most
    more_trees most has = record { type = type; trees = has.trees; typed = has.typed; apart = each_two has.trees has.typed has.apart; more = has.more }

pub trees_go_up : (items : List Item) (type : List ℕ) (most : ℕ) → TreesGoUp items type most
trees_go_up items type most = record {
  of_one = λ e rules parts. more_trees items type (e ∷ []) (AreTold rules) (λ s t first second told. by_state items type (e ∷ []) e rules (first_of e []) parts s t first second told) most;
  of_two = λ x y first second parts others. more_trees items type (x ∷ y ∷ []) (AreToldByEither first second)
      (λ s t is also told. elim told [
        | inl one ↦ by_state items type (x ∷ y ∷ []) x first (first_of x (y ∷ [])) parts s t is also one
        | inr other ↦ by_state items type (x ∷ y ∷ []) y second (second_of x y) others s t is also other
      ]) most;
}

turned : {P Q : Type 0} → P ↔ Q → Q ↔ P
turned f = (f.1, f.0)

pub counts_go_up : CountsGoUp
counts_go_up items e type a n built count =
    same_count (IsTyped items type) (HasType (input_type items e)) (λ s t. ¬ (is_accepted a.rules s a.start ≡ is_accepted a.rules t a.start)) (Differ items e)
    (λ t. subst (λ o. IsTyped items type t ↔ HasType (signature_named items o) t) (sym built.is_on.1) (λ h. h, λ h. h))
    (λ s t first second. (
      λ apart. exactly_as _ _ _ _ (built.means s first) (built.means t second) (exactly_one _ _ apart),
      λ one. differing _ _ (exactly_as _ _ _ _ (turned (built.means s first)) (turned (built.means t second)) one),
    )) n count
