-- The classes of nodes, value by value.
use Rattle.std.proofs.Common.{ℕ, ◌+◌, ◌≡◌, ◌<◌, inl, inr, Bool, List, [], ◌∷◌, ◌++◌, take, get_or, length, Contains, refl, sym, ap, subst, ◌∙◌}
use Rattle.std.proofs.lemmas.List.{take_more}
use Rattle.std.proofs.lemmas.List.Elements.{Contains-append_left, Contains-push, Contains-push_cases}
use Rattle.model_tree.specs.Label.{Label}
use Rattle.sta_classes.specs.Grow.{Grown}
use Rattle.sta_classes.specs.Plain.{PlainTable}
use Rattle.sta_theory.proofs.Lists.{none_in}
use Rattle.sta_min.specs.Steps.{IsClassOf}
use Rattle.sta_min.specs.Targets.{AreTargets}

module _ {A V : Type 0} (label_of : V → Label) (holds : A → Label → Bool) (t : PlainTable A V) (c : ℕ) (children : List ℕ) where
  pub no_targets : (values : List V) (targets : List ℕ) → targets ≡ [] → AreTargets label_of holds t c children (take 0 values) targets
  no_targets values targets is = record { sound = λ k at. absurd (none_in k (subst (λ l. Contains l k) is at)); complete = λ v at. absurd (none_in v at) }

  pub more_targets : (values : List V) (i : ℕ) (v : V) → i < length values → v ≡ get_or values i v → (old new : List ℕ) → AreTargets label_of holds t c children (take i values) old → (k : ℕ) → IsClassOf holds t c (label_of v) children k → Grown old new (λ x. k ≡ x) → AreTargets label_of holds t c children (take (i + 1) values) new
  more_targets values i v low at old new are k is grown =
      let next : take (i + 1) values ≡ take i values ++ v ∷ [] = take_more values i v low ∙ ap (λ x. take i values ++ x ∷ []) (sym at) in
      subst (λ l. AreTargets label_of holds t c children l new) (sym next) (record {
        sound = λ x at_x. elim ((grown x).0 at_x) [
          | inl old_one ↦ (let (u, at_u, of_u) = are.sound x old_one in (u, Contains-append_left (take i values) (v ∷ []) u at_u, of_u))
          | inr e ↦ (v, Contains-push (take i values) v, subst (IsClassOf holds t c (label_of v) children) e is)
        ];
        complete = λ u at_u. elim (Contains-push_cases (take i values) v u at_u) [
          | inl before ↦ (let (x, at_x, of_x) = are.complete u before in (x, (grown x).1 (inl at_x), of_x))
          | inr e ↦ (k, (grown k).1 (inr refl), subst (λ z. IsClassOf holds t c (label_of z) children k) e is)
        ];
      })
