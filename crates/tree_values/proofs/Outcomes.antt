-- What trees and their statements give, and the causes for which they stop.
use Rattle.std.proofs.Common.{◌≡◌, ◌⊎◌, inl, inr, ℕ, Bool, true, false, not, List, refl, sym, subst, ◌∙◌}
use Rattle.model_grammar.specs.Syntax.{X, member, TreeItem, tree, AssertItem, assertion, Item}
use Rattle.model_meaning.specs.Meaning.{IsInLanguage}
use Rattle.model_meaning.specs.Types.{signature_at}
use Rattle.model_meaning.specs.Values.{Printed}
use Rattle.model_run.specs.Items.{claim_has_classes, judged_claim, OfSomeTreeOf, by_expressions}
use Rattle.model_run.specs.Outcomes.{IsShownWith}
use Rattle.fast_eval.specs.declared.stops.EvalStop.TheVariants.{Classes, Wide, Range, Memory}
use Rattle.tree_values.specs.declared.members.Membership.{Membership}
use Rattle.tree_values.specs.declared.stops.ValueStop.{ValueStop}
use Rattle.tree_values.specs.declared.stops.ValueStop.TheVariants.{Stopped, NoTree, TooLarge, LabelRange, Outputs, NoOutput, SeveralOutputs}
use Rattle.tree_values.specs.Members.{IsMember, IsMemberStop}
use Rattle.tree_values.specs.Stops.{IsStopBy, IsValueStop, IsCauseOf}
use Rattle.tree_values.specs.Trees.{meant}

module _ (items : List Item) where
  module _ (limit : ℕ) (printed : List Printed) where
    -- ---- causes

    pub tree_cause : (t : TreeItem) (s : ValueStop) → IsValueStop items printed limit (signature_at items t.of) t.value s → IsCauseOf items limit printed (tree t) s
    tree_cause t (Stopped Classes) h = (refl, by_expressions (tree t) h.0, h.1)
    tree_cause t (Stopped (Wide c)) h = (by_expressions (tree t) h.0, h.1)
    tree_cause t (Stopped (Range n)) h = (h.1.0, h.1.1, h.1.2.0, h.1.2.1, h.1.2.2)
    tree_cause t (Stopped Memory) h = tt
    tree_cause t NoTree h = h
    tree_cause t TooLarge (inl h) = inl (inl h)
    tree_cause t TooLarge (inr h) = inr h
    tree_cause t (LabelRange n) h = h
    tree_cause t (Outputs load) h = h
    tree_cause t (NoOutput v) h = h
    tree_cause t (SeveralOutputs w) h = h

    claim_cause : (a : AssertItem) (s : ValueStop) → IsStopBy items printed limit (claim_has_classes a.claim) (judged_claim items a.claim) (λ P. OfSomeTreeOf items P a.claim) s → IsCauseOf items limit printed (assertion a) s
    claim_cause a (Stopped Classes) h = (refl, by_expressions (assertion a) h.0, h.1)
    claim_cause a (Stopped (Wide c)) h = (by_expressions (assertion a) h.0, h.1)
    claim_cause a (Stopped (Range n)) h = (h.1.0, h.1.1, h.1.2.0, h.1.2.1, h.1.2.2)
    claim_cause a (Stopped Memory) h = tt
    claim_cause a NoTree h = h
    claim_cause a TooLarge (inl h) = inl (inl h)
    claim_cause a TooLarge (inr h) = inr h
    claim_cause a (LabelRange n) h = h
    claim_cause a (Outputs load) h = h
    claim_cause a (NoOutput v) h = h
    claim_cause a (SeveralOutputs w) h = h

    pub member_cause : (a : AssertItem) (x y : X) → a.claim ≡ member x y → (s : ValueStop) → IsMemberStop items printed limit x y s → IsCauseOf items limit printed (assertion a) s
    member_cause a x y is s h =
        claim_cause a s (subst (λ c. IsStopBy items printed limit (claim_has_classes c) (judged_claim items c) (λ P. OfSomeTreeOf items P c) s) (sym is) h)

  -- ---- verdicts

  -- the assertion passes where what is told has the asserted truth
  pub member_shown : (printed : List Printed) (x y : X) (m : Membership) (wanted passes : Bool) → IsMember items printed x y m → (m.inside ≡ true → passes ≡ wanted) → (m.inside ≡ false → passes ≡ not wanted) → IsShownWith items printed (member x y) wanted passes (meant m.tree)
  member_shown printed x y m wanted passes is where_inside where_outside = (is.is, by m.inside refl)
    where
      by : (b : Bool) → m.inside ≡ b → ((passes ≡ wanted) × IsInLanguage items y (meant m.tree)) ⊎ ((passes ≡ not wanted) × ¬ (IsInLanguage items y (meant m.tree)))
      by true e = inl (where_inside e, is.told.0 e)
      by false e = inr (where_outside e, λ inside. no e (is.told.1 inside))
        where
          no : m.inside ≡ false → m.inside ≡ true → ⊥
          no out own = let bad : false ≡ true = sym out ∙ own in absurd (cc)
