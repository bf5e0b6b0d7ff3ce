-- The rules of a restriction of inputs, as loops make them.
use Rattle.std.proofs.Common.{ℕ, ◌≡◌, ◌⊎◌, ◌&&◌, List, [], ◌++◌, get_or, Contains, sym, subst, inl, inr}
use Rattle.model_sta.specs.Automaton.{Rule}
use Rattle.model_sta.specs.Operations.{Auto}
use Rattle.model_sttr.specs.Transducer.{OutRule, Trans}
use Rattle.model_sttr.specs.Operations.{asking}
use Rattle.sttr_theory.specs.Lists.{pairs, Extends, Match}
use Rattle.sttr_theory.specs.Covers.{Never}
use Rattle.sttr_theory.specs.Triples.{LookName, firsts, seconds}
use Rattle.sttr_theory.specs.Results.{IsOldRule, IsJointRule, IsJointOf, AreApart, AreJointRules}
use Rattle.sttr_theory.proofs.Members.{of_pairs, to_pairs}
use Rattle.sttr_theory.proofs.Matches.{match_map}
use Rattle.sttr_theory.proofs.Covers.{covers_weaker}
use Rattle.sttr_theory.proofs.Grow.{made_grown}

module _ {L : Type 0} (ranks : List ℕ) (D : L → Type 0) (f : Trans L) (a : Auto L) where
  module _ (looks looks' : List LookName) (ext : Extends looks looks') where
    old_grown : (r ρ : OutRule L) → IsOldRule ranks D f a looks r ρ → IsOldRule ranks D f a looks' r ρ
    old_grown r ρ is = (made_grown ranks D f.sttr (asking a.rules) looks looks' ext r.rule ρ.rule.constructor ρ.rule.guard (λ j. firsts (get_or ρ.rule.demands j [])) is.0, is.1)

    joint_grown : (r ρ : OutRule L) (σ : Rule L) → IsJointRule ranks D f a looks r ρ σ → IsJointRule ranks D f a looks' r ρ σ
    joint_grown r ρ σ is = (
      made_grown ranks D f.sttr (asking a.rules) looks looks' ext r.rule ρ.rule.constructor (λ l. ρ.rule.guard l && σ.guard l) (λ j. firsts (get_or ρ.rule.demands j []) ++ seconds (get_or σ.demands j [])) is.0,
      is.1,
    )

    -- with more names
    pub old_rules_grown : (rs ρs : List (OutRule L)) → Match (IsOldRule ranks D f a looks) rs ρs → Match (IsOldRule ranks D f a looks') rs ρs
    old_rules_grown rs ρs m = match_map (IsOldRule ranks D f a looks) (IsOldRule ranks D f a looks') old_grown rs ρs m

    pair_grown : (r : OutRule L) (p : OutRule L × Rule L) → IsJointOf ranks D f a looks r p → IsJointOf ranks D f a looks' r p
    pair_grown r (ρ, σ) is = (is.0, joint_grown r ρ σ is.1)

    pub joint_rules_grown : (rs ρs : List (OutRule L)) (σs : List (Rule L)) → AreJointRules ranks D f a looks rs ρs σs → AreJointRules ranks D f a looks' rs ρs σs
    joint_rules_grown rs ρs σs are = covers_weaker (IsJointOf ranks D f a looks) (IsJointOf ranks D f a looks') (AreApart ranks D) (AreApart ranks D) pair_grown (λ p out. out) rs (pairs (λ ρ σ. (ρ, σ)) ρs σs) are

  -- what a restriction says of its start's rules, once all are there
  module _ (looks : List LookName) (rs ρs : List (OutRule L)) (σs : List (Rule L)) (are : AreJointRules ranks D f a looks rs ρs σs) where
    pub joint_only : (r : OutRule L) → Contains rs r → (ρ : OutRule L) × Contains ρs ρ × (σ : Rule L) × Contains σs σ × (ρ.rule.constructor ≡ σ.constructor) × IsJointRule ranks D f a looks r ρ σ
    joint_only r here =
        let (p, at, joined) = are.only r here in
        let (ρ, mine, σ, its, e) = of_pairs (λ ρ σ. (ρ, σ)) ρs σs p at in
        let joint : IsJointOf ranks D f a looks r (ρ, σ) = subst (IsJointOf ranks D f a looks r) (sym e) joined in
        (ρ, mine, σ, its, joint.0, joint.1)

    pub joint_all : (ρ : OutRule L) → Contains ρs ρ → (σ : Rule L) → Contains σs σ → ρ.rule.constructor ≡ σ.constructor → ((r : OutRule L) × Contains rs r × IsJointRule ranks D f a looks r ρ σ) ⊎ Never D (λ l. ρ.rule.guard l && σ.guard l)
    joint_all ρ mine σ its same = either (are.all (ρ, σ) (to_pairs (λ ρ σ. (ρ, σ)) ρs σs ρ σ mine its))
      where
        either : ((r : OutRule L) × Contains rs r × IsJointOf ranks D f a looks r (ρ, σ)) ⊎ AreApart ranks D (ρ, σ) → ((r : OutRule L) × Contains rs r × IsJointRule ranks D f a looks r ρ σ) ⊎ Never D (λ l. ρ.rule.guard l && σ.guard l)
        either (inl (r, at, is)) = inl (r, at, is.1)
        either (inr (inl other)) = absurd (other same)
        either (inr (inr never)) = inr never
