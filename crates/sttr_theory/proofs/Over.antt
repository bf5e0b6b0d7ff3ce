-- The rules for a triple, as a loop over the rules of its head makes them.
use Rattle.std.proofs.Common.{◌&&◌, append-nil, ℕ, ◌⊎◌, List, [], ◌∷◌, ◌++◌, Contains, subst, inl, inr, arith}
use Rattle.model_sttr.specs.Transducer.{OutRule, Sttr}
use Rattle.sttr_theory.specs.Covers.{Never}
use Rattle.sttr_theory.specs.Triples.{Triple, Way, AreWays}
use Rattle.sttr_theory.specs.Built.{IsRuleOf, AreRulesFor, AreRulesOver, AreRulesOfWays}
use Rattle.sttr_theory.proofs.Members.{here, in_left, in_right, in_either, in_single}
use Rattle.sttr_theory.proofs.Each.{each_all}
use Rattle.sttr_theory.proofs.Covers.{covers_out}
use Rattle.sttr_theory.proofs.AlikeWays.{never_left}

module _ {L R : Type 0} (ranks : List ℕ) (D : L → Type 0) (f g : Sttr L) (IsRule : R → OutRule L → Way L → Type 0) (x : Triple) where
  -- before the first
  pub no_rules : AreRulesOver ranks D f g IsRule [] [] x
  no_rules = record { only = λ r c. absurd (omega (arith, c.1)); all = λ ρ c. absurd (omega (arith, c.1)) }

  -- one more rule of the first, with what its ways make
  pub one_more_rule : (ρs : List (OutRule L)) (rs : List R) (ρ : OutRule L) (ys : List (Way L)) (made : List R) → AreRulesOver ranks D f g IsRule ρs rs x → AreWays f g D ρ.term x ys → AreRulesOfWays ranks D f g IsRule made ρ ys
      → AreRulesOver ranks D f g IsRule (ρs ++ ρ ∷ []) (rs ++ made) x
  one_more_rule ρs rs ρ ys made are ways same = record {
    only = λ r c. only r (in_either rs made r c);
    all = λ σ c. all σ (in_either ρs (ρ ∷ []) σ c);
  }
    where
      only : (r : R) → Contains rs r ⊎ Contains made r → (σ : OutRule L) × Contains (ρs ++ ρ ∷ []) σ × (ys : List (Way L)) × AreWays f g D σ.term x ys × (y : Way L) × Contains ys y × IsRule r σ y
      only r (inl c) = let (σ, at, zs, those, y, mine, is) = are.only r c in (σ, in_left ρs (ρ ∷ []) σ at, zs, those, y, mine, is)
      only r (inr c) = let (y, mine, is) = same.only r c in (ρ, in_right ρs (ρ ∷ []) ρ (here ρ []), ys, ways, y, mine, is)

      left : (σ : OutRule L) (y : Way L) → ((r : R) × Contains rs r × IsRule r σ y) ⊎ Never D (λ l. σ.rule.guard l && y.guard l) → ((r : R) × Contains (rs ++ made) r × IsRule r σ y) ⊎ Never D (λ l. σ.rule.guard l && y.guard l)
      left σ y (inl (r, at, is)) = inl (r, in_left rs made r at, is)
      left σ y (inr never) = inr never

      right : (y : Way L) → ((r : R) × Contains made r × IsRule r ρ y) ⊎ Never D (λ l. ρ.rule.guard l && y.guard l) → ((r : R) × Contains (rs ++ made) r × IsRule r ρ y) ⊎ Never D (λ l. ρ.rule.guard l && y.guard l)
      right y (inl (r, at, is)) = inl (r, in_right rs made r at, is)
      right y (inr never) = inr never

      own : (ys' : List (Way L)) × AreWays f g D ρ.term x ys' × ((y : Way L) → Contains ys' y → ((r : R) × Contains (rs ++ made) r × IsRule r ρ y) ⊎ Never D (λ l. ρ.rule.guard l && y.guard l))
      own = (ys, ways, λ y mine. right y (same.all y mine))

      all : (σ : OutRule L) → Contains ρs σ ⊎ Contains (ρ ∷ []) σ → (ys : List (Way L)) × AreWays f g D σ.term x ys × ((y : Way L) → Contains ys y → ((r : R) × Contains (rs ++ made) r × IsRule r σ y) ⊎ Never D (λ l. σ.rule.guard l && y.guard l))
      all σ (inl c) = let (zs, those, each) = are.all σ c in (zs, those, λ y mine. left σ y (each y mine))
      all σ (inr c) = subst (λ τ. (ys : List (Way L)) × AreWays f g D τ.term x ys × ((y : Way L) → Contains ys y → ((r : R) × Contains (rs ++ made) r × IsRule r τ y) ⊎ Never D (λ l. τ.rule.guard l && y.guard l))) (in_single ρ σ c) own

  -- one more rule that never applies
  pub one_idle_rule : (ρs : List (OutRule L)) (rs : List R) (ρ : OutRule L) (ys : List (Way L)) → AreRulesOver ranks D f g IsRule ρs rs x → AreWays f g D ρ.term x ys → Never D ρ.rule.guard → AreRulesOver ranks D f g IsRule (ρs ++ ρ ∷ []) rs x
  one_idle_rule ρs rs ρ ys are ways never =
      subst (λ those. AreRulesOver ranks D f g IsRule (ρs ++ ρ ∷ []) those x) (append-nil rs)
      (one_more_rule ρs rs ρ ys [] are ways (covers_out (λ r y. IsRule r ρ y) (λ y. Never D (λ l. ρ.rule.guard l && y.guard l)) ys (each_all (λ y. Never D (λ l. ρ.rule.guard l && y.guard l)) ys (λ y c. never_left D ρ.rule.guard y.guard never))))

  -- after the last
  pub all_rules : (ρs : List (OutRule L)) (rs : List R) → ((ρ : OutRule L) → Contains ρs ρ → IsRuleOf ranks D f g x.first ρ) → ((ρ : OutRule L) → IsRuleOf ranks D f g x.first ρ → Contains ρs ρ)
      → AreRulesOver ranks D f g IsRule ρs rs x → AreRulesFor ranks D f g IsRule rs x
  all_rules ρs rs to fro are = record {
    only = λ r c. let (ρ, at, ys, ways, y, mine, is) = are.only r c in (ρ, to ρ at, ys, ways, y, mine, is);
    all = λ ρ rule. are.all ρ (fro ρ rule);
  }
