-- The automaton with "not" states is the complement.
use Rattle.std.proofs.Common.{ℕ, ◌≡◌, ◌<◌, ◌↔◌, inl, inr, not, Bool, true, false, List, [], ◌∷◌, refl, sym, subst, ◌∙◌, length}
use Rattle.std.proofs.lemmas.Bool.{cases_lt}
use Rattle.model_tree.specs.Tree.{Tree}
use Rattle.model_sta.specs.Sets.{Row, Fits}
use Rattle.model_sta.specs.Reached.{IsComplete}
use Rattle.model_sta.specs.Told.{AreOwn}
use Rattle.sta_theory.specs.Opposite.{IsDoubled}
use Rattle.model_sta.specs.Operations.{Auto, Class, Has, OfState, OfClasses, IsComplement}
use Rattle.sta_theory.proofs.Opposite.{old_accepts, not_accepts}

pub as_true : (a b : Bool) → a ≡ b → (a ≡ true) ↔ (b ≡ true)
as_true a b e = (λ h. sym e ∙ h, λ h. e ∙ h)

pub as_not : (a b : Bool) → a ≡ not b → (a ≡ true) ↔ ¬ (b ≡ true)
as_not a true e = (λ h. absurd (cc), λ none. absurd (none refl))
as_not a false e = (λ h k. absurd (cc), λ none. e)

-- the trees that the state doesn't accept
abbrev outside : ℕ → Class
outside s = record { inside = []; outside = s ∷ []; other_inside = []; other_outside = [] }

module _ {L : Type 0} (opp : ℕ → ℕ) (ranks : List ℕ) (D : L → Type 0) (known : List Row) (a c : Auto L) (own : AreOwn a.rules) (complete : IsComplete ranks D a.rules known)
    (is : IsDoubled opp ranks known a.rules c.rules) where
  abbrev Typed : Tree L → Type 0
  Typed = Fits ranks D

  old_state : (q : ℕ) → q < length a.rules → OfState Typed a.rules (Has c.rules q)
  old_state q low = (q, low, λ t f. as_true _ _ (old_accepts opp ranks D known a.rules c.rules own complete is t f q low))

  not_state : (s : ℕ) → s < length a.rules → (t : Tree L) → Typed t → Has c.rules (opp s) t ↔ ¬ (Has a.rules s t)
  not_state s low t f = as_not _ _ (not_accepts opp ranks D known a.rules c.rules own complete is t f s low)

  new_state : (s : ℕ) → s < length a.rules → OfClasses Typed a.rules a.rules (Has c.rules (opp s))
  new_state s low = (
    outside s ∷ [],
    ((tt, (low, tt), tt, tt), tt),
    λ t f. (λ h. inl (tt, ((not_state s low t f).0 h, tt), tt, tt), λ one. elim one [ inl k ↦ (not_state s low t f).1 k.1.0 | inr none ↦ absurd none ]),
  )

  pub is_complement : a.start < length a.rules → c.start ≡ opp a.start → IsComplement Typed a c
  is_complement low start = record {
    in_range = subst (λ q. q < length c.rules) (sym start) (is.low a.start low);
    means = λ t f. subst (λ q. Has c.rules q t ↔ ¬ (Has a.rules a.start t)) (sym start) (not_state a.start low t f);
    each_state = λ q within. elim (cases_lt q (length a.rules)) [
      | inl below ↦ inr (inl (old_state q below))
      | inr high ↦ (
          let (s, s_low, q_is, are) = is.each_new q high within in
          inr (inr (inr (subst (λ k. OfClasses Typed a.rules a.rules (Has c.rules k)) (sym q_is) (new_state s s_low)))))
    ];
  }
