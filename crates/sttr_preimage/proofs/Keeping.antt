-- Rules that are kept, one after the other.
use Rattle.std.proofs.Common.{◌⊎◌, ℕ, ◌≡◌, ◌<◌, inl, inr, Bool, List, [], ◌∷◌, ◌++◌, get_or, length, Contains, refl, sym, subst, ap, ◌∙◌, arith}
use Rattle.std.proofs.lemmas.Bool.{cases_lt}
use Rattle.std.proofs.lemmas.List.{length-append}
use Rattle.model_tree.specs.Label.{Label}
use Rattle.model_sttr.specs.Plain.{PlainOut}
use Rattle.sta_core.specs.Machine.{PlainRule}
use Rattle.sttr_theory.specs.Lists.{IsAt, Extends, Match}
use Rattle.sttr_theory.specs.Triples.{LookName, of_first, of_second}
use Rattle.sttr_theory.proofs.Grow.{push_before, push_at}
use Rattle.sttr_preimage.specs.declared.names.Side.TheVariants as side
use Rattle.sttr_preimage.specs.Apart.{AreApart}
use Rattle.sttr_preimage.specs.Rules.{IsMadeOf, demands_of, both_of}
use Rattle.sttr_preimage.specs.Called.{IsTermCopy}
use Rattle.sttr_preimage.specs.Kept.{IsBelow, IsEither, joint_demands, IsKept, IsJoint, AreKept, AreAllKept, AreJoint}
use Rattle.sttr_preimage.proofs.Copying.{made_is_copied, copied_grown}
use Rattle.sttr_preimage.proofs.Numbered.{adds_then, adds_same, adds_extends, match_both, match_one}
use Rattle.sttr_theory.proofs.Members.{here, of_mapped, in_left, in_right, in_either, in_single}
use Rattle.sttr_theory.proofs.Matches.{match_map}

first : {P P' : Type 0} (Q : Type 0) → (P → P') → P ⊎ Q → P' ⊎ Q
first Q f (inl p) = inl (f p)
first Q f (inr q) = inr q

module _ {A M : Type 0} (make : M → Label → Label) (D : Label → Type 0) (eq : M → M → Bool) (n m : ℕ) where
  first_either : (r : PlainRule A) → IsBelow n r → (j : ℕ) (x : LookName) → Contains (demands_of side.First r j) x → IsEither n m x
  first_either r below j x c = let (s, at, is) = of_mapped of_first (get_or r.demands j []) x c in subst (IsEither n m) is (below j s at)

  second_either : (σ : PlainRule A) → IsBelow m σ → (j : ℕ) (x : LookName) → Contains (demands_of side.Second σ j) x → IsEither n m x
  second_either σ below j x c = let (s, at, is) = of_mapped of_second (get_or σ.demands j []) x c in subst (IsEither n m) is (below j s at)

  pub kept_wider : (a b : List LookName) → Extends a b → (x r : PlainOut (PlainRule A) M) → IsKept make D eq a x r → IsKept make D eq b x r
  kept_wider a b ext x r is = record { rule = copied_grown side.First a b ext x.rule r.rule is.rule; term = is.term }

  -- one more rule
  pub kept_more : (a b c : List LookName) (rules made more next : List (PlainOut (PlainRule A) M)) (r x : PlainOut (PlainRule A) M) → AreKept make D eq n m a b rules made → IsBelow n r.rule → IsMadeOf b c r.rule r.rule.guard (demands_of side.First r.rule) x.rule → IsTermCopy make D eq r.term x.term
      → more ≡ rules ++ r ∷ [] → next ≡ made ++ x ∷ [] → AreKept make D eq n m a c more next
  kept_more a b c rules made more next r x h below is term e f = subst (λ l. AreKept make D eq n m a c l next) (sym e) (subst (AreKept make D eq n m a c (rules ++ r ∷ [])) (sym f) (record {
    adds = adds_then a b c _ _ _ h.adds is.demands.adds (λ k w. w) (λ k w. first_either r.rule below w.0 k w.2);
    kept = match_both (IsKept make D eq c) made (x ∷ []) rules (r ∷ []) (match_map (IsKept make D eq b) (IsKept make D eq c) (kept_wider b c (adds_extends b c _ is.demands.adds)) made rules h.kept)
        (match_one (IsKept make D eq c) x r (record { rule = made_is_copied side.First b c r.rule x.rule is; term = term }));
  }))

  -- the rules of one more state
  pub all_kept_more : (a b c : List LookName) (rows made more next : List (List (PlainOut (PlainRule A) M))) (rs xs : List (PlainOut (PlainRule A) M)) → AreAllKept make D eq n m a b rows made → AreKept make D eq n m b c rs xs → more ≡ rows ++ rs ∷ [] → next ≡ made ++ xs ∷ [] → AreAllKept make D eq n m a c more next
  all_kept_more a b c rows made more next rs xs h is e f = subst (λ l. AreAllKept make D eq n m a c l next) (sym e) (subst (AreAllKept make D eq n m a c (rows ++ rs ∷ [])) (sym f) (record {
    adds = adds_then a b c _ _ _ h.adds is.adds (λ k w. w) (λ k w. w);
    count = let i = length-append made (xs ∷ []) in let j = length-append rows (rs ∷ []) in omega (arith, i, j, h.count);
    each = λ q low. elim (cases_lt q (length rows)) [
      | inl before ↦ subst (λ ys. Match (IsKept make D eq c) ys (get_or (rows ++ rs ∷ []) q [])) (sym (push_before made xs q (omega (arith, before, h.count))))
          (subst (Match (IsKept make D eq c) (get_or made q [])) (sym (push_before rows rs q before))
          (match_map (IsKept make D eq b) (IsKept make D eq c) (kept_wider b c (adds_extends b c _ is.adds)) (get_or made q []) (get_or rows q []) (h.each q before)))
      | inr past ↦ (
          let last : length rows ≡ q = (let j = length-append rows (rs ∷ []) in omega (arith, j, low, past)) in
          subst (λ i. Match (IsKept make D eq c) (get_or (made ++ xs ∷ []) i []) (get_or (rows ++ rs ∷ []) i [])) last
          (subst (λ ys. Match (IsKept make D eq c) (get_or (made ++ xs ∷ []) (length rows) []) ys) (sym (push_at rows rs))
          (subst (λ ys. Match (IsKept make D eq c) ys rs) (sym (ap (λ i. get_or (made ++ xs ∷ []) i []) (sym h.count) ∙ push_at made xs)) is.kept)))
    ];
  }))

  -- ---- rules together with those of an automaton

  joint_wider : (a b : List LookName) → Extends a b → (x r : PlainOut (PlainRule A) M) (σ : PlainRule A) → IsJoint make D eq a x r σ → IsJoint make D eq b x r σ
  joint_wider a b ext x r σ is = record { constructor = is.constructor; guard = is.guard; count = is.count; each = λ j low. match_map (IsAt a) (IsAt b) ext (get_or x.rule.demands j []) (joint_demands r.rule σ j) (is.each j low); term = is.term }

  module _ (holds : A → Label → Bool) where
    pub joint_none : (names : List LookName) (others : List (PlainRule A)) (made : List (PlainOut (PlainRule A) M)) → made ≡ [] → AreJoint make D eq n m holds names names [] others made
    joint_none names others made e = record {
      adds = adds_same names names _ refl;
      only = λ x c. let low = subst (λ l. c.0 < length l) e c.1 in absurd (omega (arith, low));
      all = λ r c σ d same. absurd (omega (arith, c.1));
    }

    -- one more of the automaton, of another constructor
    pub joint_skip : (a b : List LookName) (r : PlainOut (PlainRule A) M) (others more : List (PlainRule A)) (σ : PlainRule A) (made : List (PlainOut (PlainRule A) M)) → AreJoint make D eq n m holds a b (r ∷ []) others made → ¬ (r.rule.constructor ≡ σ.constructor) → more ≡ others ++ σ ∷ [] → AreJoint make D eq n m holds a b (r ∷ []) more made
    joint_skip a b r others more σ made h other e = subst (λ l. AreJoint make D eq n m holds a b (r ∷ []) l made) (sym e) (record {
      adds = h.adds;
      only = λ x c. let (ρ, at, τ, there, same, is) = h.only x c in (ρ, at, τ, in_left others (σ ∷ []) τ there, same, is);
      all = λ ρ at τ there same. elim (in_either others (σ ∷ []) τ there) [
        | inl old ↦ h.all ρ at τ old same
        | inr new ↦ absurd (other (ap (λ z. z.rule.constructor) (in_single r ρ at) ∙ same ∙ ap (λ z. z.constructor) (sym (in_single σ τ new))))
      ];
    })

    -- of the same one, where both apply nowhere
    pub joint_apart : (a b : List LookName) (r : PlainOut (PlainRule A) M) (others more : List (PlainRule A)) (σ : PlainRule A) (made : List (PlainOut (PlainRule A) M)) → AreJoint make D eq n m holds a b (r ∷ []) others made → AreApart holds D r.rule.guard σ.guard → more ≡ others ++ σ ∷ [] → AreJoint make D eq n m holds a b (r ∷ []) more made
    joint_apart a b r others more σ made h out e = subst (λ l. AreJoint make D eq n m holds a b (r ∷ []) l made) (sym e) (record {
      adds = h.adds;
      only = λ x c. let (ρ, at, τ, there, same, is) = h.only x c in (ρ, at, τ, in_left others (σ ∷ []) τ there, same, is);
      all = λ ρ at τ there same. elim (in_either others (σ ∷ []) τ there) [
        | inl old ↦ h.all ρ at τ old same
        | inr new ↦ inr (subst (λ ρ. AreApart holds D ρ.rule.guard τ.guard) (in_single r ρ at) (subst (λ τ. AreApart holds D r.rule.guard τ.guard) (in_single σ τ new) out))
      ];
    })

    -- where both may apply
    pub joint_more : (a b c : List LookName) (r : PlainOut (PlainRule A) M) (others more : List (PlainRule A)) (σ : PlainRule A) (made next : List (PlainOut (PlainRule A) M)) (x : PlainOut (PlainRule A) M) → AreJoint make D eq n m holds a b (r ∷ []) others made → IsBelow n r.rule → IsBelow m σ → r.rule.constructor ≡ σ.constructor
        → IsMadeOf b c r.rule (both_of r.rule.guard σ.guard) (joint_demands r.rule σ) x.rule → IsTermCopy make D eq r.term x.term → more ≡ others ++ σ ∷ [] → next ≡ made ++ x ∷ [] → AreJoint make D eq n m holds a c (r ∷ []) more next
    joint_more a b c r others more σ made next x h below_r below_σ one is term e f = subst (λ l. AreJoint make D eq n m holds a c (r ∷ []) l next) (sym e) (subst (AreJoint make D eq n m holds a c (r ∷ []) (others ++ σ ∷ [])) (sym f) (record {
      adds = adds_then a b c _ _ _ h.adds is.demands.adds (λ k w. w) (λ k w. elim (in_either (demands_of side.First r.rule w.0) (demands_of side.Second σ w.0) k w.2) [ inl at ↦ first_either r.rule below_r w.0 k at | inr at ↦ second_either σ below_σ w.0 k at ]);
      only = λ y at. elim (in_either made (x ∷ []) y at) [
        | inl old ↦ (let (ρ, at', τ, there, same, j) = h.only y old in (ρ, at', τ, in_left others (σ ∷ []) τ there, same, joint_wider b c ext y ρ τ j))
        | inr new ↦ subst (λ y. (ρ : PlainOut (PlainRule A) M) × Contains (r ∷ []) ρ × (τ : PlainRule A) × Contains (others ++ σ ∷ []) τ × (ρ.rule.constructor ≡ τ.constructor) × IsJoint make D eq c y ρ τ) (in_single x y new) (r, here r [], σ, in_right others (σ ∷ []) σ (here σ []), one, joint)
      ];
      all = λ ρ at τ there same. elim (in_either others (σ ∷ []) τ there) [
        | inl old ↦ first (AreApart holds D ρ.rule.guard τ.guard) (λ k. let (y, mine, j) = k in (y, in_left made (x ∷ []) y mine, joint_wider b c ext y ρ τ j)) (h.all ρ at τ old same)
        | inr new ↦ inl (x, in_right made (x ∷ []) x (here x []), subst (λ ρ. IsJoint make D eq c x ρ τ) (in_single r ρ at) (subst (IsJoint make D eq c x r) (in_single σ τ new) joint))
      ];
    }))
      where
        ext : Extends b c
        ext = adds_extends b c _ is.demands.adds

        joint : IsJoint make D eq c x r σ
        joint = record { constructor = is.constructor; guard = is.guarded; count = is.demands.count; each = is.demands.each; term = term }

    -- one more rule of the transducer
    pub joint_both : (a b c : List LookName) (rules more : List (PlainOut (PlainRule A) M)) (r : PlainOut (PlainRule A) M) (others : List (PlainRule A)) (made next xs : List (PlainOut (PlainRule A) M)) → AreJoint make D eq n m holds a b rules others made → AreJoint make D eq n m holds b c (r ∷ []) others xs → more ≡ rules ++ r ∷ [] → next ≡ made ++ xs → AreJoint make D eq n m holds a c more others next
    joint_both a b c rules more r others made next xs h k e f = subst (λ l. AreJoint make D eq n m holds a c l others next) (sym e) (subst (AreJoint make D eq n m holds a c (rules ++ r ∷ []) others) (sym f) (record {
      adds = adds_then a b c _ _ _ h.adds k.adds (λ y w. w) (λ y w. w);
      only = λ y at. elim (in_either made xs y at) [
        | inl old ↦ (let (ρ, at', τ, there, same, j) = h.only y old in (ρ, in_left rules (r ∷ []) ρ at', τ, there, same, joint_wider b c (adds_extends b c _ k.adds) y ρ τ j))
        | inr new ↦ (let (ρ, at', τ, there, same, j) = k.only y new in (ρ, in_right rules (r ∷ []) ρ at', τ, there, same, j))
      ];
      all = λ ρ at τ there same. elim (in_either rules (r ∷ []) ρ at) [
        | inl old ↦ first (AreApart holds D ρ.rule.guard τ.guard) (λ z. let (y, mine, j) = z in (y, in_left made xs y mine, joint_wider b c (adds_extends b c _ k.adds) y ρ τ j)) (h.all ρ old τ there same)
        | inr new ↦ first (AreApart holds D ρ.rule.guard τ.guard) (λ z. let (y, mine, j) = z in (y, in_right made xs y mine, j)) (k.all ρ new τ there same)
      ];
    }))
