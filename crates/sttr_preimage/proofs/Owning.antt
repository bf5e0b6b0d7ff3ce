-- The rules of states that run a state of the second over the tree itself.
use Rattle.std.specs.Prelude.{⊤}
use Rattle.std.proofs.Common.{ℕ, ◌≡◌, ◌<◌, inl, inr, Bool, true, Vec, List, [], ◌∷◌, ◌++◌, map, get_or, length, All, Contains, refl, sym, subst, ap, ◌∙◌, arith}
use Rattle.std.proofs.lemmas.List.{length-map}
use Rattle.model_tree.specs.Label.{Label}
use Rattle.model_tree.specs.Formula.{EveryAtom, formula_holds}
use Rattle.model_sta.specs.Sets.{Each}
use Rattle.model_sttr.specs.Terms.{Term, with_maps}
use Rattle.model_sttr.specs.Transducer.{Head, identity, run, OutRule, Sttr, GivesSame, IsHead, out_rules, SttrFits}
use Rattle.model_sttr.specs.Plain.{PlainOut}
use Rattle.label_core.specs.Meaning.{Meaning}
use Rattle.sta_core.specs.Machine.{PlainRule}
use Rattle.sta_core.specs.Sta.{rule_meaning}
use Rattle.sttr_core.specs.Machine.{OutMachine, plain_out}
use Rattle.sttr_core.specs.declared.sttr.SttrRule.{SttrRule}
use Rattle.sttr_core.proofs.Meaning.{rules_meant}
use Rattle.sttr_theory.specs.Lists.{Extends, Match}
use Rattle.sttr_theory.specs.Triples.{Triple, LookName, of_second, seconds}
use Rattle.sttr_theory.specs.Built.{IsMadeRule, IsNamed}
use Rattle.sttr_theory.specs.Copies.{on_same, IsOfRanks, IsCopiedRule}
use Rattle.sttr_theory.proofs.Copies.{copied_are_rules}
use Rattle.sttr_theory.proofs.Covers.{covers_match}
use Rattle.sttr_theory.specs.Covers.{Never}
use Rattle.sttr_theory.proofs.Fits.{made_demands}
use Rattle.sttr_theory.proofs.Grow.{stands_map}
use Rattle.sttr_theory.proofs.Members.{here, of_mapped, in_left, in_right}
use Rattle.sttr_theory.proofs.Matches.{match_map}
use Rattle.sttr_run.specs.Fits.{RuleStands, OutStands, SttrStands}
use Rattle.sttr_run.specs.Sources.{HasMap}
use Rattle.sttr_preimage.specs.declared.names.Side.TheVariants as side
use Rattle.sttr_preimage.specs.Rules.{IsMadeOf, IsCopied, demands_of}
use Rattle.sttr_preimage.specs.Called.{KeepsOutput, MayRun, IsCalledName, IsHeadOf, IsOwnCall, IsOwnTerm, IsOwnRule, AreOwnRules}
use Rattle.sttr_preimage.specs.Images.{first_of, second_of, meant, IsLookName, IsLookAtom}
use Rattle.sttr_preimage.specs.Outs.{HasState, HasOuts}
use Rattle.sttr_preimage.specs.Outs as outs
use Rattle.sttr_preimage.proofs.Atoms.{get_same, row_in, in_all, every_own}
use Rattle.sttr_preimage.proofs.Copying.{made_is_copied, copied_grown, at_mapped}
use Rattle.sttr_preimage.proofs.Middles.{match_mapped, each_to_all, guard_at}
use Rattle.sttr_preimage.proofs.Numbered.{adds_then, adds_same, adds_wider, adds_extends, match_none, match_both, match_one}
use Rattle.sttr_preimage.proofs.Outing.{one_head, head_named}
use Rattle.sttr_preimage.proofs.Renaming.{own_grown}
use Rattle.sttr_preimage.proofs.Standing.{below_of, sttr_fits, stands_at, held_rule, as_many_rules, gives_child}

-- ---- one rule after the other

module _ {M : Type 0} (make : M → Label → Label) (D : Label → Type 0) (eq : M → M → Bool) where
  term_wider : (a b : List Triple) → Extends a b → (t made : Term Head M) → IsOwnTerm make D eq a a t made → IsOwnTerm make D eq b b t made
  term_wider a b ext t made is = record {
    adds = adds_same b b _ refl;
    stands = stands_map (λ k h. IsHeadOf a k (on_same h)) (λ k h. IsHeadOf b k (on_same h)) D (own_grown a b ext) (with_maps make made) (with_maps make t) is.stands;
    maps = is.maps;
  }

module _ {A M : Type 0} (make : M → Label → Label) (D : Label → Type 0) (eq : M → M → Bool) where
  rule_wider : (a b : List LookName) → Extends a b → (p q : List Triple) → Extends p q → (made r : PlainOut (PlainRule A) M) → IsOwnRule make D eq a p made r → IsOwnRule make D eq b q made r
  rule_wider a b ext p q more made r is = record { rule = copied_grown side.Second a b ext made.rule r.rule is.rule; term = term_wider make D eq p q more r.term made.term is.term }

  pub own_rules_none : (a : List LookName) (p : List Triple) (made : List (PlainOut (PlainRule A) M)) → made ≡ [] → AreOwnRules make D eq a a p p [] made
  own_rules_none a p made e = record { adds = adds_same a a _ refl; calls = adds_same p p _ refl; are = subst (λ l. Match (IsOwnRule make D eq a p) l []) (sym e) (match_none (IsOwnRule make D eq a p)) }

  pub own_rules_more : (a b c : List LookName) (p q s : List Triple) (rules more made next : List (PlainOut (PlainRule A) M)) (r x : PlainOut (PlainRule A) M) → AreOwnRules make D eq a b p q rules made → IsMadeOf b c r.rule r.rule.guard (demands_of side.Second r.rule) x.rule → IsOwnTerm make D eq q s r.term x.term
      → more ≡ rules ++ r ∷ [] → next ≡ made ++ x ∷ [] → AreOwnRules make D eq a c p s more next
  own_rules_more a b c p q s rules more made next r x h is term e f = subst (λ l. AreOwnRules make D eq a c p s l next) (sym e) (subst (AreOwnRules make D eq a c p s (rules ++ r ∷ [])) (sym f) (record {
    adds = adds_then a b c _ _ _ h.adds is.demands.adds (λ k w. (w.0, in_left rules (r ∷ []) w.0 w.1, w.2, w.3)) (λ k w. (r, in_right rules (r ∷ []) r (here r []), w.0, w.2));
    calls = adds_then p q s _ _ _ h.calls term.adds (λ k w. (w.0, in_left rules (r ∷ []) w.0 w.1, w.2)) (λ k w. (r, in_right rules (r ∷ []) r (here r []), w));
    are = match_both (IsOwnRule make D eq c s) made (x ∷ []) rules (r ∷ []) (match_map (IsOwnRule make D eq b q) (IsOwnRule make D eq c s) (rule_wider b c (adds_extends b c _ is.demands.adds) q s (adds_extends q s _ term.adds)) made rules h.are)
        (match_one (IsOwnRule make D eq c s) x r (record { rule = made_is_copied side.Second b c r.rule x.rule is; term = record { adds = adds_same s s _ refl; stands = term.stands; maps = term.maps } }));
  }))

-- ---- all of a state

-- the state is one of the second
pub own_low : {L : Type 0} (f g : Sttr L) (K : Type 0) (q : ℕ) → IsCalledName f g K (on_same (run q)) → q < length g.rules
own_low f g K q known = by known.second (one_head (run q) known.second known.has_second) known.is_second
  where
    by : (h : Head) → run q ≡ h → MayRun g K h → q < length g.rules
    by h e (inl head) = subst (IsHead g) (sym e) head
    by h e (inr (k, is)) = absurd (let wrong : run q ≡ identity = e ∙ is in cc)

-- the second's rules at a place
pub rules_at : {A M G : Type 0} (rows : List (Vec (SttrRule A M) G)) (q : ℕ) (v : Vec (SttrRule A M) G) → q < length (map (λ those. map plain_out those.items) rows) → get_or (map (λ those. map plain_out those.items) rows) q [] ≡ map plain_out (get_or rows q v).items
rules_at rows q v low =
    let there = subst (λ n. q < n) (length-map rows (λ those. map plain_out those.items)) low in
    at_mapped (λ those. map plain_out those.items) rows q (get_or rows q v) [] there (get_same rows q v (get_or rows q v) there)

module _ {A M V W : Type 0} (is_put : M → A → A → Type 0) (make : M → Label → Label) {label_of : V → Label} {holds : A → Label → Bool} (N : Meaning label_of holds W) (fits : A → Type 0) (f g : OutMachine A M) (Q : Type 0 → M → Type 0) (eq : M → M → Bool)
    (second_looks : All (All (RuleStands g.looks.ranks (length g.looks.rules))) g.looks.rules) (second_stands : SttrStands g) (child : GivesSame (first_of holds make f g)) (ranks : g.looks.ranks ≡ f.looks.ranks) (guards : All (λ rules. All (λ r. EveryAtom fits r.rule.guard) rules) g.rules) (same : (b : A) → N.equal b b ≡ true)
    (q : ℕ) (low : q < length g.rules) where
  abbrev F : Sttr Label
  F = first_of holds make f g

  abbrev G : Sttr Label
  G = second_of holds make f g

  abbrev R : List ℕ
  R = f.looks.ranks

  abbrev K : Type 0
  K = KeepsOutput (on_same (run q))

  abbrev own : List (PlainOut (PlainRule A) M)
  own = get_or g.rules q []

  stand : (r : PlainOut (PlainRule A) M) → Contains own r → OutStands g.looks.ranks (length g.looks.rules) (length g.rules) r
  stand r at = stands_at holds make g second_stands q r (low, at)

  same_fits : SttrFits G R
  same_fits = subst (SttrFits G) ranks (sttr_fits holds make g second_looks second_stands)

  of_ranks : (σ : OutRule Label) → Contains (out_rules G q) σ → IsOfRanks R σ.rule
  of_ranks σ at =
      let (r, there, is) = held_rule holds make g q σ at in
      let rule = (stand r there.1).rule in
      subst (λ (z : OutRule Label). IsOfRanks R z.rule) is (record {
        constructor = subst (λ rk. r.rule.constructor < length rk) ranks rule.constructor;
        demands = let e = rule.children ∙ ap (λ rk. get_or rk r.rule.constructor 0) ranks in omega (arith, e);
      })

  module _ (b c : List LookName) (p s : List Triple) (made : List (PlainOut (PlainRule A) M)) (h : AreOwnRules make N.has eq b c p s own made) where
    made_rule : (x r : PlainOut (PlainRule A) M) → IsCopied c side.Second x.rule r.rule → IsMadeRule R N.has F G c (rule_meaning holds x.rule) r.rule.constructor (rule_meaning holds r.rule).guard (λ j. seconds (get_or r.rule.demands j []))
    made_rule x r is = record { same_constructor = is.constructor; same_guard = λ l d. ap (formula_holds (λ a. holds a l)) is.guard; same_demands = is.each }

    copied : (x r : PlainOut (PlainRule A) M) → IsOwnRule make N.has eq c s x r → IsCopiedRule R N.has F G c s (meant holds make f g x) (meant holds make f g r)
    copied x r is = (made_rule x r is.rule, stands_map (λ k h. IsHeadOf s k (on_same h)) (λ k h. IsNamed R N.has F G s k (on_same h)) N.has (λ k h. head_named is_put make N fits f g Q s k (on_same h)) (with_maps make x.term) (with_maps make r.term) is.term.stands)

    name_known : (x : LookName) → (r : PlainOut (PlainRule A) M) × Contains own r × (j : ℕ) × Contains (demands_of side.Second r.rule j) x → IsLookName holds make f g ⊥ ⊤ x
    name_known x (r, at, j, c) = let (t, there, is) = of_mapped of_second (get_or r.rule.demands j []) x c in subst (IsLookName holds make f g ⊥ ⊤) is (below_of g.looks.ranks (length g.looks.rules) r.rule (stand r at).rule j t there, inl child)

    call_known : (x : Triple) → (r : PlainOut (PlainRule A) M) × Contains own r × IsOwnCall r.term x → HasState is_put make N fits f g K x
    call_known x (r, at, (k, j, o, e)) = subst (HasState is_put make N fits f g K) e (record {
      is_first = child;
      are = tt;
      second = run k;
      has_second = refl;
      is_second = inl (subst (λ n. k < n) (sym (as_many_rules holds make g)) ((stand r at).calls k j o));
      no_copy = λ e is. absurd (cc);
      asks_apart = λ e. refl;
    })

    pub own_done : ((m : M) → HasMap g m → Q K m) → ((m n : M) → Q K m → eq m n ≡ true → Q K n) → HasOuts is_put make N fits f g Q b c p s (on_same (run q)) made
    own_done Q_own Q_same = record {
      adds = adds_wider b c _ (IsLookName holds make f g ⊥ ⊤) h.adds name_known;
      calls = adds_wider p s _ (HasState is_put make N fits f g K) h.calls call_known;
      are = copied_are_rules R N.has F G q same_fits of_ranks c s (map (meant holds make f g) made)
          (covers_match (IsCopiedRule R N.has F G c s) (λ σ. Never N.has σ.rule.guard) (map (meant holds make f g) made) (out_rules G q)
          (subst (Match (IsCopiedRule R N.has F G c s) (map (meant holds make f g) made)) (sym (rules_meant holds make g q))
          (match_mapped (IsOwnRule make N.has eq c s) (IsCopiedRule R N.has F G c s) (meant holds make f g) (meant holds make f g) made own (λ x r at mine is. copied x r is) h.are)));
      stand = in_all (outs.OutStands is_put make N fits f g Q K (length c)) made (λ x at.
          let (r, mine, is) = h.are.0 x at in
          let rule = (stand r mine).rule in
          record {
            rule = record {
              stands = record {
                constructor = subst (λ k. k < length R) (sym is.rule.constructor) (subst (λ rk. r.rule.constructor < length rk) ranks rule.constructor);
                children = is.rule.count ∙ rule.children ∙ ap (λ rk. get_or rk r.rule.constructor 0) ranks ∙ ap (λ k. get_or R k 0) (sym is.rule.constructor);
                demands = each_to_all (Each (λ s. s < length c)) (All (λ s. s < length c)) (λ d e. each_to_all (λ s. s < length c) (λ s. s < length c) (λ s low. low) d e) x.rule.demands
                    (made_demands R N.has F G c (length c) refl (rule_meaning holds x.rule) _ _ _ (made_rule x r is.rule));
              };
              fit = subst (EveryAtom fits) (sym is.rule.guard) (guard_at fits g q r (low, mine) guards);
              atoms = subst (EveryAtom (IsLookAtom is_put make N fits f g ⊥ ⊤)) (sym is.rule.guard)
                  (every_own (IsLookAtom is_put make N fits f g ⊥ ⊤) r.rule.guard (λ a at. inr (inr (inl (gives_child holds make f child), (a, inr (own, row_in g.rules q low, r, mine, at), same a)))));
            };
            maps = λ m o. let (i, at, alike) = is.term.maps m o in Q_same i m (Q_own i (own, row_in g.rules q low, r, mine, at)) alike;
          });
    }
