-- Ways at a node, of picks of rules.
use Rattle.std.proofs.Common.{ℕ, ◌≡◌, ◌==◌, ◌⊎◌, inl, inr, Bool, true, false, ◌&&◌, List, [], ◌++◌, map, get_or, Contains, Option, Some, refl, sym, subst, ap, ap₂, ◌∙◌}
use Rattle.std.proofs.lemmas.Bool.{and_parts, and_from}
use Rattle.std.specs.List.{flat_map}
use Rattle.model_tree.specs.Label.{Label}
use Rattle.model_tree.specs.Formula.{formula_holds}
use Rattle.model_sta.specs.Automaton.{Rule}
use Rattle.model_sttr.specs.Plain.{PlainOut}
use Rattle.model_sttr.specs.Terms.{Term}
use Rattle.model_sttr.specs.Transducer.{Head}
use Rattle.sta_core.specs.Machine.{PlainRule}
use Rattle.sta_core.specs.Sta.{rule_meaning}
use Rattle.sttr_theory.specs.Lists.{once, SameStates}
use Rattle.sttr_theory.specs.Alike.{SameTriple}
use Rattle.sttr_theory.specs.Triples.{Triple, asked}
use Rattle.sttr_theory.specs.Ways.{WayOf, Pick as Picking, picks_of, guarded, fires}
use Rattle.sttr_theory.proofs.Accept.{same_number, number_same}
use Rattle.sttr_theory.proofs.Once.{once_states, same_twice}
use Rattle.sttr_theory.proofs.Members.{to_mapped, of_mapped, to_flat, of_flat, in_either, in_left, in_right}
use Rattle.sttr_run.specs.Drafts.{AreAmong, all_say, AllStand, terms_at, NeverHolds, SaysSame, SaysLess, Covers}
use Rattle.sttr_run.specs.Found.{CoversPicks}
use Rattle.sttr_run.specs.Picks.{pick_guards, pick_term, wants_of, ArePicks, AreApplied, PicksSame}
use Rattle.sttr_run.specs.Sets.{IsAscending}
use Rattle.sttr_run.specs.declared.drafts.Draft.{Draft}
use Rattle.sttr_run.specs.declared.picks.Pick.{Pick}
use Rattle.sttr_run.proofs.Choosing.{pick_same, pick_less}
use Rattle.sttr_run.proofs.Covering.{and_false, and_assoc}

-- ---- demanded states once

-- where what is demanded is picked for once
once_covered : {A M X : Type 0} (holds : A → Label → Bool) (make : M → Label → Label) (D : Label → Type 0) (terms : X → List (Term Triple (Label → Label))) (these : List ℕ) (F : List ℕ → List (WayOf Label X)) (ys : List (Draft A M))
    → Covers holds make D terms (SameStates these) (AreAmong these) F ys → Covers holds make D terms (SameStates these) (AreAmong these) (λ Z. F (once Z)) ys
once_covered holds make D terms these F ys c = record {
  each = λ Z same y at. c.each (once Z) (λ s a. (once_states Z).1 s (same.0 s a), λ s a. same.1 s ((once_states Z).0 s a)) y at;
  all = λ Z among z at. c.all (once Z) (λ s a. (once_states Z).1 s (among s a)) z at;
}

-- ---- truth values and sets

pub false_if : (a b : Bool) → (a ≡ true → b ≡ true) → b ≡ false → a ≡ false
false_if true b f e = sym (f refl) ∙ e
false_if false b f e = refl

-- a conjunction that never holds, with a first part that says no less
pub false_and : (a b c : Bool) → (a ≡ true → b ≡ true) → (b && c) ≡ false → (a && c) ≡ false
false_and true b c f e = subst (λ x. (x && c) ≡ false) (f refl) e
false_and false b c f e = refl

true_and_if : (a b c : Bool) → (a ≡ true → b ≡ true) → (a && c) ≡ true → (b && c) ≡ true
true_and_if a b c f e = let both = and_parts a c e in and_from b c (f both.0) both.1

same_more : (Z W V : List ℕ) → SameStates Z W → SameStates (Z ++ V) (W ++ V)
same_more Z W V a = (
  (λ s at. elim (in_either Z V s at) [ inl b ↦ in_left W V s (a.0 s b) | inr b ↦ in_right W V s b ]),
  λ s at. elim (in_either W V s at) [ inl b ↦ in_left Z V s (a.1 s b) | inr b ↦ in_right Z V s b ],
)

among_more : (Z W V : List ℕ) → AreAmong Z W → AreAmong (Z ++ V) (W ++ V)
among_more Z W V a s at = elim (in_either Z V s at) [ inl b ↦ in_left W V s (a s b) | inr b ↦ in_right W V s b ]

module _ {A M : Type 0} (holds : A → Label → Bool) (make : M → Label → Label) (D : Label → Type 0) {X : Type 0} (terms : X → List (Term Triple (Label → Label))) where
  -- another guard of the same way
  reguard_same : (y : Draft A M) (z : WayOf Label X) (g h : Label → Bool) → ((l : Label) → D l → (g l && z.guard l) ≡ h l) → (z' : WayOf Label X) → z'.demands ≡ z.demands → z'.term ≡ z.term → ((l : Label) → z'.guard l ≡ h l) → SaysSame holds make D terms y (guarded g z) → SaysSame holds make D terms y z'
  reguard_same y z g h e z' ds ts gs s = record {
    guard = λ l d. s.guard l d ∙ e l d ∙ sym (gs l);
    asks = λ j n a. let (m, at, r) = s.asks j n a in (m, subst (λ zs. Contains (asked (get_or zs j [])) m) (sym ds) at, r);
    asked_of = λ j m a. s.asked_of j m (subst (λ zs. Contains (asked (get_or zs j [])) m) ds a);
    same_terms = subst (λ t. AllStand SameTriple D (terms_at holds make y) (terms t)) (sym ts) s.same_terms;
  }

  module _ (c : ℕ) (m : M) (looks : List (List (Rule Label))) (all : List ℕ) (asc : IsAscending all) (xs : List (Pick A M)) (picks : ArePicks holds make D c m looks all xs) (ys : List (Draft A M)) where
    module _ (ways : Option (Term Head M) → (ℕ → List ℕ) → List (WayOf Label X)) (G : (ℕ → List ℕ) → List (WayOf Label X)) (same_ways : (x : Pick A M) → ways (pick_term x) ≡ G) (covers : CoversPicks holds make D terms ways xs ys) where
      abbrev Picked : Picking Label → WayOf Label X → WayOf Label X
      Picked q z = guarded (λ l. q.guard (make m l)) z

      abbrev AllPicked : List ℕ → List (WayOf Label X)
      AllPicked Z = flat_map (λ q. map (Picked q) (G q.wants)) (picks_of looks c Z)

      each_pick : (Z : List ℕ) → SameStates all Z → (y : Draft A M) → Contains ys y → (z : WayOf Label X) × Contains (AllPicked Z) z × SaysSame holds make D terms y z
      each_pick Z same y at =
          let (x, in_xs, says) = covers.each y at in
          let (p, in_picks, s) = picks.each x in_xs in
          let (q, in_z, guards, wants) = pick_same looks c all Z asc same p in_picks in
          let (z, in_ways, is) = says q.wants (λ j. same_twice (wants_of x j) (p.wants j) (q.wants j) (s.wants j) (wants j)) in
          let in_t : Contains (G q.wants) z = subst (λ F. Contains (F q.wants) z) (same_ways x) in_ways in (
            Picked q z,
            to_flat (λ q. map (Picked q) (G q.wants)) (picks_of looks c Z) q (Picked q z) in_z (to_mapped (Picked q) (G q.wants) z in_t),
            reguard_same y z (all_say holds (pick_guards x)) (λ l. q.guard (make m l) && z.guard l) (λ l d. ap (λ b. b && z.guard l) (s.guard l d ∙ guards (make m l))) (Picked q z) refl refl (λ l. refl) is,
          )

      from_pick : (Z : List ℕ) (q : Picking Label) (z : WayOf Label X) (p : Picking Label) (x : Pick A M) → Contains xs x → PicksSame holds make D c m x p → ((l : Label) → q.guard l ≡ true → p.guard l ≡ true) → ((j : ℕ) → AreAmong (p.wants j) (q.wants j)) → Contains (G q.wants) z
          → NeverHolds holds make D terms (Picked q z) ⊎ ((y : Draft A M) × Contains ys y × SaysLess holds make D terms y (Picked q z))
      from_pick Z q z p x in_xs s follows fewer in_ways =
          let known : (l : Label) → D l → q.guard (make m l) ≡ true → all_say holds (pick_guards x) l ≡ true = λ l d h. s.guard l d ∙ follows (make m l) h in
          elim (covers.all x in_xs q.wants (λ j n at. fewer j n ((s.wants j).0 n at)) z (subst (λ F. Contains (F q.wants) z) (sym (same_ways x)) in_ways)) [
            | inl never ↦ inl (λ l d. false_and (q.guard (make m l)) (all_say holds (pick_guards x) l) (z.guard l) (known l d) (never l d))
            | inr found ↦ inr (let (y, in_ys, less) = found in (
              y,
              in_ys,
              record {
                guard = λ l d h. less.guard l d (true_and_if (q.guard (make m l)) (all_say holds (pick_guards x) l) (z.guard l) (known l d) h);
                asks = less.asks;
                freer_terms = less.freer_terms;
              },
            ))
          ]

      every_way : (Z : List ℕ) → AreAmong all Z → (z : WayOf Label X) → Contains (AllPicked Z) z → NeverHolds holds make D terms z ⊎ ((y : Draft A M) × Contains ys y × SaysLess holds make D terms y z)
      every_way Z among z' at =
          let (q, in_z, row) = of_flat (λ q. map (Picked q) (G q.wants)) (picks_of looks c Z) z' at in
          let (z, in_ways, is) = of_mapped (Picked q) (G q.wants) z' row in
          let (p, in_picks, follows, fewer) = pick_less looks c all Z among q in_z in
          subst (λ z. NeverHolds holds make D terms z ⊎ ((y : Draft A M) × Contains ys y × SaysLess holds make D terms y z)) is
          (elim (picks.every p in_picks) [
            | inl never ↦ inl (λ l d. and_false (q.guard (make m l)) (z.guard l) (inl (false_if (q.guard (make m l)) (p.guard (make m l)) (follows (make m l)) (never l d))))
            | inr found ↦ (let (x, in_xs, s) = found in from_pick Z q z p x in_xs s follows fewer in_ways)
          ])

      -- the picks of demanded states alone
      pub picks_cover : Covers holds make D terms (SameStates all) (AreAmong all) (λ Z. AllPicked (once Z)) ys
      picks_cover = once_covered holds make D terms all AllPicked ys (record { each = each_pick; all = every_way })

    module _ (rules : List (PlainOut (PlainRule A) M)) (more : List (Pick A M)) (applied : AreApplied holds make D c m rules xs more) (ways : Option (Term Head M) → (ℕ → List ℕ) → List (WayOf Label X)) (covers : CoversPicks holds make D terms ways more ys) where
      abbrev Guard : PlainOut (PlainRule A) M → Label → Bool
      Guard r l = formula_holds (λ a. holds a l) r.rule.guard

      abbrev Fires : PlainOut (PlainRule A) M → Label → Bool
      Fires r l = fires (rule_meaning holds r.rule) c (make m l)

      abbrev Wants : Picking Label → PlainOut (PlainRule A) M → ℕ → List ℕ
      Wants q r j = q.wants j ++ get_or r.rule.demands j []

      abbrev Run : Picking Label → PlainOut (PlainRule A) M → WayOf Label X → WayOf Label X
      Run q r z = guarded (λ l. q.guard (make m l)) (guarded (Fires r) z)

      abbrev Rows : Picking Label → PlainOut (PlainRule A) M → List (WayOf Label X)
      Rows q r = map (guarded (Fires r)) (ways (Some r.term) (Wants q r))

      abbrev AllRun : List ℕ → List (WayOf Label X)
      AllRun Z = flat_map (λ q. map (guarded (λ l. q.guard (make m l))) (flat_map (Rows q) rules)) (picks_of looks c Z)

      run_in : (Z : List ℕ) (q : Picking Label) (r : PlainOut (PlainRule A) M) (z : WayOf Label X) → Contains (picks_of looks c Z) q → Contains rules r → Contains (ways (Some r.term) (Wants q r)) z → Contains (AllRun Z) (Run q r z)
      run_in Z q r z in_z in_rules in_ways =
          to_flat (λ q. map (guarded (λ l. q.guard (make m l))) (flat_map (Rows q) rules)) (picks_of looks c Z) q (Run q r z) in_z
          (to_mapped (guarded (λ l. q.guard (make m l))) (flat_map (Rows q) rules) (guarded (Fires r) z)
          (to_flat (Rows q) rules r (guarded (Fires r) z) in_rules (to_mapped (guarded (Fires r)) (ways (Some r.term) (Wants q r)) z in_ways)))

      fires_is : (r : PlainOut (PlainRule A) M) (l : Label) → r.rule.constructor ≡ c → Fires r l ≡ Guard r (make m l)
      fires_is r l e = ap (λ b. b && Guard r (make m l)) (number_same r.rule.constructor c e)

      each_run : (Z : List ℕ) → SameStates all Z → (y : Draft A M) → Contains ys y → (z : WayOf Label X) × Contains (AllRun Z) z × SaysSame holds make D terms y z
      each_run Z same y at =
          let (x', in_more, says) = covers.each y at in
          let (x, in_xs, r, in_rules, is) = applied.each x' in_more in
          let (p, in_picks, s) = picks.each x in_xs in
          let (q, in_z, guards, wants) = pick_same looks c all Z asc same p in_picks in
          let wanted : (j : ℕ) → SameStates (wants_of x' j) (Wants q r j) = λ j.
          same_twice (wants_of x' j) (wants_of x j ++ get_or r.rule.demands j []) (Wants q r j) (is.wants j) (same_more (wants_of x j) (q.wants j) (get_or r.rule.demands j []) (same_twice (wants_of x j) (p.wants j) (q.wants j) (s.wants j) (wants j))) in
          let (z, in_ways, ok) = says (Wants q r) wanted in
          let in_t : Contains (ways (Some r.term) (Wants q r)) z = subst (λ t. Contains (ways t (Wants q r)) z) is.same_term in_ways in
          let guard : (l : Label) → D l → (all_say holds (pick_guards x') l && z.guard l) ≡ (q.guard (make m l) && (Fires r l && z.guard l)) = λ l d.
          ap (λ b. b && z.guard l) (is.guard l d) ∙ and_assoc (all_say holds (pick_guards x) l) (Guard r (make m l)) (z.guard l) ∙ ap₂ (λ a b. a && (b && z.guard l)) (s.guard l d ∙ guards (make m l)) (sym (fires_is r l is.same_constructor)) in
          (Run q r z, run_in Z q r z in_z in_rules in_t, reguard_same y z (all_say holds (pick_guards x')) (λ l. q.guard (make m l) && (Fires r l && z.guard l)) guard (Run q r z) refl refl (λ l. refl) ok)

      from_run : (q : Picking Label) (r : PlainOut (PlainRule A) M) (z : WayOf Label X) (p : Picking Label) (x : Pick A M) → Contains xs x → Contains rules r → r.rule.constructor ≡ c → PicksSame holds make D c m x p → ((l : Label) → q.guard l ≡ true → p.guard l ≡ true) → ((j : ℕ) → AreAmong (p.wants j) (q.wants j)) → Contains (ways (Some r.term) (Wants q r)) z
          → NeverHolds holds make D terms (Run q r z) ⊎ ((y : Draft A M) × Contains ys y × SaysLess holds make D terms y (Run q r z))
      from_run q r z p x in_xs in_rules e s follows fewer in_ways =
          let known : (l : Label) → D l → q.guard (make m l) ≡ true → all_say holds (pick_guards x) l ≡ true = λ l d h. s.guard l d ∙ follows (make m l) h in
          let both : (l : Label) → D l → (q.guard (make m l) && Fires r l) ≡ true → (all_say holds (pick_guards x) l && Guard r (make m l)) ≡ true = λ l d h.
          let h' = and_parts (q.guard (make m l)) (Fires r l) h in and_from (all_say holds (pick_guards x) l) (Guard r (make m l)) (known l d h'.0) (sym (fires_is r l e) ∙ h'.1) in
          elim (applied.all x in_xs r in_rules e) [
            | inl never ↦ inl (λ l d. sym (and_assoc (q.guard (make m l)) (Fires r l) (z.guard l)) ∙ and_false (q.guard (make m l) && Fires r l) (z.guard l) (inl (false_if (q.guard (make m l) && Fires r l) (all_say holds (pick_guards x) l && Guard r (make m l)) (both l d) (never l d))))
            | inr found ↦ (let (x', in_more, is) = found in
                let wanted : (j : ℕ) → AreAmong (wants_of x' j) (Wants q r j) = λ j n at. among_more (wants_of x j) (q.wants j) (get_or r.rule.demands j []) (λ n at. fewer j n ((s.wants j).0 n at)) n ((is.wants j).0 n at) in
                elim (covers.all x' in_more (Wants q r) wanted z (subst (λ t. Contains (ways t (Wants q r)) z) (sym is.same_term) in_ways)) [
                  | inl never ↦ inl (λ l d. sym (and_assoc (q.guard (make m l)) (Fires r l) (z.guard l)) ∙ false_and (q.guard (make m l) && Fires r l) (all_say holds (pick_guards x') l) (z.guard l) (λ h. is.guard l d ∙ both l d h) (never l d))
                  | inr more' ↦ inr (let (y, in_ys, less) = more' in (
                    y,
                    in_ys,
                    record {
                      guard = λ l d h. less.guard l d (true_and_if (q.guard (make m l) && Fires r l) (all_say holds (pick_guards x') l) (z.guard l) (λ h. is.guard l d ∙ both l d h) (and_assoc (q.guard (make m l)) (Fires r l) (z.guard l) ∙ h));
                      asks = less.asks;
                      freer_terms = less.freer_terms;
                    },
                  ))
                ])
          ]

      by_constructor : (q : Picking Label) (r : PlainOut (PlainRule A) M) (z : WayOf Label X) (b : Bool) → (r.rule.constructor == c) ≡ b → (b ≡ true → NeverHolds holds make D terms (Run q r z) ⊎ ((y : Draft A M) × Contains ys y × SaysLess holds make D terms y (Run q r z)))
          → NeverHolds holds make D terms (Run q r z) ⊎ ((y : Draft A M) × Contains ys y × SaysLess holds make D terms y (Run q r z))
      by_constructor q r z true e f = f refl
      by_constructor q r z false e f = inl (λ l d. and_false (q.guard (make m l)) (Fires r l && z.guard l) (inr (and_false (Fires r l) (z.guard l) (inl (ap (λ b. b && Guard r (make m l)) e)))))

      every_run : (Z : List ℕ) → AreAmong all Z → (z : WayOf Label X) → Contains (AllRun Z) z → NeverHolds holds make D terms z ⊎ ((y : Draft A M) × Contains ys y × SaysLess holds make D terms y z)
      every_run Z among z'' at =
          let (q, in_z, row) = of_flat (λ q. map (guarded (λ l. q.guard (make m l))) (flat_map (Rows q) rules)) (picks_of looks c Z) z'' at in
          let (z', in_flat, is') = of_mapped (guarded (λ l. q.guard (make m l))) (flat_map (Rows q) rules) z'' row in
          let (r, in_rules, in_row) = of_flat (Rows q) rules z' in_flat in
          let (z, in_ways, is) = of_mapped (guarded (Fires r)) (ways (Some r.term) (Wants q r)) z' in_row in
          let (p, in_picks, follows, fewer) = pick_less looks c all Z among q in_z in
          subst (λ z. NeverHolds holds make D terms z ⊎ ((y : Draft A M) × Contains ys y × SaysLess holds make D terms y z)) (ap (guarded (λ l. q.guard (make m l))) is ∙ is')
          (elim (picks.every p in_picks) [
            | inl never ↦ inl (λ l d. and_false (q.guard (make m l)) (Fires r l && z.guard l) (inl (false_if (q.guard (make m l)) (p.guard (make m l)) (follows (make m l)) (never l d))))
            | inr found ↦ (let (x, in_xs, s) = found in by_constructor q r z (r.rule.constructor == c) refl (λ e. from_run q r z p x in_xs in_rules (same_number r.rule.constructor c e) s follows fewer in_ways))
          ])

      -- the picks with a rule of a state
      pub rules_cover : Covers holds make D terms (SameStates all) (AreAmong all) (λ Z. AllRun (once Z)) ys
      rules_cover = once_covered holds make D terms all AllRun ys (record { each = each_run; all = every_run })
