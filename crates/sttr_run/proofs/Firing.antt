-- Rules that are picked one after the other.
use Rattle.std.proofs.Common.{ℕ, ◌≡◌, ◌==◌, ◌⊎◌, inl, inr, Bool, true, false, ◌&&◌, List, [], ◌∷◌, ◌++◌, map, get_or, All, Contains, Option, Some, None, refl, sym, subst, ap, ◌∙◌, append-nil, arith}
use Rattle.std.specs.List.{flat_map}
use Rattle.std.proofs.lemmas.List.{append_assoc}
use Rattle.model_tree.specs.Label.{Label}
use Rattle.model_tree.specs.Formula.{Formula, formula_holds}
use Rattle.model_sta.specs.Automaton.{Rule, rules_of}
use Rattle.label_core.specs.Formula.{plain_formula}
use Rattle.model_sttr.specs.Plain.{PlainOut}
use Rattle.model_sttr.specs.Terms.{Term}
use Rattle.model_sttr.specs.Transducer.{Head}
use Rattle.sta_core.specs.Machine.{PlainRule}
use Rattle.sta_core.specs.Sta.{rule_meaning}
use Rattle.sttr_core.specs.Machine.{OutMachine}
use Rattle.sttr_theory.specs.Lists.{SameStates}
use Rattle.sttr_theory.specs.Ways.{Pick as Picking, pick, picks_of, fires}
use Rattle.sttr_theory.proofs.Accept.{same_number, number_same}
use Rattle.sttr_theory.proofs.Members.{in_single, in_either, in_left, in_right, to_mapped, of_mapped, to_flat, of_flat}
use Rattle.sttr_run.specs.Drafts.{all_say}
use Rattle.sttr_run.specs.Found.{GuardStands, FiredStands, PickStands, IsTermOf}
use Rattle.sttr_run.specs.Picks.{wanted_in, fired_demands, fired_term, pick_guards, pick_demands, wants_of, IsWith, AreWithEach, AreHolding, IsFired, AreFired, PicksSame, ArePicks, NeverPicked, IsApplied, AreApplied}
use Rattle.sttr_run.specs.Runs.{OnTerm}
use Rattle.sttr_run.specs.declared.picks.Fired.{Fired}
use Rattle.sttr_run.specs.declared.picks.Pick.{Pick}
use Rattle.sttr_run.proofs.Covering.{all_say_both, and_false}
use Rattle.sttr_run.proofs.Members.{nil_out, push_out, push_old, push_new, all_at, all_of}
use Rattle.sttr_theory.proofs.Once.{same_twice}

and_comm : (a b : Bool) → (a && b) ≡ (b && a)
and_comm true true = refl
and_comm true false = refl
and_comm false true = refl
and_comm false false = refl

and_yes : (a : Bool) → (a && true) ≡ a
and_yes true = refl
and_yes false = refl

pub wanted_more : (ds : List (List (List ℕ))) (d : List (List ℕ)) (j : ℕ) → wanted_in (ds ++ d ∷ []) j ≡ wanted_in ds j ++ get_or d j []
wanted_more [] d j = append-nil (get_or d j [])
wanted_more (e ∷ ds) d j = ap (λ xs. get_or e j [] ++ xs) (wanted_more ds d j) ∙ sym (append_assoc (get_or e j []) (wanted_in ds j) (get_or d j []))

swapped : (Z W : List ℕ) → SameStates (Z ++ W) (W ++ Z)
swapped Z W = (
  (λ s at. elim (in_either Z W s at) [ inl a ↦ in_right W Z s a | inr b ↦ in_left W Z s b ]),
  λ s at. elim (in_either W Z s at) [ inl a ↦ in_right Z W s a | inr b ↦ in_left Z W s b ],
)

module _ {A M : Type 0} (holds : A → Label → Bool) (make : M → Label → Label) (D : Label → Type 0) (c : ℕ) (m : M) where
  module _ {R : Type 0} (rule : R → PlainRule A) (term : R → Option (Term Head M)) where
    pub fired_none : AreFired holds make D c m rule term [] []
    fired_none = record { each = λ f at. absurd (nil_out f at); all = λ r at e. absurd (nil_out r at) }

    -- a rule of another constructor
    pub fired_skip : (rs : List R) (fs : List (Fired A M)) (r : R) → ¬ ((rule r).constructor ≡ c) → AreFired holds make D c m rule term rs fs → AreFired holds make D c m rule term (rs ++ r ∷ []) fs
    fired_skip rs fs r other a = record {
      each = λ f at. let (q, in_rs, is, t) = a.each f at in (q, push_old rs r q in_rs, is, t);
      all = λ q at e. elim (push_out rs r q at) [ inl b ↦ a.all q b e | inr same ↦ absurd (other (ap (λ x. (rule x).constructor) same ∙ e)) ];
    }

    pub fired_more : (rs : List R) (fs : List (Fired A M)) (r : R) (f : Fired A M) → IsFired holds make D c m (rule r) f → fired_term f ≡ term r → AreFired holds make D c m rule term rs fs → AreFired holds make D c m rule term (rs ++ r ∷ []) (fs ++ f ∷ [])
    fired_more rs fs r f is t a = record {
      each = λ g at. elim (push_out fs f g at) [
        | inl b ↦ (let (q, in_rs, is', t') = a.each g b in (q, push_old rs r q in_rs, is', t'))
        | inr same ↦ subst (λ g. (q : R) × Contains (rs ++ r ∷ []) q × IsFired holds make D c m (rule q) g × (fired_term g ≡ term q)) same (r, push_new rs r, is, t)
      ];
      all = λ q at e. elim (push_out rs r q at) [
        | inl b ↦ (let (g, in_fs, is', t') = a.all q b e in (g, push_old fs f g in_fs, is', t'))
        | inr same ↦ subst (λ q. (g : Fired A M) × Contains (fs ++ f ∷ []) g × IsFired holds make D c m (rule q) g × (fired_term g ≡ term q)) same (f, push_new fs f, is, t)
      ];
    }

  -- a pick with one more rule
  with_guard : (x y : Pick A M) (f : Fired A M) (r : PlainRule A) (l : Label) → D l → IsWith x f y → IsFired holds make D c m r f → all_say holds (pick_guards y) l ≡ (all_say holds (pick_guards x) l && formula_holds (λ a. holds a (make m l)) r.guard)
  with_guard x y f r l d w is =
      ap (λ gs. all_say holds gs l) w.guards ∙ all_say_both holds (pick_guards x) (plain_formula f.guard ∷ []) l ∙ ap (λ b. all_say holds (pick_guards x) l && b) (and_yes (formula_holds (λ a. holds a l) (plain_formula f.guard)) ∙ is.same_guard l d)

  with_wants : (x y : Pick A M) (f : Fired A M) (r : PlainRule A) (j : ℕ) → IsWith x f y → IsFired holds make D c m r f → wants_of y j ≡ wants_of x j ++ get_or r.demands j []
  with_wants x y f r j w is = ap (λ ds. wanted_in ds j) w.demands ∙ wanted_more (pick_demands x) (fired_demands f) j ∙ ap (λ d. wants_of x j ++ get_or d j []) is.same_demands

  to_same : (Z W : List ℕ) → Z ≡ W → SameStates Z W
  to_same Z W e = subst (SameStates Z) e ((λ s a. a), λ s a. a)

  sides : (Z W V : List ℕ) → SameStates Z W → SameStates (V ++ Z) (V ++ W)
  sides Z W V a = (
    (λ s at. elim (in_either V Z s at) [ inl b ↦ in_left V W s b | inr b ↦ in_right V W s (a.0 s b) ]),
    λ s at. elim (in_either V W s at) [ inl b ↦ in_left V Z s b | inr b ↦ in_right V Z s (a.1 s b) ],
  )

  module _ (looks : List (List (Rule Label))) where
    pub picks_none : (x : Pick A M) → pick_guards x ≡ [] → pick_demands x ≡ [] → ArePicks holds make D c m looks [] (x ∷ [])
    picks_none x gs ds =
        let empty : Picking Label = record { guard = λ l. true; wants = λ j. [] } in
        let says : PicksSame holds make D c m x empty = record { guard = λ l d. ap (λ gs. all_say holds gs l) gs; wants = λ j. to_same (wants_of x j) [] (ap (λ ds. wanted_in ds j) ds) } in
        record {
          each = λ y at. subst (λ y. (p : Picking Label) × Contains (picks_of looks c []) p × PicksSame holds make D c m y p) (in_single x y at) (empty, (0, omega arith, refl), says);
          every = λ p at. subst (λ p. NeverPicked holds make D c m p ⊎ ((y : Pick A M) × Contains (x ∷ []) y × PicksSame holds make D c m y p)) (in_single empty p at) (inr (x, (0, omega arith, refl), says));
        }

    -- a state without rules
    pub picks_stop : (s : ℕ) (all : List ℕ) → rules_of looks s ≡ [] → ArePicks holds make D c m looks (s ∷ all) []
    picks_stop s all e = record {
      each = λ x at. absurd (nil_out x at);
      every = λ p at. absurd (nil_out p (subst (λ rs. Contains (flat_map (λ r. map (pick c r) (picks_of looks c all)) rs) p) e at));
    }

    module _ (rs : List (PlainRule A)) (s : ℕ) (rules_are : rules_of looks s ≡ map (rule_meaning holds) rs) (all : List ℕ) (xs ys : List (Pick A M)) (fs : List (Fired A M)) (fired : AreFired holds make D c m (λ r. r) (λ r. None) rs fs) (each_with : AreWithEach xs fs ys) (picks : ArePicks holds make D c m looks all xs) where
      abbrev Row : Rule Label → List (Picking Label)
      Row r = map (pick c r) (picks_of looks c all)

      one_pick : (x y : Pick A M) (f : Fired A M) (r : PlainRule A) (p : Picking Label) → IsWith x f y → IsFired holds make D c m r f → PicksSame holds make D c m x p → PicksSame holds make D c m y (pick c (rule_meaning holds r) p)
      one_pick x y f r p w is says = record {
        guard = λ l d.
            with_guard x y f r l d w is ∙ ap (λ b. b && formula_holds (λ a. holds a (make m l)) r.guard) (says.guard l d) ∙ and_comm (p.guard (make m l)) (formula_holds (λ a. holds a (make m l)) r.guard)
            ∙ ap (λ b. (b && formula_holds (λ a. holds a (make m l)) r.guard) && p.guard (make m l)) (sym (number_same r.constructor c is.same_constructor));
        wants = λ j.
            same_twice (wants_of y j) (get_or r.demands j [] ++ wants_of x j) (get_or r.demands j [] ++ p.wants j)
            (same_twice (wants_of y j) (wants_of x j ++ get_or r.demands j []) (get_or r.demands j [] ++ wants_of x j) (to_same (wants_of y j) (wants_of x j ++ get_or r.demands j []) (with_wants x y f r j w is)) (swapped (wants_of x j) (get_or r.demands j [])))
            (sides (wants_of x j) (p.wants j) (get_or r.demands j []) (says.wants j));
      }

      never_pick : (r : PlainRule A) (p : Picking Label) → (r.constructor == c) ≡ false → NeverPicked holds make D c m (pick c (rule_meaning holds r) p)
      never_pick r p e l d = ap (λ b. (b && formula_holds (λ a. holds a (make m l)) r.guard) && p.guard (make m l)) e

      by_constructor : (r : PlainRule A) (p : Picking Label) (b : Bool) → (r.constructor == c) ≡ b → (b ≡ true → NeverPicked holds make D c m (pick c (rule_meaning holds r) p) ⊎ ((y : Pick A M) × Contains ys y × PicksSame holds make D c m y (pick c (rule_meaning holds r) p)))
          → NeverPicked holds make D c m (pick c (rule_meaning holds r) p) ⊎ ((y : Pick A M) × Contains ys y × PicksSame holds make D c m y (pick c (rule_meaning holds r) p))
      by_constructor r p true e f = f refl
      by_constructor r p false e f = inl (never_pick r p e)

      with_rule : (r : PlainRule A) (p : Picking Label) → Contains rs r → r.constructor ≡ c → NeverPicked holds make D c m p ⊎ ((x : Pick A M) × Contains xs x × PicksSame holds make D c m x p)
          → NeverPicked holds make D c m (pick c (rule_meaning holds r) p) ⊎ ((y : Pick A M) × Contains ys y × PicksSame holds make D c m y (pick c (rule_meaning holds r) p))
      with_rule r p in_rs e (inl never) = inl (λ l d. and_false (fires (rule_meaning holds r) c (make m l)) (p.guard (make m l)) (inr (never l d)))
      with_rule r p in_rs e (inr found) =
          let (x, in_xs, says) = found in
          let (f, in_fs, is, t) = fired.all r in_rs e in
          let (y, in_ys, w) = each_with.all f in_fs x in_xs in
          inr (y, in_ys, one_pick x y f r p w is says)

      every_more : (q : Picking Label) → Contains (picks_of looks c (s ∷ all)) q → NeverPicked holds make D c m q ⊎ ((y : Pick A M) × Contains ys y × PicksSame holds make D c m y q)
      every_more q at =
          let (r', in_rules, row) = of_flat Row (rules_of looks s) q at in
          let (p, in_picks, is) = of_mapped (pick c r') (picks_of looks c all) q row in
          let (r, in_rs, e) = of_mapped (rule_meaning holds) rs r' (subst (λ ps. Contains ps r') rules_are in_rules) in
          subst (λ q. NeverPicked holds make D c m q ⊎ ((y : Pick A M) × Contains ys y × PicksSame holds make D c m y q)) (ap (λ r. pick c r p) e ∙ is)
          (by_constructor r p (r.constructor == c) refl (λ t. with_rule r p in_rs (same_number r.constructor c t) (picks.every p in_picks)))

      -- each of the picks with a rule of one more state
      pub picks_with : ArePicks holds make D c m looks (s ∷ all) ys
      picks_with = record {
        each = λ y at.
            let (f, in_fs, x, in_xs, w) = each_with.each y at in
            let (r, in_rs, is, t) = fired.each f in_fs in
            let (p, in_picks, says) = picks.each x in_xs in (
              pick c (rule_meaning holds r) p,
              to_flat Row (rules_of looks s) (rule_meaning holds r) (pick c (rule_meaning holds r) p) (subst (λ ps. Contains ps (rule_meaning holds r)) (sym rules_are) (to_mapped (rule_meaning holds) rs r in_rs)) (to_mapped (pick c (rule_meaning holds r)) (picks_of looks c all) p in_picks),
              one_pick x y f r p w is says,
            );
        every = every_more;
      }

    -- those that may hold are enough
    pub picks_holding : (all : List ℕ) (xs kept : List (Pick A M)) → AreHolding holds make D xs kept → ArePicks holds make D c m looks all xs → ArePicks holds make D c m looks all kept
    picks_holding all xs kept h picks = record {
      each = λ x at. picks.each x (h.each x at);
      every = λ p at. elim (picks.every p at) [
        | inl never ↦ inl never
        | inr found ↦ (let (x, in_xs, says) = found in elim (h.all x in_xs) [ inl never ↦ inl (λ l d. sym (says.guard l d) ∙ never l d) | inr k ↦ inr (x, k, says) ])
      ];
    }

  -- a state of the second
  pub applied_with : (rs : List (PlainOut (PlainRule A) M)) (xs ys kept : List (Pick A M)) (fs : List (Fired A M)) → AreFired holds make D c m (λ r. r.rule) (λ r. Some r.term) rs fs → AreWithEach xs fs ys → AreHolding holds make D ys kept → AreApplied holds make D c m rs xs kept
  applied_with rs xs ys kept fs fired each_with h = record {
    each = λ y at.
        let (f, in_fs, x, in_xs, w) = each_with.each y (h.each y at) in
        let (r, in_rs, is, t) = fired.each f in_fs in
        (x, in_xs, r, in_rs, one x y f r w is t);
    all = λ x in_xs r in_rs e.
        let (f, in_fs, is, t) = fired.all r in_rs e in
        let (y, in_ys, w) = each_with.all f in_fs x in_xs in
        elim (h.all y in_ys) [ inl never ↦ inl (λ l d. sym (with_guard x y f r.rule l d w is) ∙ never l d) | inr k ↦ inr (y, k, one x y f r w is t) ];
  }
    where
      one : (x y : Pick A M) (f : Fired A M) (r : PlainOut (PlainRule A) M) → IsWith x f y → IsFired holds make D c m r.rule f → fired_term f ≡ Some r.term → IsApplied holds make D c m x r y
      one x y f r w is t = record {
        same_constructor = is.same_constructor;
        guard = λ l d. with_guard x y f r.rule l d w is;
        wants = λ j. to_same (wants_of y j) (wants_of x j ++ get_or r.rule.demands j []) (with_wants x y f r.rule j w is);
        same_term = w.same_term ∙ t;
      }

  pub applied_none : (rs : List (PlainOut (PlainRule A) M)) (xs : List (Pick A M)) → rs ≡ [] → AreApplied holds make D c m rs xs []
  applied_none rs xs e = record { each = λ y at. absurd (nil_out y at); all = λ x at r in_rs e'. absurd (nil_out r (subst (λ zs. Contains zs r) e in_rs)) }

module _ {T A M : Type 0} (map_eq : M → M → Bool) (is_put : M → A → A → Type 0) (is_chained : M → M → M → Type 0) (fits : A → Type 0) (map_fits : M → Type 0) (map_makes : T → M → Type 0) (second : OutMachine A M) (top : Term Head M) (k : Option Head) where
  with_stands : (x y : Pick A M) (f : Fired A M) → IsWith x f y → PickStands map_eq is_put is_chained fits map_fits map_makes second top k x → FiredStands map_eq is_put is_chained fits map_fits map_makes second top k f → PickStands map_eq is_put is_chained fits map_fits map_makes second top k y
  with_stands x y f w s t = record {
    guards = subst (All Stands) (sym w.guards) (all_of Stands (pick_guards x ++ plain_formula f.guard ∷ []) (λ g at. elim (push_out (pick_guards x) (plain_formula f.guard) g at) [ inl b ↦ all_at Stands (pick_guards x) g s.guards b | inr e ↦ subst Stands e t.guard ]));
    term = subst (OnTerm (IsTermOf second)) (sym w.same_term) t.term;
  }
    where
      Stands : Formula A → Type 0
      Stands = GuardStands map_eq is_put is_chained fits map_fits map_makes second top k

  pub each_stands : (xs ys : List (Pick A M)) (fs : List (Fired A M)) → AreWithEach xs fs ys → All (PickStands map_eq is_put is_chained fits map_fits map_makes second top k) xs → All (FiredStands map_eq is_put is_chained fits map_fits map_makes second top k) fs → All (PickStands map_eq is_put is_chained fits map_fits map_makes second top k) ys
  each_stands xs ys fs w s t =
      all_of (PickStands map_eq is_put is_chained fits map_fits map_makes second top k) ys
      (λ y at. let (f, in_fs, x, in_xs, is) = w.each y at in with_stands x y f is (all_at (PickStands map_eq is_put is_chained fits map_fits map_makes second top k) xs x s in_xs) (all_at (FiredStands map_eq is_put is_chained fits map_fits map_makes second top k) fs f t in_fs))
