-- What stops the search, told by states of the lookahead and by rules that meet.
use Rattle.std.proofs.Common.{ℕ, suc, ◌≡◌, ◌<◌, inl, inr, Bool, true, IsTrue, ◌&&◌, ◌||◌, Some, List, [], ◌∷◌, map, All, length, get_or, slice_get, Contains, refl, sym, ap, ap₂, subst, ◌∙◌, arith}
use Rattle.std.specs.Cmp.{IsEquivalence}
use Rattle.std.specs.Prelude.{⊤}
use Rattle.std.specs.List.{list_any, flat_map}
use Rattle.std.proofs.lemmas.Bool.{cases_lt}
use Rattle.std.proofs.lemmas.List.{length-map, length-append}
use Rattle.std.proofs.lemmas.List.Elements.{All-head, All-tail}
use Rattle.std.proofs.lemmas.Option.{slice_get_within, get_or_from_slice_get}
use Rattle.model_tree.specs.Label.{Label}
use Rattle.model_tree.specs.Tree.{LabelTree}
use Rattle.model_tree.specs.Formula.{Formula, EveryAtom, all_of, formulas_of}
use Rattle.model_sta.specs.Automaton.{is_accepted}
use Rattle.model_sta.specs.EachTwo.{EachTwo}
use Rattle.model_sta.specs.Sets.{Fits, Each}
use Rattle.model_sta.specs.Told.{AreTold, HasMoreApart}
use Rattle.model_sta.proofs.Told.{more_told}
use Rattle.model_sttr.specs.Plain.{PlainOut}
use Rattle.label_core.specs.Atoms.{has_equal, EachHasEqual}
use Rattle.label_core.specs.Meaning.{Meaning}
use Rattle.label_core.proofs.Chains.{chain_grows}
use Rattle.label_split.proofs.SameAtoms.{all_atoms}
use Rattle.sta_core.specs.Machine.{Machine, PlainRule, plain_rule}
use Rattle.sta_core.specs.Sta.{automaton_of, rule_meaning}
use Rattle.sta_classes.specs.Guards.{all_guards, atoms_of_all, truths}
use Rattle.sta_classes.specs.Meant.{HasMoreClasses, StopsClasses}
use Rattle.sta_classes.specs.Stop.{ClassStopsFor}
use Rattle.sta_classes.specs.declared.stop.ClassStop.{ClassStop}
use Rattle.sta_classes.specs.declared.stop.ClassStop.TheVariants.{Classes, Wide, Memory}
use Rattle.sta_classes.proofs.Atoms.{of_each_formula, guards_among}
use Rattle.sta_classes.proofs.Covered.{Same, same_truths, truths_same}
use Rattle.sttr_core.specs.Machine.{OutMachine}
use Rattle.sta_ops.proofs.Atoms.{each_in, in_each, guard_of}
use Rattle.sta_ops.proofs.EachRule.{only}
use Rattle.sta_theory.proofs.Lists.{none_in, first_in, later_in, append_member, map_member, in_map, in_left, in_right, in_flat}
use Rattle.sta_classes.proofs.Rows.{same_bit}
use Rattle.sttr_single.specs.declared.joints.Joint.{Joint}
use Rattle.sttr_single.specs.Overlap.{AreToldByMeeting, guards_of, StopsOverlap}
use Rattle.sttr_single.specs.Joints.{both_hold, rules_in, DemandsOwn, with_one, joint_applies, AreJoints}
use Rattle.sttr_single.proofs.Applying.{joint_applies_as}
use Rattle.sttr_single.proofs.Answered.{accepted}
use Rattle.sttr_single.proofs.More.{accepts_as, state_in}

-- what is so of each two that are apart
apart_more : {X : Type 0} (T : X → Type 0) (P Q : X → X → Type 0) → ((x y : X) → T x → T y → P x y → Q x y) → (xs : List X) → All T xs → EachTwo P xs → EachTwo Q xs
apart_more T P Q f [] typed h = tt
apart_more T P Q f (x ∷ xs) typed h =
    let others = All-tail T x xs typed in ((λ k d low. f x (get_or xs k d) (All-head T x xs typed) (others k d low) (h.0 k d low)), apart_more T P Q f xs others h.1)

-- where one of two lists of tests has a hit and the other hasn't, some test differs
differing : {X : Type 0} (p q : X → Bool) (xs : List X) → ¬ (list_any p xs ≡ list_any q xs) → (x : X) × Contains xs x × ¬ (p x ≡ q x)
differing p q [] other = absurd (other refl)
differing p q (x ∷ xs) other = elim (same_bit (p x) (q x)) [
  | inl same ↦ (let (y, at, differs) = differing p q xs (λ e. other (ap₂ (λ a b. a || b) same e)) in (y, later_in x y xs at, differs))
  | inr differs ↦ (x, first_in x xs, differs)
]

pub slice_in : {X : Type 0} (xs : List X) (i : ℕ) (x : X) → slice_get xs i ≡ Some x → Contains xs x
slice_in xs i x e = (i, slice_get_within xs i x e, get_or_from_slice_get xs i x x e)

module _ {A M V W : Type 0} {label_of : V → Label} {holds : A → Label → Bool} (N : Meaning label_of holds W) (eq : A → A → Bool) (is_own : N.equal ≡ eq) (laws : IsEquivalence eq) (map_eq : M → M → Bool) (f : OutMachine A M)
    (own : DemandsOwn f.looks) (xs : List (Joint A)) (are : AreJoints holds map_eq N.has f (λ q i j. ⊤) xs)
    (sta : Machine A) (state : ℕ) (sta_is : sta ≡ with_one f.looks xs) (state_is : state ≡ length f.looks.rules) (most : ℕ) where
  abbrev Told : LabelTree → LabelTree → Type 0
  Told = AreToldByMeeting holds map_eq f

  abbrev Many : Type 0
  Many = HasMoreApart (Fits f.looks.ranks N.keeps) Told most

  -- trees that a joint tells apart
  by_joint : (t u : LabelTree) → Fits f.looks.ranks N.keeps t → Fits f.looks.ranks N.keeps u → (x : Joint A) → Contains xs x → ¬ (joint_applies holds f.looks t x ≡ joint_applies holds f.looks u x) → Told t u
  by_joint t u fits fits' x at other =
      let is = are.sound x at in
      inr (
        x.place.state,
        x.place.first,
        x.place.second,
        is.first,
        is.second,
        is.unlike,
        λ e. other (
            joint_applies_as holds f.looks is.first.rule is.second.rule N.keeps (plain_rule x.rule) is.joint t fits
            ∙ e ∙ sym (joint_applies_as holds f.looks is.first.rule is.second.rule N.keeps (plain_rule x.rule) is.joint u fits')),
      )

  long : length (automaton_of holds sta) ≡ suc (length f.looks.rules)
  long = length-map sta.rules (map (rule_meaning holds)) ∙ ap (λ m. length m.rules) sta_is ∙ omega (arith, length-append f.looks.rules (rules_in xs ∷ []))

  -- trees that a state tells apart
  by_state : (t u : LabelTree) → Fits f.looks.ranks N.keeps t → Fits f.looks.ranks N.keeps u → AreTold (automaton_of holds sta) t u → Told t u
  by_state t u fits fits' (q, low, other) = elim (cases_lt q (length f.looks.rules)) [
    | inl below ↦ inl (q, omega (arith, below, length-map f.looks.rules (map (rule_meaning holds))), λ e. other (accepts_below q below t ∙ e ∙ sym (accepts_below q below u)))
    | inr past ↦ (
        let last : q ≡ state = omega (arith, low, past, long, state_is) in
        let (x, at, differs) = differing (joint_applies holds f.looks t) (joint_applies holds f.looks u) xs (λ e. other (
        ap (is_accepted (automaton_of holds sta) t) last ∙ accepted N map_eq f own xs are sta state sta_is state_is most t
        ∙ e ∙ sym (ap (is_accepted (automaton_of holds sta) u) last ∙ accepted N map_eq f own xs are sta state sta_is state_is most u))) in
        by_joint t u fits fits' x at differs)
  ]
    where
      accepts_below : (q : ℕ) → q < length f.looks.rules → (t : LabelTree) → is_accepted (automaton_of holds sta) t q ≡ is_accepted (automaton_of holds f.looks) t q
      accepts_below q below t = ap (λ m. is_accepted (automaton_of holds m) t q) sta_is ∙ accepts_as holds f.looks own (rules_in xs ∷ []) t q below

  many : HasMoreClasses N sta most → Many
  many h =
      let told = more_told sta.ranks N.keeps (automaton_of holds sta) most h in
      let typed : All (Fits f.looks.ranks N.keeps) told.trees = subst (λ ranks. All (Fits ranks N.keeps) told.trees) (ap (λ m. m.ranks) sta_is) told.typed in
      record {
        trees = told.trees;
        typed = typed;
        apart = apart_more (Fits f.looks.ranks N.keeps) (AreTold (automaton_of holds sta)) Told by_state told.trees typed told.apart;
        more = told.more;
      }

  -- what is so of two guards and then of both together is so of each guard of the automaton
  guards_follow : (P : Formula A → Type 0) → ((g h : Formula A) → P g → P h → P (both_hold g h)) → Each P (guards_of f) → Each P (all_guards (with_one f.looks xs).rules)
  guards_follow P closed each =
      let all : (g : Formula A) → Contains (guards_of f) g → P g = each_in P (guards_of f) each in
      let firsts : List (Formula A) = all_guards f.looks.rules in
      let seconds : List (Formula A) = flat_map (λ rules. map (λ r. r.rule.guard) rules) f.rules in
      in_each P (all_guards (with_one f.looks xs).rules) (guard_of P (with_one f.looks xs).rules (λ rs at p here. elim (append_member f.looks.rules (rules_in xs ∷ []) rs at) [
        | inl known ↦ all p.guard (in_left firsts seconds p.guard (guard_in f.looks.rules rs p known here))
        | inr last ↦ (
            let (x, at_x, is) = map_member (λ x. plain_rule x.rule) xs p (subst (λ l. Contains l p) (sym (only (rules_in xs) rs last)) here) in
            let of = are.sound x at_x in
            subst (λ z. P z.guard) is (subst P (sym of.joint.guard_is) (closed of.first.rule.guard of.second.rule.guard
            (all of.first.rule.guard (in_right firsts seconds of.first.rule.guard (of_rule x.place.state x.place.first of.first of.unlike.first)))
            (all of.second.rule.guard (in_right firsts seconds of.second.rule.guard (of_rule x.place.state x.place.second of.second of.unlike.second))))))
      ]))
    where
      guard_in : (rules : List (List (PlainRule A))) (rs : List (PlainRule A)) (r : PlainRule A) → Contains rules rs → Contains rs r → Contains (all_guards rules) r.guard
      guard_in [] rs r at here = absurd (none_in rs at)
      guard_in (qs ∷ rules) rs r at here = elim (append_member (qs ∷ []) rules rs at) [
        | inl first ↦ in_left (map (λ r. r.guard) qs) (all_guards rules) r.guard (in_map (λ r. r.guard) qs r (subst (λ z. Contains z r) (sym (only qs rs first)) here))
        | inr later ↦ in_right (map (λ r. r.guard) qs) (all_guards rules) r.guard (guard_in rules rs r later here)
      ]

      of_rule : (q i : ℕ) (r : PlainOut (PlainRule A) M) → slice_get (get_or f.rules q []) i ≡ Some r → Contains (flat_map (λ rules. map (λ r. r.rule.guard) rules) f.rules) r.rule.guard
      of_rule q i r e =
          let there = slice_in (get_or f.rules q []) i r e in
          in_flat (λ rules. map (λ r. r.rule.guard) rules) f.rules (get_or f.rules q []) r.rule.guard (state_in f.rules q r there) (in_map (λ r. r.rule.guard) (get_or f.rules q []) r there)

  abbrev IsAmong : A → Type 0
  IsAmong a = IsTrue (has_equal eq (atoms_of_all (guards_of f)) a)

  atoms_within : EachHasEqual eq (atoms_of_all (all_guards (with_one f.looks xs).rules)) (atoms_of_all (guards_of f))
  atoms_within =
      all_atoms IsAmong (all_of (formulas_of (all_guards (with_one f.looks xs).rules)))
      (of_each_formula IsAmong (all_guards (with_one f.looks xs).rules) (guards_follow (EveryAtom IsAmong) (λ g h p q. (p, (q, tt))) (guards_among eq laws (guards_of f))))

  truths_within : (l m : Label) → truths holds (guards_of f) l ≡ truths holds (guards_of f) m → truths holds (all_guards (with_one f.looks xs).rules) l ≡ truths holds (all_guards (with_one f.looks xs).rules) m
  truths_within l m e = truths_same holds l m (all_guards (with_one f.looks xs).rules) (guards_follow (Same holds l m) (λ g h p q. ap₂ (λ x y. x && (y && true)) p q) (same_truths holds l m (guards_of f) e))

  stops_at : (e : ClassStop W) → ClassStopsFor N (HasMoreClasses N sta most) (all_guards (with_one f.looks xs).rules) e → StopsOverlap map_eq N f most e
  stops_at Classes h = many h
  stops_at (Wide w) h = (
    (chain_grows N eq is_own laws (atoms_of_all (all_guards (with_one f.looks xs).rules)) (atoms_of_all (guards_of f)) w atoms_within h.0.0, h.0.1),
    (λ far. (let (l, here, none) = h.1 far in (l, here, λ m kept alike. none m kept (truths_within m l alike)))),
  )
  stops_at Memory h = h

  pub stops_overlap : (e : ClassStop W) → StopsClasses N sta most e → StopsOverlap map_eq N f most e
  stops_overlap e h = stops_at e (subst (λ rules. ClassStopsFor N (HasMoreClasses N sta most) (all_guards rules) e) (ap (λ m. m.rules) sta_is) h)
