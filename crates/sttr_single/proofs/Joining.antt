-- Joints that are put behind others.
use Rattle.std.proofs.Common.{ℕ, ◌≡◌, ◌+◌, ◌<◌, ◌⊎◌, inl, inr, Bool, true, Some, List, [], ◌∷◌, ◌++◌, map, length, get_or, slice_get, Contains, refl, sym, ap, subst, ◌∙◌, arith, append_assoc}
use Rattle.std.proofs.lemmas.List.{get_or_past}
use Rattle.std.proofs.lemmas.Bool.{cases_lt}
use Rattle.std.specs.Option.{option_map}
use Rattle.std.proofs.lemmas.Option.{slice_get_within, slice_get_read, slice_get-map, get_or_from_slice_get}
use Rattle.model_tree.specs.Formula.{EveryAtom}
use Rattle.model_tree.specs.Label.{Label}
use Rattle.model_sttr.specs.Plain.{PlainOut}
use Rattle.sta_core.specs.Machine.{PlainRule, plain_rule}
use Rattle.sttr_core.specs.Fits.{LabelsFit}
use Rattle.sttr_core.specs.Machine.{OutMachine, plain_out}
use Rattle.sttr_core.specs.declared.sttr.SttrRule.{SttrRule}
use Rattle.sttr_core.proofs.Meaning.{of_place}
use Rattle.sta_ops.proofs.EachRule.{only}
use Rattle.sta_ops.proofs.Moved.{right_end}
use Rattle.sta_theory.proofs.Lists.{none_in, first_in, append_member, in_left, in_right}
use Rattle.sttr_single.specs.declared.joints.Joint.{Joint}
use Rattle.sttr_single.specs.Overlap.{AreUnlike}
use Rattle.sttr_single.specs.Same.{AreEqual, same_term}
use Rattle.sttr_single.specs.Joints.{IsJoint, NeverMeet, IsJointOf, HasJoint, AreJoints, AddsJoints}
use Rattle.sttr_single.proofs.Alike.{same_of, equal_of}

-- what is below the next number is below this one, or it is
pub one_more_place : (P : Type 0 → Type 0) (j k : ℕ) → (j < k → P (j < k)) → (j ≡ k → P (j ≡ k)) → j < k + 1 → P (j < k) ⊎ P (j ≡ k)
one_more_place P j k below here low = elim (cases_lt j k) [
  | inl less ↦ inl (below less)
  | inr high ↦ inr (here (omega (arith, low, high)))
]

module _ {A M : Type 0} (f : OutMachine A M) (q i : ℕ) where
  -- the rule at a place of a state's list
  pub rule_at : (rules : List (SttrRule A M)) (r : SttrRule A M) → i < length rules → r ≡ get_or rules i r → map plain_out rules ≡ get_or f.rules q [] → slice_get (get_or f.rules q []) i ≡ Some (plain_out r)
  rule_at rules r low is are = sym (ap (λ rs. slice_get rs i) are) ∙ slice_get-map plain_out rules i ∙ ap (option_map plain_out) (slice_get_read rules (length rules) i r refl low is)

-- a state's guards
module _ {A M : Type 0} (atom_fits : A → Type 0) (map_fits : M → Type 0) (f : OutMachine A M) (fit : LabelsFit atom_fits map_fits f) where
  pub rule_atoms : (q i : ℕ) (r : PlainOut (PlainRule A) M) → slice_get (get_or f.rules q []) i ≡ Some r → EveryAtom atom_fits r.rule.guard
  rule_atoms q i r at = of_place (λ z. EveryAtom atom_fits z.rule.guard) f.rules q r fit.guards (i, slice_get_within (get_or f.rules q []) i r at, get_or_from_slice_get (get_or f.rules q []) i r r at)

  pub guard_at : (q i : ℕ) (r : SttrRule A M) → slice_get (get_or f.rules q []) i ≡ Some (plain_out r) → EveryAtom atom_fits (plain_rule r.rule).guard
  guard_at q i r at = rule_atoms q i (plain_out r) at

module _ {A M : Type 0} (holds : A → Label → Bool) (map_eq : M → M → Bool) (D : Label → Type 0) (f : OutMachine A M) where
  abbrev Unlike : ℕ → ℕ → ℕ → PlainOut (PlainRule A) M → PlainOut (PlainRule A) M → Type 0
  Unlike = AreUnlike holds map_eq f

  has_more : (xs ys zs : List (Joint A)) (r s : PlainOut (PlainRule A) M) → ((x : Joint A) → Contains xs x → Contains zs x) → HasJoint holds map_eq D f xs r s → HasJoint holds map_eq D f zs r s
  has_more xs ys zs r s among h = record { it = h.it; there = among h.it h.there; joint = h.joint }

  -- where nothing is wanted, or nothing at all is joined
  pub no_joints : (Wanted : ℕ → ℕ → ℕ → Type 0) → ((q i j : ℕ) (r s : PlainOut (PlainRule A) M) → Wanted q i j → Unlike q i j r s → NeverMeet r.rule s.rule f.looks holds D) → AreJoints holds map_eq D f Wanted []
  no_joints Wanted never = record { sound = λ x at. absurd (none_in x at); complete = λ q i j r s wanted unlike. inr (never q i j r s wanted unlike) }

  pub adds_none : (Wanted : ℕ → ℕ → ℕ → Type 0) (old new : List (Joint A)) → new ≡ old → AreJoints holds map_eq D f Wanted [] → AddsJoints holds map_eq D f Wanted old new
  adds_none Wanted old new is none = ([], is ∙ sym (right_end old), none)

  -- those of two lists
  joints_of_both : (P Q R : ℕ → ℕ → ℕ → Type 0) → ((q i j : ℕ) (r s : PlainOut (PlainRule A) M) → R q i j → Unlike q i j r s → P q i j ⊎ Q q i j) → (xs ys : List (Joint A)) → AreJoints holds map_eq D f P xs → AreJoints holds map_eq D f Q ys
      → AreJoints holds map_eq D f R (xs ++ ys)
  joints_of_both P Q R split xs ys first second = record {
    sound = λ x at. elim (append_member xs ys x at) [ inl here ↦ first.sound x here | inr there ↦ second.sound x there ];
    complete = λ q i j r s wanted unlike. elim (split q i j r s wanted unlike) [
      | inl p ↦ elim (first.complete q i j r s p unlike) [ inl has ↦ inl (has_more xs ys (xs ++ ys) r s (in_left xs ys) has) | inr never ↦ inr never ]
      | inr p ↦ elim (second.complete q i j r s p unlike) [ inl has ↦ inl (has_more ys xs (xs ++ ys) r s (in_right xs ys) has) | inr never ↦ inr never ]
    ];
  }

  -- the joints of later places come behind those of earlier ones
  pub adds_more : (P Q R : ℕ → ℕ → ℕ → Type 0) → ((q i j : ℕ) (r s : PlainOut (PlainRule A) M) → R q i j → Unlike q i j r s → P q i j ⊎ Q q i j) → (first old new : List (Joint A)) → AddsJoints holds map_eq D f P first old → AddsJoints holds map_eq D f Q old new
      → AddsJoints holds map_eq D f R first new
  adds_more P Q R split first old new (xs, is, are) (ys, is', are') = (xs ++ ys, is' ∙ ap (λ l. l ++ ys) is ∙ append_assoc first xs ys, joints_of_both P Q R split xs ys are are')

  -- where the same is wanted
  pub adds_as : (P Q : ℕ → ℕ → ℕ → Type 0) → ((q i j : ℕ) (r s : PlainOut (PlainRule A) M) → Q q i j → Unlike q i j r s → P q i j) → (old new : List (Joint A)) → AddsJoints holds map_eq D f P old new → AddsJoints holds map_eq D f Q old new
  adds_as P Q weaker old new (xs, is, are) = (xs, is, record { sound = are.sound; complete = λ q i j r s wanted unlike. are.complete q i j r s (weaker q i j r s wanted unlike) unlike })

  -- unlike rules stand at places that there are
  pub second_low : (q i j : ℕ) (r s : PlainOut (PlainRule A) M) → Unlike q i j r s → j < length (get_or f.rules q [])
  second_low q i j r s unlike = slice_get_within (get_or f.rules q []) j s unlike.second

  pub state_low : (q i j : ℕ) (r s : PlainOut (PlainRule A) M) → Unlike q i j r s → q < length f.rules
  state_low q i j r s unlike = elim (cases_lt q (length f.rules)) [
    | inl low ↦ low
    | inr high ↦ absurd (omega (arith, second_low q i j r s unlike, ap length (get_or_past f.rules q [] high)))
  ]

  module _ (q i j : ℕ) (r s : PlainOut (PlainRule A) M) (in_order : i < j) (first : slice_get (get_or f.rules q []) i ≡ Some r) (second : slice_get (get_or f.rules q []) j ≡ Some s) where
    abbrev Here : ℕ → ℕ → ℕ → Type 0
    Here p k l = (p ≡ q) × (k ≡ i) × (l ≡ j)

    -- the rules at the places are these
    are_these : (p k l : ℕ) (x y : PlainOut (PlainRule A) M) → Here p k l → Unlike p k l x y → (x ≡ r) × (y ≡ s)
    are_these p k l x y (a, b, c) unlike =
        let one : Some x ≡ Some r = sym unlike.first ∙ ap (λ n. slice_get (get_or f.rules n []) k) a ∙ ap (slice_get (get_or f.rules q [])) b ∙ first in
        let other : Some y ≡ Some s = sym unlike.second ∙ ap (λ n. slice_get (get_or f.rules n []) l) a ∙ ap (slice_get (get_or f.rules q [])) c ∙ second in
        (cc, cc)

    pub adds_alike : same_term map_eq r.term s.term ≡ true → (old : List (Joint A)) → AddsJoints holds map_eq D f Here old old
    adds_alike same old = adds_none Here old old refl (no_joints Here (λ p k l x y here unlike.
        let (one, other) = are_these p k l x y here unlike in
        absurd (unlike.unlike (subst (λ z. AreEqual map_eq z.term y.term) (sym one) (subst (λ z. AreEqual map_eq r.term z.term) (sym other) (equal_of map_eq r.term s.term same))))))

    pub adds_never : NeverMeet r.rule s.rule f.looks holds D → (old : List (Joint A)) → AddsJoints holds map_eq D f Here old old
    adds_never never old = adds_none Here old old refl (no_joints Here (λ p k l x y here unlike.
        let (one, other) = are_these p k l x y here unlike in
        subst (λ z. NeverMeet z.rule y.rule f.looks holds D) (sym one) (subst (λ z. NeverMeet r.rule z.rule f.looks holds D) (sym other) never)))

    pub adds_joint : ¬ (same_term map_eq r.term s.term ≡ true) → (x : Joint A) → x.place.state ≡ q → x.place.first ≡ i → x.place.second ≡ j → IsJoint r.rule s.rule f.looks (plain_rule x.rule) → (old new : List (Joint A)) → new ≡ old ++ x ∷ []
        → AddsJoints holds map_eq D f Here old new
    adds_joint other x at_q at_i at_j joint old new is = (
      x ∷ [],
      is,
      record {
        sound = λ y at. subst (IsJointOf holds map_eq D f) (only x y at) (record { first = r; second = s; unlike = unlike_at; joint = joint });
        complete = λ p k l y z here unlike.
            let (one, two) = are_these p k l y z here unlike in
            inl (record { it = x; there = first_in x []; joint = subst (λ w. IsJoint w.rule z.rule f.looks (plain_rule x.rule)) (sym one) (subst (λ w. IsJoint r.rule w.rule f.looks (plain_rule x.rule)) (sym two) joint) });
      },
    )
      where
        unlike_here : Unlike q i j r s
        unlike_here = record { in_order = in_order; first = first; second = second; unlike = λ e. other (same_of map_eq r.term s.term e) }

        unlike_at : Unlike x.place.state x.place.first x.place.second r s
        unlike_at = subst (λ p. Unlike p x.place.first x.place.second r s) (sym at_q) (subst (λ k. Unlike q k x.place.second r s) (sym at_i) (subst (λ l. Unlike q i l r s) (sym at_j) unlike_here))
