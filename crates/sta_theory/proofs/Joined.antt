-- Union, intersection and difference.
use Rattle.std.proofs.Common.{ℕ, suc, ◌+◌, ◌-◌, ◌≡◌, ◌<◌, ◌⊎◌, ◌↔◌, inl, inr, Bool, true, false, ◌&&◌, ◌||◌, List, [], ◌∷◌, ◌++◌, map, Contains, refl, sym, ap, ap₂, subst, ◌∙◌, arith, length}
use Rattle.std.proofs.lemmas.Bool.{cases_lt, and_parts, and_from}
use Rattle.std.proofs.lemmas.List.Folds.{list_any-append}
use Rattle.model_tree.specs.Tree.{Tree, node}
use Rattle.model_sta.specs.Automaton.{Rule, rules_of, is_accepted}
use Rattle.model_sta.specs.Sets.{Each, fires, sets_of}
use Rattle.model_sta.specs.Told.{AreOwn, moved}
use Rattle.sta_theory.specs.Beside.{ArePairs, HasStart, IsEither, IsPaired}
use Rattle.model_sta.specs.Operations.{Auto, Class, AgreeIn, KeepsGuards, Has, AreStates, HasAll, HasNone, IsClassOf, InOne, Alike, OfState, OfClasses, IsUnion, IsIntersection, IsDifference, IsComplement}
use Rattle.sta_theory.proofs.Lists.{map_member, append_member}
use Rattle.sta_theory.proofs.Guards.{AgreeOn, none_past}
use Rattle.sta_theory.proofs.Beside.{some_apply, accepted_some, first_accepts, second_accepts, firsts_apply, seconds_apply, pairs_fire}
use Rattle.sta_theory.proofs.Complement.{as_true}

-- ---- where a state of two automata and a start lies

pub data Place (n m q : ℕ) : Type 0 where
  first : q < n → Place n m q
  second : (s : ℕ) → s < m → q ≡ n + s → Place n m q
  last : q ≡ n + m → Place n m q

pub place : (n m q : ℕ) → q < suc (n + m) → Place n m q
place n m q low = elim (cases_lt q n) [
  | inl below ↦ first below
  | inr high ↦ elim (cases_lt q (n + m)) [
    | inl within ↦ second (q - n) (omega (arith, high, within)) (omega (arith, high))
    | inr past ↦ last (omega (arith, low, past))
  ]
]

-- ---- what the start accepts

either_true : (a b : Bool) → ((a || b) ≡ true) ↔ ((a ≡ true) ⊎ (b ≡ true))
either_true true b = (λ h. inl refl, λ h. refl)
either_true false b = (λ h. inr h, λ h. elim h [ inl e ↦ absurd (cc) | inr e ↦ e ])

both_true : (a b : Bool) → ((a && b) ≡ true) ↔ ((a ≡ true) × (b ≡ true))
both_true a b = (and_parts a b, λ h. and_from a b h.0 h.1)

module _ {L : Type 0} (rules : List (List (Rule L))) where
  some_of_both : (t : Tree L) (rs ss : List (Rule L)) → some_apply rules t (rs ++ ss) ≡ (some_apply rules t rs || some_apply rules t ss)
  some_of_both (node c l ts) rs ss = list_any-append (fires c l (sets_of rules ts)) rs ss

  some_of_pairs : (t : Tree L) (rs ss ps : List (Rule L)) → ArePairs rs ss ps → some_apply rules t ps ≡ (some_apply rules t rs && some_apply rules t ss)
  some_of_pairs (node c l ts) rs ss ps are = pairs_fire rs ss ps are c l (sets_of rules ts)

module _ {L : Type 0} (Typed : Tree L → Type 0) (a b c : Auto L) (own_a : AreOwn a.rules) (own_b : AreOwn b.rules) where
  module _ (is : HasStart a b c) where
    at_start : (P : Tree L → Type 0) → Alike Typed (Has c.rules c.start) P → (q : ℕ) → q < length c.rules → (q ≡ c.start) ⊎ OfState Typed a.rules (Has c.rules q) ⊎ OfState Typed b.rules (Has c.rules q)
    at_start P means q low = elim (place (length a.rules) (length b.rules) q (omega (arith, low, is.many))) [
      | first below ↦ inr (inl (q, below, λ t f. as_true _ _ (first_accepts a.rules b.rules c.rules own_a own_b is.beside t q below)))
      | second s within same ↦ inr (inr (s, within, λ t f. as_true _ _ (ap (is_accepted c.rules t) same ∙ second_accepts a.rules b.rules c.rules own_a own_b is.beside t s within)))
      | last same ↦ inl (same ∙ sym is.start_is)
    ]

    start_low : c.start < length c.rules
    start_low = omega (arith, is.many, is.start_is)

  pub is_union : IsEither a b c → IsUnion Typed a b c
  is_union is =
      let means : Alike Typed (Has c.rules c.start) (λ t. Has a.rules a.start t ⊎ Has b.rules b.start t) = λ t f.
      let test : is_accepted c.rules t c.start ≡ (is_accepted a.rules t a.start || is_accepted b.rules t b.start) =
      accepted_some c.rules t c.start ∙ ap (some_apply c.rules t) is.rules_are
      ∙ some_of_both c.rules t (rules_of a.rules a.start) (map (moved (length a.rules)) (rules_of b.rules b.start))
      ∙ ap₂ (λ x y. x || y) (firsts_apply a.rules b.rules c.rules own_a own_b is.has_start.beside t a.start) (seconds_apply a.rules b.rules c.rules own_a own_b is.has_start.beside t b.start) in
      subst (λ x. (x ≡ true) ↔ (Has a.rules a.start t ⊎ Has b.rules b.start t)) (sym test) (either_true (is_accepted a.rules t a.start) (is_accepted b.rules t b.start)) in
      record { in_range = start_low is.has_start; means = means; each_state = at_start is.has_start (λ t. Has a.rules a.start t ⊎ Has b.rules b.start t) means }

  pub is_intersection : IsPaired a b c → IsIntersection Typed a b c
  is_intersection is =
      let means : Alike Typed (Has c.rules c.start) (λ t. Has a.rules a.start t × Has b.rules b.start t) = λ t f.
      let test : is_accepted c.rules t c.start ≡ (is_accepted a.rules t a.start && is_accepted b.rules t b.start) =
      accepted_some c.rules t c.start
      ∙ some_of_pairs c.rules t (rules_of a.rules a.start) (map (moved (length a.rules)) (rules_of b.rules b.start)) (rules_of c.rules c.start) is.rules_are
      ∙ ap₂ (λ x y. x && y) (firsts_apply a.rules b.rules c.rules own_a own_b is.has_start.beside t a.start) (seconds_apply a.rules b.rules c.rules own_a own_b is.has_start.beside t b.start) in
      subst (λ x. (x ≡ true) ↔ (Has a.rules a.start t × Has b.rules b.start t)) (sym test) (both_true (is_accepted a.rules t a.start) (is_accepted b.rules t b.start)) in
      record { in_range = start_low is.has_start; means = means; each_state = at_start is.has_start (λ t. Has a.rules a.start t × Has b.rules b.start t) means }

-- ---- guards

module _ {L : Type 0} (l m : L) where
  moved_agree : (n : ℕ) (rs : List (Rule L)) → AgreeOn l m rs → AgreeOn l m (map (moved n) rs)
  moved_agree n rs agree p at = let (r, at_r, is) = map_member (moved n) rs p at in sym (ap (λ x. x.guard l) is) ∙ agree r at_r ∙ ap (λ x. x.guard m) is

  either_agree : (rs ss : List (Rule L)) → AgreeOn l m rs → AgreeOn l m ss → AgreeOn l m (rs ++ ss)
  either_agree rs ss f g r at = elim (append_member rs ss r at) [ inl here ↦ f r here | inr there ↦ g r there ]

  pairs_agree : (rs ss ps : List (Rule L)) → ArePairs rs ss ps → AgreeOn l m rs → AgreeOn l m ss → AgreeOn l m ps
  pairs_agree rs ss ps are f g p at =
      let (r, s, at_r, at_s, same, is) = are.sound p at in
      is.guard_is l ∙ ap₂ (λ x y. x && y) (f r at_r) (g s at_s) ∙ sym (is.guard_is m)

  module _ (a b c : Auto L) (is : HasStart a b c) (agree_a : AgreeIn a.rules l m) (agree_b : AgreeIn b.rules l m) (agree_start : AgreeOn l m (rules_of c.rules c.start)) where
    all_agree : AgreeIn c.rules l m
    all_agree q r at = elim (cases_lt q (length c.rules)) [
      | inl low ↦ elim (place (length a.rules) (length b.rules) q (omega (arith, low, is.many))) [
        | first below ↦ agree_a q r (subst (λ rs. Contains rs r) (is.beside.firsts q below) at)
        | second s within same ↦ moved_agree (length a.rules) (rules_of b.rules s) (agree_b s) r (subst (λ rs. Contains rs r) (ap (rules_of c.rules) same ∙ is.beside.seconds s within) at)
        | last same ↦ agree_start r (subst (λ k. Contains (rules_of c.rules k) r) (same ∙ sym is.start_is) at)
      ]
      | inr past ↦ none_past l m c.rules q past r at
    ]

pub union_keeps : {L : Type 0} (a b c : Auto L) → IsEither a b c → KeepsGuards a b c
union_keeps a b c is l m f g =
    all_agree l m a b c is.has_start f g
    (subst (AgreeOn l m) (sym is.rules_are) (either_agree l m (rules_of a.rules a.start) (map (moved (length a.rules)) (rules_of b.rules b.start)) (f a.start) (moved_agree l m (length a.rules) (rules_of b.rules b.start) (g b.start))))

pub intersection_keeps : {L : Type 0} (a b c : Auto L) → IsPaired a b c → KeepsGuards a b c
intersection_keeps a b c is l m f g =
    all_agree l m a b c is.has_start f g
    (pairs_agree l m (rules_of a.rules a.start) (map (moved (length a.rules)) (rules_of b.rules b.start)) (rules_of c.rules c.start) is.rules_are (f a.start) (moved_agree l m (length a.rules) (rules_of b.rules b.start) (g b.start)))

-- ---- the difference is the intersection with the complement

-- classes of one automaton as classes of it beside another
abbrev second_classes : List Class → List Class
second_classes [] = []
second_classes (k ∷ ks) = record { inside = []; outside = []; other_inside = k.inside ++ k.other_inside; other_outside = k.outside ++ k.other_outside } ∷ second_classes ks

module _ {L : Type 0} where
  states_behind : (b : Auto L) (ss us : List ℕ) → AreStates b.rules ss → AreStates b.rules us → AreStates b.rules (ss ++ us)
  states_behind b [] us f g = g
  states_behind b (s ∷ ss) us f g = (f.0, states_behind b ss us f.1 g)

  all_behind : (b : Auto L) (ss us : List ℕ) (t : Tree L) → HasAll b.rules (ss ++ us) t ↔ (HasAll b.rules ss t × HasAll b.rules us t)
  all_behind b [] us t = (λ h. (tt, h), λ h. h.1)
  all_behind b (s ∷ ss) us t = let more = all_behind b ss us t in (λ h. (let two = more.0 h.1 in ((h.0, two.0), two.1)), λ h. (h.0.0, more.1 (h.0.1, h.1)))

  none_behind : (b : Auto L) (ss us : List ℕ) (t : Tree L) → HasNone b.rules (ss ++ us) t ↔ (HasNone b.rules ss t × HasNone b.rules us t)
  none_behind b [] us t = (λ h. (tt, h), λ h. h.1)
  none_behind b (s ∷ ss) us t = let more = none_behind b ss us t in (λ h. (let two = more.0 h.1 in ((h.0, two.0), two.1)), λ h. (h.0.0, more.1 (h.0.1, h.1)))

  are_second : (a b : Auto L) (ks : List Class) → Each (IsClassOf b.rules b.rules) ks → Each (IsClassOf a.rules b.rules) (second_classes ks)
  are_second a b [] are = tt
  are_second a b (k ∷ ks) are =
      ((tt, tt, states_behind b k.inside k.other_inside are.0.0 are.0.2, states_behind b k.outside k.other_outside are.0.1 are.0.3), are_second a b ks are.1)

  in_second : (a b : Auto L) (ks : List Class) (t : Tree L) → InOne b.rules b.rules ks t ↔ InOne a.rules b.rules (second_classes ks) t
  in_second a b [] t = (λ h. h, λ h. h)
  in_second a b (k ∷ ks) t =
      let more = in_second a b ks t in
      let ins = all_behind b k.inside k.other_inside t in
      let outs = none_behind b k.outside k.other_outside t in (
        (λ h. elim h [ inl x ↦ inl (tt, tt, ins.1 (x.0, x.2), outs.1 (x.1, x.3)) | inr y ↦ inr (more.0 y) ]),
        (λ h. elim h [ inl x ↦ inl ((ins.0 x.2).0, (outs.0 x.3).0, (ins.0 x.2).1, (outs.0 x.3).1) | inr y ↦ inr (more.1 y) ]),
      )

  module _ (Typed : Tree L → Type 0) (a b c d : Auto L) (start_low : b.start < length b.rules) (complement : IsComplement Typed b c) where
    alike_turned : (P Q R : Tree L → Type 0) → Alike Typed P Q → Alike Typed Q R → Alike Typed P R
    alike_turned P Q R f g t typed = (λ p. (g t typed).0 ((f t typed).0 p), λ r. (f t typed).1 ((g t typed).1 r))

    -- the language of a state of the complement
    of_complement : (P : Tree L → Type 0) (s : ℕ) → s < length c.rules → Alike Typed P (Has c.rules s) → OfState Typed b.rules P ⊎ OfClasses Typed a.rules b.rules P
    of_complement P s low alike = elim (complement.each_state s low) [
      | inl start ↦ inr (
        record { inside = []; outside = []; other_inside = []; other_outside = b.start ∷ [] } ∷ [],
        ((tt, tt, tt, (start_low, tt)), tt),
        λ t typed.
            let means : Has c.rules s t ↔ ¬ (Has b.rules b.start t) = subst (λ q. Has c.rules q t ↔ ¬ (Has b.rules b.start t)) (sym start) (complement.means t typed) in
            (λ p. inl (tt, tt, tt, (means.0 ((alike t typed).0 p), tt)), λ one. elim one [ inl k ↦ (alike t typed).1 (means.1 k.3.0) | inr none ↦ absurd none ]),
      )
      | inr (inl of_state) ↦ inl (of_state.0, of_state.1, alike_turned P (Has c.rules s) (Has b.rules of_state.0) alike of_state.2)
      | inr (inr (inl of_state)) ↦ inl (of_state.0, of_state.1, alike_turned P (Has c.rules s) (Has b.rules of_state.0) alike of_state.2)
      | inr (inr (inr classes)) ↦ inr (
        second_classes classes.0,
        are_second a b classes.0 classes.1,
        alike_turned P (Has c.rules s) (InOne a.rules b.rules (second_classes classes.0)) alike (alike_turned (Has c.rules s) (InOne b.rules b.rules classes.0) (InOne a.rules b.rules (second_classes classes.0)) classes.2 (λ t typed. in_second a b classes.0 t)),
      )
    ]

    pub is_difference : IsIntersection Typed a c d → IsDifference Typed a b d
    is_difference both_of = record {
      in_range = both_of.in_range;
      means = λ t typed. (
        (λ h. (let two = (both_of.means t typed).0 h in (two.0, (complement.means t typed).0 two.1))),
        (λ h. (both_of.means t typed).1 (h.0, (complement.means t typed).1 h.1)),
      );
      each_state = λ q low. elim (both_of.each_state q low) [
        | inl start ↦ inl start
        | inr (inl of_a) ↦ inr (inl of_a)
        | inr (inr of_c) ↦ elim (of_complement (Has d.rules q) of_c.0 of_c.1 of_c.2) [ inl of_b ↦ inr (inr (inl of_b)) | inr classes ↦ inr (inr (inr classes)) ]
      ];
    }

  pub difference_keeps : (a b c d : Auto L) → KeepsGuards b b c → KeepsGuards a c d → KeepsGuards a b d
  difference_keeps a b c d f g l m agree_a agree_b = g l m agree_a (f l m agree_b agree_b)
