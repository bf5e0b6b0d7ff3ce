-- Nodes that are begun, one child more at a time.
use Rattle.std.proofs.Common.{ℕ, suc, ◌≡◌, ◌<◌, ◌↔◌, inl, inr, Bool, List, [], ◌∷◌, ◌++◌, map, get_or, length, All, Contains, refl, sym, ap, subst, ◌∙◌, arith}
use Rattle.std.proofs.lemmas.List.{map-append}
use Rattle.std.proofs.lemmas.List.Elements.{Contains-append_left, Contains-push, Contains-push_cases}
use Rattle.model_tree.specs.Label.{Label}
use Rattle.model_sta.specs.Automaton.{Rule}
use Rattle.model_sta.specs.Sets.{Row, has, rows_meet}
use Rattle.model_sta.proofs.Reached.{same_default}
use Rattle.sta_core.specs.Machine.{PlainRule}
use Rattle.sta_core.specs.Sta.{rule_meaning}
use Rattle.sta_theory.specs.Opposite.{signed}
use Rattle.sta_theory.specs.Made.{IsNext, AreNext, AsksNext, AreBegun}
use Rattle.sta_theory.proofs.Asked.{met_test}
use Rattle.sta_theory.proofs.Lists.{none_in, append_member, map_member, in_map, in_left, in_right}
use Rattle.sta_theory.proofs.Made.{begin, go_on}
use Rattle.sta_ops.specs.Opposites.{PlainBegun, demands_in, opposite_in, AnyAsks, row_at, rows_in, answers, with_child, AddsNext, AreOfClasses, AreAllBegun}
use Rattle.sta_ops.proofs.EachRule.{all_in, in_all, only}

module _ (rows : List Row) (opposites : List ℕ) (Asks : List Row → ℕ → Type 0) (states : List ℕ) (x : PlainBegun) (asked : (s : ℕ) → Contains states s ↔ Asks (rows_in rows x) s) where
  abbrev Next : PlainBegun → Row → Type 0
  Next y q = IsNext (opposite_in opposites) (rows_in rows) demands_in Asks x y q

  child_is_next : (k : ℕ) → Next (with_child rows opposites states x k) (row_at rows k)
  child_is_next k = record {
    rows_are = map-append (row_at rows) x.children (k ∷ []);
    demanded = answers rows opposites states k;
    demands_are = refl;
    answers = λ z. (
      (λ at. (let (s, at_s, is) = map_member (λ s. signed (opposite_in opposites) (has (row_at rows k) s) s) states z at in (s, (asked s).0 at_s, sym is))),
      (λ a. subst (Contains (answers rows opposites states k)) (sym a.2) (in_map (λ s. signed (opposite_in opposites) (has (row_at rows k) s) s) states a.0 ((asked a.0).1 a.1))),
    );
  }

  module _ (xs old new : List PlainBegun) (are : AreNext (opposite_in opposites) (rows_in rows) demands_in Asks rows xs old) (adds : AddsNext rows opposites states x old new) where
    abbrev added : List PlainBegun
    added = map (with_child rows opposites states x) adds.0

    there : (y : PlainBegun) → Contains old y → Contains new y
    there y at = subst (λ l. Contains l y) (sym adds.2) (in_left old added y at)

    -- and the nodes with a child more for one more of the nodes
    pub next_more : AreNext (opposite_in opposites) (rows_in rows) demands_in Asks rows (xs ++ x ∷ []) new
    next_more = record {
      sound = λ y at. elim (append_member old added y (subst (λ l. Contains l y) adds.2 at)) [
        | inl before ↦ (let (z, at_z, q, is) = are.sound y before in (z, Contains-append_left xs (x ∷ []) z at_z, q, is))
        | inr now ↦ (
            let (k, at_k, is) = map_member (with_child rows opposites states x) adds.0 y now in
            (x, Contains-push xs x, row_at rows k, subst (λ z. Next z (row_at rows k)) is (child_is_next k)))
      ];
      complete = λ z at_z u at_u. elim (Contains-push_cases xs x z at_z) [
        | inl before ↦ (let (y, at_y, q, is, alike) = are.complete z before u at_u in (y, there y at_y, q, is, alike))
        | inr now ↦ subst (λ w. (y : PlainBegun) × Contains new y × (q : Row) × IsNext (opposite_in opposites) (rows_in rows) demands_in Asks w y q × ((s : ℕ) → Asks (rows_in rows w) s → has q s ≡ has u s)) now (found u at_u)
      ];
    }
      where
        found : (u : Row) → Contains rows u → (y : PlainBegun) × Contains new y × (q : Row) × Next y q × ((s : ℕ) → Asks (rows_in rows x) s → has q s ≡ has u s)
        found u at_u =
            let (k, at_k, alike) = adds.1.all at_u.0 at_u.1 in
            let is_u : row_at rows at_u.0 ≡ u = same_default rows at_u.0 [] u at_u.1 ∙ at_u.2 in (
              with_child rows opposites states x k,
              subst (λ l. Contains l (with_child rows opposites states x k)) (sym adds.2) (in_right old added (with_child rows opposites states x k) (in_map (with_child rows opposites states x) adds.0 k at_k)),
              row_at rows k,
              child_is_next k,
              λ s a. alike s ((asked s).1 a) ∙ ap (λ q. has q s) is_u,
            )

    -- whose children are of classes
    pub classes_more : All (λ k. k < length rows) x.children → AreOfClasses rows old → AreOfClasses rows new
    classes_more own olds y at = elim (append_member old added y (subst (λ l. Contains l y) adds.2 at)) [
      | inl before ↦ olds y before
      | inr now ↦ (
          let (k, at_k, is) = map_member (with_child rows opposites states x) adds.0 y now in
          subst (λ z. All (λ j. j < length rows) z.children) is
          (in_all (λ j. j < length rows) (x.children ++ k ∷ [])
          (λ j at_j. elim (append_member x.children (k ∷ []) j at_j) [ inl front ↦ all_in (λ i. i < length rows) x.children own j front | inr last ↦ subst (λ i. i < length rows) (only k j last) (adds.1.low k at_k) ])))
    ]

pub none_next : (rows : List Row) (opposites : List ℕ) (Asks : List Row → ℕ → Type 0) → AreNext (opposite_in opposites) (rows_in rows) demands_in Asks rows [] []
none_next rows opposites Asks = record { sound = λ y at. absurd (none_in y at); complete = λ x at. absurd (none_in x at) }

pub none_of_classes : (rows : List Row) → AreOfClasses rows []
none_of_classes rows x at = absurd (none_in x at)

module _ {A : Type 0} (holds : A → Label → Bool) (rs : List (PlainRule A)) (c : ℕ) where
  abbrev meant : PlainRule A → Rule Label
  meant = rule_meaning holds

  -- the states that are asked for are those that the rules over labels ask for
  asks_meant : (qs : List Row) (s : ℕ) → AnyAsks c rs qs s ↔ AsksNext (map meant rs) c qs s
  asks_meant qs s = (
    (λ a. (let (r, at, (same, met, d)) = a in (meant r, in_map meant rs r at, same, (met_test (map meant rs) c qs (meant r)).1 met, d))),
    (λ a. (let (p, at, same, met, d) = a in let (r, at_r, is) = map_member meant rs p at in
        (r, at_r, (ap (λ z. z.constructor) is ∙ same, ap (λ z. rows_met qs z) is ∙ (met_test (map meant rs) c qs p).0 met, subst (λ z. Contains (get_or z.demands (length qs) []) s) (sym is) d)))),
  )
    where
      rows_met : List Row → Rule Label → Bool
      rows_met qs z = rows_meet qs z.demands

module _ {A : Type 0} (rows : List Row) (opposites : List ℕ) (rs : List (PlainRule A)) (c : ℕ) where
  pub begun_none : (xs : List PlainBegun) → xs ≡ record { children = []; demands = [] } ∷ [] → AreAllBegun rows rs c opposites 0 xs
  begun_none xs is holds = subst (AreBegun (opposite_in opposites) (map (rule_meaning holds) rs) (rows_in rows) demands_in c rows 0) (sym is) (begin (opposite_in opposites) (map (rule_meaning holds) rs) (rows_in rows) demands_in c rows (record { children = []; demands = [] }) refl refl)

  pub none_classes : (xs : List PlainBegun) → xs ≡ record { children = []; demands = [] } ∷ [] → AreOfClasses rows xs
  none_classes xs is x at = subst (λ z. All (λ k. k < length rows) z.children) (only (record { children = []; demands = [] }) x (subst (λ l. Contains l x) is at)) (λ k d low. absurd (omega arith))

  pub begun_more : (n m : ℕ) (xs ys : List PlainBegun) → m ≡ suc n → AreAllBegun rows rs c opposites n xs → AreNext (opposite_in opposites) (rows_in rows) demands_in (AnyAsks c rs) rows xs ys → AreAllBegun rows rs c opposites m ys
  begun_more n m xs ys e are next holds =
      subst (λ k. AreBegun (opposite_in opposites) (map (rule_meaning holds) rs) (rows_in rows) demands_in c rows k ys) (sym e)
      (go_on (opposite_in opposites) (map (rule_meaning holds) rs) (rows_in rows) demands_in c rows (AnyAsks c rs) (asks_meant holds rs c) n xs ys (are holds) next)
