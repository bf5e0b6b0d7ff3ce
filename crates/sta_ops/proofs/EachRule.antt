-- What holds of each rule that is made of others.
use Rattle.std.proofs.Common.{ℕ, zero, suc, ◌≡◌, ◌<◌, ◌==◌, inl, inr, List, [], ◌∷◌, ◌++◌, map, filter, get_or, length, All, Contains, sym, subst, arith, eqb-true}
use Rattle.std.proofs.lemmas.Bool.{cases_lt}
use Rattle.std.proofs.lemmas.List.{get_or_past}
use Rattle.model_sta.proofs.Reached.{same_default}
use Rattle.sta_core.specs.Machine.{PlainRule}
use Rattle.sta_ops.specs.Rules.{moved, beside, both, pairs_with, pairs, rules_at}
use Rattle.sta_theory.proofs.Lists.{none_in, append_member, map_member, flat_member, filter_member}

module _ {X : Type 0} where
  pub all_in : (P : X → Type 0) (xs : List X) → All P xs → (x : X) → Contains xs x → P x
  all_in P xs h x at = subst P at.2 (h at.0 x at.1)

  pub in_all : (P : X → Type 0) (xs : List X) → ((x : X) → Contains xs x → P x) → All P xs
  in_all P xs h k d low = h (get_or xs k d) (k, low, same_default xs k (get_or xs k d) d low)

  pub only : (x y : X) → Contains (x ∷ []) y → x ≡ y
  only x y at = first_one at.0 at.1 at.2
    where
      first_one : (k : ℕ) → k < 1 → get_or (x ∷ []) k y ≡ y → x ≡ y
      first_one zero l e = e
      first_one (suc k) l e = absurd (omega arith)

module _ {A : Type 0} where
  abbrev pub EachRule : (PlainRule A → Type 0) → List (List (PlainRule A)) → Type 0
  EachRule Q rules = (rs : List (PlainRule A)) → Contains rules rs → (r : PlainRule A) → Contains rs r → Q r

  pub each_at : (Q : PlainRule A → Type 0) (rules : List (List (PlainRule A))) → EachRule Q rules → (s : ℕ) (r : PlainRule A) → Contains (rules_at rules s) r → Q r
  each_at Q rules h s r at = elim (cases_lt s (length rules)) [
    | inl low ↦ h (rules_at rules s) (s, low, same_default rules s (rules_at rules s) [] low) r at
    | inr high ↦ absurd (none_in r (subst (λ rs. Contains rs r) (get_or_past rules s [] high) at))
  ]

  pub each_moved : (Q R : PlainRule A → Type 0) (n : ℕ) → ((r : PlainRule A) → Q r → R (moved n r)) → (rs : List (PlainRule A)) → ((r : PlainRule A) → Contains rs r → Q r) → (p : PlainRule A) → Contains (map (moved n) rs) p → R p
  each_moved Q R n turn rs h p at = let (r, at_r, is) = map_member (moved n) rs p at in subst R is (turn r (h r at_r))

  pub each_beside : (Q R S : PlainRule A → Type 0) (first second : List (List (PlainRule A))) → ((r : PlainRule A) → Q r → S r) → ((r : PlainRule A) → R r → S (moved (length first) r)) → EachRule Q first → EachRule R second → EachRule S (beside first second)
  each_beside Q R S first second f g h k rs at r here = elim (append_member first (map (map (moved (length first))) second) rs at) [
    | inl there ↦ f r (h rs there r here)
    | inr there ↦ (
        let (ss, at_ss, is) = map_member (map (moved (length first))) second rs there in
        each_moved R S (length first) g ss (k ss at_ss) r (subst (λ qs. Contains qs r) (sym is) here))
  ]

  pub each_more : (Q : PlainRule A → Type 0) (rules : List (List (PlainRule A))) (start : List (PlainRule A)) → EachRule Q rules → ((r : PlainRule A) → Contains start r → Q r) → EachRule Q (rules ++ start ∷ [])
  each_more Q rules start h k rs at r here = elim (append_member rules (start ∷ []) rs at) [
    | inl there ↦ h rs there r here
    | inr last ↦ k r (subst (λ qs. Contains qs r) (sym (only start rs last)) here)
  ]

  pub pair_member : (rs ss : List (PlainRule A)) (p : PlainRule A) → Contains (pairs rs ss) p → (r : PlainRule A) × Contains rs r × (s : PlainRule A) × Contains ss s × (s.constructor ≡ r.constructor) × (both r s ≡ p)
  pair_member rs ss p at =
      let (r, at_r, there) = flat_member (λ r. pairs_with r ss) rs p at in
      let (s, at_s, is) = map_member (both r) (filter (λ s. s.constructor == r.constructor) ss) p there in
      let (in_ss, test) = filter_member (λ s. s.constructor == r.constructor) ss s at_s in
      (r, at_r, s, in_ss, eqb-true s.constructor r.constructor test, is)
