-- Demands that are gone over one by one.
use Rattle.std.proofs.Common.{ℕ, ◌≡◌, ◌+◌, ◌<◌, ◌≤◌, inl, inr, Vec, List, [], ◌∷◌, ◌++◌, map, take, take_all, get_or, length, All, Contains, sym, ap, subst, ◌∙◌}
use Rattle.std.proofs.lemmas.List.{take_more, get_or-map}
use Rattle.sta_core.specs.Machine.{Machine, PlainRule}
use Rattle.sta_ops.proofs.EachRule.{all_in, in_all, only}
use Rattle.sta_theory.proofs.Lists.{append_member, map_member}
use Rattle.sttr_single.specs.Joints.{HasHigh, AreJoined, AreJoinedFor}

module _ {X : Type 0} (P : X → Type 0) (xs : List X) (i : ℕ) where
  -- one more, or all
  pub all_more : (x : X) → i < length xs → x ≡ get_or xs i x → All P (take i xs) → P x → All P (take (i + 1) xs)
  all_more x low is all here =
      subst (All P) (sym (take_more xs i x low))
      (in_all P (take i xs ++ get_or xs i x ∷ []) (λ y at. elim (append_member (take i xs) (get_or xs i x ∷ []) y at) [
        | inl before ↦ all_in P (take i xs) all y before
        | inr last ↦ subst P (is ∙ only (get_or xs i x) y last) here
      ]))

  pub all_done : length xs ≤ i → All P (take i xs) → All P xs
  all_done high all = subst (All P) (take_all i xs high) all

-- what is too high for one of the demands
pub high_at : {G : Type 0} (bound : ℕ) (demands : List (Vec ℕ G)) (i : ℕ) (d : Vec ℕ G) (states : List ℕ) → i < length demands → d ≡ get_or demands i d → states ≡ d.items → HasHigh bound states → HasHigh bound (get_or (map (λ d. d.items) demands) i [])
high_at bound demands i d states low is are high = subst (HasHigh bound) (are ∙ ap (λ v. v.items) is ∙ sym (get_or-map (λ d. d.items) demands i d [] low)) high

-- joined demands that are low
pub joined_done : {A G : Type 0} (looks : Machine A) (r s : PlainRule A) (given : List ℕ) (states : ℕ) (made seen : List (Vec ℕ G)) → given ≡ looks.ranks → r.constructor < length given → states ≡ length looks.rules → seen ≡ made → All (λ d. All (λ x. x < states) d.items) seen
    → AreJoined r s (get_or given r.constructor 0) (map (λ d. d.items) made) → AreJoinedFor r s looks (map (λ d. d.items) made)
joined_done looks r s given states made seen same low many are all joined = record {
  low = subst (λ ranks. r.constructor < length ranks) same low;
  joined = subst (λ ranks. AreJoined r s (get_or ranks r.constructor 0) (map (λ d. d.items) made)) same joined;
  own = λ d at x here.
      let (v, at_v, is) = map_member (λ d. d.items) made d at in
      subst (λ n. x < n) many (all_in (λ x. x < states) v.items (all_in (λ d. All (λ x. x < states) d.items) made (subst (All (λ d. All (λ x. x < states) d.items)) are all) v at_v) x (subst (λ e. Contains e x) (sym is) here));
}
