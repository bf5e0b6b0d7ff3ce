-- Heads over all lists of chosen blocks.
use Rattle.std.proofs.Common.{ℕ, ◌≡◌, ◌<◌, ◌↔◌, Bool, Vec, cond, List, [], get_or, length, All, Contains, sym, ap, subst, ◌∙◌, arith}
use Rattle.std.proofs.lemmas.List.{length-map}
use Rattle.sta_classes.specs.Grow.{Grown, Some}
use Rattle.sta_classes.specs.Plain.{PlainTable}
use Rattle.sta_classes.specs.Rows.{lists_of}
use Rattle.sta_classes.proofs.Grown.{grown_same}
use Rattle.sta_theory.proofs.Lists.{map_member, in_map}
use Rattle.sta_ops.proofs.EachRule.{in_all}
use Rattle.sta_min.specs.Demands.{is_free, free_in, AreFreePlaces, AreChoices}
use Rattle.sta_min.specs.Heads.{PlainHead, head_with, AreChosen, IsHeadOf}
use Rattle.sta_min.specs.Lists.{IsListOf}
use Rattle.sta_min.proofs.Choosing.{free_known, keys_same}

module _ {A V : Type 0} (t : PlainTable A V) (c count : ℕ) (free : List Bool) (are_free : AreFreePlaces t c (get_or t.machine.ranks c 0) free) where
  head_same : (ks : List ℕ) → head_with c (free_in free) ks ≡ head_with c (is_free t c) ks
  head_same ks = ap (λ ds. record { constructor = c; blocks = ks; demands = ds }) (keys_same (free_in free) (is_free t c) (free_known t c free are_free) ks)

  module _ (choices : List (List ℕ)) (are : AreChoices (free_in free) count (length free) choices) where
    choice_is : (j k : ℕ) → j < length free → Contains (get_or choices j []) k ↔ (k < cond (is_free t c j) 1 count)
    choice_is j k low = subst (λ b. Contains (get_or choices j []) k ↔ (k < cond b 1 count)) (free_known t c free are_free j) (are.each j low k)

    chosen : (ks : List ℕ) → IsListOf choices (length choices) ks ↔ AreChosen t count c ks
    chosen ks = (
      (λ h. (h.0 ∙ are.many ∙ are_free.many, λ j low. (choice_is j (get_or ks j 0) (omega (arith, low, are_free.many))).0 (h.1 j (omega (arith, low, are.many, are_free.many))))),
      (λ h. (h.0 ∙ sym are_free.many ∙ sym are.many, λ j low. (choice_is j (get_or ks j 0) (omega (arith, low, are.many))).1 (h.1 j (omega (arith, low, are.many, are_free.many))))),
    )

    module _ {G : Type 0} (lists : List (Vec ℕ G)) (those : (ks : List ℕ) → Contains (lists_of lists) ks ↔ IsListOf choices (length choices) ks) where
      pub lists_long : All (λ v. length v.items ≡ length free) lists
      lists_long = in_all (λ v. length v.items ≡ length free) lists (λ v at. ((those v.items).0 (in_map (λ v. v.items) lists v at)).0 ∙ are.many)

      pub of_lists : (a b : List PlainHead) → Grown a b (Some (λ v h. head_with c (free_in free) v.items ≡ h) lists) → Grown a b (IsHeadOf t count c)
      of_lists a b f =
          grown_same a b (Some (λ v h. head_with c (free_in free) v.items ≡ h) lists) (IsHeadOf t count c) f
          (λ h w. (let (v, at, is) = w in (v.items, (chosen v.items).0 ((those v.items).0 (in_map (λ v. v.items) lists v at)), sym (head_same v.items) ∙ is)))
          (λ h w.
          let (ks, those_are, is) = w in
          let (v, at, same) = map_member (λ v. v.items) lists ks ((those ks).1 ((chosen ks).1 those_are)) in
          (v, at, ap (head_with c (free_in free)) same ∙ head_same ks ∙ is))

-- the same where the lists are at hand in other places
module _ {A V G : Type 0} (t : PlainTable A V) (c count rank : ℕ) (is : rank ≡ get_or t.machine.ranks c 0) (free : List Bool) (are_free : AreFreePlaces t c rank free)
    (f : List Bool) (same_f : f ≡ free) (choices : List (Vec ℕ G)) (are : AreChoices (free_in f) count (length f) (lists_of choices))
    (k : List (Vec ℕ G)) (same_k : k ≡ choices) (lists : List (Vec ℕ G)) (those : (ks : List ℕ) → Contains (lists_of lists) ks ↔ IsListOf (lists_of k) (length k) ks) where
  free_here : AreFreePlaces t c (get_or t.machine.ranks c 0) free
  free_here = subst (λ r. AreFreePlaces t c r free) is are_free

  choices_here : AreChoices (free_in free) count (length free) (lists_of choices)
  choices_here = subst (λ l. AreChoices (free_in l) count (length l) (lists_of choices)) same_f are

  those_here : (ks : List ℕ) → Contains (lists_of lists) ks ↔ IsListOf (lists_of choices) (length (lists_of choices)) ks
  those_here ks =
      subst (λ n. Contains (lists_of lists) ks ↔ IsListOf (lists_of choices) n ks) (sym (length-map choices (λ v. v.items)))
      (subst (λ l. Contains (lists_of lists) ks ↔ IsListOf (lists_of l) (length l) ks) same_k (those ks))

  pub long_given : (g : List Bool) (l : List (Vec ℕ G)) → g ≡ free → l ≡ lists → All (λ v. length v.items ≡ length g) l
  long_given g l same_g same_l =
      subst (λ x. All (λ v. length v.items ≡ length x) l) (sym same_g) (subst (All (λ v. length v.items ≡ length free)) (sym same_l) (lists_long t c count free free_here (lists_of choices) choices_here lists those_here))

  pub heads_given : (g : List Bool) (l : List (Vec ℕ G)) → g ≡ free → l ≡ lists → (a b : List PlainHead) → Grown a b (Some (λ v h. head_with c (free_in g) v.items ≡ h) l) → Grown a b (IsHeadOf t count c)
  heads_given g l same_g same_l a b h =
      of_lists t c count free free_here (lists_of choices) choices_here lists those_here a b
      (subst (λ x. Grown a b (Some (λ v h. head_with c (free_in x) v.items ≡ h) lists)) same_g (subst (λ x. Grown a b (Some (λ v h. head_with c (free_in g) v.items ≡ h) x)) same_l h))
