-- Rules that have the same guard, and labels that tell guards apart.
use Rattle.std.proofs.Common.{ℕ, zero, suc, ◌≡◌, ◌<◌, ◌+◌, ◌&&◌, inl, inr, Bool, true, false, List, [], ◌∷◌, ◌++◌, get_or, length, map, refl, sym, ap, ap₂, subst, ◌∙◌, arith}
use Rattle.std.specs.Cmp.{IsEquivalence}
use Rattle.std.proofs.lemmas.Bool.{cases_lt}
use Rattle.std.proofs.lemmas.List.{get_or-map, length-map}
use Rattle.model_tree.specs.Label.{Label}
use Rattle.model_tree.specs.Formula.{yes, formula_holds}
use Rattle.model_sta.specs.Sets.{Row, has}
use Rattle.model_sta.proofs.Reached.{same_default}
use Rattle.label_core.specs.Formula.{plain_formula}
use Rattle.label_core.specs.Meaning.{Meaning}
use Rattle.label_core.specs.SameFormula.{same_formula}
use Rattle.label_core.specs.SameLaws.{same_formula_laws, same_holds}
use Rattle.sta_core.specs.Machine.{plain_rule}
use Rattle.sta_classes.specs.Applying.{truth_at, guards_in, IsLike, AreLike, AreLow, AreAt}
use Rattle.sta_classes.specs.Bits.{both}
use Rattle.sta_classes.specs.Splits.{AreTold}
use Rattle.sta_classes.specs.declared.rules.Owned.{Owned}
use Rattle.sta_classes.specs.declared.splits.Told.{Told}
use Rattle.sta_classes.proofs.Applying.{element}
use Rattle.sta_classes.proofs.Meet.{both_at}
use Rattle.sta_classes.proofs.Places.{old_at, new_at}

module _ {A : Type 0} (list : List (Owned A)) where
  guard_at : (i : ℕ) (x : Owned A) → i < length list → x ≡ get_or list i x → get_or (guards_in list) i yes ≡ (plain_rule x.rule.now).guard
  guard_at i x low at = get_or-map (λ y. (plain_rule y.rule.now).guard) list i x yes low ∙ ap (λ y. (plain_rule y.rule.now).guard) (sym at)

  module _ (eq : A → A → Bool) where
    pub like_itself : IsEquivalence eq → (i : ℕ) → i < length list → IsLike eq list i i
    like_itself laws i low =
        let (x, at) = element list i low in
        (low, subst (λ f. same_formula eq f f ≡ true) (sym (guard_at i x low (sym at))) ((same_formula_laws eq laws).refl x.rule.now.guard))

    pub like_other : (i j : ℕ) (x y : Owned A) → i < length list → j < length list → x ≡ get_or list i x → y ≡ get_or list j y → same_formula eq (plain_formula y.rule.now.guard) (plain_formula x.rule.now.guard) ≡ true → IsLike eq list i j
    like_other i j x y i_low j_low at at' same = (j_low, ap₂ (same_formula eq) (guard_at j y j_low at') (guard_at i x i_low at) ∙ same)

    pub likes_more : (old new : List ℕ) (n like : ℕ) → length old ≡ n → new ≡ old ++ like ∷ [] → IsLike eq list n like → ((i : ℕ) → i < n → IsLike eq list i (get_or old i 0)) → (i : ℕ) → i < n + 1 → IsLike eq list i (get_or new i 0)
    likes_more old new n like many is last h i low = elim (cases_lt i n) [
      | inl before ↦ subst (IsLike eq list i) (sym (ap (λ l. get_or l i 0) is ∙ old_at old like 0 i (omega (arith, before, many)))) (h i before)
      | inr past ↦
          let here : i ≡ n = omega (arith, past, low) in
          subst (IsLike eq list i) (sym (ap (λ l. get_or l i 0) is ∙ new_at old like 0 i (here ∙ sym many))) (subst (λ k. IsLike eq list k like) (sym here) last)
    ]

    pub likes_low : (likes : List ℕ) → AreLike eq list likes → AreLow likes
    likes_low likes alike k d low =
        let like = (alike.each k (omega (arith, low, alike.many))).0 in
        subst (λ n. n < length likes) (same_default likes k 0 d low) (omega (arith, like, alike.many))

-- two rows that are the same where a third one has a number have the same there
both_same : (p q r : List Bool) → length q ≡ length p → length r ≡ length p → ((i : ℕ) → i < length p → has p i ≡ true → get_or q i false ≡ get_or r i false) → both p q ≡ both p r
both_same [] q r e f h = refl
both_same (b ∷ p) [] r e f h = absurd (omega (arith, e))
both_same (b ∷ p) (x ∷ q) [] e f h = absurd (omega (arith, f))
both_same (true ∷ p) (x ∷ q) (y ∷ r) e f h = ap₂ (λ a rest. a ∷ rest) (h zero (omega arith) refl) (both_same p q r (omega (arith, e)) (omega (arith, f)) (λ i low is. h (suc i) (omega (arith, low)) is))
both_same (false ∷ p) (x ∷ q) (y ∷ r) e f h = ap (λ rest. false ∷ rest) (both_same p q r (omega (arith, e)) (omega (arith, f)) (λ i low is. h (suc i) (omega (arith, low)) is))

module _ {A V W : Type 0} {label_of : V → Label} {holds : A → Label → Bool} (M : Meaning label_of holds W) (eq : A → A → Bool) (equal : (a b : A) (l : Label) → eq a b ≡ true → holds a l ≡ holds b l) (list : List (Owned A)) (likes : List ℕ) (alike : AreLike eq list likes) where
  abbrev held : Label → Row
  held l = map (truth_at holds l) list

  truth_of : (l : Label) (i : ℕ) → i < length list → get_or (held l) i false ≡ formula_holds (λ a. holds a l) (get_or (guards_in list) i yes)
  truth_of l i low =
      let (x, at) = element list i low in
      get_or-map (truth_at holds l) list i x false low ∙ ap (truth_at holds l) at ∙ ap (formula_holds (λ a. holds a l)) (sym (guard_at list i x low (sym at)))

  truth_like : (l : Label) (i : ℕ) → i < length list → get_or (held l) i false ≡ get_or (held l) (get_or likes i 0) false
  truth_like l i low =
      let like = alike.each i low in
      truth_of l i low ∙ sym (same_holds eq (λ a. holds a l) (λ a b. equal a b l) (get_or (guards_in list) (get_or likes i 0) yes) (get_or (guards_in list) i yes) like.1) ∙ sym (truth_of l (get_or likes i 0) like.0)

  module _ (numbers row : Row) (many : length numbers ≡ length list) (are : AreAt likes (length likes) numbers row) where
    among : (i : ℕ) → i < length list → has numbers i ≡ true → has row (get_or likes i 0) ≡ true
    among i low is = (are.each (get_or likes i 0)).1 (i, omega (arith, low, alike.many), is, get_or likes i 0, same_default likes i (get_or likes i 0) 0 (omega (arith, low, alike.many)), refl)

    at_row : (l m : Label) → both row (held l) ≡ both row (held m) → (j : ℕ) → has row j ≡ true → get_or (held l) j false ≡ get_or (held m) j false
    at_row l m e j is =
        let long : (k : Label) → length (held k) ≡ length row = λ k. length-map list (truth_at holds k) ∙ sym alike.many ∙ sym are.many in
        let one : (k : Label) → get_or (both row (held k)) j false ≡ get_or (held k) j false = λ k. both_at row (held k) j (long k) ∙ ap (λ b. b && get_or (held k) j false) is in
        sym (one l) ∙ ap (λ r. get_or r j false) e ∙ one m

    -- labels that tell guards apart tell those of all rules apart that have the same guards
    pub told_likes : (told : List (Told V)) → AreTold M list row told → AreTold M list numbers told
    told_likes told h = record {
      kept = h.kept;
      held = h.held;
      complete = λ l d.
          let (t, t_in, same) = h.complete l d in
          let m = label_of t.value in (
            t,
            t_in,
            both_same numbers (held l) (held m) (length-map list (truth_at holds l) ∙ sym many) (length-map list (truth_at holds m) ∙ sym many) (λ i low is.
                let inside : i < length list = omega (arith, low, many) in
                truth_like l i inside ∙ at_row l m same (get_or likes i 0) (among i inside is) ∙ sym (truth_like m i inside)),
          );
    }
