-- Values that are kept under names stay, and grow.
use Rattle.std.proofs.Common.{◌≡◌, ℕ, Bool, true, false, cond, List, [], ◌∷◌, ◌++◌, Option, Some, None, length, length-append, append-nil, refl, sym, ap, subst, ◌∙◌, arith}
use Rattle.std.specs.Prelude.{is_some, Result, Ok, Err, OnOk, OnErr}
use Rattle.std.proofs.Math.ListN.{get_or-append}
use Rattle.std.proofs.Math.Seq.{get_or-append_seam}
use Rattle.model_names.specs.Declared.{same_text}
use Rattle.model_checks.proofs.Soundness.{same_itself}
use Rattle.fast_build.proofs.Naming.{same_from_test}
use Rattle.fast_eval.specs.declared.table.Table.{Table}
use Rattle.fast_eval.specs.Places.{place_in, or_else, IsBare, HasName, HasNamesOf, PutsName, IsNamedAt, IsAdded, IsKept, IsThere, AreRight}

-- ---- what holds after a call in either case, and what goes on from an answer

pub on_both : {T E P Q R : Type 0} (r : Result T E) → OnOk r P → OnErr r Q → (P → R) → (Q → R) → R
on_both (Ok x) p q f g = f p
on_both (Err e) p q f g = g q

pub on_ok : {T E P Q : Type 0} (r : Result T E) → (P → Q) → OnOk r P → OnOk r Q
on_ok (Ok x) f p = f p
on_ok (Err e) f p = tt

-- ---- names

some_first : (o later : Option ℕ) → is_some o ≡ true → is_some (or_else o later) ≡ true
some_first (Some n) later e = refl
some_first None later e = absurd (cc)

some_last : (o : Option ℕ) (place : ℕ) → is_some (or_else o (Some place)) ≡ true
some_last (Some n) place = refl
some_last None place = refl

some_same : (m n : ℕ) → Some m ≡ Some n → m ≡ n
some_same m n e = cc

module _ {V : Type 0} (old new : Table V) (name : List ℕ) (place : ℕ) (puts : PutsName old new name place) where
  pub names_after : HasNamesOf old new
  names_after other e = ap is_some (puts other) ∙ some_first (place_in old other) _ e

  pub named_after : HasName new name
  named_after = ap is_some (puts name) ∙ ap (λ b. is_some (or_else (place_in old name) (cond b (Some place) None))) (same_itself name) ∙ some_last (place_in old name) place

pub names_kept : {V : Type 0} (old new : Table V) → IsKept old new → HasNamesOf old new
names_kept old new kept other e = ap is_some (kept.names other) ∙ e

-- ---- values

module _ {V : Type 0} (P : List ℕ → V → Type 0) (values : List V) (name : List ℕ) where
  there_more : (more : List V) (place : ℕ) → IsThere P values name place → IsThere P (values ++ more) name place
  there_more more place there = record {
    low = omega (arith, there.low, length-append values more);
    is = λ d. subst (P name) (sym (get_or-append values more d place there.low)) (there.is d);
  }

  there_last : (v : V) → P name v → IsThere P (values ++ v ∷ []) name (length values)
  there_last v right = record {
    low = omega (arith, length-append values (v ∷ []));
    is = λ d. subst (P name) (sym (get_or-append_seam values v [] d)) right;
  }

module _ {V : Type 0} (P : List ℕ → V → Type 0) (old new : Table V) (are : AreRight P old) where
  module _ (more : List V) (values : new.values.items ≡ old.values.items ++ more) where
    old_there : (name : List ℕ) (place : ℕ) → place_in old name ≡ Some place → IsThere P new.values.items name place
    old_there name place e = subst (λ vs. IsThere P vs name place) (sym values) (there_more P old.values.items name more place (are name place e))

    right_by_putting : (name : List ℕ) (place : ℕ) → PutsName old new name place → IsThere P new.values.items name place → AreRight P new
    right_by_putting name place puts there other k e = by (place_in old other) refl (sym (puts other) ∙ e)
      where
        last : (b : Bool) → same_text name other ≡ b → cond b (Some place) None ≡ Some k → IsThere P new.values.items other k
        last true same is = subst (λ o. IsThere P new.values.items o k) (same_from_test name other same) (subst (IsThere P new.values.items name) (some_same place k is) there)
        last false same is = absurd (cc)

        by : (o : Option ℕ) → place_in old other ≡ o → or_else o (cond (same_text name other) (Some place) None) ≡ Some k → IsThere P new.values.items other k
        by (Some j) was is = old_there other k (was ∙ is)
        by None was is = last (same_text name other) refl is

  pub right_named : (name : List ℕ) (place : ℕ) → IsThere P old.values.items name place → IsNamedAt old new name place → AreRight P new
  right_named name place there named =
      right_by_putting [] (named.values ∙ sym (append-nil old.values.items)) name place named.names (subst (λ vs. IsThere P vs name place) (sym named.values) there)

  pub right_added : (name : List ℕ) (value : V) → P name value → IsAdded old new name value → AreRight P new
  right_added name value right added =
      right_by_putting (value ∷ []) added.values name (length old.values.items) added.names
      (subst (λ vs. IsThere P vs name (length old.values.items)) (sym added.values) (there_last P old.values.items name value right))

  pub right_kept : IsKept old new → AreRight P new
  right_kept kept name place e = old_there kept.more kept.values name place (sym (kept.names name) ∙ e)

pub none_right : {V : Type 0} (P : List ℕ → V → Type 0) (t : Table V) → IsBare t → AreRight P t
none_right P t bare name place e = let no : None ≡ Some place = sym (bare.names name) ∙ e in absurd (cc)
