-- Sets of constants.
use Rattle.std.proofs.Common.{◌≡◌, ℕ, Bool, true, false, if◌then◌else◌, List, [], ◌∷◌, ◌++◌, Some, slice_get, Contains, refl, sym, subst, ◌∙◌, eqb-true, eq-eqb}
use Rattle.std.specs.Prelude.{nat_eq}
use Rattle.std.specs.Cmp.Lexicographic.{pointwise}
use Rattle.std.specs.List.{list_any}
use Rattle.std.proofs.lemmas.List.Elements.{Contains-append_left}
use Rattle.std.proofs.lemmas.List.Folds.{list_any_at, Any-from_list_any}
use Rattle.std.proofs.lemmas.Option.{slice_get_within, get_or_from_slice_get}
use Rattle.std.proofs.lemmas.Slice.Eq.{slice_eq-Decides}

pub one_text : (s t : List ℕ) → pointwise nat_eq s t ≡ true → s ≡ t
one_text s t e = (slice_eq-Decides (λ x y. (eqb-true x y, eq-eqb x y)) s t (pointwise nat_eq s t) refl).0 e

pub same_text : (s : List ℕ) → pointwise nat_eq s s ≡ true
same_text s = (slice_eq-Decides (λ x y. (eqb-true x y, eq-eqb x y)) s s (pointwise nat_eq s s) refl).1 refl

-- a text that is put into a set is in it, with all that were there
pub put_in : (keys : List (List ℕ)) (t : List ℕ) (number : ℕ) → ((k : List ℕ) × (slice_get keys number ≡ Some k) × (pointwise nat_eq t k ≡ true)) → Contains keys t
put_in keys t number (k, at, same) = (number, slice_get_within keys number k at, get_or_from_slice_get keys number k t at ∙ sym (one_text t k same))

pub still_in : (keys keys' : List (List ℕ)) (t : List ℕ) → keys' ≡ (if list_any (pointwise nat_eq t) keys then keys else keys ++ t ∷ []) → (s : List ℕ) → Contains keys s → Contains keys' s
still_in keys keys' t e s there = subst (λ l. Contains l s) (sym e) (by (list_any (pointwise nat_eq t) keys))
  where
    by : (b : Bool) → Contains (if b then keys else keys ++ t ∷ []) s
    by true = there
    by false = Contains-append_left keys (t ∷ []) s there

-- a text that isn't found is not in the set
pub not_in : (keys : List (List ℕ)) (t : List ℕ) → list_any (pointwise nat_eq t) keys ≡ false → ¬ (Contains keys t)
not_in keys t none (k, low, is) = let some = list_any_at (pointwise nat_eq t) keys k t low (subst (λ s. pointwise nat_eq t s ≡ true) (sym is) (same_text t)) in let no : true ≡ false = sym some ∙ none in cc

pub is_in : (keys : List (List ℕ)) (t : List ℕ) → list_any (pointwise nat_eq t) keys ≡ true → Contains keys t
is_in keys t some = let (k, x, low, at, same) = Any-from_list_any (pointwise nat_eq t) keys some in subst (Contains keys) (sym (one_text t x same)) (k, low, at)
