-- Labels of truth values.
use Rattle.std.specs.Prelude.{◌≡◌, ◌<◌, ◌==◌, ◌↔◌, ℕ, Bool, true, false, List, length, map, slice_index_or, refl}
use Rattle.std.specs.declared.cmp.Ordering.TheVariants.{Equal}
use Rattle.std.specs.Ordering.{bool_cmp}
use Rattle.std.specs.Cmp.Lexicographic.{slice_cmp}
use Rattle.std.proofs.Common.{ap, arith}
use Rattle.std.proofs.Math.ListN.{get_or-map}
use Rattle.std.proofs.lemmas.Bool.Decides.{nat_tests}
use Rattle.model_tree.specs.Label.{Field, whole, truth, text, Label, row, pair}
use Rattle.flat_label.specs.Lists.{equal_lists, same_from_images}

abbrev pub bools_label : List Bool → Label
bools_label bs = row (map truth bs)

abbrev pub is_true : Field → Bool
is_true (whole n) = false
is_true (truth b) = b
is_true (text t) = false

-- whether the field is true
abbrev pub truth_at : ℕ → Label → Bool
truth_at k (row fields) = is_true (slice_index_or fields k (truth false))
truth_at k (pair l m) = false

-- a label of so many truth values
abbrev pub IsBools : ℕ → Label → Type 0
IsBools fields l = (bs : List Bool) × (length bs ≡ fields) × (l ≡ bools_label bs)

cmp_exact : (a b : Bool) → (bool_cmp a b ≡ Equal) ↔ (a ≡ b)
cmp_exact true true = (λ e. refl, λ e. refl)
cmp_exact true false = (λ e. cc, λ e. cc)
cmp_exact false true = (λ e. cc, λ e. cc)
cmp_exact false false = (λ e. refl, λ e. refl)

same_truth : (a b : Bool) → truth a ≡ truth b → a ≡ b
same_truth a b e = cc

same_from_label : (xs ys : List Bool) → bools_label xs ≡ bools_label ys → xs ≡ ys
same_from_label xs ys e = let fields : map truth xs ≡ map truth ys = cc in same_from_images truth same_truth xs ys fields

pub truth_at_label : (k : ℕ) (bs : List Bool) → truth_at k (bools_label bs) ≡ slice_index_or bs k false
truth_at_label k bs = ap is_true (get_or-map truth bs k false)

pub length_of_label : (n : ℕ) (bs : List Bool) → IsBools n (bools_label bs) → length bs ≡ n
length_of_label n bs h = rw (same_from_label bs h.0 h.2) h.1

pub equal_bools : (xs ys : List Bool) → (slice_cmp bool_cmp xs ys ≡ Equal) ↔ (bools_label xs ≡ bools_label ys)
equal_bools xs ys =
    let exact = equal_lists bool_cmp cmp_exact xs ys in (λ e. ap bools_label (exact.0 e), λ e. exact.1 (same_from_label xs ys e))

pub equal_fields : (k m : ℕ) (l : Label) → (k == m) ≡ true → truth_at k l ≡ truth_at m l
equal_fields k m l e = let same : k ≡ m = grind (arith, nat_tests) in ap (λ n. truth_at n l) same

pub equal_fields_fit : (k m n : ℕ) → (k == m) ≡ true → k < n → m < n
equal_fields_fit k m n e = let same : k ≡ m = grind (arith, nat_tests) in λ l. rw (← same) l
