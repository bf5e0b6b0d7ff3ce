-- Labels that compare equal.
use Rattle.std.specs.Prelude.{◌≡◌, ◌≢◌, ◌↔◌, ℕ, ℤ, List, map, refl}
use Rattle.std.specs.Prelude as std
use Rattle.std.specs.declared.cmp.Ordering.{Ordering}
use Rattle.std.specs.declared.cmp.Ordering.TheVariants.{Less, Equal, Greater}
use Rattle.std.specs.Ordering.{int_cmp, bool_cmp, nat_cmp, ordering_reverse}
use Rattle.std.specs.Cmp.{IsTotalOrder, bool_cmp_total}
use Rattle.std.specs.Cmp.Lexicographic.{slice_cmp}
use Rattle.std.proofs.Common.{ap, sym, subst, ◌∙◌}
use Rattle.std.proofs.lemmas.Cmp.{int_cmp_total, nat_list_cmp_total}
use Rattle.std.proofs.lemmas.Map.Lookups.{exact_signed, exact_bytes}
use Rattle.model_tree.specs.Label.{row}
use Rattle.fast_tree.specs.declared.label.Label.{Label}
use Rattle.fast_tree.specs.declared.label.Value.{Value}
use Rattle.fast_tree.specs.declared.label.Value.TheVariants.{Int, Bool, Text}
use Rattle.fast_tree.specs.Entries.{entries_of, field_of, label_meaning}
use Rattle.flat_label.specs.Lists.{equal_lists, same_from_images}

-- the order that is derived
pub record IsValueOrder (C : Value → Value → Ordering) : Type 0 where
  pub numbers : (m n : ℤ) → C (Int m) (Int n) ≡ int_cmp m n
  pub truths : (a b : std.Bool) → C (Bool a) (Bool b) ≡ bool_cmp a b
  pub texts : (s t : List ℕ) → C (Text s) (Text t) ≡ slice_cmp nat_cmp s t
  pub number_truth : (n : ℤ) (b : std.Bool) → C (Int n) (Bool b) ≡ Less
  pub number_text : (n : ℤ) (t : List ℕ) → C (Int n) (Text t) ≡ Less
  pub truth_number : (b : std.Bool) (n : ℤ) → C (Bool b) (Int n) ≡ Greater
  pub truth_text : (b : std.Bool) (t : List ℕ) → C (Bool b) (Text t) ≡ Less
  pub text_number : (t : List ℕ) (n : ℤ) → C (Text t) (Int n) ≡ Greater
  pub text_truth : (t : List ℕ) (b : std.Bool) → C (Text t) (Bool b) ≡ Greater

own : (o : Ordering) → o ≡ ordering_reverse o → o ≡ Equal
own Less e = cc
own Equal e = refl
own Greater e = cc

same_bool : (a b : std.Bool) → bool_cmp a b ≡ Equal → a ≡ b
same_bool std.true std.true e = refl
same_bool std.true std.false e = cc
same_bool std.false std.true e = cc
same_bool std.false std.false e = refl

module _ {X : Type 0} (R : X → X → Ordering) (total : IsTotalOrder R) where
  itself : (x : X) → R x x ≡ Equal
  itself x = own (R x x) (total.antisymm x x)

module _ (C : Value → Value → Ordering) (is : IsValueOrder C) where
  same_value : (x y : Value) → C x y ≡ Equal → x ≡ y
  same_value (Int m) (Int n) e = ap Int (exact_signed m n (sym (is.numbers m n) ∙ e))
  same_value (Int m) (Bool b) e = let no : Less ≡ Equal = sym (is.number_truth m b) ∙ e in cc
  same_value (Int m) (Text t) e = let no : Less ≡ Equal = sym (is.number_text m t) ∙ e in cc
  same_value (Bool b) (Int n) e = let no : Greater ≡ Equal = sym (is.truth_number b n) ∙ e in cc
  same_value (Bool a) (Bool b) e = ap Bool (same_bool a b (sym (is.truths a b) ∙ e))
  same_value (Bool b) (Text t) e = let no : Less ≡ Equal = sym (is.truth_text b t) ∙ e in cc
  same_value (Text t) (Int n) e = let no : Greater ≡ Equal = sym (is.text_number t n) ∙ e in cc
  same_value (Text t) (Bool b) e = let no : Greater ≡ Equal = sym (is.text_truth t b) ∙ e in cc
  same_value (Text s) (Text t) e = ap Text (exact_bytes s t (sym (is.texts s t) ∙ e))

  equal_itself : (x : Value) → C x x ≡ Equal
  equal_itself (Int n) = is.numbers n n ∙ itself int_cmp int_cmp_total n
  equal_itself (Bool b) = is.truths b b ∙ itself bool_cmp bool_cmp_total b
  equal_itself (Text t) = is.texts t t ∙ itself (slice_cmp nat_cmp) nat_list_cmp_total t

  exact : (x y : Value) → (C x y ≡ Equal) ↔ (x ≡ y)
  exact x y = (same_value x y, λ e. subst (λ z. C x z ≡ Equal) e (equal_itself x))

  same_from_field : (x y : Value) → field_of x ≡ field_of y → x ≡ y
  same_from_field (Int m) (Int n) e = cc
  same_from_field (Int m) (Bool b) e = cc
  same_from_field (Int m) (Text t) e = cc
  same_from_field (Bool b) (Int n) e = cc
  same_from_field (Bool a) (Bool b) e = cc
  same_from_field (Bool b) (Text t) e = cc
  same_from_field (Text t) (Int n) e = cc
  same_from_field (Text t) (Bool b) e = cc
  same_from_field (Text s) (Text t) e = cc

  -- values compare equal exactly where they stand for one label
  pub equal_labels : (v w : Label) → (slice_cmp C (entries_of v) (entries_of w) ≡ Equal) ↔ (label_meaning v ≡ label_meaning w)
  equal_labels v w =
      let both = equal_lists C exact (entries_of v) (entries_of w) in
      (λ e. ap (λ values. row (map field_of values)) (both.0 e), λ e. let fields : map field_of (entries_of v) ≡ map field_of (entries_of w) = cc in both.1 (same_from_images field_of same_from_field (entries_of v) (entries_of w) fields))
