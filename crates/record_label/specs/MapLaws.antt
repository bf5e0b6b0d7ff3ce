-- The labels that a map makes have its sorts, and equal maps make equal labels.
use Rattle.std.specs.Prelude.{◌≡◌, Bool, true, false, List, [], ◌∷◌, map, refl}
use Rattle.std.specs.Cmp.Lexicographic.{pointwise}
use Rattle.std.proofs.Common.{ap, sym, subst, ◌∙◌, ◌&&◌}
use Rattle.model_tree.specs.Label.{Field, whole, truth, Label, row, pair}
use Rattle.model_tree.specs.Signature.{Sort, wholes, truths, texts, sort_of, HasSorts}
use Rattle.model_tree.proofs.Sorts.{have_these_sorts}
use Rattle.model_form.specs.Form.{Form}
use Rattle.model_form.specs.Same.{same_form}
use Rattle.model_form.proofs.Equals.{same_value}
use Rattle.model_form.proofs.Over.{over_same}
use Rattle.model_guard.specs.Forms.{wholes_in}
use Rattle.label_core.specs.Formula.{plain_formula}
use Rattle.label_core.specs.SameFormula.{same_formula}
use Rattle.label_core.specs.SameLaws.{same_holds, same_every}
use Rattle.label_core.specs.declared.formula.Formula.{Formula}
use Rattle.flat_label.specs.declared.texts.TextSide.{TextSide}
use Rattle.flat_label.specs.Texts.{IsSideEq, side_eq, one_side}
use Rattle.record_label.specs.declared.maps.RowEntry.{RowEntry}
use Rattle.record_label.specs.declared.maps.RowEntry.TheVariants.{Number, Truth, Text}
use Rattle.record_label.specs.Rows.{RowAtom, row_holds, RowFits, count_of}
use Rattle.record_label.specs.Maps.{Entry, number_by, truth_by, text_by, made_by, made, sort_by, EntryFits, EntriesFit}
use Rattle.record_label.specs.PlainMaps.{plain_entry}

made_sorts : (fields : List Field) (entries : List Entry) → map sort_of (map (made_by fields) entries) ≡ map sort_by entries
made_sorts fields [] = refl
made_sorts fields (number_by f ∷ entries) = ap (λ ss. wholes ∷ ss) (made_sorts fields entries)
made_sorts fields (truth_by f ∷ entries) = ap (λ ss. truths ∷ ss) (made_sorts fields entries)
made_sorts fields (text_by s ∷ entries) = ap (λ ss. texts ∷ ss) (made_sorts fields entries)

-- a label that is made has a value of the right sort for each entry
made_has : (entries : List Entry) (l : Label) → HasSorts (map sort_by entries) (made entries l)
made_has entries (row fields) = have_these_sorts (map sort_by entries) (map (made_by fields) entries) (made_sorts fields entries)
made_has entries (pair l m) = have_these_sorts (map sort_by entries) (map (made_by []) entries) (made_sorts [] entries)

pub made_labels : (sorts : List Sort) (entries : List Entry) (l : Label) → map sort_by entries ≡ sorts → HasSorts sorts (made entries l)
made_labels sorts entries l is = subst (λ ss. HasSorts ss (made entries l)) is (made_has entries l)

-- the equality of entries that is derived
pub record IsEntryEq (A : RowAtom → RowAtom → Bool) (S : TextSide → TextSide → Bool) (E : RowEntry → RowEntry → Bool) : Type 0 where
  pub numbers : (f g : Form) → E (Number f) (Number g) ≡ same_form f g
  pub formulas : (f g : Formula RowAtom) → E (Truth f) (Truth g) ≡ same_formula A (plain_formula f) (plain_formula g)
  pub sides : (s t : TextSide) → E (Text s) (Text t) ≡ S s t
  pub number_truth : (f : Form) (g : Formula RowAtom) → E (Number f) (Truth g) ≡ false
  pub number_text : (f : Form) (t : TextSide) → E (Number f) (Text t) ≡ false
  pub truth_number : (f : Formula RowAtom) (g : Form) → E (Truth f) (Number g) ≡ false
  pub truth_text : (f : Formula RowAtom) (t : TextSide) → E (Truth f) (Text t) ≡ false
  pub text_number : (s : TextSide) (g : Form) → E (Text s) (Number g) ≡ false
  pub text_truth : (s : TextSide) (g : Formula RowAtom) → E (Text s) (Truth g) ≡ false

pub both_true : (a b : Bool) → (a && b) ≡ true → (a ≡ true) × (b ≡ true)
both_true true b e = (refl, e)
both_true false b e = cc

module _ (A : RowAtom → RowAtom → Bool) (S : TextSide → TextSide → Bool) (same : IsSideEq S) (E : RowEntry → RowEntry → Bool) (is : IsEntryEq A S E) where
  -- entries of two kinds are not equal
  module _ (P : RowEntry → RowEntry → Type 0) (numbers : (f g : Form) → same_form f g ≡ true → P (Number f) (Number g))
      (formulas : (f g : Formula RowAtom) → same_formula A (plain_formula f) (plain_formula g) ≡ true → P (Truth f) (Truth g)) (sides : (s : TextSide) → P (Text s) (Text s)) where
    by_kind : (x y : RowEntry) → E x y ≡ true → P x y
    by_kind (Number f) (Number g) e = numbers f g (sym (is.numbers f g) ∙ e)
    by_kind (Number f) (Truth g) e = let none : false ≡ true = sym (is.number_truth f g) ∙ e in absurd cc
    by_kind (Number f) (Text t) e = let none : false ≡ true = sym (is.number_text f t) ∙ e in absurd cc
    by_kind (Truth f) (Number g) e = let none : false ≡ true = sym (is.truth_number f g) ∙ e in absurd cc
    by_kind (Truth f) (Truth g) e = formulas f g (sym (is.formulas f g) ∙ e)
    by_kind (Truth f) (Text t) e = let none : false ≡ true = sym (is.truth_text f t) ∙ e in absurd cc
    by_kind (Text s) (Number g) e = let none : false ≡ true = sym (is.text_number s g) ∙ e in absurd cc
    by_kind (Text s) (Truth g) e = let none : false ≡ true = sym (is.text_truth s g) ∙ e in absurd cc
    by_kind (Text s) (Text t) e = subst (λ u. P (Text s) (Text u)) (one_side s t (sym (side_eq S same s t) ∙ sym (is.sides s t) ∙ e)) (sides s)

  equal_sorts : (x y : RowEntry) → E x y ≡ true → sort_by (plain_entry x) ≡ sort_by (plain_entry y)
  equal_sorts = by_kind (λ x y. sort_by (plain_entry x) ≡ sort_by (plain_entry y)) (λ f g e. refl) (λ f g e. refl) (λ s. refl)

  pub equal_maps_sorts : (xs ys : List RowEntry) → pointwise E xs ys ≡ true → map sort_by (map plain_entry xs) ≡ map sort_by (map plain_entry ys)
  equal_maps_sorts [] [] e = refl
  equal_maps_sorts [] (y ∷ ys) e = cc
  equal_maps_sorts (x ∷ xs) [] e = cc
  equal_maps_sorts (x ∷ xs) (y ∷ ys) e = let both = both_true (E x y) (pointwise E xs ys) e in λ i. equal_sorts x y both.0 i ∷ equal_maps_sorts xs ys both.1 i

  pub equal_maps_make : (t : List Sort) (xs ys : List RowEntry) → pointwise E xs ys ≡ true → map sort_by (map plain_entry xs) ≡ t → map sort_by (map plain_entry ys) ≡ t
  equal_maps_make t xs ys e h = sym (equal_maps_sorts xs ys e) ∙ h

  module _ (equal : (a b : RowAtom) (l : Label) → A a b ≡ true → row_holds a l ≡ row_holds b l) where
    equal_fields : (fields : List Field) (x y : RowEntry) → E x y ≡ true → made_by fields (plain_entry x) ≡ made_by fields (plain_entry y)
    equal_fields fields =
        by_kind (λ x y. made_by fields (plain_entry x) ≡ made_by fields (plain_entry y)) (λ f g e. ap whole (same_value f g (wholes_in fields) e))
        (λ f g e. ap truth (same_holds A (λ a. row_holds a (row fields)) (λ a b. equal a b (row fields)) (plain_formula f) (plain_formula g) e)) (λ s. refl)

    equal_rows : (fields : List Field) (xs ys : List RowEntry) → pointwise E xs ys ≡ true → map (made_by fields) (map plain_entry xs) ≡ map (made_by fields) (map plain_entry ys)
    equal_rows fields [] [] e = refl
    equal_rows fields [] (y ∷ ys) e = cc
    equal_rows fields (x ∷ xs) [] e = cc
    equal_rows fields (x ∷ xs) (y ∷ ys) e = let both = both_true (E x y) (pointwise E xs ys) e in λ i. equal_fields fields x y both.0 i ∷ equal_rows fields xs ys both.1 i

    -- equal maps make equal labels
    pub equal_made : (xs ys : List RowEntry) (l : Label) → pointwise E xs ys ≡ true → made (map plain_entry xs) l ≡ made (map plain_entry ys) l
    equal_made xs ys (row fields) e = ap row (equal_rows fields xs ys e)
    equal_made xs ys (pair l m) e = ap row (equal_rows [] xs ys e)

  module _ (sorts : List Sort) (equal : (a b : RowAtom) → A a b ≡ true → RowFits sorts a → RowFits sorts b) where
    equal_entry_fits : (x y : RowEntry) → E x y ≡ true → EntryFits sorts (plain_entry x) → EntryFits sorts (plain_entry y)
    equal_entry_fits =
        by_kind (λ x y. EntryFits sorts (plain_entry x) → EntryFits sorts (plain_entry y)) (λ f g e. over_same (count_of wholes sorts) f g e)
        (λ f g e. same_every A (RowFits sorts) equal (plain_formula f) (plain_formula g) e) (λ s h. h)

    -- a map fits where an equal one does
    pub equal_maps_fit : (xs ys : List RowEntry) → pointwise E xs ys ≡ true → EntriesFit sorts (map plain_entry xs) → EntriesFit sorts (map plain_entry ys)
    equal_maps_fit [] [] e h = tt
    equal_maps_fit [] (y ∷ ys) e h = absurd cc
    equal_maps_fit (x ∷ xs) [] e h = absurd cc
    equal_maps_fit (x ∷ xs) (y ∷ ys) e h = let both = both_true (E x y) (pointwise E xs ys) e in (equal_entry_fits x y both.0 h.0, equal_maps_fit xs ys both.1 h.1)
