-- Maps are equal exactly where what is written for them is the same.
use Rattle.std.proofs.Common.{◌≡◌, ◌↔◌, ◌&&◌, inl, inr, ℕ, suc, Bool, true, false, cond, Some, List, [], ◌∷◌, map, refl, sym, ap, subst, ◌∙◌, arith}
use Rattle.std.specs.Cmp.Lexicographic.{pointwise, same_text}
use Rattle.std.proofs.lemmas.Bool.Decides.{Decides-int_eq}
use Rattle.model_tree.specs.Signature.{Sort, wholes, truths, texts, PlainField, PlainSignature, sorts_of}
use Rattle.model_grammar.specs.declared.Chain.{Chain}
use Rattle.model_grammar.specs.declared.Chain.TheVariants.{Disjunction, Conjunction, Sum, Product}
use Rattle.model_grammar.specs.declared.Rel.{Rel}
use Rattle.model_grammar.specs.declared.Rel.TheVariants.{Equal, NotEqual, Less, AtMost, Greater, AtLeast}
use Rattle.model_grammar.specs.Places.{nowhere, bare}
use Rattle.model_grammar.specs.Syntax.{Expr, field, number, text, truth, negation, compare, minus, chain}
use Rattle.model_label.specs.Fields.{same_name, same_sort, sort_at, is_field_of, has_field, number_at}
use Rattle.model_label.specs.Tests.{is_text}
use Rattle.model_form.specs.Same.{same_form}
use Rattle.model_guard.specs.Forms.{is_whole, form_of}
use Rattle.model_guard.specs.Guards.{is_guard}
use Rattle.model_run.specs.Plain.{IsSameLabel, AreSameLabels}
use Rattle.flat_label.specs.Texts.{side_eq, one_side}
use Rattle.record_label.specs.contracts.maps.RowEntryPartialEq.TheImpl as entry
use Rattle.record_label.specs.contracts.written.MarkPartialEq.TheImpl as mark
use Rattle.record_label.specs.contracts.written.WrittenPartialEq.TheImpl as kept
use Rattle.record_label.specs.declared.maps.RowEntry.{RowEntry}
use Rattle.record_label.specs.declared.maps.RowEntry.TheVariants.{Number, Truth, Text}
use Rattle.record_label.specs.declared.maps.RowMap.{RowMap}
use Rattle.record_label.specs.declared.written.Mark.{Mark}
use Rattle.record_label.specs.declared.written.Mark.TheVariants as piece
use Rattle.record_label.specs.declared.written.Written.{Written}
use Rattle.record_label.specs.Derived.{same_sides, sides_derived}
use Rattle.record_label.specs.Guards.{is_numeric, side_of}
use Rattle.record_label.specs.Maps.{number_by, truth_by, text_by, is_of_sort, AreOfSorts, IsEntryOf, AreEntriesOf}
use Rattle.record_label.specs.MapLaws.{both_true}
use Rattle.record_label.specs.PlainMaps.{plain_entry}
use Rattle.record_label.specs.Written.{plain_written, written_for, written_for_each}
use Rattle.record_label.proofs.CopyFacts.{same_entry, same_written}
use Rattle.record_label.proofs.GuardFacts.{whole_numeric, guard_not_numeric, text_not_numeric}
use Rattle.record_label.proofs.Pieces.{alike}
use Rattle.fast_build.specs.CarriedTrans.{same_maps}
use Rattle.fast_build.specs.Terms.{IsMapFor}
use Rattle.fast_build.proofs.Bare.{same_marks, same_forms, same_formulas}
use Rattle.fast_build.proofs.Bare as aside
use Rattle.fast_build.proofs.Naming.{same_from_test}

-- ---- pieces that are equal are the same

same_bool : (a b : Bool) → mark.eq-value.it (piece.Truth a) (piece.Truth b) ≡ true → a ≡ b
same_bool true true e = refl
same_bool true false e = cc
same_bool false true e = cc
same_bool false false e = refl

same_rel : (r s : Rel) → mark.eq-value.it (piece.Compare r) (piece.Compare s) ≡ true → r ≡ s
same_rel Equal Equal e = refl
same_rel NotEqual NotEqual e = refl
same_rel Less Less e = refl
same_rel AtMost AtMost e = refl
same_rel Greater Greater e = refl
same_rel AtLeast AtLeast e = refl
same_rel r s e = cc

same_kind : (k l : Chain) → mark.eq-value.it (piece.Chain k) (piece.Chain l) ≡ true → k ≡ l
same_kind Disjunction Disjunction e = refl
same_kind Conjunction Conjunction e = refl
same_kind Sum Sum e = refl
same_kind Product Product e = refl
same_kind k l e = cc

same_piece : (x y : Mark) → mark.eq-value.it x y ≡ true → x ≡ y
same_piece (piece.Field s) (piece.Field t) e = ap piece.Field (same_text s t (sym e))
same_piece (piece.Number m) (piece.Number n) e = ap piece.Number ((Decides-int_eq m n).0 e)
same_piece (piece.Constant s) (piece.Constant t) e = ap piece.Constant (same_text s t (sym e))
same_piece (piece.Truth a) (piece.Truth b) e = ap piece.Truth (same_bool a b e)
same_piece piece.Not piece.Not e = refl
same_piece piece.Minus piece.Minus e = refl
same_piece (piece.Compare r) (piece.Compare s) e = ap piece.Compare (same_rel r s e)
same_piece (piece.Chain k) (piece.Chain l) e = ap piece.Chain (same_kind k l e)
same_piece (piece.Part a) (piece.Part b) e = ap piece.Part (same_bool a b e)
same_piece piece.End piece.End e = refl
same_piece x y e = cc

same_pieces : (xs ys : List Mark) → pointwise mark.eq-value.it xs ys ≡ true → xs ≡ ys
same_pieces [] [] e = refl
same_pieces [] (y ∷ ys) e = cc
same_pieces (x ∷ xs) [] e = cc
same_pieces (x ∷ xs) (y ∷ ys) e = let parts = both_true (mark.eq-value.it x y) (pointwise mark.eq-value.it xs ys) e in λ i. same_piece x y parts.0 i ∷ same_pieces xs ys parts.1 i

same_kept : (v w : Written) → kept.eq-value.it v w ≡ true → plain_written v ≡ plain_written w
same_kept v w e = same_pieces v.marks.items w.marks.items e

-- ---- texts

not_there : {X : Type 0} (b : Bool) → b ≡ true → b ≡ false → X
not_there b is other = absurd (none (sym is ∙ other))
  where
    none : true ≡ false → ⊥
    none e = cc

module _ (sort : Sort) where
  -- a field of a sort is told by its number in the sort
  one_field : (fields : List PlainField) (x y : List ℕ) → has_field fields sort x ≡ true → has_field fields sort y ≡ true → number_at fields sort x ≡ number_at fields sort y → x ≡ y
  one_field [] x y has has' e = cc
  one_field (f ∷ fs) x y has has' e = by (same_name f.name x) refl (same_name f.name y) refl has has' e (one_field fs x y)
    where
      apart : {X : Type 0} (s : Bool) (n m : ℕ) → s ≡ true → 0 ≡ cond s (suc n) m → X
      apart true n m is e = absurd (omega (arith, e))
      apart false n m is e = not_there false is refl

      inner : (s : Bool) (n m : ℕ) → cond s (suc n) n ≡ cond s (suc m) m → n ≡ m
      inner true n m e = omega (arith, e)
      inner false n m e = e

      by : (a : Bool) → same_name f.name x ≡ a → (b : Bool) → same_name f.name y ≡ b → is_field_of sort (cond a (Some f.sort) (sort_at fs x)) ≡ true → is_field_of sort (cond b (Some f.sort) (sort_at fs y)) ≡ true
          → cond a 0 (cond (same_sort f.sort sort) (suc (number_at fs sort x)) (number_at fs sort x)) ≡ cond b 0 (cond (same_sort f.sort sort) (suc (number_at fs sort y)) (number_at fs sort y))
          → (has_field fs sort x ≡ true → has_field fs sort y ≡ true → number_at fs sort x ≡ number_at fs sort y → x ≡ y) → x ≡ y
      by true p true q h k e behind = sym (same_from_test f.name x p) ∙ same_from_test f.name y q
      by true p false q h k e behind = apart (same_sort f.sort sort) (number_at fs sort y) (number_at fs sort y) h e
      by false p true q h k e behind = apart (same_sort f.sort sort) (number_at fs sort x) (number_at fs sort x) k (sym e)
      by false p false q h k e behind = behind h k (inner (same_sort f.sort sort) (number_at fs sort x) (number_at fs sort y) e)

module _ (fields : List PlainField) where
  -- two texts with one side
  same_sided : (d e : Expr) → is_text fields d ≡ true → is_text fields e ≡ true → side_of fields d ≡ side_of fields e → bare d ≡ bare e
  same_sided (field p x) (field q y) has has' e = let same : number_at fields texts x ≡ number_at fields texts y = cc in ap (field nowhere) (one_field texts fields x y has has' same)
  same_sided (field p x) (text q t) has has' e = cc
  same_sided (text p s) (field q y) has has' e = cc
  same_sided (text p s) (text q t) has has' e = let same : s ≡ t = cc in ap (text nowhere) same
  same_sided d (number q n) has has' e = cc
  same_sided d (truth q b) has has' e = cc
  same_sided d (negation q f) has has' e = cc
  same_sided d (compare q rel f g) has has' e = cc
  same_sided d (minus q f) has has' e = cc
  same_sided d (chain kind q parts) has has' e = cc
  same_sided (number p n) e has has' is = cc
  same_sided (truth p b) e has has' is = cc
  same_sided (negation p f) e has has' is = cc
  same_sided (compare p rel f g) e has has' is = cc
  same_sided (minus p f) e has has' is = cc
  same_sided (chain kind p parts) e has has' is = cc

  -- what is a whole number is of no other sort
  no_guard : {X : Type 0} (e : Expr) → is_whole fields e ≡ true → is_guard fields e ≡ true → X
  no_guard e whole guard = not_there (is_numeric fields e) (whole_numeric fields e whole) (guard_not_numeric fields e guard)

  no_text : {X : Type 0} (e : Expr) → is_whole fields e ≡ true → is_text fields e ≡ true → X
  no_text e whole is = not_there (is_numeric fields e) (whole_numeric fields e whole) (text_not_numeric fields e is)

  of_sort : (s t : Sort) (e : Expr) → t ≡ s → is_of_sort fields s e ≡ true → is_of_sort fields t e ≡ true
  of_sort s t e same is = subst (λ k. is_of_sort fields k e ≡ true) (sym same) is

  module _ (s : Sort) (d e : Expr) (sorted : is_of_sort fields s d ≡ true) (sorted' : is_of_sort fields s e ≡ true) where
    -- equal entries are of the same label
    label_of_equal : (x y : RowEntry) → IsEntryOf fields d s (plain_entry x) → IsEntryOf fields e s (plain_entry y) → written_for s d ≡ written_for s e → entry.eq-value.it x y ≡ true → IsSameLabel fields d e
    label_of_equal (Number f) (Number g) is is' kept equal =
        inr (of_sort s wholes d is.of_sort sorted, of_sort s wholes e is.of_sort sorted', subst (λ h. same_form h (form_of fields e) ≡ true) is.written (subst (λ h. same_form f h ≡ true) is'.written equal))
    label_of_equal (Truth f) (Truth g) is is' kept equal = inl (alike d e (subst (λ k. written_for k d ≡ written_for k e) (sym is.of_sort) kept))
    label_of_equal (Text a) (Text b) is is' kept equal =
        inl (same_sided d e (of_sort s texts d is.of_sort sorted) (of_sort s texts e is.of_sort sorted') (sym is.written ∙ one_side a b (sym (side_eq same_sides sides_derived a b) ∙ equal) ∙ is'.written))
    label_of_equal (Number f) (Truth g) is is' kept equal = absurd (cc)
    label_of_equal (Number f) (Text b) is is' kept equal = absurd (cc)
    label_of_equal (Truth f) (Number g) is is' kept equal = absurd (cc)
    label_of_equal (Truth f) (Text b) is is' kept equal = absurd (cc)
    label_of_equal (Text a) (Number g) is is' kept equal = absurd (cc)
    label_of_equal (Text a) (Truth g) is is' kept equal = absurd (cc)

    -- entries of one sort are of one kind
    unlike : {X : Type 0} (t u : Sort) → t ≡ s → u ≡ s → (t ≡ u → ⊥) → X
    unlike t u is is' apart = absurd (apart (is ∙ sym is'))

    -- entries of the same label are equal
    equal_of_label : (x y : RowEntry) → IsEntryOf fields d s (plain_entry x) → IsEntryOf fields e s (plain_entry y) → IsSameLabel fields d e → entry.eq-value.it x y ≡ true
    equal_of_label (Number f) (Number g) is is' (inl same) = same_entry (Number f) (Number g) (ap number_by (is.written ∙ same_forms fields d e same ∙ sym is'.written))
    equal_of_label (Number f) (Number g) is is' (inr (whole, whole', same)) = subst (λ h. same_form h g ≡ true) (sym is.written) (subst (λ h. same_form (form_of fields d) h ≡ true) (sym is'.written) same)
    equal_of_label (Truth f) (Truth g) is is' (inl same) = same_entry (Truth f) (Truth g) (ap truth_by (is.written.1 ∙ same_formulas fields d e same ∙ sym is'.written.1))
    equal_of_label (Truth f) (Truth g) is is' (inr (whole, whole', same)) = no_guard d whole (of_sort s truths d is.of_sort sorted)
    equal_of_label (Text a) (Text b) is is' (inl same) = same_entry (Text a) (Text b) (ap text_by (is.written ∙ aside.same_sides fields d e same ∙ sym is'.written))
    equal_of_label (Text a) (Text b) is is' (inr (whole, whole', same)) = no_text d whole (of_sort s texts d is.of_sort sorted)
    equal_of_label (Number f) (Truth g) is is' same = unlike wholes truths is.of_sort is'.of_sort (λ k. cc)
    equal_of_label (Number f) (Text b) is is' same = unlike wholes texts is.of_sort is'.of_sort (λ k. cc)
    equal_of_label (Truth f) (Number g) is is' same = unlike truths wholes is.of_sort is'.of_sort (λ k. cc)
    equal_of_label (Truth f) (Text b) is is' same = unlike truths texts is.of_sort is'.of_sort (λ k. cc)
    equal_of_label (Text a) (Number g) is is' same = unlike texts wholes is.of_sort is'.of_sort (λ k. cc)
    equal_of_label (Text a) (Truth g) is is' same = unlike texts truths is.of_sort is'.of_sort (λ k. cc)

    -- and what is kept of them is the same
    kept_of_label : (t : Sort) → t ≡ s → IsSameLabel fields d e → written_for t d ≡ written_for t e
    kept_of_label wholes is same = refl
    kept_of_label truths is (inl same) = same_marks d e same
    kept_of_label truths is (inr (whole, whole', same)) = no_guard d whole (of_sort s truths d is sorted)
    kept_of_label texts is same = refl

  kept_of_labels : (sorts : List Sort) (ds es : List Expr) → AreOfSorts fields ds sorts → AreOfSorts fields es sorts → AreSameLabels fields ds es → written_for_each sorts ds ≡ written_for_each sorts es
  kept_of_labels sorts [] [] of of' same = refl
  kept_of_labels sorts [] (e ∷ es) of of' same = absurd same
  kept_of_labels sorts (d ∷ ds) [] of of' same = absurd same
  kept_of_labels [] (d ∷ ds) (e ∷ es) of of' same = absurd of
  kept_of_labels (s ∷ sorts) (d ∷ ds) (e ∷ es) of of' same = λ i. kept_of_label s d e of.0 of'.0 s refl same.0 i ∷ kept_of_labels sorts ds es of.1 of'.1 same.1 i

  entries_of_labels : (sorts : List Sort) (ds es : List Expr) (xs ys : List RowEntry) → AreOfSorts fields ds sorts → AreOfSorts fields es sorts → AreEntriesOf fields ds sorts (map plain_entry xs) → AreEntriesOf fields es sorts (map plain_entry ys) → AreSameLabels fields ds es
      → pointwise entry.eq-value.it xs ys ≡ true
  entries_of_labels sorts [] [] [] [] of of' are are' same = refl
  entries_of_labels sorts [] [] (x ∷ xs) ys of of' are are' same = absurd are
  entries_of_labels sorts [] [] [] (y ∷ ys) of of' are are' same = absurd are'
  entries_of_labels sorts [] (e ∷ es) xs ys of of' are are' same = absurd same
  entries_of_labels sorts (d ∷ ds) [] xs ys of of' are are' same = absurd same
  entries_of_labels [] (d ∷ ds) (e ∷ es) xs ys of of' are are' same = absurd of
  entries_of_labels (s ∷ sorts) (d ∷ ds) (e ∷ es) [] ys of of' are are' same = absurd are
  entries_of_labels (s ∷ sorts) (d ∷ ds) (e ∷ es) (x ∷ xs) [] of of' are are' same = absurd are'
  entries_of_labels (s ∷ sorts) (d ∷ ds) (e ∷ es) (x ∷ xs) (y ∷ ys) of of' are are' same =
      λ i. equal_of_label s d e of.0 of'.0 x y are.0 are'.0 same.0 i && entries_of_labels sorts ds es xs ys of.1 of'.1 are.1 are'.1 same.1 i

  labels_of_equal : (sorts : List Sort) (ds es : List Expr) (xs ys : List RowEntry) (vs ws : List Written) → AreOfSorts fields ds sorts → AreOfSorts fields es sorts → AreEntriesOf fields ds sorts (map plain_entry xs) → AreEntriesOf fields es sorts (map plain_entry ys)
      → map plain_written vs ≡ written_for_each sorts ds → map plain_written ws ≡ written_for_each sorts es → pointwise entry.eq-value.it xs ys ≡ true → pointwise kept.eq-value.it vs ws ≡ true → AreSameLabels fields ds es
  labels_of_equal [] [] [] xs ys vs ws of of' are are' for for' equal equal' = tt
  labels_of_equal [] [] (e ∷ es) xs ys vs ws of of' are are' for for' equal equal' = absurd of'
  labels_of_equal [] (d ∷ ds) es xs ys vs ws of of' are are' for for' equal equal' = absurd of
  labels_of_equal (s ∷ sorts) [] es xs ys vs ws of of' are are' for for' equal equal' = absurd of
  labels_of_equal (s ∷ sorts) (d ∷ ds) [] xs ys vs ws of of' are are' for for' equal equal' = absurd of'
  labels_of_equal (s ∷ sorts) (d ∷ ds) (e ∷ es) [] ys vs ws of of' are are' for for' equal equal' = absurd are
  labels_of_equal (s ∷ sorts) (d ∷ ds) (e ∷ es) (x ∷ xs) [] vs ws of of' are are' for for' equal equal' = absurd are'
  labels_of_equal (s ∷ sorts) (d ∷ ds) (e ∷ es) (x ∷ xs) (y ∷ ys) [] ws of of' are are' for for' equal equal' = absurd (cc)
  labels_of_equal (s ∷ sorts) (d ∷ ds) (e ∷ es) (x ∷ xs) (y ∷ ys) (v ∷ vs) [] of of' are are' for for' equal equal' = absurd (cc)
  labels_of_equal (s ∷ sorts) (d ∷ ds) (e ∷ es) (x ∷ xs) (y ∷ ys) (v ∷ vs) (w ∷ ws) of of' are are' for for' equal equal' =
      let entries = both_true (entry.eq-value.it x y) (pointwise entry.eq-value.it xs ys) equal in
      let keeps = both_true (kept.eq-value.it v w) (pointwise kept.eq-value.it vs ws) equal' in
      let first : plain_written v ≡ written_for s d = cc in
      let first' : plain_written w ≡ written_for s e = cc in
      let rest : map plain_written vs ≡ written_for_each sorts ds = cc in
      let rest' : map plain_written ws ≡ written_for_each sorts es = cc in (
        label_of_equal s d e of.0 of'.0 x y are.0 are'.0 (sym first ∙ same_kept v w keeps.0 ∙ first') entries.0,
        labels_of_equal sorts ds es xs ys vs ws of.1 of'.1 are.1 are'.1 rest rest' entries.1 keeps.1,
      )

-- maps for labels are equal exactly where the labels are the same
pub maps_same : (from into : PlainSignature) (ds es : List Expr) (m n : RowMap) → AreOfSorts from.fields ds (sorts_of into) → AreOfSorts from.fields es (sorts_of into) → IsMapFor from into ds m → IsMapFor from into es n → (same_maps m n ≡ true) ↔ AreSameLabels from.fields ds es
maps_same from into ds es m n of of' is is' = (
  (λ equal. (let parts = both_true (pointwise entry.eq-value.it m.entries.items n.entries.items) (pointwise kept.eq-value.it m.written.items n.written.items) equal in
      labels_of_equal from.fields (sorts_of into) ds es m.entries.items n.entries.items m.written.items n.written.items of of' is.entries is'.entries is.written is'.written parts.0 parts.1)),
  (λ same. (λ i. entries_of_labels from.fields (sorts_of into) ds es m.entries.items n.entries.items of of' is.entries is'.entries same i
      && same_written m.written.items n.written.items (is.written ∙ kept_of_labels from.fields (sorts_of into) ds es of of' same ∙ sym is'.written) i)),
)
