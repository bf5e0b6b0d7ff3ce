-- The entries that label expressions are.
use Rattle.std.proofs.Common.{◌≡◌, ℕ, zero, suc, ◌<◌, ◌≤◌, ◌+◌, ◌++◌, Bool, cond, Some, None, List, [], ◌∷◌, map, length, take, get_or, true, false, refl, ap, sym, ◌∙◌, subst, arith}
use Rattle.std.proofs.Math.IntN.{ℤ}
use Rattle.std.proofs.lemmas.List.{take_more, map-append, get_or-map, length-map, length-take-le}
use Rattle.fast_syntax.specs.declared.expressions.Expr.{Expr as Written}
use Rattle.fast_syntax.specs.Plain.{plain_expr}
use Rattle.fast_tree.specs.declared.signature.FieldOf.{FieldOf}
use Rattle.fast_tree.specs.Signatures.{plain_sort, plain_field}
use Rattle.record_label.specs.declared.maps.RowEntry.{RowEntry}
use Rattle.record_label.specs.PlainMaps.{plain_entry}
use Rattle.record_label.specs.Written.{plain_written, written_for, written_for_each}
use Rattle.record_label.specs.declared.written.Written.{Written as Kept}
use Rattle.flat_label.specs.declared.texts.TextSide.{TextSide}
use Rattle.model_tree.specs.Limits.{most_fields}
use Rattle.model_tree.specs.Label.{whole, truth}
use Rattle.model_tree.specs.Signature.{Sort, wholes, truths, texts, PlainField}
use Rattle.model_tree.specs.Formula.{Formula}
use Rattle.model_grammar.specs.Syntax.{Expr}
use Rattle.model_label.specs.Meaning.{value_of}
use Rattle.model_label.specs.Tests.{is_text}
use Rattle.model_form.specs.Form.{Form}
use Rattle.model_guard.specs.Forms.{form_of, forms_in, is_whole, HasOutside}
use Rattle.model_guard.specs.Guards.{is_guard}
use Rattle.model_guard.proofs.Values.{form_value, form_over, whole_sort, guard_sort}
use Rattle.record_label.specs.Rows.{RowAtom, count_of}
use Rattle.record_label.specs.Guards.{IsGuardOf, formula_in, side_of}
use Rattle.record_label.specs.Maps.{Entry, number_by, truth_by, text_by, is_of_sort, AreOfSorts, forms_in_each, IsEntryOf, AreEntriesOf}
use Rattle.record_label.proofs.FieldFacts.{number_low}
use Rattle.record_label.proofs.FormFacts.{outside_left, outside_right}
use Rattle.record_label.proofs.GuardFacts.{text_value, side_fits, whole_of_sort, truth_of_sort}

module _ (fields : List PlainField) where
  pub number_entry : length fields ≤ most_fields → (e : Expr) (f : Form) → is_whole fields e ≡ true → f ≡ form_of fields e → IsEntryOf fields e wholes (number_by f)
  number_entry few e f h is = subst (λ g. IsEntryOf fields e wholes (number_by g)) (sym is) (record {
    makes = λ values sorts. ap whole (form_value fields values few sorts e h) ∙ sym (whole_of_sort (value_of fields values e) (whole_sort fields values e sorts h));
    written = refl;
    fit = form_over fields (count_of wholes (map (λ x. x.sort) fields)) (λ name has. number_low fields wholes name has) e;
    of_sort = refl;
  })

  pub truth_entry : (e : Expr) (f : Formula RowAtom) → is_guard fields e ≡ true → IsGuardOf fields e f → f ≡ formula_in fields e → IsEntryOf fields e truths (truth_by f)
  truth_entry e f h is same = record {
    makes = λ values sorts. ap truth (is.holds values sorts) ∙ sym (truth_of_sort (value_of fields values e) (guard_sort fields values e sorts h));
    written = (is, same);
    fit = is.fit;
    of_sort = refl;
  }

  pub text_entry : (e : Expr) → is_text fields e ≡ true → IsEntryOf fields e texts (text_by (side_of fields e))
  text_entry e h = record {
    makes = λ values sorts. sym (text_value fields values e sorts h);
    written = refl;
    fit = side_fits fields e h;
    of_sort = refl;
  }

  pub many_sorts : (es : List Expr) (sorts : List Sort) → AreOfSorts fields es sorts → length es ≡ length sorts
  many_sorts [] [] h = refl
  many_sorts [] (s ∷ sorts) h = absurd h
  many_sorts (e ∷ es) [] h = absurd h
  many_sorts (e ∷ es) (s ∷ sorts) h = ap suc (many_sorts es sorts h.1)

  pub sorted_at : (es : List Expr) (sorts : List Sort) (i : ℕ) (d : Expr) (s : Sort) → AreOfSorts fields es sorts → i < length es → is_of_sort fields (get_or sorts i s) (get_or es i d) ≡ true
  sorted_at [] sorts i d s h l = absurd (omega (arith, l))
  sorted_at (e ∷ es) [] i d s h l = absurd h
  sorted_at (e ∷ es) (t ∷ sorts) zero d s h l = h.0
  sorted_at (e ∷ es) (t ∷ sorts) (suc i) d s h l = sorted_at es sorts i d s h.1 (omega (arith, l))

  pub outside_at : (es : List Expr) (i : ℕ) (d : Expr) (n : ℤ) → i < length es → HasOutside (forms_in fields (get_or es i d)) n → HasOutside (forms_in_each fields es) n
  outside_at [] i d n l o = absurd (omega (arith, l))
  outside_at (e ∷ es) zero d n l o = outside_left (forms_in fields e) (forms_in_each fields es) n o
  outside_at (e ∷ es) (suc i) d n l o = outside_right (forms_in fields e) (forms_in_each fields es) n (outside_at es i d n (omega (arith, l)) o)

  -- one more entry at the end
  pub entries_push : (es : List Expr) (sorts : List Sort) (entries : List Entry) (e : Expr) (s : Sort) (x : Entry) → length es ≡ length sorts → AreEntriesOf fields es sorts entries → IsEntryOf fields e s x → AreEntriesOf fields (es ++ e ∷ []) (sorts ++ s ∷ []) (entries ++ x ∷ [])
  entries_push [] [] [] e s x many are is = (is, tt)
  entries_push [] (t ∷ sorts) entries e s x many are is = absurd (omega (arith, many))
  entries_push [] [] (y ∷ entries) e s x many are is = absurd are
  entries_push (d ∷ es) [] entries e s x many are is = absurd (omega (arith, many))
  entries_push (d ∷ es) (t ∷ sorts) [] e s x many are is = absurd are
  entries_push (d ∷ es) (t ∷ sorts) (y ∷ entries) e s x many are is = (are.0, entries_push es sorts entries e s x (omega (arith, many)) are.1 is)

-- the sorts and the expressions up to a place, and what is kept of one more
pub kept_push : (sorts : List Sort) (es : List Expr) (s : Sort) (e : Expr) → length es ≡ length sorts → written_for_each (sorts ++ s ∷ []) (es ++ e ∷ []) ≡ written_for_each sorts es ++ written_for s e ∷ []
kept_push [] [] s e many = refl
kept_push [] (d ∷ es) s e many = absurd (omega (arith, many))
kept_push (t ∷ sorts) [] s e many = absurd (omega (arith, many))
kept_push (t ∷ sorts) (d ∷ es) s e many = ap (λ ws. written_for t d ∷ ws) (kept_push sorts es s e (omega (arith, many)))

pub given_side : (b : Bool) (s t : TextSide) → b ≡ true → Some s ≡ cond b (Some t) None → s ≡ t
given_side true s t e h = cc
given_side false s t e h = cc

-- the sort of a field of the type that is made
pub sort_at : (items : List FieldOf) (i : ℕ) (d : FieldOf) → i < length items → get_or (map (λ (f : PlainField). f.sort) (map plain_field items)) i (plain_sort d.sort) ≡ plain_sort (get_or items i d).sort
sort_at items i d l =
    get_or-map (λ (f : PlainField). f.sort) (map plain_field items) i (plain_field d) (plain_sort d.sort) (omega (arith, l, length-map items plain_field)) ∙ ap (λ (f : PlainField). f.sort) (get_or-map plain_field items i d (plain_field d) l)

-- what is kept of the expressions up to a place, and one more
module _ (es : List Written) (items : List FieldOf) (many : length es ≡ length items) (i : ℕ) (e : Written) (f : FieldOf) (l : i < length es) (e_is : e ≡ get_or es i e) (f_is : f ≡ get_or items i f) where
  abbrev sorts : List Sort
  sorts = map (λ (g : PlainField). g.sort) (map plain_field items)

  pub kept_more : (made now : List Kept) (x : Kept) → now ≡ made ++ x ∷ [] → map plain_written made ≡ written_for_each (take i sorts) (take i (map plain_expr es)) → plain_written x ≡ written_for (plain_sort f.sort) (plain_expr e) → map plain_written now ≡ written_for_each (take (i + 1) sorts) (take (i + 1) (map plain_expr es))
  kept_more made now x pushed before own =
      let among : i < length (map plain_expr es) = omega (arith, l, length-map es plain_expr) in
      let low : i < length sorts = omega (arith, l, many, length-map (map plain_field items) (λ (g : PlainField). g.sort), length-map items plain_field) in
      let expr_is : get_or (map plain_expr es) i (plain_expr e) ≡ plain_expr e = get_or-map plain_expr es i e (plain_expr e) l ∙ ap plain_expr (sym e_is) in
      let sort_is : get_or sorts i (plain_sort f.sort) ≡ plain_sort f.sort = sort_at items i f (omega (arith, l, many)) ∙ ap (λ (g : FieldOf). plain_sort g.sort) (sym f_is) in
      let front : take (i + 1) (map plain_expr es) ≡ take i (map plain_expr es) ++ plain_expr e ∷ [] = take_more (map plain_expr es) i (plain_expr e) among ∙ ap (λ y. take i (map plain_expr es) ++ y ∷ []) expr_is in
      let front' : take (i + 1) sorts ≡ take i sorts ++ plain_sort f.sort ∷ [] = take_more sorts i (plain_sort f.sort) low ∙ ap (λ y. take i sorts ++ y ∷ []) sort_is in
      let few : length (take i (map plain_expr es)) ≡ length (take i sorts) = length-take-le i (map plain_expr es) (omega (arith, among)) ∙ sym (length-take-le i sorts (omega (arith, low))) in
      ap (map plain_written) pushed ∙ map-append plain_written made (x ∷ []) ∙ (λ j. before j ++ own j ∷ [])
      ∙ sym ((λ j. written_for_each (front' j) (front j)) ∙ kept_push (take i sorts) (take i (map plain_expr es)) (plain_sort f.sort) (plain_expr e) few)

module _ (fields : List PlainField) (es : List Written) (items : List FieldOf) (sorted : AreOfSorts fields (map plain_expr es) (map (λ (f : PlainField). f.sort) (map plain_field items))) where
  pub many_labels : length es ≡ length items
  many_labels = sym (length-map es plain_expr) ∙ many_sorts fields (map plain_expr es) (map (λ (f : PlainField). f.sort) (map plain_field items)) sorted ∙ length-map (map plain_field items) (λ (f : PlainField). f.sort) ∙ length-map items plain_field

  module _ (i : ℕ) (e : Written) (f : FieldOf) (l : i < length es) (e_is : e ≡ get_or es i e) (f_is : f ≡ get_or items i f) where
    inside : i < length items
    inside = omega (arith, l, many_labels)

    among : i < length (map plain_expr es)
    among = omega (arith, l, length-map es plain_expr)

    sort_is : get_or (map (λ (g : PlainField). g.sort) (map plain_field items)) i (plain_sort f.sort) ≡ plain_sort f.sort
    sort_is = sort_at items i f inside ∙ ap (λ (g : FieldOf). plain_sort g.sort) (sym f_is)

    expr_is : get_or (map plain_expr es) i (plain_expr e) ≡ plain_expr e
    expr_is = get_or-map plain_expr es i e (plain_expr e) l ∙ ap plain_expr (sym e_is)

    pub label_sorted : is_of_sort fields (plain_sort f.sort) (plain_expr e) ≡ true
    label_sorted = (λ j. is_of_sort fields (sym sort_is j) (sym expr_is j)) ∙ sorted_at fields (map plain_expr es) (map (λ (g : PlainField). g.sort) (map plain_field items)) i (plain_expr e) (plain_sort f.sort) sorted among

    pub label_outside : (n : ℤ) → HasOutside (forms_in fields (plain_expr e)) n → HasOutside (forms_in_each fields (map plain_expr es)) n
    label_outside n o = outside_at fields (map plain_expr es) i (plain_expr e) n among (subst (λ x. HasOutside (forms_in fields x) n) (sym expr_is) o)

    pub entries_more : (made now : List RowEntry) (x : RowEntry) → now ≡ made ++ x ∷ [] → AreEntriesOf fields (take i (map plain_expr es)) (take i (map (λ (g : PlainField). g.sort) (map plain_field items))) (map plain_entry made) → IsEntryOf fields (plain_expr e) (plain_sort f.sort) (plain_entry x)
        → AreEntriesOf fields (take (i + 1) (map plain_expr es)) (take (i + 1) (map (λ (g : PlainField). g.sort) (map plain_field items))) (map plain_entry now)
    entries_more made now x pushed are is =
        let sorts = map (λ (g : PlainField). g.sort) (map plain_field items) in
        let many : length (map plain_expr es) ≡ length sorts = many_sorts fields (map plain_expr es) sorts sorted in
        let low : i < length sorts = omega (arith, among, many) in
        let front : take i (map plain_expr es) ++ plain_expr e ∷ [] ≡ take (i + 1) (map plain_expr es) = sym (take_more (map plain_expr es) i (plain_expr e) among ∙ ap (λ y. take i (map plain_expr es) ++ y ∷ []) expr_is) in
        let front' : take i sorts ++ plain_sort f.sort ∷ [] ≡ take (i + 1) sorts = sym (take_more sorts i (plain_sort f.sort) low ∙ ap (λ y. take i sorts ++ y ∷ []) sort_is) in
        let all : map plain_entry made ++ plain_entry x ∷ [] ≡ map plain_entry now = sym (ap (map plain_entry) pushed ∙ map-append plain_entry made (x ∷ [])) in
        let few : length (take i (map plain_expr es)) ≡ length (take i sorts) = length-take-le i (map plain_expr es) (omega (arith, among)) ∙ sym (length-take-le i sorts (omega (arith, low))) in
        subst (λ ys. AreEntriesOf fields ys (take (i + 1) sorts) (map plain_entry now)) front (subst (λ ys. AreEntriesOf fields (take i (map plain_expr es) ++ plain_expr e ∷ []) ys (map plain_entry now)) front'
        (subst (AreEntriesOf fields (take i (map plain_expr es) ++ plain_expr e ∷ []) (take i sorts ++ plain_sort f.sort ∷ [])) all (entries_push fields (take i (map plain_expr es)) (take i sorts) (map plain_entry made) (plain_expr e) (plain_sort f.sort) (plain_entry x) few are is)))
