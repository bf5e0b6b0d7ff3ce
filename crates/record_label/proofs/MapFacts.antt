-- What entries that are put for fields say.
use Rattle.std.proofs.Common.{◌≡◌, ℕ, zero, suc, ◌≤◌, List, [], ◌∷◌, map, get_or, Bool, false, not, cond, ◌||◌, refl, ap, sym, ◌∙◌, ◌+◌, ◌++◌, ◌&&◌, true, take, Contains, ◌<◌, ℤ, length, arith, subst}
use Rattle.std.proofs.Math.ListN.{get_or-map}
use Rattle.std.proofs.lemmas.List.{get_or-map as get_or-map_at, length-map, take_more, map-append}
use Rattle.std.proofs.lemmas.List.Elements.{Contains-get_or}
use Rattle.std.proofs.lemmas.List.Folds.{list_all-append}
use Rattle.std.specs.List.{list_all}
use Rattle.model_tree.specs.Limits.{most_fields}
use Rattle.model_tree.specs.Kept.{is_kept_field}
use Rattle.fast_tree.specs.declared.label.Value.{Value}
use Rattle.fast_tree.specs.Entries.{field_of}
use Rattle.record_label.specs.declared.maps.RowEntry.{RowEntry}
use Rattle.record_label.specs.PlainMaps.{plain_entry}
use Rattle.std.specs.Str.{bytes_eq}
use Rattle.model_tree.specs.Label.{Field, row, whole, truth, text}
use Rattle.model_tree.specs.Signature.{Sort, wholes, truths, texts}
use Rattle.model_tree.specs.Formula.{Formula, yes, no, atom, negation, all_of, some_of, Formulas, no_formulas, formula, formula_holds, all_hold, some_hold, EveryAtom, EveryAtomOfAll}
use Rattle.model_form.specs.Form.{Form, value}
use Rattle.model_form.specs.Meaning.{AreFormsLow, values_of}
use Rattle.model_form.proofs.Values.{subst_form-value}
use Rattle.model_chain.specs.Literals.{compare_holds, related}
use Rattle.model_guard.specs.Forms.{wholes_in}
use Rattle.model_guard.proofs.Over.{AreFormsOver, over_low, subst_over}
use Rattle.label_core.specs.declared.pair.PairAtom.TheVariants.{Left, Right}
use Rattle.flat_label.specs.declared.bools.BoolAtom.{BoolAtom}
use Rattle.flat_label.specs.declared.texts.TextSide.{TextSide}
use Rattle.flat_label.specs.declared.texts.TextSide.TheVariants as side
use Rattle.flat_label.specs.Bools.{truth_at_label}
use Rattle.flat_label.specs.Texts.{texts_label, side_text, text_at_label, SideFits}
use Rattle.lin_solve.specs.declared.compare.Compare.{Compare}
use Rattle.lin_solve.specs.Plain.{plain_compare, plain_relation}
use Rattle.lin_solve.specs.Equal.{wholes_back}
use Rattle.record_label.specs.Rows.{truths_in, texts_in, RowAtom, row_holds, RowFits, count_of}
use Rattle.record_label.specs.Maps.{Entry, number_by, truth_by, text_by, made_by, made, sort_by, EntriesFit, forms_of, formulas_in, sides_in, are_one, put_compare, put_side, put_atom, put_formula, put_formulas, put_entry, EntryFits}

module _ (fields : List Field) where
  abbrev pub holds : Formula RowAtom → Bool
  holds f = formula_holds (λ a. row_holds a (row fields)) f

  abbrev pub side_value : TextSide → List ℕ
  side_value s = side_text s (texts_label (texts_in fields))

  -- ---- the parts of the label that is made

  made_wholes : (entries : List Entry) → wholes_in (map (made_by fields) entries) ≡ values_of (forms_of entries) (wholes_in fields)
  made_wholes [] = refl
  made_wholes (number_by f ∷ entries) = ap (λ ns. value f (wholes_in fields) ∷ ns) (made_wholes entries)
  made_wholes (truth_by f ∷ entries) = made_wholes entries
  made_wholes (text_by s ∷ entries) = made_wholes entries

  made_truths : (entries : List Entry) → truths_in (map (made_by fields) entries) ≡ map holds (formulas_in entries)
  made_truths [] = refl
  made_truths (number_by f ∷ entries) = made_truths entries
  made_truths (truth_by f ∷ entries) = ap (λ bs. holds f ∷ bs) (made_truths entries)
  made_truths (text_by s ∷ entries) = made_truths entries

  made_texts : (entries : List Entry) → texts_in (map (made_by fields) entries) ≡ map side_value (sides_in entries)
  made_texts [] = refl
  made_texts (number_by f ∷ entries) = made_texts entries
  made_texts (truth_by f ∷ entries) = made_texts entries
  made_texts (text_by s ∷ entries) = ap (λ ts. side_value s ∷ ts) (made_texts entries)

  -- ---- what atoms say of it

  module _ (entries : List Entry) (low : AreFormsLow (forms_of entries)) where
    compare_put : (c : Compare) → row_holds (Left (put_compare (forms_of entries) c)) (row fields) ≡ row_holds (Left c) (made entries (row fields))
    compare_put c =
        ap (compare_holds (plain_compare (put_compare (forms_of entries) c))) (wholes_back (wholes_in fields))
        ∙ (λ i. related (plain_relation c.relation) (subst_form-value c.left (forms_of entries) (wholes_in fields) low i) (subst_form-value c.right (forms_of entries) (wholes_in fields) low i))
        ∙ ap (compare_holds (plain_compare c)) (sym (wholes_back (wholes_in (map (made_by fields) entries)) ∙ made_wholes entries))

    truth_put : (b : BoolAtom) → holds (get_or (formulas_in entries) b.field no) ≡ row_holds (Right (Left b)) (made entries (row fields))
    truth_put b =
        sym (get_or-map holds (formulas_in entries) b.field no) ∙ ap (λ bs. get_or bs b.field false) (sym (made_truths entries)) ∙ sym (truth_at_label b.field (truths_in (map (made_by fields) entries)))

    side_put : (s : TextSide) → side_value (put_side entries s) ≡ side_text s (texts_label (texts_in (map (made_by fields) entries)))
    side_put (side.Field k) =
        sym (get_or-map side_value (sides_in entries) k (side.Constant [])) ∙ ap (λ ts. get_or ts k []) (sym (made_texts entries)) ∙ sym (text_at_label k (texts_in (map (made_by fields) entries)))
    side_put (side.Constant t) = refl

    one_holds : (s t : TextSide) → holds (are_one s t) ≡ bytes_eq (side_value s) (side_value t)
    one_holds (side.Constant s) (side.Constant t) = decided (bytes_eq s t)
      where
        decided : (b : Bool) → holds (cond b yes no) ≡ b
        decided true = refl
        decided false = refl
    one_holds (side.Constant s) (side.Field k) = refl
    one_holds (side.Field k) t = refl

    -- an atom with the entries put for the fields says of a label what the atom says of the label made
    pub atom_put : (a : RowAtom) → holds (put_atom entries a) ≡ row_holds a (made entries (row fields))
    atom_put (Left c) = compare_put c
    atom_put (Right (Left b)) = truth_put b
    atom_put (Right (Right t)) = one_holds (put_side entries t.left) (put_side entries t.right) ∙ (λ i. bytes_eq (side_put t.left i) (side_put t.right i))

    mutual
      pub formula_put : (f : Formula RowAtom) → holds (put_formula entries f) ≡ formula_holds (λ a. row_holds a (made entries (row fields))) f
      formula_put yes = refl
      formula_put no = refl
      formula_put (atom a) = atom_put a
      formula_put (negation f) = ap not (formula_put f)
      formula_put (all_of fs) = all_put fs
      formula_put (some_of fs) = some_put fs

      all_put : (fs : Formulas RowAtom) → all_hold (λ a. row_holds a (row fields)) (put_formulas entries fs) ≡ all_hold (λ a. row_holds a (made entries (row fields))) fs
      all_put no_formulas = refl
      all_put (formula f fs) = λ i. formula_put f i && all_put fs i

      some_put : (fs : Formulas RowAtom) → some_hold (λ a. row_holds a (row fields)) (put_formulas entries fs) ≡ some_hold (λ a. row_holds a (made entries (row fields))) fs
      some_put no_formulas = refl
      some_put (formula f fs) = λ i. formula_put f i || some_put fs i

    -- an entry with the entries put for the fields makes of a label what the entry makes of the label made
    entry_put : (e : Entry) → made_by fields (put_entry entries e) ≡ made_by (map (made_by fields) entries) e
    entry_put (number_by f) = ap whole (subst_form-value f (forms_of entries) (wholes_in fields) low ∙ ap (value f) (sym (made_wholes entries)))
    entry_put (truth_by f) = ap truth (formula_put f)
    entry_put (text_by s) = ap text (side_put s)

    pub entries_put : (more : List Entry) → map (made_by fields) (map (put_entry entries) more) ≡ map (made_by (map (made_by fields) entries)) more
    entries_put [] = refl
    entries_put (e ∷ more) = λ i. entry_put e i ∷ entries_put more i

-- ---- fields that there are

module _ (sorts : List Sort) where
  pub forms_over : (entries : List Entry) → EntriesFit sorts entries → AreFormsOver (count_of wholes sorts) (forms_of entries)
  forms_over [] h = tt
  forms_over (number_by f ∷ entries) h = (h.0, forms_over entries h.1)
  forms_over (truth_by f ∷ entries) h = forms_over entries h.1
  forms_over (text_by s ∷ entries) h = forms_over entries h.1

  pub forms_low : count_of wholes sorts ≤ most_fields → (gs : List Form) → AreFormsOver (count_of wholes sorts) gs → AreFormsLow gs
  forms_low few [] h = tt
  forms_low few (g ∷ gs) h = (over_low (count_of wholes sorts) few g h.0, forms_low few gs h.1)

  formula_fits : (entries : List Entry) (k : ℕ) → EntriesFit sorts entries → EveryAtom (RowFits sorts) (get_or (formulas_in entries) k no)
  formula_fits [] k h = tt
  formula_fits (number_by f ∷ entries) k h = formula_fits entries k h.1
  formula_fits (truth_by f ∷ entries) zero h = h.0
  formula_fits (truth_by f ∷ entries) (suc k) h = formula_fits entries k h.1
  formula_fits (text_by s ∷ entries) k h = formula_fits entries k h.1

  side_at_fits : (entries : List Entry) (k : ℕ) → EntriesFit sorts entries → SideFits (count_of texts sorts) (get_or (sides_in entries) k (side.Constant []))
  side_at_fits [] k h = tt
  side_at_fits (number_by f ∷ entries) k h = side_at_fits entries k h.1
  side_at_fits (truth_by f ∷ entries) k h = side_at_fits entries k h.1
  side_at_fits (text_by s ∷ entries) zero h = h.0
  side_at_fits (text_by s ∷ entries) (suc k) h = side_at_fits entries k h.1

  side_put_fits : (entries : List Entry) (s : TextSide) → EntriesFit sorts entries → SideFits (count_of texts sorts) (put_side entries s)
  side_put_fits entries (side.Field k) h = side_at_fits entries k h
  side_put_fits entries (side.Constant t) h = tt

  one_fits : (s t : TextSide) → SideFits (count_of texts sorts) s → SideFits (count_of texts sorts) t → EveryAtom (RowFits sorts) (are_one s t)
  one_fits (side.Constant s) (side.Constant t) h k = decided (bytes_eq s t)
    where
      decided : (b : Bool) → EveryAtom (RowFits sorts) (cond b yes no)
      decided true = tt
      decided false = tt
  one_fits (side.Constant s) (side.Field j) h k = (h, k)
  one_fits (side.Field j) t h k = (h, k)

  -- an atom with the entries put for the fields speaks of fields that there are
  pub put_fits : (entries : List Entry) (a : RowAtom) → EntriesFit sorts entries → EveryAtom (RowFits sorts) (put_atom entries a)
  put_fits entries (Left c) h =
      let over = forms_over entries h in (subst_over (count_of wholes sorts) c.left (forms_of entries) over, subst_over (count_of wholes sorts) c.right (forms_of entries) over)
  put_fits entries (Right (Left b)) h = formula_fits entries b.field h
  put_fits entries (Right (Right t)) h = one_fits (put_side entries t.left) (put_side entries t.right) (side_put_fits entries t.left h) (side_put_fits entries t.right h)

  mutual
    formula_put_fits : (entries : List Entry) (f : Formula RowAtom) → EntriesFit sorts entries → EveryAtom (RowFits sorts) (put_formula entries f)
    formula_put_fits entries yes h = tt
    formula_put_fits entries no h = tt
    formula_put_fits entries (atom a) h = put_fits entries a h
    formula_put_fits entries (negation f) h = formula_put_fits entries f h
    formula_put_fits entries (all_of fs) h = formulas_put_fit entries fs h
    formula_put_fits entries (some_of fs) h = formulas_put_fit entries fs h

    formulas_put_fit : (entries : List Entry) (fs : Formulas RowAtom) → EntriesFit sorts entries → EveryAtomOfAll (RowFits sorts) (put_formulas entries fs)
    formulas_put_fit entries no_formulas h = tt
    formulas_put_fit entries (formula f fs) h = (formula_put_fits entries f h, formulas_put_fit entries fs h)

  entry_put_fits : (entries : List Entry) (e : Entry) → EntriesFit sorts entries → EntryFits sorts (put_entry entries e)
  entry_put_fits entries (number_by f) h = subst_over (count_of wholes sorts) f (forms_of entries) (forms_over entries h)
  entry_put_fits entries (truth_by f) h = formula_put_fits entries f h
  entry_put_fits entries (text_by s) h = side_put_fits entries s h

  pub entries_put_fit : (entries more : List Entry) → EntriesFit sorts entries → EntriesFit sorts (map (put_entry entries) more)
  entries_put_fit entries [] h = tt
  entries_put_fit entries (e ∷ more) h = (entry_put_fits entries e h, entries_put_fit entries more h)

pub entries_put_sorts : (entries more : List Entry) → map sort_by (map (put_entry entries) more) ≡ map sort_by more
entries_put_sorts entries [] = refl
entries_put_sorts entries (number_by f ∷ more) = ap (λ ss. wholes ∷ ss) (entries_put_sorts entries more)
entries_put_sorts entries (truth_by f ∷ more) = ap (λ ss. truths ∷ ss) (entries_put_sorts entries more)
entries_put_sorts entries (text_by s ∷ more) = ap (λ ss. texts ∷ ss) (entries_put_sorts entries more)

-- ---- entries one by one

entry_fits_at : (sorts : List Sort) (ys : List RowEntry) (k : ℕ) (d : RowEntry) → k < length ys → EntriesFit sorts (map plain_entry ys) → EntryFits sorts (plain_entry (get_or ys k d))
entry_fits_at sorts [] k d l h = absurd (omega (arith, l))
entry_fits_at sorts (y ∷ ys) zero d l h = h.0
entry_fits_at sorts (y ∷ ys) (suc k) d l h = entry_fits_at sorts ys k d (omega (arith, l)) h.1

pub entry_fits : (sorts : List Sort) (xs : List RowEntry) (i : ℕ) (x : RowEntry) → i < length xs → x ≡ get_or xs i x → EntriesFit sorts (map plain_entry xs) → EntryFits sorts (plain_entry x)
entry_fits sorts xs i x l is h = subst (λ y. EntryFits sorts (plain_entry y)) (sym is) (entry_fits_at sorts xs i x l h)

-- one more field of the label that is made
pub made_more : (fields : List Field) (xs : List RowEntry) (i : ℕ) (x : RowEntry) (done now : List Value) (v : Value) → i < length xs → x ≡ get_or xs i x → now ≡ done ++ v ∷ [] → (field_of v ≡ made_by fields (plain_entry x)) × (is_kept_field (made_by fields (plain_entry x)) ≡ true)
    → (map field_of done ≡ map (made_by fields) (map plain_entry (take i xs))) × (list_all is_kept_field (map field_of done) ≡ true)
    → (map field_of now ≡ map (made_by fields) (map plain_entry (take (i + 1) xs))) × (list_all is_kept_field (map field_of now) ≡ true)
made_more fields xs i x done now v l is pushed here before =
    let front : take (i + 1) xs ≡ take i xs ++ x ∷ [] = take_more xs i x l ∙ ap (λ y. take i xs ++ y ∷ []) (sym is) in
    let all : map field_of now ≡ map field_of done ++ field_of v ∷ [] = ap (map field_of) pushed ∙ map-append field_of done (v ∷ []) in
    let want : map (made_by fields) (map plain_entry (take (i + 1) xs)) ≡ map (made_by fields) (map plain_entry (take i xs)) ++ made_by fields (plain_entry x) ∷ [] =
    ap (λ ys. map (made_by fields) (map plain_entry ys)) front ∙ ap (map (made_by fields)) (map-append plain_entry (take i xs) (x ∷ [])) ∙ map-append (made_by fields) (map plain_entry (take i xs)) (plain_entry x ∷ []) in
    (all ∙ (λ j. before.0 j ++ here.0 j ∷ []) ∙ sym want, ap (list_all is_kept_field) all ∙ list_all-append is_kept_field (map field_of done) (field_of v ∷ []) ∙ (λ j. before.1 j && (is_kept_field (here.0 j) && true)) ∙ (λ j. true && (here.1 j && true)))

-- a number of the label that is made
pub made_number_at : (fields : List Field) (xs : List RowEntry) (i : ℕ) (x : RowEntry) (n : ℤ) → i < length xs → x ≡ get_or xs i x → made_by fields (plain_entry x) ≡ whole n → Contains (map (made_by fields) (map plain_entry xs)) (whole n)
made_number_at fields xs i x n l is e =
    let low : i < length (map (made_by fields) (map plain_entry xs)) = omega (arith, l, length-map xs plain_entry, length-map (map plain_entry xs) (made_by fields)) in
    let at : get_or (map (made_by fields) (map plain_entry xs)) i (whole n) ≡ whole n =
    get_or-map_at (made_by fields) (map plain_entry xs) i (plain_entry x) (whole n) (omega (arith, l, length-map xs plain_entry)) ∙ ap (made_by fields) (get_or-map_at plain_entry xs i x (plain_entry x) l ∙ ap plain_entry (sym is)) ∙ e in
    subst (Contains (map (made_by fields) (map plain_entry xs))) at (Contains-get_or (map (made_by fields) (map plain_entry xs)) i (whole n) low)
