-- Maps of labels of several fields: an entry for each field of the labels that they make.
use Rattle.std.specs.Prelude.{◌≡◌, ℤ, ◌⊎◌, Bool, true, cond, List, [], ◌∷◌, ◌++◌, map, slice_index_or}
use Rattle.std.specs.Str.{bytes_eq}
use Rattle.model_tree.specs.Label.{Field, whole, truth, text, Label, row, pair}
use Rattle.model_tree.specs.Signature.{Sort, wholes, truths, texts, PlainField, sort_of}
use Rattle.model_grammar.specs.Syntax.{Expr}
use Rattle.model_label.specs.Meaning.{value_of}
use Rattle.model_label.specs.Tests.{is_text}
use Rattle.model_tree.specs.Formula.{Formula, yes, no, atom, negation, all_of, some_of, Formulas, no_formulas, formula, formula_holds, EveryAtom}
use Rattle.model_form.specs.Form.{Form, value}
use Rattle.model_form.specs.Sums.{subst_form}
use Rattle.model_form.specs.Ranges.{IsOutsideAfter}
use Rattle.model_form.specs.Over.{IsOver}
use Rattle.model_guard.specs.Forms.{wholes_in, is_whole, form_of, forms_in}
use Rattle.model_guard.specs.Guards.{is_guard}
use Rattle.label_core.specs.declared.pair.PairAtom.TheVariants.{Left, Right}
use Rattle.flat_label.specs.declared.texts.TextSide.{TextSide}
use Rattle.flat_label.specs.declared.texts.TextSide.TheVariants as side
use Rattle.flat_label.specs.Texts.{texts_label, side_text, SideFits}
use Rattle.lin_solve.specs.declared.compare.Compare.{Compare}
use Rattle.record_label.specs.Guards.{IsGuardOf, formula_in, side_of}
use Rattle.record_label.specs.Rows.{texts_in, RowAtom, row_holds, RowFits, count_of}

-- a form for a whole number, a formula for a truth value, and a field or a constant for a text
pub data Entry : Type 0 where
  number_by : Form → Entry
  truth_by : Formula RowAtom → Entry
  text_by : TextSide → Entry

-- what an entry makes of the fields of a label
abbrev pub made_by : List Field → Entry → Field
made_by fields (number_by f) = whole (value f (wholes_in fields))
made_by fields (truth_by f) = truth (formula_holds (λ a. row_holds a (row fields)) f)
made_by fields (text_by s) = text (side_text s (texts_label (texts_in fields)))

-- the label that the entries make
abbrev pub made : List Entry → Label → Label
made entries (row fields) = row (map (made_by fields) entries)
made entries (pair l m) = row (map (made_by []) entries)

abbrev pub sort_by : Entry → Sort
sort_by (number_by f) = wholes
sort_by (truth_by f) = truths
sort_by (text_by s) = texts

-- an entry speaks of fields that there are
abbrev pub EntryFits : List Sort → Entry → Type 0
EntryFits sorts (number_by f) = IsOver (count_of wholes sorts) f
EntryFits sorts (truth_by f) = EveryAtom (RowFits sorts) f
EntryFits sorts (text_by s) = SideFits (count_of texts sorts) s

abbrev pub EntriesFit : List Sort → List Entry → Type 0
EntriesFit sorts [] = Unit {0}
EntriesFit sorts (e ∷ entries) = EntryFits sorts e × EntriesFit sorts entries

-- the entries of one sort, in their order
abbrev pub forms_of : List Entry → List Form
forms_of [] = []
forms_of (number_by f ∷ entries) = f ∷ forms_of entries
forms_of (truth_by f ∷ entries) = forms_of entries
forms_of (text_by s ∷ entries) = forms_of entries

abbrev pub formulas_in : List Entry → List (Formula RowAtom)
formulas_in [] = []
formulas_in (number_by f ∷ entries) = formulas_in entries
formulas_in (truth_by f ∷ entries) = f ∷ formulas_in entries
formulas_in (text_by s ∷ entries) = formulas_in entries

abbrev pub sides_in : List Entry → List TextSide
sides_in [] = []
sides_in (number_by f ∷ entries) = sides_in entries
sides_in (truth_by f ∷ entries) = sides_in entries
sides_in (text_by s ∷ entries) = s ∷ sides_in entries

-- a number that is outside for one of them
abbrev pub SomeOutside : {X : Type 0} → (X → ℤ → Type 0) → List X → ℤ → Type 0
SomeOutside outside [] n = ⊥
SomeOutside outside (x ∷ xs) n = outside x n ⊎ SomeOutside outside xs n

-- that two texts are one, which two constants decide
abbrev pub are_one : TextSide → TextSide → Formula RowAtom
are_one (side.Constant s) (side.Constant t) = cond (bytes_eq s t) yes no
are_one (side.Constant s) (side.Field k) = atom (Right (Right (record { left = side.Constant s; right = side.Field k })))
are_one (side.Field k) s = atom (Right (Right (record { left = side.Field k; right = s })))

-- a comparison with the forms put for its fields
abbrev pub put_compare : List Form → Compare → Compare
put_compare forms c = record { left = subst_form c.left forms; relation = c.relation; right = subst_form c.right forms }

-- a number that is outside in it
abbrev pub IsOutsideCompared : List Form → Compare → ℤ → Type 0
IsOutsideCompared forms c n = IsOutsideAfter c.left forms n ⊎ IsOutsideAfter c.right forms n

module _ (entries : List Entry) where
  -- a side with the entries put for the fields
  abbrev pub put_side : TextSide → TextSide
  put_side (side.Field k) = slice_index_or (sides_in entries) k (side.Constant [])
  put_side (side.Constant t) = side.Constant t

  -- what an atom says with the entries put for the fields
  abbrev pub put_atom : RowAtom → Formula RowAtom
  put_atom (Left c) = atom (Left (put_compare (forms_of entries) c))
  put_atom (Right (Left b)) = slice_index_or (formulas_in entries) b.field no
  put_atom (Right (Right t)) = are_one (put_side t.left) (put_side t.right)

  abbrev mutual
    pub put_formula : Formula RowAtom → Formula RowAtom
    put_formula yes = yes
    put_formula no = no
    put_formula (atom a) = put_atom a
    put_formula (negation f) = negation (put_formula f)
    put_formula (all_of fs) = all_of (put_formulas fs)
    put_formula (some_of fs) = some_of (put_formulas fs)

    pub put_formulas : Formulas RowAtom → Formulas RowAtom
    put_formulas no_formulas = no_formulas
    put_formulas (formula f fs) = formula (put_formula f) (put_formulas fs)

  abbrev pub put_entry : Entry → Entry
  put_entry (number_by f) = number_by (subst_form f (forms_of entries))
  put_entry (truth_by f) = truth_by (put_formula f)
  put_entry (text_by s) = text_by (put_side s)

  -- a number that is outside once the entries are put
  abbrev pub IsOutsidePut : RowAtom → ℤ → Type 0
  IsOutsidePut (Left c) n = IsOutsideCompared (forms_of entries) c n
  IsOutsidePut (Right a) n = ⊥

  abbrev mutual
    pub IsOutsideOf : Formula RowAtom → ℤ → Type 0
    IsOutsideOf yes n = ⊥
    IsOutsideOf no n = ⊥
    IsOutsideOf (atom a) n = IsOutsidePut a n
    IsOutsideOf (negation f) n = IsOutsideOf f n
    IsOutsideOf (all_of fs) n = IsOutsideOfSome fs n
    IsOutsideOf (some_of fs) n = IsOutsideOfSome fs n

    pub IsOutsideOfSome : Formulas RowAtom → ℤ → Type 0
    IsOutsideOfSome no_formulas n = ⊥
    IsOutsideOfSome (formula f fs) n = IsOutsideOf f n ⊎ IsOutsideOfSome fs n

  abbrev pub IsOutsideEntry : Entry → ℤ → Type 0
  IsOutsideEntry (number_by f) n = IsOutsideAfter f (forms_of entries) n
  IsOutsideEntry (truth_by f) n = IsOutsideOf f n
  IsOutsideEntry (text_by s) n = ⊥

-- ---- the maps that label expressions are

-- an expression of this sort
abbrev pub is_of_sort : List PlainField → Sort → Expr → Bool
is_of_sort fields wholes e = is_whole fields e
is_of_sort fields truths e = is_guard fields e
is_of_sort fields texts e = is_text fields e

-- an expression for each of the sorts, in their order
abbrev pub AreOfSorts : List PlainField → List Expr → List Sort → Type 0
AreOfSorts fields [] [] = Unit {0}
AreOfSorts fields [] (s ∷ sorts) = ⊥
AreOfSorts fields (e ∷ es) [] = ⊥
AreOfSorts fields (e ∷ es) (s ∷ sorts) = (is_of_sort fields s e ≡ true) × AreOfSorts fields es sorts

abbrev pub forms_in_each : List PlainField → List Expr → List Form
forms_in_each fields [] = []
forms_in_each fields (e ∷ es) = forms_in fields e ++ forms_in_each fields es

-- the entry is what is written: the form of a whole number, the guard of a truth value, the side of a text
abbrev pub IsAsWritten : List PlainField → Expr → Entry → Type 0
IsAsWritten fields e (number_by f) = f ≡ form_of fields e
IsAsWritten fields e (truth_by f) = IsGuardOf fields e f × (f ≡ formula_in fields e)
IsAsWritten fields e (text_by s) = s ≡ side_of fields e

-- The entry makes of each label of the type the value that the expression has there, by what is written; it is of this sort, and speaks of fields that there are.
pub record IsEntryOf (fields : List PlainField) (e : Expr) (sort : Sort) (entry : Entry) : Type 0 where
  pub makes : (values : List Field) → map sort_of values ≡ map (λ x. x.sort) fields → made_by values entry ≡ value_of fields values e
  pub written : IsAsWritten fields e entry
  pub fit : EntryFits (map (λ x. x.sort) fields) entry
  pub of_sort : sort_by entry ≡ sort

-- an entry for each expression, in order
abbrev pub AreEntriesOf : List PlainField → List Expr → List Sort → List Entry → Type 0
AreEntriesOf fields [] sorts [] = Unit {0}
AreEntriesOf fields [] sorts (x ∷ entries) = ⊥
AreEntriesOf fields (e ∷ es) sorts [] = ⊥
AreEntriesOf fields (e ∷ es) [] (x ∷ entries) = ⊥
AreEntriesOf fields (e ∷ es) (s ∷ sorts) (x ∷ entries) = IsEntryOf fields e s x × AreEntriesOf fields es sorts entries
