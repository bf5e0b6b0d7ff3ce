-- Atoms and entries that are equal, as it is derived, say and make the same.
use Rattle.std.specs.Prelude.{◌≡◌, ◌<◌, Bool, true, List, refl}
use Rattle.std.specs.Cmp.{IsEquivalence}
use Rattle.model_tree.specs.Label.{Label}
use Rattle.model_tree.specs.Signature.{Sort, wholes, truths, texts}
use Rattle.label_core.specs.Atoms.{EachHasEqual}
use Rattle.label_core.specs.Pair.{IsPairEq, lefts, lefts_have_equal, equal_pair_atoms, equal_pair_atoms_fit}
use Rattle.label_core.specs.declared.formula.Formula.TheVariants.{Atom}
use Rattle.label_core.specs.declared.pair.PairAtom.{PairAtom}
use Rattle.label_core.specs.declared.pair.PairAtom.TheVariants.{Left, Right}
use Rattle.flat_label.specs.Bools.{truth_at, equal_fields, equal_fields_fit}
use Rattle.flat_label.specs.Texts.{IsSideEq, SidesFit, are_one_text, equal_atoms_hold, equal_atoms_fit}
use Rattle.flat_label.specs.declared.bools.BoolAtom.{BoolAtom}
use Rattle.flat_label.specs.declared.texts.TextAtom.{TextAtom}
use Rattle.flat_label.specs.declared.texts.TextSide.{TextSide}
use Rattle.lin_solve.specs.Equal.{IsRelationEq, IsCompareEq, equal_hold, equal_fit, compare_laws}
use Rattle.lin_solve.specs.Wholes.{compare_at, CompareFits}
use Rattle.lin_solve.specs.contracts.compare.RelationPartialEq.TheImpl as relation
use Rattle.lin_solve.specs.declared.compare.Compare.{Compare}
use Rattle.record_label.specs.contracts.maps.RowEntryPartialEq.TheImpl as entry
use Rattle.record_label.specs.declared.maps.RowEntry.TheVariants.{Truth, Text}
use Rattle.record_label.specs.Rows.{RowAtom, parts_of, row_holds, flat_holds, FlatFits, RowFits, count_of}
use Rattle.record_label.specs.MapLaws.{IsEntryEq}

-- ---- whether two are equal, as parts of entries

abbrev pub same_atoms : RowAtom → RowAtom → Bool
same_atoms a b = entry.eq-value.it (Truth (Atom a)) (Truth (Atom b))

abbrev pub same_compares : Compare → Compare → Bool
same_compares c d = same_atoms (Left c) (Left d)

abbrev same_flats : PairAtom BoolAtom TextAtom → PairAtom BoolAtom TextAtom → Bool
same_flats a b = same_atoms (Right a) (Right b)

abbrev same_truths : BoolAtom → BoolAtom → Bool
same_truths a b = same_flats (Left a) (Left b)

abbrev same_texts : TextAtom → TextAtom → Bool
same_texts a b = same_flats (Right a) (Right b)

abbrev pub same_sides : TextSide → TextSide → Bool
same_sides s t = entry.eq-value.it (Text s) (Text t)

-- ---- what is derived

pub entries_derived : IsEntryEq same_atoms same_sides entry.eq-value.it
entries_derived = record {
  numbers = λ _ _. refl;
  formulas = λ _ _. refl;
  sides = λ _ _. refl;
  number_truth = λ _ _. refl;
  number_text = λ _ _. refl;
  truth_number = λ _ _. refl;
  truth_text = λ _ _. refl;
  text_number = λ _ _. refl;
  text_truth = λ _ _. refl;
}

pub sides_derived : IsSideEq same_sides
sides_derived = record { fields = λ _ _. refl; field_constant = λ _ _. refl; constant_field = λ _ _. refl; constants = λ _ _. refl }

rows_derived : IsPairEq same_compares same_flats same_atoms
rows_derived = record { left_left = λ _ _. refl; left_right = λ _ _. refl; right_left = λ _ _. refl; right_right = λ _ _. refl }

flats_derived : IsPairEq same_truths same_texts same_flats
flats_derived = record { left_left = λ _ _. refl; left_right = λ _ _. refl; right_left = λ _ _. refl; right_right = λ _ _. refl }

relations_derived : IsRelationEq relation.eq-value.it
relations_derived = record {
  less = refl;
  at_most = refl;
  equal = refl;
  less_at_most = refl;
  less_equal = refl;
  at_most_less = refl;
  at_most_equal = refl;
  equal_less = refl;
  equal_at_most = refl;
}

compares_derived : IsCompareEq relation.eq-value.it same_compares
compares_derived = record { parts = λ _ _. refl }

-- ---- what equal atoms say

flats_hold : (a b : PairAtom BoolAtom TextAtom) (l : Label) → same_flats a b ≡ true → flat_holds a l ≡ flat_holds b l
flats_hold = equal_pair_atoms same_truths same_texts same_flats flats_derived (λ c. truth_at c.field) are_one_text (λ c d. equal_fields c.field d.field) (equal_atoms_hold same_sides sides_derived)

pub equal_rows : (a b : RowAtom) (l : Label) → same_atoms a b ≡ true → row_holds a l ≡ row_holds b l
equal_rows a b l = equal_pair_atoms same_compares same_flats same_atoms rows_derived compare_at flat_holds (equal_hold relation.eq-value.it relations_derived same_compares compares_derived) flats_hold a b (parts_of l)

module _ (sorts : List Sort) where
  flats_fit : (a b : PairAtom BoolAtom TextAtom) → same_flats a b ≡ true → FlatFits sorts a → FlatFits sorts b
  flats_fit =
      equal_pair_atoms_fit same_truths same_texts same_flats flats_derived (λ c. c.field < count_of truths sorts) (SidesFit (count_of texts sorts)) (λ c d. equal_fields_fit c.field d.field (count_of truths sorts)) (equal_atoms_fit same_sides sides_derived (count_of texts sorts))

  pub equal_rows_fit : (a b : RowAtom) → same_atoms a b ≡ true → RowFits sorts a → RowFits sorts b
  equal_rows_fit =
      equal_pair_atoms_fit same_compares same_flats same_atoms rows_derived (CompareFits (count_of wholes sorts)) (FlatFits sorts) (equal_fit relation.eq-value.it relations_derived same_compares compares_derived (count_of wholes sorts)) flats_fit

pub compares_laws : IsEquivalence same_compares
compares_laws = compare_laws relation.eq-value.it relations_derived same_compares compares_derived

-- the comparisons of atoms have equal ones among those of atoms that have an equal one of each
pub compares_grow : (atoms more : List RowAtom) → EachHasEqual same_atoms atoms more → EachHasEqual same_compares (lefts atoms) (lefts more)
compares_grow = lefts_have_equal same_compares same_flats same_atoms rows_derived
