-- What is said of the labels that maps make, once entries are put.
use Rattle.std.proofs.Common.{◌≡◌, ◌≤◌, List, map, Contains, refl, ap, sym, ◌∙◌, subst, arith}
use Rattle.std.proofs.Math.IntN.{ℤ}
use Rattle.std.proofs.lemmas.List.Elements.{Contains-append_left, Contains-append_right}
use Rattle.model_tree.specs.Limits.{most_fields}
use Rattle.model_tree.specs.Label.{Label, row, pair}
use Rattle.model_tree.specs.Signature.{Sort, wholes, HasSorts}
use Rattle.model_tree.specs.Formula.{Formula, yes, no, atom, negation, all_of, some_of, Formulas, no_formulas, formula, formula_holds, EveryAtom, EveryAtomOfAll}
use Rattle.model_form.specs.Meaning.{AreFormsLow}
use Rattle.label_core.specs.Formula.{atoms_in, atoms_in_all}
use Rattle.record_label.specs.Rows.{RowAtom, row_holds, RowFits, count_of}
use Rattle.record_label.specs.Maps.{Entry, made, sort_by, EntriesFit, forms_of, put_atom, put_entry, IsOutsidePut, IsOutsideEntry, SomeOutside}
use Rattle.record_label.proofs.MapFacts.{forms_low, forms_over, atom_put, put_fits, entries_put, entries_put_fit, entries_put_sorts}

module _ {A : Type 0} (P : A → Type 0) where
  mutual
    -- what is so of each of a formula's atoms
    every : (f : Formula A) → ((a : A) → Contains (atoms_in f) a → P a) → EveryAtom P f
    every yes h = tt
    every no h = tt
    every (atom a) h = h a (0, omega arith, refl)
    every (negation f) h = every f h
    every (all_of fs) h = every_of_all fs h
    every (some_of fs) h = every_of_all fs h

    every_of_all : (fs : Formulas A) → ((a : A) → Contains (atoms_in_all fs) a → P a) → EveryAtomOfAll P fs
    every_of_all no_formulas h = tt
    every_of_all (formula f fs) h = (every f (λ a c. h a (Contains-append_left (atoms_in f) (atoms_in_all fs) a c)), every_of_all fs (λ a c. h a (Contains-append_right (atoms_in f) (atoms_in_all fs) a c)))

module _ (sorts : List Sort) (entries : List Entry) (few : count_of wholes sorts ≤ most_fields) (fit : EntriesFit sorts entries) where
  low : AreFormsLow (forms_of entries)
  low = forms_low sorts few (forms_of entries) (forms_over sorts entries fit)

  module _ (a : RowAtom) where
    abbrev Says : Formula RowAtom → Type 0
    Says f = ((l : Label) → HasSorts sorts l → formula_holds (λ b. row_holds b l) f ≡ row_holds a (made entries l)) × EveryAtom (RowFits sorts) f × EveryAtom (Contains (atoms_in (put_atom entries a))) f × ((n : ℤ) → IsOutsidePut entries a n → ⊥)

    at_label : (l : Label) → HasSorts sorts l → formula_holds (λ b. row_holds b l) (put_atom entries a) ≡ row_holds a (made entries l)
    at_label (row fields) has = atom_put fields entries low a
    at_label (pair l m) has = absurd has

    -- an atom with the entries put for the fields
    pub atom_says : (f : Formula RowAtom) → f ≡ put_atom entries a → ((n : ℤ) → IsOutsidePut entries a n → ⊥) → Says f
    atom_says f is none = subst Says (sym is) (at_label, put_fits sorts entries a fit, every (Contains (atoms_in (put_atom entries a))) (put_atom entries a) (λ b c. c), none)

  module _ (second : List Entry) {Kept : Type 0} (kept : Kept) where
    abbrev Chains : List Entry → Type 0
    Chains chained = ((l : Label) → HasSorts sorts l → made chained l ≡ made second (made entries l)) × ((chained ≡ map (put_entry entries) second) × Kept) × (EntriesFit sorts chained × ((into : List Sort) → map sort_by second ≡ into → map sort_by chained ≡ into)) × ((n : ℤ) → SomeOutside (IsOutsideEntry entries) second n → ⊥)

    chained_at : (l : Label) → HasSorts sorts l → made (map (put_entry entries) second) l ≡ made second (made entries l)
    chained_at (row fields) has = ap row (entries_put fields entries low second)
    chained_at (pair l m) has = absurd has

    -- a map after another one
    pub map_says : (chained : List Entry) → chained ≡ map (put_entry entries) second → ((n : ℤ) → SomeOutside (IsOutsideEntry entries) second n → ⊥) → Chains chained
    map_says chained is none = subst Chains (sym is) (chained_at, (refl, kept), (entries_put_fit sorts entries second fit, λ into h. entries_put_sorts entries second ∙ h), none)
