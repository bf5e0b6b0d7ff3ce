-- What was built for an expression.
use Rattle.std.specs.Prelude.{◌≡◌, ◌⊎◌, ℕ, List, Some, map, Contains}
use Rattle.model_tree.specs.Formula.{Formula}
use Rattle.model_tree.specs.Signature.{ranks_of, sorts_of}
use Rattle.model_grammar.specs.Syntax.{X, Item}
use Rattle.model_meaning.specs.Meaning.{signature_named}
use Rattle.model_chain.specs.Literals as plain
use Rattle.label_core.specs.Pair.{lefts}
use Rattle.lin_solve.specs.Plain.{plain_compare}
use Rattle.sta_core.specs.Machine.{Machine}
use Rattle.sta_core.specs.Sta.{automaton_of, AtomsFit}
use Rattle.sta_core.specs.declared.Lang.{Lang}
use Rattle.sta_classes.specs.Guards.{all_guards, atoms_of_all}
use Rattle.sta_ops.specs.Languages.{auto_of}
use Rattle.record_label.specs.Rows.{RowAtom, row_holds, RowFits}
use Rattle.model_tree.specs.Label.{Label}
use Rattle.model_sttr.specs.Transducer as meant
use Rattle.sttr_core.specs.Machine.{OutMachine, transducer_of}
use Rattle.sttr_core.specs.Fits.{MapsAre, LabelsFit}
use Rattle.sttr_core.specs.declared.sttr.Trans.{Trans}
use Rattle.sttr_run.specs.Fits.{SttrStands}
use Rattle.sttr_run.specs.Sources.{HasAtomIn, HasMap}
use Rattle.label_core.specs.Formula.{atoms_in}
use Rattle.label_core.specs.declared.pair.PairAtom.TheVariants.{Left}
use Rattle.lin_solve.specs.declared.compare.Compare.{Compare}
use Rattle.record_label.specs.declared.maps.RowMap.{RowMap}
use Rattle.record_label.specs.Maps.{Entry, EntriesFit, sort_by, forms_of, formulas_in}
use Rattle.record_label.specs.PlainMaps.{plain_entry}
use Rattle.fast_build.specs.Terms.{row_make}
use Rattle.model_run.specs.Seen.{LabelList, list_forms, IsLabelList, IsCompare, IsSameCompare}
use Rattle.model_run.specs.Plain.{IsPlain, IsLinear}
use Rattle.model_layers.specs.Carries.{IsTyped, Carries, CarriesTrans}
use Rattle.model_layers.specs.Seen.{IsSeen, IsSeenTrans}
use Rattle.model_layers.specs.Compared.{AreCompared, AreSameForms}

-- the comparisons of whole numbers in formulas, and in the guards of an automaton
abbrev pub compares_of : List (Formula RowAtom) → List plain.Compare
compares_of guards = map plain_compare (lefts (atoms_of_all guards))

abbrev pub compares_in : Machine RowAtom → List plain.Compare
compares_in m = compares_of (all_guards m.rules)

-- The automaton was built for the expression, whose trees have the type of this name: it has the language of the expression,
-- each state has a language of which the expression is made, labels that agree on the guards of the expression agree on its
-- guards, and their comparisons are those of the expression. Its constructors and labels are those of the type.
pub record IsBuiltOf (items : List Item) (e : X) (type : List ℕ) (l : Lang RowAtom) : Type 0 where
  pub carries : Carries items e type (auto_of row_holds l)
  pub seen : IsSeen items e type (automaton_of row_holds l.sta)
  pub compared : AreCompared items e type (compares_in l.sta)
  pub ranks : l.sta.ranks ≡ ranks_of (signature_named items (Some type))
  pub fit : AtomsFit (RowFits (sorts_of (signature_named items (Some type)))) l.sta

-- the transducer over labels, and its start
abbrev pub trans_of : Trans RowAtom RowMap → meant.Trans Label
trans_of f = record { sttr = transducer_of row_holds row_make f.sttr; start = f.state }

abbrev pub entries_of : RowMap → List Entry
entries_of m = map plain_entry m.entries.items

-- the atom stands in a guard of the transducer or of its lookahead, or in the formula by which a map makes a truth value
abbrev pub HasTest : OutMachine RowAtom RowMap → RowAtom → Type 0
HasTest d a = HasAtomIn d a ⊎ ((m : RowMap) × HasMap d m × (f : Formula RowAtom) × Contains (formulas_in (entries_of m)) f × Contains (atoms_in f) a)

-- the comparison is the same as one of the expression, on labels of the type
abbrev pub IsCompared : List Item → X → List ℕ → plain.Compare → Type 0
IsCompared items e type c = (k : plain.Compare) × IsCompare items e type k × IsSameCompare k c

-- the forms are equal to those of a label list of the expression
abbrev pub AreListed : List Item → X → List ℕ → List ℕ → RowMap → Type 0
AreListed items e from into m = (l : LabelList) × IsLabelList items e from into l × AreSameForms (list_forms l) (forms_of (entries_of m))

-- each comparison of the transducer, and the whole numbers that each of its maps makes
pub record AreTransCompared (items : List Item) (e : X) (from into : List ℕ) (d : OutMachine RowAtom RowMap) : Type 0 where
  pub compares : (c : Compare) → HasTest d (Left c) → IsCompared items e from (plain_compare c)
  pub maps : (m : RowMap) → HasMap d m → AreListed items e from into m

-- The transducer was built for the expression of a transformation between the types of these names: it has the relation of the
-- expression, each state has one of which the expression is made, its guards and maps are seen in the expression, and its
-- comparisons and forms are those of the expression. Its rules are over the constructors and labels of the input type, and make
-- labels of the output type. Each state gives at most one tree where the expression is plain, and no rule uses a child twice
-- where it is linear.
pub record IsTransBuiltOf (items : List Item) (e : X) (from into : List ℕ) (f : Trans RowAtom RowMap) : Type 0 where
  pub carries : CarriesTrans items e from into (trans_of f)
  pub seen : IsSeenTrans items e from into (trans_of f).sttr
  pub compared : AreTransCompared items e from into f.sttr
  pub ranks : f.sttr.looks.ranks ≡ ranks_of (signature_named items (Some from))
  pub stands : SttrStands f.sttr
  pub labels : LabelsFit (RowFits (sorts_of (signature_named items (Some from)))) (λ m. EntriesFit (sorts_of (signature_named items (Some from))) (entries_of m)) f.sttr
  pub made : MapsAre (λ m. map sort_by (entries_of m) ≡ sorts_of (signature_named items (Some into))) f.sttr
  pub plain : IsPlain items e → meant.IsFunctionalOn (trans_of f).sttr (IsTyped items from)
  pub linear : IsLinear items e → meant.AllLinear (trans_of f).sttr
