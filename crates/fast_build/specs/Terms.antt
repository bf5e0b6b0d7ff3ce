-- The terms of a transducer for terms of a program.
use Rattle.std.specs.Prelude.{◌≡◌, ℕ, ◌<◌, ℤ, true, List, map, length, Contains, is_some}
use Rattle.std.specs.List.{position_or_len}
use Rattle.model_tree.specs.Label.{Label}
use Rattle.model_tree.specs.Signature.{PlainField, PlainSignature, sorts_of}
use Rattle.model_program.specs.Syntax.{Name}
use Rattle.model_grammar.specs.Syntax.{Expr, Out, child, call, node, Outs, no_out, and_out}
use Rattle.model_names.specs.Declared.{same_text}
use Rattle.model_guard.specs.Forms.{HasOutside}
use Rattle.model_sttr.specs.Terms.{Term, on, build, Parts, no_parts, part}
use Rattle.model_sttr.specs.Transducer.{Head, identity, run}
use Rattle.record_label.specs.declared.maps.RowMap.{RowMap}
use Rattle.record_label.specs.Maps.{made, AreOfSorts, forms_in_each, AreEntriesOf}
use Rattle.record_label.specs.PlainMaps.{plain_entry}
use Rattle.record_label.specs.Written.{plain_written, written_for_each}
use Rattle.fast_build.specs.Numbers.{find_constructor, IsNumbered}

-- the label that a map makes
abbrev pub row_make : RowMap → Label → Label
row_make m = made (map plain_entry m.entries.items)

-- the map that the labels of a node are
pub record IsMapFor (from into : PlainSignature) (labels : List Expr) (m : RowMap) : Type 0 where
  pub entries : AreEntriesOf from.fields labels (sorts_of into) (map plain_entry m.entries.items)
  pub written : map plain_written m.written.items ≡ written_for_each (sorts_of into) labels

-- the number of the child that the first variable of this name stands for
pub record IsChild (vars : List Name) (name : List ℕ) (n : ℕ) : Type 0 where
  pub below : n < length vars
  pub is : n ≡ position_or_len (λ v. same_text v.text name) vars

-- labels of a node stand: they are of the sorts of the fields, and each form in them has its numbers in range
pub record LabelsStand (from : List PlainField) (into : PlainSignature) (labels : List Expr) : Type 0 where
  pub sorted : AreOfSorts from labels (sorts_of into)
  pub within : (n : ℤ) → HasOutside (forms_in_each from labels) n → ⊥

-- Each transformation has a number by `place`.
module _ (from into : PlainSignature) (place : List ℕ → ℕ) (vars : List Name) where
  abbrev mutual
    -- it uses the same children, calls the same transformations, and has the same constructors, with maps for the labels
    pub IsTermFor : Out → Term Head RowMap → Type 0
    IsTermFor (child y) (on identity j) = IsChild vars y.text j
    IsTermFor (child y) (on (run q) j) = ⊥
    IsTermFor (child y) (build c m ps) = ⊥
    IsTermFor (call p y) (on identity j) = ⊥
    IsTermFor (call p y) (on (run q) j) = (q ≡ place p.text) × IsChild vars y.text j
    IsTermFor (call p y) (build c m ps) = ⊥
    IsTermFor (node name labels outs) (on h j) = ⊥
    IsTermFor (node name labels outs) (build c m ps) = IsNumbered into.constructors name.text c × IsMapFor from into labels m × AreTermsFor outs ps

    pub AreTermsFor : Outs → Parts Head RowMap → Type 0
    AreTermsFor no_out no_parts = Unit {0}
    AreTermsFor no_out (part p ps) = ⊥
    AreTermsFor (and_out out outs) no_parts = ⊥
    AreTermsFor (and_out out outs) (part p ps) = IsTermFor out p × AreTermsFor outs ps

-- What is said of the terms of a well-formed program, as far as a transducer needs it.
abbrev pub IsVariable : List Name → List ℕ → Type 0
IsVariable vars name = position_or_len (λ v. same_text v.text name) vars < length vars

module _ (from into : PlainSignature) (names : List (List ℕ)) (vars : List Name) where
  abbrev mutual
    -- it uses children that there are, calls transformations among the names, and has constructors of the type
    pub TermStands : Out → Type 0
    TermStands (child y) = IsVariable vars y.text
    TermStands (call p y) = Contains names p.text × IsVariable vars y.text
    TermStands (node name labels outs) = (is_some (find_constructor into.constructors name.text) ≡ true) × LabelsStand from.fields into labels × TermsStand outs

    pub TermsStand : Outs → Type 0
    TermsStand no_out = Unit {0}
    TermsStand (and_out out outs) = TermStands out × TermsStand outs
