-- What is so of a term for a term: which children it uses, which states it calls, which maps stand in it, and what it makes.
use Rattle.std.proofs.Common.{◌≡◌, inl, inr, ℕ, suc, ◌<◌, List, [], ◌∷◌, map, length, refl, sym, ap, subst, ◌∙◌}
use Rattle.std.specs.Prelude.{true}
use Rattle.std.proofs.lemmas.List.{length-map}
use Rattle.model_tree.specs.Signature.{Sort, PlainField, PlainSignature, HasSorts, names_of, ranks_of, sorts_of}
use Rattle.model_program.specs.Syntax.{Name}
use Rattle.model_grammar.specs.Syntax.{Expr, Out, child, call, node, Outs, no_out, and_out, Item}
use Rattle.model_meaning.specs.Laws.{IsTermTyped, AreTermsTyped}
use Rattle.model_meaning.specs.Laws as laws
use Rattle.model_meaning.specs.Reached.{IsCalledIn, IsCalledInOne}
use Rattle.model_run.specs.Seen.{AreLabelsIn, AreLabelsInOne}
use Rattle.model_sttr.specs.Terms.{Term, on, build, Parts, no_parts, part, part_count, with_maps, parts_with_maps, Occurs, OccursIn, Uses, UsesIn, TermFits, PartsFit}
use Rattle.model_sttr.specs.Guards.{MakesBy, MakesByOne}
use Rattle.model_sttr.specs.Transducer.{Head, identity, run}
use Rattle.record_label.specs.declared.maps.RowMap.{RowMap}
use Rattle.record_label.specs.Maps.{Entry, sort_by, AreEntriesOf, AreOfSorts, EntriesFit}
use Rattle.record_label.specs.MapLaws.{made_labels}
use Rattle.record_label.specs.PlainMaps.{plain_entry}
use Rattle.fast_build.specs.Terms.{row_make, IsMapFor, LabelsStand, IsTermFor, AreTermsFor, TermStands, TermsStand}
use Rattle.fast_build.proofs.Stands.{are_apart}
use Rattle.fast_build.proofs.Relating.{numbered_named}

-- ---- entries

entries_fit : (fields : List PlainField) (es : List Expr) (sorts : List Sort) (entries : List Entry) → AreEntriesOf fields es sorts entries → EntriesFit (map (λ x. x.sort) fields) entries
entries_fit fields [] sorts [] are = tt
entries_fit fields [] sorts (x ∷ entries) are = absurd are
entries_fit fields (e ∷ es) sorts [] are = absurd are
entries_fit fields (e ∷ es) [] (x ∷ entries) are = absurd are
entries_fit fields (e ∷ es) (s ∷ sorts) (x ∷ entries) are = (are.0.fit, entries_fit fields es sorts entries are.1)

entries_sorts : (fields : List PlainField) (es : List Expr) (sorts : List Sort) (entries : List Entry) → AreOfSorts fields es sorts → AreEntriesOf fields es sorts entries → map sort_by entries ≡ sorts
entries_sorts fields [] [] [] of are = refl
entries_sorts fields [] (s ∷ sorts) entries of are = absurd of
entries_sorts fields [] [] (x ∷ entries) of are = absurd are
entries_sorts fields (e ∷ es) sorts [] of are = absurd are
entries_sorts fields (e ∷ es) [] (x ∷ entries) of are = absurd are
entries_sorts fields (e ∷ es) (s ∷ sorts) (x ∷ entries) of are = λ i. are.0.of_sort i ∷ entries_sorts fields es sorts entries of.1 are.1 i

module _ (s t : PlainSignature) (names : List (List ℕ)) (place : List ℕ → ℕ) (vars : List Name) where
  -- ---- maps

  -- the labels that a map is, which stand in the term
  pub record IsMapIn (out : Out) (m : RowMap) : Type 0 where
    pub labels : List Expr
    pub stand : AreLabelsIn out labels
    pub labelled : LabelsStand s.fields t labels
    pub is : IsMapFor s t labels m

  pub record IsMapInOne (outs : Outs) (m : RowMap) : Type 0 where
    pub labels : List Expr
    pub stand : AreLabelsInOne outs labels
    pub labelled : LabelsStand s.fields t labels
    pub is : IsMapFor s t labels m

  mutual
    pub map_in : (out : Out) (p : Term Head RowMap) (m : RowMap) → IsTermFor s t place vars out p → TermStands s t names vars out → MakesBy p m → IsMapIn out m
    map_in (child y) (on h j) m is stands by = absurd by
    map_in (child y) (build c n ps) m is stands by = absurd is
    map_in (call q y) (on h j) m is stands by = absurd by
    map_in (call q y) (build c n ps) m is stands by = absurd is
    map_in (node name labels outs) (on h j) m is stands by = absurd is
    map_in (node name labels outs) (build c n ps) m is stands (inl e) = record { labels = labels; stand = inl refl; labelled = stands.1; is = subst (IsMapFor s t labels) e is.1 }
    map_in (node name labels outs) (build c n ps) m is stands (inr by) = let i = map_in_one outs ps m is.2 stands.2 by in record { labels = i.labels; stand = inr i.stand; labelled = i.labelled; is = i.is }

    pub map_in_one : (outs : Outs) (ps : Parts Head RowMap) (m : RowMap) → AreTermsFor s t place vars outs ps → TermsStand s t names vars outs → MakesByOne ps m → IsMapInOne outs m
    map_in_one no_out no_parts m are stand by = absurd by
    map_in_one no_out (part p ps) m are stand by = absurd are
    map_in_one (and_out out outs) no_parts m are stand by = absurd are
    map_in_one (and_out out outs) (part p ps) m are stand (inl by) = let i = map_in out p m are.0 stand.0 by in record { labels = i.labels; stand = inl i.stand; labelled = i.labelled; is = i.is }
    map_in_one (and_out out outs) (part p ps) m are stand (inr by) = let i = map_in_one outs ps m are.1 stand.1 by in record { labels = i.labels; stand = inr i.stand; labelled = i.labelled; is = i.is }

  pub map_fits : (labels : List Expr) (m : RowMap) → IsMapFor s t labels m → EntriesFit (sorts_of s) (map plain_entry m.entries.items)
  map_fits labels m is = entries_fit s.fields labels (sorts_of t) (map plain_entry m.entries.items) is.entries

  pub map_sorts : (labels : List Expr) (m : RowMap) → LabelsStand s.fields t labels → IsMapFor s t labels m → map sort_by (map plain_entry m.entries.items) ≡ sorts_of t
  map_sorts labels m stand is = entries_sorts s.fields labels (sorts_of t) (map plain_entry m.entries.items) stand.sorted is.entries

  -- ---- children and states

  mutual
    pub child_low : (out : Out) (p : Term Head RowMap) (j : ℕ) → IsTermFor s t place vars out p → Uses j (with_maps row_make p) → j < length vars
    child_low (child y) (on identity i) j is uses = subst (λ n. n < length vars) uses is.below
    child_low (child y) (on (run q) i) j is uses = absurd is
    child_low (child y) (build c m ps) j is uses = absurd is
    child_low (call n y) (on identity i) j is uses = absurd is
    child_low (call n y) (on (run q) i) j is uses = subst (λ n. n < length vars) uses is.1.below
    child_low (call n y) (build c m ps) j is uses = absurd is
    child_low (node name labels outs) (on h i) j is uses = absurd is
    child_low (node name labels outs) (build c m ps) j is uses = child_low_in outs ps j is.2 uses

    child_low_in : (outs : Outs) (ps : Parts Head RowMap) (j : ℕ) → AreTermsFor s t place vars outs ps → UsesIn j (parts_with_maps row_make ps) → j < length vars
    child_low_in no_out no_parts j are uses = absurd uses
    child_low_in no_out (part p ps) j are uses = absurd are
    child_low_in (and_out out outs) no_parts j are uses = absurd are
    child_low_in (and_out out outs) (part p ps) j are (inl uses) = child_low out p j are.0 uses
    child_low_in (and_out out outs) (part p ps) j are (inr uses) = child_low_in outs ps j are.1 uses

  mutual
    pub state_called : (out : Out) (p : Term Head RowMap) (q j : ℕ) → IsTermFor s t place vars out p → Occurs (run q) j (with_maps row_make p) → (n : List ℕ) × IsCalledIn out n × (q ≡ place n)
    state_called (child y) (on identity i) q j is o = let e = o.0 in cc
    state_called (child y) (on (run k) i) q j is o = absurd is
    state_called (child y) (build c m ps) q j is o = absurd is
    state_called (call n y) (on identity i) q j is o = absurd is
    state_called (call n y) (on (run k) i) q j is o = (n.text, refl, let e = o.0 in let same : k ≡ q = cc in sym same ∙ is.0)
    state_called (call n y) (build c m ps) q j is o = absurd is
    state_called (node name labels outs) (on h i) q j is o = absurd is
    state_called (node name labels outs) (build c m ps) q j is o = state_called_in outs ps q j is.2 o

    state_called_in : (outs : Outs) (ps : Parts Head RowMap) (q j : ℕ) → AreTermsFor s t place vars outs ps → OccursIn (run q) j (parts_with_maps row_make ps) → (n : List ℕ) × IsCalledInOne outs n × (q ≡ place n)
    state_called_in no_out no_parts q j are o = absurd o
    state_called_in no_out (part p ps) q j are o = absurd are
    state_called_in (and_out out outs) no_parts q j are o = absurd are
    state_called_in (and_out out outs) (part p ps) q j are (inl o) = let c = state_called out p q j are.0 o in (c.0, inl c.1, c.2)
    state_called_in (and_out out outs) (part p ps) q j are (inr o) = let c = state_called_in outs ps q j are.1 o in (c.0, inr c.1, c.2)

  -- where a child is given unchanged, the types are one
  mutual
    pub same_types : (items : List Item) (out : Out) (p : Term Head RowMap) (j : ℕ) → IsTermFor s t place vars out p → IsTermTyped items s t out → Occurs identity j (with_maps row_make p) → s ≡ t
    same_types items (child y) p j is typed o = typed
    same_types items (call n y) (on identity i) j is typed o = absurd is
    same_types items (call n y) (on (run k) i) j is typed o = let e = o.0 in cc
    same_types items (call n y) (build c m ps) j is typed o = absurd is
    same_types items (node name labels outs) (on h i) j is typed o = absurd is
    same_types items (node name labels outs) (build c m ps) j is typed o = same_types_in items outs ps j is.2 typed.2 o

    same_types_in : (items : List Item) (outs : Outs) (ps : Parts Head RowMap) (j : ℕ) → AreTermsFor s t place vars outs ps → AreTermsTyped items s t outs → OccursIn identity j (parts_with_maps row_make ps) → s ≡ t
    same_types_in items no_out no_parts j are typed o = absurd o
    same_types_in items no_out (part p ps) j are typed o = absurd are
    same_types_in items (and_out out outs) no_parts j are typed o = absurd are
    same_types_in items (and_out out outs) (part p ps) j are typed (inl o) = same_types items out p j are.0 typed.0 o
    same_types_in items (and_out out outs) (part p ps) j are typed (inr o) = same_types_in items outs ps j are.1 typed.1 o

  -- ---- what is made

  as_many_parts : (outs : Outs) (ps : Parts Head RowMap) → AreTermsFor s t place vars outs ps → part_count (parts_with_maps row_make ps) ≡ laws.part_count outs
  as_many_parts no_out no_parts are = refl
  as_many_parts no_out (part p ps) are = absurd are
  as_many_parts (and_out out outs) no_parts are = absurd are
  as_many_parts (and_out out outs) (part p ps) are = ap suc (as_many_parts outs ps are.1)

  module _ (items : List Item) (apart : are_apart (names_of t) ≡ true) where
    mutual
      pub term_fits : (out : Out) (p : Term Head RowMap) → IsTermFor s t place vars out p → TermStands s t names vars out → IsTermTyped items s t out → TermFits (ranks_of t) (HasSorts (sorts_of s)) (HasSorts (sorts_of t)) (with_maps row_make p)
      term_fits (child y) (on h j) is stands typed = tt
      term_fits (child y) (build c m ps) is stands typed = absurd is
      term_fits (call q y) (on h j) is stands typed = tt
      term_fits (call q y) (build c m ps) is stands typed = absurd is
      term_fits (node name labels outs) (on h j) is stands typed = absurd is
      term_fits (node name labels outs) (build c m ps) is stands typed = (
        rw length-map is.0.below,
        λ l has. made_labels (sorts_of t) (map plain_entry m.entries.items) l (map_sorts labels m stands.1 is.1),
        as_many_parts outs ps is.2 ∙ typed.1 c (numbered_named t name.text c apart is.0),
        parts_fit outs ps is.2 stands.2 typed.2,
      )

      pub parts_fit : (outs : Outs) (ps : Parts Head RowMap) → AreTermsFor s t place vars outs ps → TermsStand s t names vars outs → AreTermsTyped items s t outs → PartsFit (ranks_of t) (HasSorts (sorts_of s)) (HasSorts (sorts_of t)) (parts_with_maps row_make ps)
      parts_fit no_out no_parts are stand typed = tt
      parts_fit no_out (part p ps) are stand typed = absurd are
      parts_fit (and_out out outs) no_parts are stand typed = absurd are
      parts_fit (and_out out outs) (part p ps) are stand typed = (term_fits out p are.0 stand.0 typed.0, parts_fit outs ps are.1 stand.1 typed.1)
