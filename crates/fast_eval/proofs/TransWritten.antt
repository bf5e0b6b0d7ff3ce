-- The comparisons and the maps of a transducer that was built by rules are those that are written.
use Rattle.std.proofs.Common.{◌≡◌, ◌⊎◌, inl, inr, ℕ, zero, suc, Bool, true, false, cond, List, [], ◌∷◌, Option, Some, None, All, Contains, refl, sym, subst, arith}
use Rattle.std.proofs.lemmas.List.Elements.{All-contains}
use Rattle.model_tree.specs.Formula.{Formula}
use Rattle.model_tree.specs.Signature.{Sort, wholes, truths, texts, PlainField, PlainSignature, sorts_of}
use Rattle.model_program.specs.Syntax.{Name}
use Rattle.model_grammar.specs.declared.Chain.TheVariants.{Disjunction, Conjunction, Sum, Product}
use Rattle.model_grammar.specs.Syntax.{Expr, field, number, text, truth, negation, compare, minus, chain, named, TransItem, Item}
use Rattle.model_names.specs.Declared.{name_of}
use Rattle.model_checks.specs.Programs.{is_well_formed}
use Rattle.model_meaning.specs.Types.{input_of, output_of}
use Rattle.model_meaning.specs.Meaning.{signature_named}
use Rattle.model_label.specs.Fields.{is_field_of, sort_at}
use Rattle.model_label.specs.Tests.{is_text}
use Rattle.model_form.specs.Form.{Form}
use Rattle.model_form.specs.Same.{same_form}
use Rattle.model_form.proofs.Equals.{same_laws}
use Rattle.model_guard.specs.Forms.{is_whole, form_of}
use Rattle.model_guard.specs.Guards.{is_guard}
use Rattle.model_run.specs.Parts.{IsFrom}
use Rattle.model_run.specs.Seen.{fields_at, listed, list_of_rule, of_language, of_transformation, AreLabels, compare_of_label, IsCompareIn}
use Rattle.model_run.specs.Seen as seen
use Rattle.model_layers.specs.Compared.{AreSameForms}
use Rattle.label_core.specs.Formula.{atoms_in}
use Rattle.label_core.specs.declared.pair.PairAtom.TheVariants.{Left}
use Rattle.label_split.proofs.SameAtoms.{all_atoms}
use Rattle.lin_solve.specs.declared.compare.Compare.{Compare}
use Rattle.lin_solve.specs.Plain.{plain_compare}
use Rattle.sttr_core.specs.Machine.{OutMachine}
use Rattle.sttr_core.specs.Fits.{EveryMap}
use Rattle.sttr_run.specs.Sources.{HasAtomIn, HasMap}
use Rattle.sta_theory.proofs.Lists.{first_in, later_in}
use Rattle.record_label.specs.Guards.{written_in, IsGuardOf}
use Rattle.record_label.specs.Rows.{RowAtom}
use Rattle.record_label.specs.declared.maps.RowMap.{RowMap}
use Rattle.record_label.specs.Maps.{Entry, number_by, truth_by, text_by, forms_of, formulas_in, is_of_sort, AreOfSorts, AreEntriesOf}
use Rattle.fast_build.specs.Automaton.{IsGuardReached}
use Rattle.fast_build.specs.Transducer.{IsOutGuardReached, IsMapReached, IsTransducerOf}
use Rattle.fast_build.specs.Transformations.{find_trans}
use Rattle.fast_build.specs.Rules.{IsGuardFor}
use Rattle.fast_build.proofs.CarryingTrans.{input_is, lang_type, trans_goes}
use Rattle.fast_eval.specs.Built.{entries_of, HasTest, IsCompared, AreListed, AreTransCompared}
use Rattle.fast_eval.proofs.NamesBuilt.{IsWritten, guard_written}
use Rattle.fast_eval.proofs.Written.{written}

-- ---- what is a whole number is no truth value, and no text

no_whole_field : (sort : Sort) (o : Option Sort) → (wholes ≡ sort → ⊥) → is_field_of sort o ≡ true → is_field_of wholes o ≡ false
no_whole_field sort None other e = refl
no_whole_field wholes (Some wholes) other e = absurd (other refl)
no_whole_field truths (Some wholes) other e = absurd (cc)
no_whole_field texts (Some wholes) other e = absurd (cc)
no_whole_field sort (Some truths) other e = refl
no_whole_field sort (Some texts) other e = refl

either_place : {X : Type 0} (x : X) (xs : List X) (y : X) → Contains (x ∷ xs) y → (x ≡ y) ⊎ Contains xs y
either_place x xs y (zero, low, is) = inl is
either_place x xs y (suc k, low, is) = inr (k, omega (arith, low), is)

module _ (fields : List PlainField) where
  guard_not_whole : (e : Expr) → is_guard fields e ≡ true → is_whole fields e ≡ false
  guard_not_whole (field p name) is = no_whole_field truths (sort_at fields name) (λ same. let no : wholes ≡ truths = same in cc) is
  guard_not_whole (number p n) is = absurd (cc)
  guard_not_whole (text p t) is = refl
  guard_not_whole (truth p b) is = refl
  guard_not_whole (negation p e) is = refl
  guard_not_whole (compare p rel a b) is = refl
  guard_not_whole (minus p e) is = absurd (cc)
  guard_not_whole (chain Disjunction p parts) is = refl
  guard_not_whole (chain Conjunction p parts) is = refl
  guard_not_whole (chain Sum p parts) is = absurd (cc)
  guard_not_whole (chain Product p parts) is = absurd (cc)

  text_not_whole : (e : Expr) → is_text fields e ≡ true → is_whole fields e ≡ false
  text_not_whole (field p name) is = no_whole_field texts (sort_at fields name) (λ same. let no : wholes ≡ texts = same in cc) is
  text_not_whole (number p n) is = absurd (cc)
  text_not_whole (text p t) is = refl
  text_not_whole (truth p b) is = absurd (cc)
  text_not_whole (negation p e) is = absurd (cc)
  text_not_whole (compare p rel a b) is = absurd (cc)
  text_not_whole (minus p e) is = absurd (cc)
  text_not_whole (chain kind p parts) is = absurd (cc)

  -- ---- the forms of a map

  more_forms : (b : Bool) (f g : Form) (fs gs : List Form) → b ≡ true → same_form f g ≡ true → AreSameForms fs gs → AreSameForms (cond b (f ∷ fs) fs) (g ∷ gs)
  more_forms true f g fs gs is same rest = (same, rest)
  more_forms false f g fs gs is same rest = absurd (cc)

  no_more : (b : Bool) (f : Form) (fs gs : List Form) → b ≡ false → AreSameForms fs gs → AreSameForms (cond b (f ∷ fs) fs) gs
  no_more true f fs gs is rest = absurd (cc)
  no_more false f fs gs is rest = rest

  of_sort : (e : Expr) (s t : Sort) → t ≡ s → is_of_sort fields s e ≡ true → is_of_sort fields t e ≡ true
  of_sort e s t same is = subst (λ k. is_of_sort fields k e ≡ true) (sym same) is

  same_forms : (es : List Expr) (sorts : List Sort) (entries : List Entry) → AreOfSorts fields es sorts → AreEntriesOf fields es sorts entries → AreSameForms (seen.forms_of fields es) (forms_of entries)
  same_forms [] sorts [] of are = tt
  same_forms [] sorts (x ∷ entries) of are = absurd are
  same_forms (e ∷ es) sorts [] of are = absurd are
  same_forms (e ∷ es) [] (x ∷ entries) of are = absurd are
  same_forms (e ∷ es) (s ∷ sorts) (number_by f ∷ entries) of are =
      more_forms (is_whole fields e) (form_of fields e) f (seen.forms_of fields es) (forms_of entries) (of_sort e s wholes are.0.of_sort of.0) (subst (λ g. same_form (form_of fields e) g ≡ true) (sym are.0.written) (same_laws.refl (form_of fields e)))
      (same_forms es sorts entries of.1 are.1)
  same_forms (e ∷ es) (s ∷ sorts) (truth_by f ∷ entries) of are = no_more (is_whole fields e) (form_of fields e) (seen.forms_of fields es) (forms_of entries) (guard_not_whole e (of_sort e s truths are.0.of_sort of.0)) (same_forms es sorts entries of.1 are.1)
  same_forms (e ∷ es) (s ∷ sorts) (text_by t ∷ entries) of are = no_more (is_whole fields e) (form_of fields e) (seen.forms_of fields es) (forms_of entries) (text_not_whole e (of_sort e s texts are.0.of_sort of.0)) (same_forms es sorts entries of.1 are.1)

  -- ---- the formulas of a map

  record IsByExpr (es : List Expr) (f : Formula RowAtom) : Type 0 where
    expr : Expr
    there : Contains es expr
    guard : is_guard fields expr ≡ true
    is : IsGuardOf fields expr f

  by_later : (e : Expr) (es : List Expr) (f : Formula RowAtom) → IsByExpr es f → IsByExpr (e ∷ es) f
  by_later e es f b = record { expr = b.expr; there = later_in e b.expr es b.there; guard = b.guard; is = b.is }

  formula_by : (es : List Expr) (sorts : List Sort) (entries : List Entry) → AreOfSorts fields es sorts → AreEntriesOf fields es sorts entries → (f : Formula RowAtom) → Contains (formulas_in entries) f → IsByExpr es f
  formula_by [] sorts [] of are f at = absurd (omega (arith, at.1))
  formula_by [] sorts (x ∷ entries) of are f at = absurd are
  formula_by (e ∷ es) sorts [] of are f at = absurd are
  formula_by (e ∷ es) [] (x ∷ entries) of are f at = absurd are
  formula_by (e ∷ es) (s ∷ sorts) (number_by g ∷ entries) of are f at = by_later e es f (formula_by es sorts entries of.1 are.1 f at)
  formula_by (e ∷ es) (s ∷ sorts) (text_by t ∷ entries) of are f at = by_later e es f (formula_by es sorts entries of.1 are.1 f at)
  formula_by (e ∷ es) (s ∷ sorts) (truth_by g ∷ entries) of are f at = elim (either_place g (formulas_in entries) f at) [
    | inl same ↦ record { expr = e; there = first_in e es; guard = of_sort e s truths are.0.of_sort of.0; is = subst (IsGuardOf fields e) same are.0.written.0 }
    | inr later ↦ by_later e es f (formula_by es sorts entries of.1 are.1 f later)
  ]

-- ---- of a name

module _ (items : List Item) (well : is_well_formed items ≡ true) (n : Name) (t : TransItem) (found : find_trans items n.text ≡ Some t) (from into : List ℕ) (goes : IsFrom items (named n) from into) (names : List (List ℕ)) (d : OutMachine RowAtom RowMap) (is : IsTransducerOf items n.text names d) where
  input : signature_named items (Some from) ≡ input_of items n.text
  input = input_is items well n t found from into goes names d is

  look_written : (f : Formula RowAtom) → IsGuardReached items n.text f → All (IsWritten items n from) (atoms_in f)
  look_written f (other, reached, r, at, own) =
      guard_written items n from f r.guard (λ e same. of_language n (name_of other) from r e reached (lang_type items well n t found from into goes names d is other r reached at) at same)
      (subst (λ (s : PlainSignature). IsGuardFor s.fields r.guard f) (sym input) own)

  out_written : (f : Formula RowAtom) → IsOutGuardReached items n.text f → All (IsWritten items n from) (atoms_in f)
  out_written f (other, reached, r, at, own) =
      guard_written items n from f r.rule.guard (λ e same. of_transformation n (name_of other) from r e reached (trans_goes items well n t found from into goes names d is other r reached at).1 at same)
      (subst (λ (s : PlainSignature). IsGuardFor s.fields r.rule.guard f) (sym input) own)

  by_guard : (c : Compare) → HasAtomIn d (Left c) → IsCompared items (named n) from (plain_compare c)
  by_guard c (inl (those, at, r, there, own)) =
      let rules = All-contains (λ rs. All (λ p. IsGuardReached items n.text p.guard) rs) d.looks.rules those is.look_guards at in
      All-contains (IsWritten items n from) (atoms_in r.guard) (Left c) (look_written r.guard (All-contains (λ p. IsGuardReached items n.text p.guard) those r rules there)) own
  by_guard c (inr (those, at, r, there, own)) =
      let rules = All-contains (λ rs. All (λ p. IsOutGuardReached items n.text p.rule.guard) rs) d.rules those is.guards at in
      All-contains (IsWritten items n from) (atoms_in r.rule.guard) (Left c) (out_written r.rule.guard (All-contains (λ p. IsOutGuardReached items n.text p.rule.guard) those r rules there)) own

  map_reached : (m : RowMap) → HasMap d m → IsMapReached items n.text m
  map_reached m (those, at, r, there, makes) =
      let rules = All-contains (λ rs. All (λ p. EveryMap (IsMapReached items n.text) p.term) rs) d.rules those is.maps at in
      All-contains (λ p. EveryMap (IsMapReached items n.text) p.term) those r rules there m makes

  labels_are : (m : RowMap) (w : IsMapReached items n.text m) → AreLabels items n from into w.labels
  labels_are m w = record {
    transformation = name_of w.other;
    reached = w.reached;
    goes = trans_goes items well n t found from into goes names d is w.other w.rule w.reached w.there;
    rule = w.rule;
    there = w.there;
    stand = w.stand;
  }

  by_map : (c : Compare) (m : RowMap) → HasMap d m → (f : Formula RowAtom) → Contains (formulas_in (entries_of m)) f → Contains (atoms_in f) (Left c) → IsCompared items (named n) from (plain_compare c)
  by_map c m has f at own =
      let w = map_reached m has in
      let fields = (input_of items n.text).fields in
      let by = formula_by fields w.labels (sorts_of (output_of items n.text)) (entries_of m) w.labelled.sorted w.is.entries f at in
      let is_in : IsCompareIn fields by.expr (plain_compare c) = written fields by.expr by.guard c (All-contains (Contains (written_in fields by.expr)) (atoms_in f) (Left c) (all_atoms (Contains (written_in fields by.expr)) f by.is.atoms) own) in
      let k = plain_compare c in
      (k, compare_of_label n from into w.labels by.expr k (labels_are m w) by.there (subst (λ (s : PlainSignature). IsCompareIn s.fields by.expr k) (sym input) is_in), (refl, same_laws.refl k.left, same_laws.refl k.right))

  maps_listed : (m : RowMap) → HasMap d m → AreListed items (named n) from into m
  maps_listed m has =
      let w = map_reached m has in
      let same = same_forms (input_of items n.text).fields w.labels (sorts_of (output_of items n.text)) (entries_of m) w.labelled.sorted w.is.entries in (
        listed (fields_at items from) (fields_at items into) w.labels,
        list_of_rule n from into w.labels (labels_are m w),
        subst (λ (s : PlainSignature). AreSameForms (seen.forms_of s.fields w.labels) (forms_of (entries_of m))) (sym input) same,
      )

  pub trans_compared : AreTransCompared items (named n) from into d
  trans_compared = record { compares = tests; maps = maps_listed }
    where
      tests : (c : Compare) → HasTest d (Left c) → IsCompared items (named n) from (plain_compare c)
      tests c (inl has) = by_guard c has
      tests c (inr (m, has, f, at, own)) = by_map c m has f at own
