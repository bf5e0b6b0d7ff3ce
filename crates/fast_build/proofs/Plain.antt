-- Where no rules of a transformation meet, each state of its transducer gives at most one tree.
use Rattle.std.proofs.Common.{◌≡◌, ◌↔◌, ◌<◌, inl, inr, true, false, Bool, ℕ, List, [], Some, length, get_or, slice_get, refl, sym, ap, subst, ◌∙◌, arith}
use Rattle.std.specs.Option.{option_map}
use Rattle.std.proofs.lemmas.Bool.{cases_lt}
use Rattle.std.proofs.lemmas.Option.{slice_get-map}
use Rattle.model_tree.specs.Label.{Label}
use Rattle.model_tree.specs.Tree.{LabelTree}
use Rattle.model_tree.specs.Signature.{HasType, HasSorts, ranks_of, sorts_of}
use Rattle.model_program.specs.Syntax.{Name}
use Rattle.model_grammar.specs.Syntax.{named, TransItem, Item}
use Rattle.model_grammar.specs.Syntax as syntax
use Rattle.model_names.specs.Declared.{out_rules_of}
use Rattle.model_checks.specs.Programs.{is_well_formed}
use Rattle.model_meaning.specs.Meaning.{Applies}
use Rattle.model_meaning.specs.Types.{input_of}
use Rattle.model_run.specs.Parts.{IsFrom}
use Rattle.model_run.specs.Plain.{IsSameTerm, IsPlain, Meet, at_name}
use Rattle.model_sta.specs.Automaton.{rule_applies}
use Rattle.model_sta.specs.Sets.{Fits}
use Rattle.model_sttr.specs.Terms.{Term, on, build, Parts, no_parts, part, with_maps, parts_with_maps, StandFor, AreSame}
use Rattle.model_sttr.specs.Transducer.{Head, run, OutRule, out_rules, IsFunctionalOn, IsPlainOn}
use Rattle.model_sttr.specs.Transducer as machines
use Rattle.model_sttr.proofs.Single.{one_output}
use Rattle.model_layers.specs.Carries.{IsTyped}
use Rattle.model_sttr.specs.Plain.{PlainOut}
use Rattle.sta_core.specs.Machine.{PlainRule}
use Rattle.sttr_core.specs.Machine.{OutMachine}
use Rattle.sttr_core.proofs.Meaning.{meaning_of, rules_meant, rule_held}
use Rattle.record_label.specs.Derived.{same_atoms, same_sides, sides_derived, entries_derived, equal_rows}
use Rattle.record_label.specs.MapLaws.{both_true, equal_made}
use Rattle.record_label.specs.Rows.{RowAtom, row_holds}
use Rattle.record_label.specs.contracts.maps.RowEntryPartialEq.TheImpl as entry
use Rattle.record_label.specs.declared.maps.RowMap.{RowMap}
use Rattle.sttr_single.specs.Same.{AreEqual, AreEqualParts, same_term}
use Rattle.sttr_single.proofs.Alike.{equal_of, same_of}
use Rattle.fast_build.specs.CarriedTrans.{same_maps}
use Rattle.fast_build.specs.Terms.{row_make}
use Rattle.fast_build.specs.Transducer.{IsTransducerOf}
use Rattle.fast_build.specs.Transformations.{find_trans}
use Rattle.fast_build.proofs.CarryingTrans.{meant, state_there, input_is, input_beside}
use Rattle.fast_build.proofs.RulesWritten.{o, there_at, paired_there, written_at, term_stands_at, outputs_apart}
use Rattle.fast_build.proofs.SameTerms.{equal_of_same}
use Rattle.fast_build.proofs.Typed.{fits_from_type, type_from_fits}

-- ---- equal terms make the same

module _ (D : Label → Type 0) where
  equal_make : (m n : RowMap) (l : Label) → same_maps m n ≡ true → row_make m l ≡ row_make n l
  equal_make m n l e = equal_made same_atoms same_sides sides_derived entry.eq-value.it entries_derived equal_rows m.entries.items n.entries.items l (both_true _ _ e).0

  abbrev Alike : Term Head (Label → Label) → Term Head (Label → Label) → Type 0
  Alike = AreSame D

  abbrev AllAlike : Parts Head (Label → Label) → Parts Head (Label → Label) → Type 0
  AllAlike = StandFor (λ h k. h ≡ k) D

  mutual
    alike_equal : (p q : Term Head RowMap) → AreEqual same_maps p q → Alike (with_maps row_make p) (with_maps row_make q)
    alike_equal (on h j) (on k i) e = e
    alike_equal (on h j) (build d n qs) e = absurd e
    alike_equal (build c m ps) (on k i) e = absurd e
    alike_equal (build c m ps) (build d n qs) e = (e.0, (λ l has. equal_make m n l e.1), all_alike_equal ps qs e.2)

    all_alike_equal : (ps qs : Parts Head RowMap) → AreEqualParts same_maps ps qs → AllAlike (parts_with_maps row_make ps) (parts_with_maps row_make qs)
    all_alike_equal no_parts no_parts e = tt
    all_alike_equal no_parts (part q qs) e = absurd e
    all_alike_equal (part p ps) no_parts e = absurd e
    all_alike_equal (part p ps) (part q qs) e = (alike_equal p q e.0, all_alike_equal ps qs e.1)

  mutual
    alike_itself : (p : Term Head (Label → Label)) → Alike p p
    alike_itself (on h j) = (refl, refl)
    alike_itself (build c m ps) = (refl, (λ l has. refl), all_alike_itself ps)

    all_alike_itself : (ps : Parts Head (Label → Label)) → AllAlike ps ps
    all_alike_itself no_parts = tt
    all_alike_itself (part p ps) = (alike_itself p, all_alike_itself ps)

  mutual
    alike_back : (p q : Term Head (Label → Label)) → Alike p q → Alike q p
    alike_back (on h j) (on k i) e = (sym e.0, sym e.1)
    alike_back (on h j) (build d n qs) e = absurd e
    alike_back (build c m ps) (on k i) e = absurd e
    alike_back (build c m ps) (build d n qs) e = (sym e.0, (λ l has. sym (e.1 l has)), all_alike_back ps qs e.2)

    all_alike_back : (ps qs : Parts Head (Label → Label)) → AllAlike ps qs → AllAlike qs ps
    all_alike_back no_parts no_parts e = tt
    all_alike_back no_parts (part q qs) e = absurd e
    all_alike_back (part p ps) no_parts e = absurd e
    all_alike_back (part p ps) (part q qs) e = (alike_back p q e.0, all_alike_back ps qs e.1)

module _ (items : List Item) (well : is_well_formed items ≡ true) (n : Name) (t : TransItem) (found : find_trans items n.text ≡ Some t) (from into : List ℕ) (goes : IsFrom items (named n) from into) (names : List (List ℕ)) (d : OutMachine RowAtom RowMap) (is : IsTransducerOf items n.text names d) where
  abbrev inputs : Label → Type 0
  inputs = HasSorts (sorts_of (input_of items n.text))

  abbrev machine : machines.Sttr Label
  machine = meant items well n t found from into goes names d is

  -- a rule applies where the written one does
  applies_at : (k i : ℕ) (r : PlainOut (PlainRule RowAtom) RowMap) (w : syntax.OutRule) → k < length names → slice_get (get_or d.rules k []) i ≡ Some r → slice_get (out_rules_of items (get_or names k [])) i ≡ Some w → (u : LabelTree) → HasType (input_of items n.text) u
      → rule_applies machine.looks u (meaning_of row_holds row_make r).rule ≡ true → Applies items (input_of items n.text) w.rule u
  applies_at k i r w low at at' u typed e =
      let there : slice_get (out_rules machine k) i ≡ Some (meaning_of row_holds row_make r) = ap (λ rs. slice_get rs i) (rules_meant row_holds row_make d k) ∙ slice_get-map (meaning_of row_holds row_make) (get_or d.rules k []) i ∙ ap (option_map (meaning_of row_holds row_make)) at in
      (paired_there (λ x v. (y : LabelTree) → HasType (input_of items n.text) y → (rule_applies machine.looks y x.rule ≡ true) ↔ Applies items (input_of items n.text) v.rule y) (out_rules machine k) (out_rules_of items (get_or names k [])) i (meaning_of row_holds row_make r) w (is.applies k low) there at' u typed).0 e

  module _ (plain : IsPlain items (named n)) where
    -- rules that apply to one tree have terms that make the same
    same_below : (k i j : ℕ) (r q : PlainOut (PlainRule RowAtom) RowMap) → k < length names → i < j → slice_get (get_or d.rules k []) i ≡ Some r → slice_get (get_or d.rules k []) j ≡ Some q → (u : LabelTree) → HasType (input_of items n.text) u
        → rule_applies machine.looks u (meaning_of row_holds row_make r).rule ≡ true → rule_applies machine.looks u (meaning_of row_holds row_make q).rule ≡ true → Alike inputs (with_maps row_make r.term) (with_maps row_make q.term)
    same_below k i j r q low order at at' u typed e e' = by (same_term same_maps r.term q.term) refl
      where
        by : (b : Bool) → same_term same_maps r.term q.term ≡ b → Alike inputs (with_maps row_make r.term) (with_maps row_make q.term)
        by true same = alike_equal inputs r.term q.term (equal_of same_maps r.term q.term same)
        by false other =
            let w = written_at items well n t found from into goes names d is k i r low at in
            let v = written_at items well n t found from into goes names d is k j q low at' in
            let begins = input_beside items well n t found from into goes names d is k low in
            let unlike : ¬ (IsSameTerm (input_of items n.text).fields w.other.rule.vars v.other.rule.vars w.other.out v.other.out) = λ same.
            differ (sym other ∙ same_of same_maps r.term q.term (equal_of_same (input_of items n.text) (o items well n t found from into goes names d is) names (outputs_apart items well n t found from into goes names d is) w.other.rule.vars v.other.rule.vars w.other.out v.other.out r.term q.term w.holds.term v.holds.term
            (term_stands_at items well n t found from into goes names d is k i r w.other low at w.at) (term_stands_at items well n t found from into goes names d is k j q v.other low at' v.at) same)) in
            let meet : Meet items (get_or names k []) i j u = (
              order,
              w.other,
              v.other,
              w.at,
              v.at,
              subst (λ z. ¬ (IsSameTerm z.fields w.other.rule.vars v.other.rule.vars w.other.out v.other.out)) (sym begins) unlike,
              subst (λ z. HasType z u) (sym begins) typed,
              subst (λ z. Applies items z w.other.rule u) (sym begins) (applies_at k i r w.other low at w.at u typed e),
              subst (λ z. Applies items z v.other.rule u) (sym begins) (applies_at k j q v.other low at' v.at u typed e'),
            ) in
            absurd (plain (at_name n (get_or names k []) (is.reached k [] low) (i, j, u, meet)))
          where
            differ : false ≡ true → ⊥
            differ e = cc

    plain_on : IsPlainOn machine inputs (Fits (ranks_of (input_of items n.text)) inputs)
    plain_on k r q at at' u fits e e' =
        let typed = type_from_fits (input_of items n.text) u fits in
        let (x, there, same) = rule_held row_holds row_make d k r at in
        let (y, there', same') = rule_held row_holds row_make d k q at' in
        let (i, at_x) = there_at (get_or d.rules k []) x there in
        let (j, at_y) = there_at (get_or d.rules k []) y there' in
        let low : k < length names = state_there items well n t found from into goes names d is k x there in
        let apply : rule_applies machine.looks u (meaning_of row_holds row_make x).rule ≡ true = subst (λ (z : OutRule Label). rule_applies machine.looks u z.rule ≡ true) (sym same) e in
        let apply' : rule_applies machine.looks u (meaning_of row_holds row_make y).rule ≡ true = subst (λ (z : OutRule Label). rule_applies machine.looks u z.rule ≡ true) (sym same') e' in
        subst (λ (z : OutRule Label). Alike inputs z.term q.term) same (subst (λ (z : OutRule Label). Alike inputs (with_maps row_make x.term) z.term) same' (elim (cases_lt i j) [
          | inl before ↦ same_below k i j x y low before at_x at_y u typed apply apply'
          | inr not_before ↦ elim (cases_lt j i) [
            | inl behind ↦ alike_back inputs (with_maps row_make y.term) (with_maps row_make x.term) (same_below k j i y x low behind at_y at_x u typed apply' apply)
            | inr not_behind ↦ (
                let place : i ≡ j = omega (arith, not_before, not_behind) in
                let one : Some x ≡ Some y = sym at_x ∙ ap (slice_get (get_or d.rules k [])) place ∙ at_y in
                let rule : x ≡ y = cc in
                subst (λ (z : PlainOut (PlainRule RowAtom) RowMap). Alike inputs (with_maps row_make x.term) (with_maps row_make z.term)) rule (alike_itself inputs (with_maps row_make x.term)))
          ]
        ]))

    pub functional : IsFunctionalOn machine (IsTyped items from)
    functional k u v w typed a b =
        let own : HasType (input_of items n.text) u = subst (λ z. HasType z u) (input_is items well n t found from into goes names d is) typed in
        one_output (ranks_of (input_of items n.text)) inputs machine plain_on u (fits_from_type (input_of items n.text) u own) (run k) v w a b
