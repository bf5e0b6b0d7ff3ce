-- What is said of the rules of transformations in a well-formed program.
use Rattle.std.proofs.Common.{◌≡◌, inl, inr, ◌+◌, ℕ, suc, ℤ, ◌<◌, ◌≤◌, ◌==◌, ◌||◌, Bool, true, false, cond, List, [], ◌∷◌, ◌++◌, Option, Some, None, map, length, All, Contains, refl, sym, ap, subst, ◌∙◌, arith}
use Rattle.std.proofs.lemmas.Bool.{and_parts}
use Rattle.std.specs.Prelude.{is_some, not}
use Rattle.std.specs.List.{list_all, position_or_len}
use Rattle.std.specs.Option.{option_map_or}
use Rattle.std.proofs.lemmas.List.{length-map}
use Rattle.model_tree.specs.Limits.{most_fields}
use Rattle.model_tree.specs.Signature.{Sort, wholes, truths, texts, PlainConstructor, names_of}
use Rattle.model_form.specs.Form.{Form}
use Rattle.model_guard.specs.Forms.{forms_in, HasOutside}
use Rattle.model_program.specs.Syntax.{Name, FieldItem, TypeItem}
use Rattle.model_grammar.specs.Syntax.{Expr, Out, child, call, node, Outs, no_out, and_out, OutRule, TransItem, trans, Item}
use Rattle.model_names.specs.Declared.{same_text, find_type, find_item}
use Rattle.model_names.specs.Kinds.{declared_type}
use Rattle.model_names.specs.Sorts.{sort_named, own_sort}
use Rattle.model_meaning.specs.Types.{signature_of}
use Rattle.model_meaning.specs.Reached.{IsCalledIn, IsCalledInOne}
use Rattle.fast_fault.specs.declared.code.Code.TheVariants.{UnknownName, WrongRank, WrongType, WrongSort}
use Rattle.model_checks.specs.Failures.{is_empty, fails_if}
use Rattle.model_checks.specs.Sorts.{sort_of, differ_in_sort, needs_sort, place_of, plain_fields}
use Rattle.model_checks.specs.Labels.{label_failures, needs_sort_of, labels_failures}
use Rattle.model_checks.specs.Types.{is_among}
use Rattle.model_checks.specs.Rules.{differ, count_outs, type_at, scope_of, fields_of, constructor_failures, label_count_failures, variable_failures, transformation_failures, out_failures, outs_failures}
use Rattle.model_checks.specs.Programs.{is_well_formed}
use Rattle.model_checks.specs.Sound.{names_of_ctors, IsSoundType, IsSoundLabel, IsSoundGuard, IsSoundTrans}
use Rattle.model_checks.proofs.Soundness.{empty_first, empty_second, empty_both, needed, is_there}
use Rattle.model_checks.proofs.SoundParts.{has_ctor, sound_label}
use Rattle.model_checks.proofs.SoundWhole.{sound, finds}
use Rattle.meaning_laws.proofs.SoundGuards.{sound_guard, sound_whole, sound_text}
use Rattle.record_label.specs.Maps.{is_of_sort, AreOfSorts, forms_in_each}
use Rattle.meaning_laws.proofs.Sorted.{suc_equal, none_is_some, some_is_none}
use Rattle.fast_build.specs.Reached.{demanded_by}
use Rattle.fast_build.specs.Stands.{GuardStands}
use Rattle.fast_build.specs.Terms.{IsVariable, TermStands, TermsStand}
use Rattle.fast_build.specs.OutRules.{OutRuleStands}
use Rattle.fast_build.specs.Transformations.{find_trans}
use Rattle.fast_build.proofs.Stands.{are_apart, has_rank}
use Rattle.fast_build.proofs.WellFormed.{ctor_found, rank_same, ctor_texts, apart_texts}
use Rattle.sta_theory.proofs.Lists.{append_member}
use Rattle.fast_build.proofs.Transforming.{trans_there}

-- ---- labels

outside_of_both : (fs gs : List Form) (n : ℤ) → (HasOutside fs n → ⊥) → (HasOutside gs n → ⊥) → HasOutside (fs ++ gs) n → ⊥
outside_of_both fs gs n first second (f, at, out) = elim (append_member fs gs f at) [ inl h ↦ first (f, h, out) | inr h ↦ second (f, h, out) ]

none_outside : (n : ℤ) → HasOutside [] n → ⊥
none_outside n (f, (k, low, is), out) = omega (arith, low)

module _ (fields : List FieldItem) (known : list_all (λ f. is_some (sort_named f.sort.text)) fields ≡ true) (few : length fields ≤ most_fields) where
  record Label (sort : Sort) (e : Expr) : Type 0 where
    of_sort : is_of_sort (plain_fields fields) sort e ≡ true
    within : (n : ℤ) → HasOutside (forms_in (plain_fields fields) e) n → ⊥

  label_stands : (sort : Sort) (e : Expr) → IsSoundLabel fields sort e → Label sort e
  label_stands wholes e s = let w = sound_whole fields known few e s in record { of_sort = w.is; within = w.within }
  label_stands truths e s = let g = sound_guard fields known few e s in record { of_sort = g.is; within = g.within }
  label_stands texts e s = let t = sound_text fields known few e s in record { of_sort = t.is; within = t.within }

  pub record Labels (into : List FieldItem) (labels : List Expr) : Type 0 where
    pub sorted : AreOfSorts (plain_fields fields) labels (map (λ f. f.sort) (plain_fields into))
    pub within : (n : ℤ) → HasOutside (forms_in_each (plain_fields fields) labels) n → ⊥

  pub labels_stand : (into : List FieldItem) (labels : List Expr) → list_all (λ f. is_some (sort_named f.sort.text)) into ≡ true → (length into == length labels) ≡ true → is_empty (labels_failures (Some fields) into labels) ≡ true → Labels into labels
  labels_stand [] [] all many fine = record { sorted = tt; within = none_outside }
  labels_stand [] (e ∷ labels) all many fine = absurd (none_is_some (length labels) many)
  labels_stand (f ∷ into) [] all many fine = absurd (some_is_none (length into) many)
  labels_stand (f ∷ into) (e ∷ labels) all many fine =
      let two = and_parts (is_some (sort_named f.sort.text)) (list_all (λ f. is_some (sort_named f.sort.text)) into) all in
      let named = is_there (sort_named f.sort.text) two.0 in
      let own : own_sort f ≡ named.0 = ap (λ o. option_map_or (λ sort. sort) o texts) named.1 in
      let behind = empty_second (label_failures (Some fields) e) (needs_sort_of (Some fields) f e ++ labels_failures (Some fields) into labels) fine in
      let needs : is_empty (needs_sort (Some fields) named.0 e) ≡ true = subst (λ o. is_empty (fails_if (differ_in_sort o (sort_of (Some fields) e)) WrongSort (place_of e)) ≡ true) named.1 (empty_first (needs_sort_of (Some fields) f e) (labels_failures (Some fields) into labels) behind) in
      let first = label_stands named.0 e (sound_label fields named.0 e known (empty_both (label_failures (Some fields) e) (needs_sort (Some fields) named.0 e) (empty_first (label_failures (Some fields) e) (needs_sort_of (Some fields) f e ++ labels_failures (Some fields) into labels) fine) needs)) in
      let later = labels_stand into labels two.1 (suc_equal (length into) (length labels) many) (empty_second (needs_sort_of (Some fields) f e) (labels_failures (Some fields) into labels) behind) in
      record {
        sorted = (subst (λ s. is_of_sort (plain_fields fields) s e ≡ true) (sym own) first.of_sort, later.sorted);
        within = λ n. outside_of_both (forms_in (plain_fields fields) e) (forms_in_each (plain_fields fields) labels) n (first.within n) (later.within n);
      }

-- ---- variables

variable_there : (vars : List Name) (y : List ℕ) → is_among vars y ≡ true → IsVariable vars y
variable_there [] y e = absurd (cc)
variable_there (v ∷ vars) y e = by (same_text v.text y) e (variable_there vars y)
  where
    by : (b : Bool) → (b || is_among vars y) ≡ true → (is_among vars y ≡ true → position_or_len (λ v. same_text v.text y) vars < length vars) → cond (not b) (1 + position_or_len (λ v. same_text v.text y) vars) 0 < suc (length vars)
    by true e later = omega arith
    by false e later = let l = later e in omega arith

-- ---- terms

module _ (items : List Item) (from into : Name) (s t : TypeItem) (found_from : find_type items from.text ≡ Some s) (found_into : find_type items into.text ≡ Some t) (sound_from : IsSoundType s) (sound_into : IsSoundType t) (vars : List Name) (names : List (List ℕ)) where
  mutual
    pub term_stands : (out : Out) → is_empty (out_failures items from into vars out) ≡ true → ((q : List ℕ) → IsCalledIn out q → Contains names q) → TermStands (signature_of s) (signature_of t) names vars out
    term_stands (child y) e called =
        variable_there vars y.text (needed (is_among vars y.text) UnknownName y.place (empty_first (variable_failures vars y) (fails_if (differ (declared_type items from) (declared_type items into)) WrongType y.place) e))
    term_stands (call q y) e called = (
      called q.text refl,
      variable_there vars y.text (needed (is_among vars y.text) UnknownName y.place (empty_second (transformation_failures items from into q) (variable_failures vars y) e)),
    )
    term_stands (node name labels outs) e called =
        let a = constructor_failures (type_at items into) name (count_outs outs) in
        let b = label_count_failures (type_at items into) name (length labels) in
        let c = labels_failures (scope_of (type_at items from)) (fields_of (type_at items into)) labels in
        let d = outs_failures items from into vars outs in
        let after_a = empty_second a (b ++ (c ++ d)) e in
        let after_b = empty_second b (c ++ d) after_a in
        let ctor = has_ctor t name (count_outs outs) (subst (λ o. is_empty (constructor_failures o name (count_outs outs)) ≡ true) found_into (empty_first a (b ++ (c ++ d)) e)) in
        let many = needed (length t.fields == length labels) WrongRank name.place (subst (λ o. is_empty (label_count_failures o name (length labels)) ≡ true) found_into (empty_first b (c ++ d) after_a)) in
        let fine = subst (λ o. is_empty (labels_failures (scope_of o) (fields_of (type_at items into)) labels) ≡ true) found_from (empty_first c d after_b) in
        let fine_too = subst (λ o. is_empty (labels_failures (Some s.fields) (fields_of o) labels) ≡ true) found_into fine in
        let stand = labels_stand s.fields sound_from.sorts sound_from.few_fields t.fields labels sound_into.sorts many fine_too in (
          ap is_some (ctor_found t.ctors name.text ctor.ctor ctor.found),
          record { sorted = stand.sorted; within = stand.within },
          terms_stand outs (empty_second c d after_b) called,
        )

    pub terms_stand : (outs : Outs) → is_empty (outs_failures items from into vars outs) ≡ true → ((q : List ℕ) → IsCalledInOne outs q → Contains names q) → TermsStand (signature_of s) (signature_of t) names vars outs
    terms_stand no_out e called = tt
    terms_stand (and_out out outs) e called = (
      term_stands out (empty_first (out_failures items from into vars out) (outs_failures items from into vars outs) e) (λ q is. called q (inl is)),
      terms_stand outs (empty_second (out_failures items from into vars out) (outs_failures items from into vars outs) e) (λ q is. called q (inr is)),
    )

-- ---- rules

module _ (items : List Item) (well : is_well_formed items ≡ true) (name : List ℕ) (t : TransItem) (found : find_trans items name ≡ Some t) where
  at : (item : Item) × (find_item items name ≡ Some item) × (item.body ≡ trans t)
  at = trans_there items name t found

  pub trans_sound : IsSoundTrans items t
  trans_sound = (sound items well).transformations at.0 t ((finds items).item name at.0 at.1) at.2

  type_sound : (n : Name) (s : TypeItem) → find_type items n.text ≡ Some s → IsSoundType s
  type_sound n s e = let type = (finds items).type n.text s e in (sound items well).types type.0 s type.1 type.2

  pub sound_from : IsSoundType trans_sound.from
  sound_from = type_sound t.from trans_sound.from trans_sound.found_from

  pub sound_into : IsSoundType trans_sound.into
  sound_into = type_sound t.into trans_sound.into trans_sound.found_into

  pub rank_stands : (r : OutRule) → Contains t.rules r → has_rank (signature_of trans_sound.from) r.rule ≡ true
  rank_stands r there =
      let sr = trans_sound.rules r there in
      ap (λ o. option_map_or (λ (c : PlainConstructor). c.rank == length r.rule.vars) o false) (ctor_found trans_sound.from.ctors r.rule.ctor.text sr.ctor sr.found) ∙ rank_same sr.ctor.rank (length r.rule.vars) sr.rank

  guard_stands : (guard : Option Expr) → IsSoundGuard trans_sound.from.fields guard → GuardStands (signature_of trans_sound.from).fields guard
  guard_stands None s = tt
  guard_stands (Some e) s = let g = sound_guard trans_sound.from.fields sound_from.sorts sound_from.few_fields e (s e refl) in (g.is, g.within)

  pub few_fields : length (signature_of trans_sound.from).fields ≤ most_fields
  few_fields = rw length-map sound_from.few_fields

  pub ctors_apart_from : are_apart (names_of (signature_of trans_sound.from)) ≡ true
  ctors_apart_from = ap are_apart (ctor_texts trans_sound.from.ctors) ∙ apart_texts (names_of_ctors trans_sound.from.ctors) ∙ sound_from.ctors

  pub ctors_apart_into : are_apart (names_of (signature_of trans_sound.into)) ≡ true
  ctors_apart_into = ap are_apart (ctor_texts trans_sound.into.ctors) ∙ apart_texts (names_of_ctors trans_sound.into.ctors) ∙ sound_into.ctors

  -- where its demands are among some names of languages, and its calls among some of transformations
  pub out_rule_stands : (looks names : List (List ℕ)) (r : OutRule) → Contains t.rules r → All (Contains looks) (demanded_by r.rule.given) → ((q : List ℕ) → IsCalledIn r.out q → Contains names q)
      → OutRuleStands (signature_of trans_sound.from) (signature_of trans_sound.into) looks names r
  out_rule_stands looks names r there demands called =
      let sr = trans_sound.rules r there in
      record {
        ctor = ap is_some (ctor_found trans_sound.from.ctors r.rule.ctor.text sr.ctor sr.found);
        guard = guard_stands r.rule.guard sr.guard;
        demands = demands;
        term = term_stands items t.from t.into trans_sound.from trans_sound.into trans_sound.found_from trans_sound.found_into sound_from sound_into r.rule.vars names r.out (trans_sound.outs r there) called;
      }
