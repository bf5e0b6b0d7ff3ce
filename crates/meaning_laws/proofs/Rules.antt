-- The terms of a well-formed program are typed.
use Rattle.std.proofs.Common.{◌≡◌, ℕ, suc, ℤ, pos, negsuc, Bool, true, false, cond, List, [], ◌∷◌, ◌++◌, map, length, get_or, Option, Some, None, Contains, refl, sym, ap, ◌∙◌, subst, arith}
use Rattle.std.specs.Prelude.{◌==◌, ◌||◌}
use Rattle.std.specs.Option.{option_map, option_map_or, option_and_then}
use Rattle.std.proofs.lemmas.Bool.Decides.{nat_tests}
use Rattle.std.proofs.lemmas.Bool.{or_parts}
use Rattle.fast_fault.specs.declared.code.Code.TheVariants.{UnknownName, WrongKind, WrongType, WrongRank}
use Rattle.model_tree.specs.Label.{row, pair}
use Rattle.model_tree.specs.Signature.{PlainConstructor}
use Rattle.model_program.specs.Syntax.{Name, CtorItem, TypeItem}
use Rattle.model_grammar.specs.Syntax.{Expr, Out, child, call, node, Outs, no_out, and_out, OutRule, TransItem, Body, sorts, tree, lang, trans, def, assertion, Item}
use Rattle.model_names.specs.Declared.{same_text, find_type, find_item, own_out_rules, out_rules_of}
use Rattle.model_names.specs.Kinds.{declared_type, own_type, own_output}
use Rattle.model_checks.specs.Failures.{is_empty, failure, fails_if}
use Rattle.model_checks.specs.Labels.{labels_failures}
use Rattle.model_checks.specs.Types.{is_rank, find_ctor}
use Rattle.model_checks.specs.Rules.{differ, type_at, own_trans, constructor_failures, label_count_failures, transformation_failures, out_failures, outs_failures, variable_failures, count_outs, scope_of, fields_of}
use Rattle.model_checks.specs.Sound.{IsSoundType, IsSound, StandsIn}
use Rattle.model_checks.proofs.Soundness.{empty_first, empty_second, passed, needed}
use Rattle.model_checks.proofs.SoundParts.{some_fails, has_ctor, same_types}
use Rattle.model_checks.proofs.SoundWhole.{finds}
use Rattle.model_meaning.specs.Types.{rank_of, signature_of, signature_at, no_signature, input_of, output_of}
use Rattle.model_meaning.specs.Outputs.{number_named}
use Rattle.model_meaning.specs.Laws.{part_count, MakeSorts, IsTermTyped, AreTermsTyped}
use Rattle.model_meaning.specs.Laws as laws
use Rattle.model_meaning.proofs.Members.{none_of}
use Rattle.model_meaning.proofs.Named.{trans_kind}
use Rattle.meaning_laws.proofs.Sorted.{labels_have}

-- ---- constructors

abbrev plain_ctors : List CtorItem → List PlainConstructor
plain_ctors ctors = map (λ c. record { name = c.name.text; rank = rank_of c.rank }) ctors

abbrev the_names : List CtorItem → List (List ℕ)
the_names ctors = map (λ (c : PlainConstructor). c.name) (plain_ctors ctors)

abbrev the_ranks : List CtorItem → List ℕ
the_ranks ctors = map (λ (c : PlainConstructor). c.rank) (plain_ctors ctors)

-- the rank at the number of a constructor is that of the constructor with its name
rank_there : (ctors : List CtorItem) (name : List ℕ) (c : ℕ) (ctor : CtorItem) → find_ctor ctors name ≡ Some ctor → number_named (the_names ctors) name ≡ Some c → get_or (the_ranks ctors) c 0 ≡ rank_of ctor.rank
rank_there [] name c ctor found number = absurd (cc)
rank_there (k ∷ ctors) name c ctor found number = by (same_text k.name.text name) (number_named (the_names ctors) name) found number (λ d later is. rank_there ctors name d ctor later is)
  where
    by : (b : Bool) (o : Option ℕ) → cond b (Some k) (find_ctor ctors name) ≡ Some ctor → cond b (Some 0) (option_map (λ n. suc n) o) ≡ Some c
        → ((d : ℕ) → find_ctor ctors name ≡ Some ctor → o ≡ Some d → get_or (the_ranks ctors) d 0 ≡ rank_of ctor.rank) → get_or (rank_of k.rank ∷ the_ranks ctors) c 0 ≡ rank_of ctor.rank
    by true o first is later =
        let same : k ≡ ctor = cc in
        let number : 0 ≡ c = cc in
        subst (λ n. get_or (rank_of k.rank ∷ the_ranks ctors) n 0 ≡ rank_of ctor.rank) number (ap (λ x. rank_of x.rank) same)
    by false None first is later = absurd (cc)
    by false (Some d) first is later =
        let number : suc d ≡ c = cc in
        subst (λ n. get_or (rank_of k.rank ∷ the_ranks ctors) n 0 ≡ rank_of ctor.rank) number (later d first refl)

pub has_rank : (n : ℕ) (r : ℤ) → is_rank n r ≡ true → n ≡ rank_of r
has_rank n (pos k) e = let same : (k == n) ≡ true = e in grind (arith, nat_tests)
has_rank n (negsuc k) e = absurd (cc)

same_count : (outs : Outs) → count_outs outs ≡ part_count outs
same_count no_out = refl
same_count (and_out out outs) = ap (λ n. suc n) (same_count outs)

-- ---- types by their names

module _ (items : List Item) (whole : IsSound items) where
  -- a declared type by its name
  pub record IsType (name : Name) : Type 0 where
    pub type : TypeItem
    pub found : find_type items name.text ≡ Some type
    pub named : type.name.text ≡ name.text
    pub sound : IsSoundType type

  declared : (name : Name) (t : IsType name) → declared_type items name ≡ Some name.text
  declared name t = ap (option_map (λ u. u.name.text)) t.found ∙ ap (λ n. Some n) t.named

  signature : (name : Name) (t : IsType name) → signature_at items name ≡ signature_of t.type
  signature name t = ap (λ o. option_map_or signature_of o no_signature) t.found

  type_of : (name : Name) (t : TypeItem) → find_type items name.text ≡ Some t → IsType name
  type_of name t found =
      let stands = (finds items).type name.text t found in
      record { type = t; found = found; named = stands.3; sound = whole.types stands.0 t stands.1 stands.2 }

  pub from_of : (item : Item) (t : TransItem) → StandsIn items item → item.body ≡ trans t → IsType t.from
  from_of item t stands is = let s = whole.transformations item t stands is in type_of t.from s.from s.found_from

  pub into_of : (item : Item) (t : TransItem) → StandsIn items item → item.body ≡ trans t → IsType t.into
  into_of item t stands is = let s = whole.transformations item t stands is in type_of t.into s.into s.found_into

  -- two names of types that are known not to differ are the same
  one_text : (m n : Name) → IsType m → IsType n → differ (declared_type items m) (declared_type items n) ≡ false → m.text ≡ n.text
  one_text m n s t e =
      let same : differ (Some m.text) (Some n.text) ≡ false = subst (λ o. differ o (Some n.text) ≡ false) (declared m s) (subst (λ o. differ (declared_type items m) o ≡ false) (declared n t) e) in
      same_types m.text n.text same

  -- two names of types that are known not to differ are of one signature
  one_signature : (m n : Name) → IsType m → IsType n → differ (declared_type items m) (declared_type items n) ≡ false → signature_at items m ≡ signature_at items n
  one_signature m n s t e =
      let same : differ (Some m.text) (Some n.text) ≡ false = subst (λ o. differ o (Some n.text) ≡ false) (declared m s) (subst (λ o. differ (declared_type items m) o ≡ false) (declared n t) e) in
      ap (λ name. option_map_or signature_of (find_type items name) no_signature) (same_types m.text n.text same)

  -- the transformation that a call names
  record IsCalled (name : Name) (from into : Name) : Type 0 where
    item : Item
    own : TransItem
    found : find_item items name.text ≡ Some item
    is : item.body ≡ trans own
    same : (differ (declared_type items own.from) (declared_type items from) || differ (declared_type items own.into) (declared_type items into)) ≡ false

  by_body : (name from into : Name) (item : Item) (body : Body) → find_item items name.text ≡ Some item → item.body ≡ body
      → is_empty (option_map_or (λ t. fails_if (differ (declared_type items t.from) (declared_type items from) || differ (declared_type items t.into) (declared_type items into)) WrongType name.place) (own_trans body) (failure WrongKind name.place)) ≡ true
      → IsCalled name from into
  by_body name from into item (sorts t) found is e = absurd (some_fails WrongKind name.place e)
  by_body name from into item (tree t) found is e = absurd (some_fails WrongKind name.place e)
  by_body name from into item (lang l) found is e = absurd (some_fails WrongKind name.place e)
  by_body name from into item (trans t) found is e = record { item = item; own = t; found = found; is = is; same = passed (differ (declared_type items t.from) (declared_type items from) || differ (declared_type items t.into) (declared_type items into)) WrongType name.place e }
  by_body name from into item (def d) found is e = absurd (some_fails WrongKind name.place e)
  by_body name from into item (assertion a) found is e = absurd (some_fails WrongKind name.place e)

  by_item : (name from into : Name) (o : Option Item) → find_item items name.text ≡ o
      → is_empty (option_map_or (λ item. option_map_or (λ t. fails_if (differ (declared_type items t.from) (declared_type items from) || differ (declared_type items t.into) (declared_type items into)) WrongType name.place) (own_trans item.body) (failure WrongKind name.place)) o (failure UnknownName name.place)) ≡ true
      → IsCalled name from into
  by_item name from into None found e = absurd (some_fails UnknownName name.place e)
  by_item name from into (Some item) found e = by_body name from into item item.body found refl e

  -- a transformation between two types, by its name
  pub record IsBetween (name from into : Name) : Type 0 where
    pub item : Item
    pub own : TransItem
    pub found : find_item items name.text ≡ Some item
    pub is : item.body ≡ trans own
    pub begins : own.from.text ≡ from.text
    pub ends : own.into.text ≡ into.text

  pub call_between : (from into : Name) (f : IsType from) (t : IsType into) (q : Name) → is_empty (transformation_failures items from into q) ≡ true → IsBetween q from into
  call_between from into f t q e =
      let called = by_item q from into (find_item items q.text) refl e in
      let stands = (finds items).item q.text called.item called.found in
      let two = or_parts (differ (declared_type items called.own.from) (declared_type items from)) (differ (declared_type items called.own.into) (declared_type items into)) called.same in
      record {
        item = called.item;
        own = called.own;
        found = called.found;
        is = called.is;
        begins = one_text called.own.from from (from_of called.item called.own stands called.is) f two.0;
        ends = one_text called.own.into into (into_of called.item called.own stands called.is) t two.1;
      }

  -- the types of a transformation's name
  input_there : (name : List ℕ) (item : Item) (t : TransItem) → find_item items name ≡ Some item → item.body ≡ trans t → input_of items name ≡ signature_at items t.from
  input_there name item t found is =
      ap (λ o. option_map_or (signature_at items) (option_and_then (λ i. own_type i.body) o) no_signature) found
      ∙ ap (λ body. option_map_or (signature_at items) (own_type body) no_signature) is

  output_there : (name : List ℕ) (item : Item) (t : TransItem) → find_item items name ≡ Some item → item.body ≡ trans t → output_of items name ≡ signature_at items t.into
  output_there name item t found is =
      ap (λ o. option_map_or (signature_at items) (option_and_then (λ i. own_output i.body) o) no_signature) found
      ∙ ap (λ body. option_map_or (signature_at items) (own_output body) no_signature) is

  module _ (from into : Name) (vars : List Name) (f : IsType from) (t : IsType into) where
    call_typed : (q : Name) → is_empty (transformation_failures items from into q) ≡ true → laws.IsBetween items (signature_of f.type) (signature_of t.type) q
    call_typed q e =
        let called = by_item q from into (find_item items q.text) refl e in
        let stands = (finds items).item q.text called.item called.found in
        let two = or_parts (differ (declared_type items called.own.from) (declared_type items from)) (differ (declared_type items called.own.into) (declared_type items into)) called.same in
        record {
          kind = trans_kind items q called.item called.own called.found called.is;
          begins = input_there q.text called.item called.own called.found called.is ∙ (one_signature called.own.from from (from_of called.item called.own stands called.is) f two.0 ∙ signature from f);
          ends = output_there q.text called.item called.own called.found called.is ∙ (one_signature called.own.into into (into_of called.item called.own stands called.is) t two.1 ∙ signature into t);
        }

    make_sorts : (labels : List Expr) → (length t.type.fields == length labels) ≡ true → is_empty (labels_failures (Some f.type.fields) t.type.fields labels) ≡ true → MakeSorts items (signature_of f.type) (signature_of t.type) labels
    make_sorts labels many fine (row values) has =
        labels_have f.type.fields t.type.fields labels values f.sound.sorts t.sound.sorts has many fine
    make_sorts labels many fine (pair l m) has = absurd has

    mutual
      term_typed : (out : Out) → is_empty (out_failures items from into vars out) ≡ true → IsTermTyped items (signature_of f.type) (signature_of t.type) out
      term_typed (child y) e =
          let same = passed (differ (declared_type items from) (declared_type items into)) WrongType y.place (empty_second (variable_failures vars y) (fails_if (differ (declared_type items from) (declared_type items into)) WrongType y.place) e) in
          sym (signature from f) ∙ (one_signature from into f t same ∙ signature into t)
      term_typed (call q y) e = call_typed q (empty_first (transformation_failures items from into q) (variable_failures vars y) e)
      term_typed (node name labels outs) e =
          let a = constructor_failures (type_at items into) name (count_outs outs) in
          let b = label_count_failures (type_at items into) name (length labels) in
          let c = labels_failures (scope_of (type_at items from)) (fields_of (type_at items into)) labels in
          let d = outs_failures items from into vars outs in
          let after_a = empty_second a (b ++ (c ++ d)) e in
          let after_b = empty_second b (c ++ d) after_a in
          let ctor = has_ctor t.type name (count_outs outs) (subst (λ o. is_empty (constructor_failures o name (count_outs outs)) ≡ true) t.found (empty_first a (b ++ (c ++ d)) e)) in
          let many = needed (length t.type.fields == length labels) WrongRank name.place (subst (λ o. is_empty (label_count_failures o name (length labels)) ≡ true) t.found (empty_first b (c ++ d) after_a)) in
          let fine = subst (λ o. is_empty (labels_failures (scope_of o) (fields_of (type_at items into)) labels) ≡ true) f.found (empty_first c d after_b) in
          let fine_too = subst (λ o. is_empty (labels_failures (Some f.type.fields) (fields_of o) labels) ≡ true) t.found fine in (
            make_sorts labels many fine_too,
            λ k number. (sym (same_count outs) ∙ has_rank (count_outs outs) ctor.ctor.rank ctor.rank) ∙ sym (rank_there t.type.ctors name.text k ctor.ctor ctor.found number),
            terms_typed outs (empty_second c d after_b),
          )

      terms_typed : (outs : Outs) → is_empty (outs_failures items from into vars outs) ≡ true → AreTermsTyped items (signature_of f.type) (signature_of t.type) outs
      terms_typed no_out e = tt
      terms_typed (and_out out outs) e = (
        term_typed out (empty_first (out_failures items from into vars out) (outs_failures items from into vars outs) e),
        terms_typed outs (empty_second (out_failures items from into vars out) (outs_failures items from into vars outs) e),
      )

  of_body : (q : List ℕ) (item : Item) (body : Body) (r : OutRule) → find_item items q ≡ Some item → item.body ≡ body → Contains (own_out_rules body) r → IsTermTyped items (input_of items q) (output_of items q) r.out
  of_body q item (sorts t) r found is at = absurd (none_of r at)
  of_body q item (tree t) r found is at = absurd (none_of r at)
  of_body q item (lang l) r found is at = absurd (none_of r at)
  of_body q item (def d) r found is at = absurd (none_of r at)
  of_body q item (assertion a) r found is at = absurd (none_of r at)
  of_body q item (trans t) r found is at =
      let stands = (finds items).item q item found in
      let own = whole.transformations item t stands is in
      let f = from_of item t stands is in
      let i = into_of item t stands is in
      let typed = term_typed t.from t.into r.rule.vars f i r.out (own.outs r at) in
      subst (λ s. IsTermTyped items s (output_of items q) r.out) (sym (input_there q item t found is ∙ signature t.from f))
      (subst (λ s. IsTermTyped items (signature_of f.type) s r.out) (sym (output_there q item t found is ∙ signature t.into i)) typed)

  of_found : (q : List ℕ) (o : Option Item) (r : OutRule) → find_item items q ≡ o → Contains (option_map_or (λ item. own_out_rules item.body) o []) r → IsTermTyped items (input_of items q) (output_of items q) r.out
  of_found q None r found at = absurd (none_of r at)
  of_found q (Some item) r found at = of_body q item item.body r found refl at

pub terms_typed_of : (items : List Item) (whole : IsSound items) (q : List ℕ) (r : OutRule) → Contains (out_rules_of items q) r → IsTermTyped items (input_of items q) (output_of items q) r.out
terms_typed_of items whole q r at = of_found items whole q (find_item items q) r refl at
