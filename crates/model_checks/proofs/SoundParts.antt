-- What is so of the types, rules, languages and transformations of a well-formed program.
use Rattle.std.proofs.Common.{◌≡◌, ℕ, ◌≤◌, Bool, true, false, ◌&&◌, cond, List, [], ◌∷◌, ◌++◌, length, map, Option, Some, None, Contains, refl, sym, ap, ◌∙◌, subst}
use Rattle.std.proofs.lemmas.List.{length-map}
use Rattle.std.specs.Prelude.{not, is_some, find}
use Rattle.std.specs.List.{list_all, flat_map}
use Rattle.std.specs.Option.{option_map, option_map_or, option_and_then}
use Rattle.fast_fault.specs.declared.code.Code.{Code}
use Rattle.fast_fault.specs.declared.place.Pos.{Pos}
use Rattle.fast_fault.specs.declared.code.Code.TheVariants.{DuplicateName, UnknownName, WrongKind, WrongType, WrongRank, DuplicateVariable, NoLeaf, TooMany}
use Rattle.model_tree.specs.Limits.{most_rules, most_fields}
use Rattle.model_tree.specs.Signature.{Sort, truths}
use Rattle.model_label.specs.Fields.{same_sort}
use Rattle.model_label.proofs.Sorted.{one_sort}
use Rattle.model_program.specs.Syntax.{Name, FieldItem, CtorItem, TypeItem, Demand}
use Rattle.model_grammar.specs.declared.Chain.TheVariants.{Disjunction, Conjunction, Sum, Product}
use Rattle.model_grammar.specs.Syntax.{Expr, field, number, text, truth, negation, compare, minus, chain, Rule, OutRule, LangItem, TransItem, Body, sorts, tree, lang, trans, def, assertion, Item}
use Rattle.model_names.specs.Declared.{same_text, types_of, find_type, find_item}
use Rattle.model_names.specs.Kinds.{declared_type}
use Rattle.model_checks.specs.Failures.{failure, fails_if, is_empty}
use Rattle.model_names.specs.Sorts.{sort_named}
use Rattle.model_checks.specs.Sorts.{find_field, field_sort, sort_of, place_of, is_other_sort, needs_sort}
use Rattle.model_checks.specs.Labels.{label_failures, sorted_failures}
use Rattle.model_checks.specs.Types.{is_among, is_rank, is_rank_in_range, repeated, field_failures, ctor_failures, field_limit, find_ctor, has_leaf, type_failures}
use Rattle.model_checks.specs.Rules.{differ, constructor_failures, variable_failures, guard_failures, scope_of, own_lang, rule_limit, type_at, type_name_failures, language_failures, demand_failures, rule_failures, out_failures, out_rule_failures}
use Rattle.model_checks.specs.Programs.{name_again, body_failures}
use Rattle.model_checks.specs.Sound.{names_of_fields, names_of_ctors, IsSoundType, IsSoundLabel, IsSoundDemand, IsSoundRule, IsSoundLang, IsSoundTrans}
use Rattle.model_checks.proofs.Soundness.{empty_first, empty_second, passed, not_false, needed, of_each, all_by, at_most, same_from_test, distinct, found_passes, is_there}

pub some_fails : (code : Code) (place : Pos) → is_empty (failure code place) ≡ true → ⊥
some_fails code place e = absurd (cc)

-- ---- types

few_fields : (fields : List FieldItem) → is_empty (field_limit fields) ≡ true → length fields ≤ most_fields
few_fields fields e = at_most (λ f. failure TooMany f.name.place) fields 8 (λ x e. some_fails TooMany x.name.place e) e

pub sound_type : (t : TypeItem) → is_empty (type_failures t) ≡ true → IsSoundType t
sound_type t e =
    let fields = repeated DuplicateName (map (λ f. f.name) t.fields) in
    let sorted = flat_map field_failures t.fields in
    let ctors = repeated DuplicateName (map (λ c. c.name) t.ctors) in
    let leaf = fails_if (not (has_leaf t.ctors)) NoLeaf t.name.place in
    let ranks = flat_map ctor_failures t.ctors in
    let after_fields = empty_second fields (sorted ++ (field_limit t.fields ++ (ctors ++ (leaf ++ ranks)))) e in
    let after_sorts = empty_second sorted (field_limit t.fields ++ (ctors ++ (leaf ++ ranks))) after_fields in
    let after_limit = empty_second (field_limit t.fields) (ctors ++ (leaf ++ ranks)) after_sorts in
    let after_ctors = empty_second ctors (leaf ++ ranks) after_limit in
    record {
      leaf = needed (has_leaf t.ctors) NoLeaf t.name.place (empty_first leaf ranks after_ctors);
      fields = distinct DuplicateName (names_of_fields t.fields) (empty_first fields (sorted ++ (field_limit t.fields ++ (ctors ++ (leaf ++ ranks)))) e);
      sorts = all_by (λ f. is_some (sort_named f.sort.text)) (λ f. UnknownName) (λ f. f.sort.place) t.fields (empty_first sorted (field_limit t.fields ++ (ctors ++ (leaf ++ ranks))) after_fields);
      few_fields = few_fields t.fields (empty_first (field_limit t.fields) (ctors ++ (leaf ++ ranks)) after_sorts);
      ctors = distinct DuplicateName (names_of_ctors t.ctors) (empty_first ctors (leaf ++ ranks) after_limit);
      ranks = all_by (λ c. is_rank_in_range c.rank) (λ c. TooMany) (λ c. c.name.place) t.ctors (empty_second leaf ranks after_ctors);
    }

-- ---- labels

-- what is found of a list passes what each passes
pub found_all : {A : Type 0} (p q : A → Bool) (xs : List A) (x : A) → list_all q xs ≡ true → find p xs ≡ Some x → q x ≡ true
found_all p q [] x all e = absurd (cc)
found_all p q (y ∷ ys) x all e = by (p y) (q y) refl all e (found_all p q ys x)
  where
    by : (b d : Bool) → q y ≡ d → (d && list_all q ys) ≡ true → cond b (Some y) (find p ys) ≡ Some x → (list_all q ys ≡ true → find p ys ≡ Some x → q x ≡ true) → q x ≡ true
    by true true is all e later = let same : y ≡ x = cc in ap q (sym same) ∙ is
    by false true is all e later = later all e
    by b false is all e later = absurd (cc)

known_field : (fields : List FieldItem) (name : List ℕ) → list_all (λ f. is_some (sort_named f.sort.text)) fields ≡ true → is_some (find_field fields name) ≡ true → is_some (field_sort (Some fields) name) ≡ true
known_field fields name all there =
    let found = is_there (find_field fields name) there in
    ap (λ o. is_some (option_and_then (λ f. sort_named f.sort.text) o)) found.1 ∙ found_all (λ f. same_text f.name.text name) (λ f. is_some (sort_named f.sort.text)) fields found.0 all found.1

-- an expression in which nothing fails has a sort
pub known_sort : (fields : List FieldItem) (e : Expr) → list_all (λ f. is_some (sort_named f.sort.text)) fields ≡ true → is_empty (label_failures (Some fields) e) ≡ true → is_some (sort_of (Some fields) e) ≡ true
known_sort fields (field place name) all e = known_field fields name all (needed (is_some (find_field fields name)) _ place e)
known_sort fields (number place n) all e = refl
known_sort fields (text place t) all e = refl
known_sort fields (truth place b) all e = refl
known_sort fields (negation place a) all e = refl
known_sort fields (compare place rel a b) all e = refl
known_sort fields (minus place a) all e = refl
known_sort fields (chain Disjunction place parts) all e = refl
known_sort fields (chain Conjunction place parts) all e = refl
known_sort fields (chain Sum place parts) all e = refl
known_sort fields (chain Product place parts) all e = refl

right_sort : (sort : Sort) (found : Option Sort) → is_some found ≡ true → is_other_sort sort found ≡ false → found ≡ Some sort
right_sort sort None known e = absurd (cc)
right_sort sort (Some s) known e = ap Some (one_sort s sort (not_false (same_sort s sort) e))

-- an expression that is to be of a sort is of it
pub sound_label : (fields : List FieldItem) (sort : Sort) (e : Expr) → list_all (λ f. is_some (sort_named f.sort.text)) fields ≡ true → is_empty (sorted_failures (Some fields) sort e) ≡ true → IsSoundLabel fields sort e
sound_label fields sort e all empty =
    let inside = empty_first (label_failures (Some fields) e) (needs_sort (Some fields) sort e) empty in
    record {
      inside = inside;
      is_of = right_sort sort (sort_of (Some fields) e) (known_sort fields e all inside) (passed (is_other_sort sort (sort_of (Some fields) e)) _ (place_of e) (empty_second (label_failures (Some fields) e) (needs_sort (Some fields) sort e) empty));
    }

-- ---- rules

-- the constructor of a rule
pub record HasCtor (t : TypeItem) (name : Name) (count : ℕ) : Type 0 where
  pub ctor : CtorItem
  pub found : find_ctor t.ctors name.text ≡ Some ctor
  pub rank : is_rank count ctor.rank ≡ true

pub has_ctor : (t : TypeItem) (name : Name) (count : ℕ) → is_empty (constructor_failures (Some t) name count) ≡ true → HasCtor t name count
has_ctor t name count e = by (find_ctor t.ctors name.text) refl e
  where
    by : (o : Option CtorItem) → find_ctor t.ctors name.text ≡ o → is_empty (option_map_or (λ c. fails_if (not (is_rank count c.rank)) WrongRank name.place) o (failure UnknownName name.place)) ≡ true → HasCtor t name count
    by None is e = absurd (some_fails UnknownName name.place e)
    by (Some c) is e = record { ctor = c; found = is; rank = needed (is_rank count c.rank) WrongRank name.place e }

-- a type that is declared
pub record HasType (items : List Item) (name : Name) : Type 0 where
  pub type : TypeItem
  pub found : find_type items name.text ≡ Some type
  pub named : type.name.text ≡ name.text

pub found_named : (items : List Item) (name : List ℕ) (t : TypeItem) → find_type items name ≡ Some t → t.name.text ≡ name
found_named items name t e = same_from_test t.name.text name (found_passes (λ u. same_text u.name.text name) (types_of items) t e)

pub has_type : (items : List Item) (name : Name) → is_empty (type_name_failures items name) ≡ true → HasType items name
has_type items name e =
    let there = is_there (find_type items name.text) (needed (is_some (find_type items name.text)) UnknownName name.place e) in
    record { type = there.0; found = there.1; named = found_named items name.text there.0 there.1 }

pub declared_as : (items : List Item) (name : Name) (h : HasType items name) → declared_type items name ≡ Some name.text
declared_as items name h = ap (option_map (λ t. t.name.text)) h.found ∙ ap Some h.named

pub same_types : (a b : List ℕ) → differ (Some a) (Some b) ≡ false → a ≡ b
same_types a b e = same_from_test a b (not_false (same_text a b) e)

-- each language that is declared is of a declared type
abbrev pub HaveTypes : List Item → Type 0
HaveTypes items = (item : Item) (name : List ℕ) (l : LangItem) → find_item items name ≡ Some item → item.body ≡ lang l → HasType items l.of

own_lang_is : (body : Body) (l : LangItem) → own_lang body ≡ Some l → body ≡ lang l
own_lang_is (sorts t) l e = absurd (cc)
own_lang_is (tree t) l e = absurd (cc)
own_lang_is (lang m) l e = ap (λ m. lang m) (cc)
own_lang_is (trans t) l e = absurd (cc)
own_lang_is (def d) l e = absurd (cc)
own_lang_is (assertion a) l e = absurd (cc)

pub record HasLanguage (items : List Item) (of : Name) (name : Name) : Type 0 where
  pub item : Item
  pub language : LangItem
  pub found : find_item items name.text ≡ Some item
  pub is : item.body ≡ lang language
  pub type : language.of.text ≡ of.text

pub has_language : (items : List Item) (of name : Name) → HaveTypes items → HasType items of → is_empty (language_failures items of name) ≡ true → HasLanguage items of name
has_language items of name types type e = by (find_item items name.text) refl e
  where
    inside : (item : Item) (o : Option LangItem) → find_item items name.text ≡ Some item → own_lang item.body ≡ o
        → is_empty (option_map_or (λ l. fails_if (differ (declared_type items l.of) (declared_type items of)) WrongType name.place) o (failure WrongKind name.place)) ≡ true → HasLanguage items of name
    inside item None found is e = absurd (some_fails WrongKind name.place e)
    inside item (Some l) found is e =
        let body = own_lang_is item.body l is in
        let own = types item name.text l found body in
        let apart = passed (differ (declared_type items l.of) (declared_type items of)) WrongType name.place e in
        record {
          item = item;
          language = l;
          found = found;
          is = body;
          type = same_types l.of.text of.text (sym (ap (λ o. differ o (declared_type items of)) (declared_as items l.of own) ∙ ap (differ (Some l.of.text)) (declared_as items of type)) ∙ apart);
        }

    by : (o : Option Item) → find_item items name.text ≡ o
        → is_empty (option_map_or (λ item. option_map_or (λ l. fails_if (differ (declared_type items l.of) (declared_type items of)) WrongType name.place) (own_lang item.body) (failure WrongKind name.place)) o (failure UnknownName name.place)) ≡ true
        → HasLanguage items of name
    by None found e = absurd (some_fails UnknownName name.place e)
    by (Some item) found e = inside item (own_lang item.body) found refl e

sound_guard : (fields : List FieldItem) (guard : Option Expr) (e : Expr) → list_all (λ f. is_some (sort_named f.sort.text)) fields ≡ true → is_empty (guard_failures (Some fields) guard) ≡ true → guard ≡ Some e → IsSoundLabel fields truths e
sound_guard fields None e all empty is = absurd (cc)
sound_guard fields (Some g) e all empty is = let same : g ≡ e = cc in subst (IsSoundLabel fields truths) same (sound_label fields truths g all empty)

pub sound_demand : (items : List Item) (of : Name) (vars : List Name) (d : Demand) → HaveTypes items → (h : HasType items of) → is_empty (demand_failures items of vars d) ≡ true → IsSoundDemand items h.type.name.text vars d
sound_demand items of vars d types h e =
    let language = has_language items of d.language types h (empty_first (language_failures items of d.language) (variable_failures vars d.child) e) in
    record {
      item = language.item;
      language = language.language;
      found = language.found;
      is = language.is;
      type = language.type ∙ sym h.named;
      child = needed (is_among vars d.child.text) UnknownName d.child.place (empty_second (language_failures items of d.language) (variable_failures vars d.child) e);
    }

pub sound_rule : (items : List Item) (of : Name) (r : Rule) → HaveTypes items → (h : HasType items of) → IsSoundType h.type → is_empty (rule_failures items of r) ≡ true → IsSoundRule items h.type r
sound_rule items of r types h sound e =
    let head = constructor_failures (type_at items of) r.ctor (length r.vars) in
    let vars = repeated DuplicateVariable r.vars in
    let guard = guard_failures (scope_of (type_at items of)) r.guard in
    let given = flat_map (demand_failures items of r.vars) r.given in
    let after_head = empty_second head (vars ++ (guard ++ given)) e in
    let after_vars = empty_second vars (guard ++ given) after_head in
    let at : type_at items of ≡ Some h.type = h.found in
    let ctor = has_ctor h.type r.ctor (length r.vars) (ap (λ o. is_empty (constructor_failures o r.ctor (length r.vars))) (sym at) ∙ empty_first head (vars ++ (guard ++ given)) e) in
    let guarded : is_empty (guard_failures (Some h.type.fields) r.guard) ≡ true = ap (λ o. is_empty (guard_failures (scope_of o) r.guard)) (sym at) ∙ empty_first guard given after_vars in
    record {
      ctor = ctor.ctor;
      found = ctor.found;
      rank = ctor.rank;
      vars = distinct DuplicateVariable r.vars (empty_first vars (guard ++ given) after_head);
      guard = λ g is. sound_guard h.type.fields r.guard g sound.sorts guarded is;
      given = λ d at. sound_demand items of r.vars d types h (of_each (demand_failures items of r.vars) r.given d (empty_second guard given after_vars) at);
    }

few_rules : (rules : List Rule) → is_empty (rule_limit rules) ≡ true → length rules ≤ most_rules
few_rules rules e = at_most (λ r. failure TooMany r.ctor.place) rules most_rules (λ x e. some_fails TooMany x.ctor.place e) e

-- ---- languages and transformations

-- each type that is found is sound
abbrev pub AreSoundTypes : List Item → Type 0
AreSoundTypes items = (name : List ℕ) (t : TypeItem) → find_type items name ≡ Some t → IsSoundType t

pub type_of_lang : (items before : List Item) (l : LangItem) → is_empty (body_failures items before (lang l)) ≡ true → HasType items l.of
type_of_lang items before l e =
    let rest = rule_limit l.rules ++ flat_map (rule_failures items l.of) l.rules in
    has_type items l.of (empty_first (type_name_failures items l.of) rest (empty_second (name_again items before l.name) (type_name_failures items l.of ++ rest) e))

pub sound_lang : (items before : List Item) (l : LangItem) → HaveTypes items → AreSoundTypes items → is_empty (body_failures items before (lang l)) ≡ true → IsSoundLang items l
sound_lang items before l types sound e =
    let h = type_of_lang items before l e in
    let limit = rule_limit l.rules in
    let rules = flat_map (rule_failures items l.of) l.rules in
    let after = empty_second (type_name_failures items l.of) (limit ++ rules) (empty_second (name_again items before l.name) (type_name_failures items l.of ++ (limit ++ rules)) e) in
    record {
      type = h.type;
      found = h.found;
      named = h.named;
      few = few_rules l.rules (empty_first limit rules after);
      rules = λ r at. sound_rule items l.of r types h (sound l.of.text h.type h.found) (of_each (rule_failures items l.of) l.rules r (empty_second limit rules after) at);
    }

pub sound_trans : (items before : List Item) (t : TransItem) → HaveTypes items → AreSoundTypes items → is_empty (body_failures items before (trans t)) ≡ true → IsSoundTrans items t
sound_trans items before t types sound e =
    let heads = rule_limit (map (λ r. r.rule) t.rules) in
    let rules = flat_map (out_rule_failures items t.from t.into) t.rules in
    let after_name = empty_second (name_again items before t.name) (type_name_failures items t.from ++ (type_name_failures items t.into ++ (heads ++ rules))) e in
    let after_from = empty_second (type_name_failures items t.from) (type_name_failures items t.into ++ (heads ++ rules)) after_name in
    let after_into = empty_second (type_name_failures items t.into) (heads ++ rules) after_from in
    let from = has_type items t.from (empty_first (type_name_failures items t.from) (type_name_failures items t.into ++ (heads ++ rules)) after_name) in
    let into = has_type items t.into (empty_first (type_name_failures items t.into) (heads ++ rules) after_from) in
    let each : (r : OutRule) → Contains t.rules r → is_empty (out_rule_failures items t.from t.into r) ≡ true = λ r at. of_each (out_rule_failures items t.from t.into) t.rules r (empty_second heads rules after_into) at in
    record {
      from = from.type;
      found_from = from.found;
      named_from = from.named;
      into = into.type;
      found_into = into.found;
      named_into = into.named;
      few = subst (λ (n : ℕ). n ≤ most_rules) (length-map t.rules (λ (r : OutRule). r.rule)) (few_rules (map (λ r. r.rule) t.rules) (empty_first heads rules after_into));
      rules = λ r at. sound_rule items t.from r.rule types from (sound t.from.text from.type from.found) (empty_first (rule_failures items t.from r.rule) (out_failures items t.from t.into r.rule.vars r.out) (each r at));
      outs = λ r at. empty_second (rule_failures items t.from r.rule) (out_failures items t.from t.into r.rule.vars r.out) (each r at);
    }
