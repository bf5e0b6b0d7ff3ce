-- What names reach in a well-formed program: languages on the type, and transformations between the types.
use Rattle.std.proofs.Common.{◌≡◌, ◌⊎◌, inl, inr, ℕ, true, List, [], ◌++◌, Option, Some, None, Contains, length, refl, sym, ap, ◌∙◌, subst}
use Rattle.std.specs.Option.{option_map_or, option_and_then}
use Rattle.model_program.specs.Syntax.{Name, Demand}
use Rattle.model_grammar.specs.Syntax.{X, Out, child, call, node, Outs, no_out, and_out, Rule, OutRule, Body, sorts, tree, lang, trans, def, assertion, Item}
use Rattle.model_names.specs.Declared.{find_item, rules_of, out_rules_of, own_rules, own_out_rules}
use Rattle.model_checks.specs.Failures.{is_empty}
use Rattle.model_checks.specs.Rules.{transformation_failures, variable_failures, constructor_failures, label_count_failures, count_outs, type_at, scope_of, fields_of, out_failures, outs_failures}
use Rattle.model_checks.specs.Labels.{labels_failures}
use Rattle.model_checks.specs.Sound.{IsSound, IsSoundDemand}
use Rattle.model_checks.proofs.Soundness.{empty_first, empty_second}
use Rattle.model_checks.proofs.SoundWhole.{finds, sound}
use Rattle.model_meaning.specs.Reached.{Reaches, itself, by_demand, by_lookahead, by_call, IsCalledIn, IsCalledInOne, own_value, definition_of}
use Rattle.model_meaning.specs.Laws.{DemandNoDefinition}
use Rattle.model_meaning.proofs.Members.{none_of}
use Rattle.meaning_laws.specs.Reaching.{IsLangOn, IsTransFrom, ReachedByLangs, ReachedByTrans}
use Rattle.meaning_laws.proofs.Rules.{call_between, from_of, into_of}

module _ (items : List Item) (whole : IsSound items) where
  pub rules_there : (m : List ℕ) (item : Item) → find_item items m ≡ Some item → rules_of items m ≡ own_rules item.body
  rules_there m item found = ap (λ o. option_map_or (λ i. own_rules i.body) o []) found

  pub outs_there : (m : List ℕ) (item : Item) → find_item items m ≡ Some item → out_rules_of items m ≡ own_out_rules item.body
  outs_there m item found = ap (λ o. option_map_or (λ i. own_out_rules i.body) o []) found

  pub value_there : (m : List ℕ) (item : Item) → find_item items m ≡ Some item → definition_of items m ≡ own_value item.body
  value_there m item found = ap (option_and_then (λ i. own_value i.body)) found

  -- a language has no terms and no expression, and a transformation no rules of its own and no expression
  lang_no_outs : (m type : List ℕ) (r : OutRule) → IsLangOn items m type → Contains (out_rules_of items m) r → ⊥
  lang_no_outs m type r l at = none_of r (subst (λ rs. Contains rs r) (outs_there m l.item l.found ∙ ap own_out_rules l.is) at)

  trans_no_rules : (m from into : List ℕ) (r : Rule) → IsTransFrom items m from into → Contains (rules_of items m) r → ⊥
  trans_no_rules m from into r t at = none_of r (subst (λ rs. Contains rs r) (rules_there m t.item t.found ∙ ap own_rules t.is) at)

  pub lang_no_value : (m type : List ℕ) (x : X) → IsLangOn items m type → definition_of items m ≡ Some x → ⊥
  lang_no_value m type x l e = let bad : None ≡ Some x = sym (value_there m l.item l.found ∙ ap own_value l.is) ∙ e in cc

  pub trans_no_value : (m from into : List ℕ) (x : X) → IsTransFrom items m from into → definition_of items m ≡ Some x → ⊥
  trans_no_value m from into x t e = let bad : None ≡ Some x = sym (value_there m t.item t.found ∙ ap own_value t.is) ∙ e in cc

  -- what is demanded in a rule for trees of a type is a language on it
  demanded : (type : List ℕ) (name : List ℕ) (vars : List Name) (d : Demand) → name ≡ type → IsSoundDemand items name vars d → IsLangOn items d.language.text type
  demanded type name vars d same s = record { item = s.item; own = s.language; found = s.found; is = s.is; on = s.type ∙ same }

  by_lang : (m type : List ℕ) (r : Rule) (d : Demand) → IsLangOn items m type → Contains (rules_of items m) r → Contains r.given d → IsLangOn items d.language.text type
  by_lang m type r d l at given =
      let s = whole.langs l.item l.own ((finds items).item m l.item l.found) l.is in
      let own : Contains l.own.rules r = subst (λ rs. Contains rs r) (rules_there m l.item l.found ∙ ap own_rules l.is) at in
      demanded type s.type.name.text r.vars d (s.named ∙ l.on) ((s.rules r own).given d given)

  pub reached_by_lang : (n type m : List ℕ) → IsLangOn items n type → Reaches items n m → IsLangOn items m type
  reached_by_lang n type m l itself = l
  reached_by_lang n type m l (by_demand other r d reach at given) = by_lang other type r d (reached_by_lang n type other l reach) at given
  reached_by_lang n type m l (by_lookahead other r d reach at given) = absurd (lang_no_outs other type r (reached_by_lang n type other l reach) at)
  reached_by_lang n type m l (by_call other r q reach at calls) = absurd (lang_no_outs other type r (reached_by_lang n type other l reach) at)

  -- ---- transformations

  by_transformation : (m from into : List ℕ) (r : OutRule) (d : Demand) → IsTransFrom items m from into → Contains (out_rules_of items m) r → Contains r.rule.given d → IsLangOn items d.language.text from
  by_transformation m from into r d t at given =
      let s = whole.transformations t.item t.own ((finds items).item m t.item t.found) t.is in
      let own : Contains t.own.rules r = subst (λ rs. Contains rs r) (outs_there m t.item t.found ∙ ap own_out_rules t.is) at in
      demanded from s.from.name.text r.rule.vars d (s.named_from ∙ t.begins) ((s.rules r own).given d given)

  module _ (from into : Name) (vars : List Name) (f : (q : Name) → is_empty (transformation_failures items from into q) ≡ true → IsTransFrom items q.text from.text into.text) where
    mutual
      called : (out : Out) (q : List ℕ) → is_empty (out_failures items from into vars out) ≡ true → IsCalledIn out q → IsTransFrom items q from.text into.text
      called (child y) q e is = absurd is
      called (call p y) q e is = subst (λ text. IsTransFrom items text from.text into.text) is (f p (empty_first (transformation_failures items from into p) (variable_failures vars y) e))
      called (node name labels outs) q e is =
          let a = constructor_failures (type_at items into) name (count_outs outs) in
          let b = label_count_failures (type_at items into) name (length labels) in
          let c = labels_failures (scope_of (type_at items from)) (fields_of (type_at items into)) labels in
          let d = outs_failures items from into vars outs in
          called_in outs q (empty_second c d (empty_second b (c ++ d) (empty_second a (b ++ (c ++ d)) e))) is

      called_in : (outs : Outs) (q : List ℕ) → is_empty (outs_failures items from into vars outs) ≡ true → IsCalledInOne outs q → IsTransFrom items q from.text into.text
      called_in no_out q e is = absurd is
      called_in (and_out out outs) q e (inl is) = called out q (empty_first (out_failures items from into vars out) (outs_failures items from into vars outs) e) is
      called_in (and_out out outs) q e (inr is) = called_in outs q (empty_second (out_failures items from into vars out) (outs_failures items from into vars outs) e) is

  -- what a term of a transformation calls is between its types
  by_term : (m from into : List ℕ) (r : OutRule) (q : List ℕ) → IsTransFrom items m from into → Contains (out_rules_of items m) r → IsCalledIn r.out q → IsTransFrom items q from into
  by_term m from into r q t at calls =
      let stands = (finds items).item m t.item t.found in
      let s = whole.transformations t.item t.own stands t.is in
      let own : Contains t.own.rules r = subst (λ rs. Contains rs r) (outs_there m t.item t.found ∙ ap own_out_rules t.is) at in
      let there = called t.own.from t.own.into r.rule.vars
      (λ p e. (let b = call_between items whole t.own.from t.own.into (from_of items whole t.item t.own stands t.is) (into_of items whole t.item t.own stands t.is) p e in
      record { item = b.item; own = b.own; found = b.found; is = b.is; begins = b.begins; ends = b.ends }))
      r.out q (s.outs r own) calls in
      record { item = there.item; own = there.own; found = there.found; is = there.is; begins = there.begins ∙ t.begins; ends = there.ends ∙ t.ends }

  pub reached_by_trans : (n from into m : List ℕ) → IsTransFrom items n from into → Reaches items n m → IsLangOn items m from ⊎ IsTransFrom items m from into
  reached_by_trans n from into m t itself = inr t
  reached_by_trans n from into m t (by_demand other r d reach at given) = elim (reached_by_trans n from into other t reach) [
    | inl l ↦ inl (by_lang other from r d l at given)
    | inr own ↦ absurd (trans_no_rules other from into r own at)
  ]
  reached_by_trans n from into m t (by_lookahead other r d reach at given) = elim (reached_by_trans n from into other t reach) [
    | inl l ↦ absurd (lang_no_outs other from r l at)
    | inr own ↦ inl (by_transformation other from into r d own at given)
  ]
  reached_by_trans n from into m t (by_call other r q reach at calls) = elim (reached_by_trans n from into other t reach) [
    | inl l ↦ absurd (lang_no_outs other from r l at)
    | inr own ↦ inr (by_term other from into r q own at calls)
  ]

  -- ---- no rule demands a definition

  pub lang_undefined : (n type : List ℕ) → IsLangOn items n type → definition_of items n ≡ None
  lang_undefined n type l = value_there n l.item l.found ∙ ap own_value l.is

  pub trans_undefined : (n from into : List ℕ) → IsTransFrom items n from into → definition_of items n ≡ None
  trans_undefined n from into t = value_there n t.item t.found ∙ ap own_value t.is

  demanded_by_body : (n : List ℕ) (item : Item) (body : Body) (r : Rule) (d : Demand) → find_item items n ≡ Some item → item.body ≡ body → Contains (own_rules body) r → Contains (rules_of items n) r → Contains r.given d → definition_of items d.language.text ≡ None
  demanded_by_body n item (sorts t) r d found is at there given = absurd (none_of r at)
  demanded_by_body n item (tree t) r d found is at there given = absurd (none_of r at)
  demanded_by_body n item (lang l) r d found is at there given =
      lang_undefined d.language.text l.of.text (by_lang n l.of.text r d (record { item = item; own = l; found = found; is = is; on = refl }) there given)
  demanded_by_body n item (trans t) r d found is at there given = absurd (none_of r at)
  demanded_by_body n item (def e) r d found is at there given = absurd (none_of r at)
  demanded_by_body n item (assertion a) r d found is at there given = absurd (none_of r at)

  demanded_by_found : (n : List ℕ) (o : Option Item) (r : Rule) (d : Demand) → find_item items n ≡ o → Contains (option_map_or (λ item. own_rules item.body) o []) r → Contains (rules_of items n) r → Contains r.given d → definition_of items d.language.text ≡ None
  demanded_by_found n None r d found at there given = absurd (none_of r at)
  demanded_by_found n (Some item) r d found at there given = demanded_by_body n item item.body r d found refl at there given

  pub demand_languages : DemandNoDefinition items
  demand_languages = record { in_languages = λ n r d at given. demanded_by_found n (find_item items n) r d refl at at given }

pub by_langs : ReachedByLangs
by_langs items well n type m l reach = reached_by_lang items (sound items well) n type m l reach

pub by_trans : ReachedByTrans
by_trans items well n from into m t reach = reached_by_trans items (sound items well) n from into m t reach
