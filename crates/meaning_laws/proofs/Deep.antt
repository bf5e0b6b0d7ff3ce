-- The definitions of a well-formed program are inside each other no deeper than it has items.
use Rattle.std.proofs.Common.{◌≡◌, inl, inr, ℕ, zero, suc, ◌<◌, ◌≤◌, true, not, List, [], ◌∷◌, ◌++◌, length, Some, None, is_some, refl, sym, ap, ◌∙◌, subst, arith, length-append, Contains}
use Rattle.std.specs.Prelude.{◌&&◌}
use Rattle.model_program.specs.Syntax.{Name}
use Rattle.model_grammar.specs.Places.{nowhere}
use Rattle.model_grammar.specs.Syntax.{X, Rule, OutRule, Body, sorts, tree, lang, trans, DefItem, def, assertion, Item}
use Rattle.model_names.specs.Declared.{find_item, rules_of, out_rules_of, own_rules, own_out_rules}
use Rattle.model_names.specs.Kinds.{defined_kind, declared_type}
use Rattle.model_checks.specs.Failures.{is_empty}
use Rattle.model_checks.specs.Expressions.{is_known_later, expected_as, x_failures}
use Rattle.model_checks.specs.Sound.{IsSound}
use Rattle.model_checks.proofs.Soundness.{not_false}
use Rattle.model_checks.proofs.SoundWhole.{finds}
use Rattle.model_meaning.specs.Reached.{IsNamedIn, own_value, definition_of, Reaches, itself, by_demand, by_lookahead, by_call, Opens}
use Rattle.model_meaning.specs.Laws.{IsNoDeeper, StandsFor}
use Rattle.model_meaning.proofs.Members.{none_of}
use Rattle.model_meaning.proofs.Settled.{definitions}
use Rattle.meaning_laws.specs.Reaching.{IsLangOn, IsTransFrom}
use Rattle.meaning_laws.proofs.Known.{IsKnown, IsFound, names_known, found_of, stands_earlier}
use Rattle.meaning_laws.proofs.Reaching.{value_there, rules_there, outs_there, lang_no_value, trans_no_value, reached_by_lang, reached_by_trans}
use Rattle.meaning_laws.proofs.Valued.{checked, the_definition}

module _ (items : List Item) (whole : IsSound items) where
  -- a name without rules reaches itself alone
  reaches_itself : (n m : List ℕ) → ((r : Rule) → ¬ (Contains (rules_of items n) r)) → ((r : OutRule) → ¬ (Contains (out_rules_of items n) r)) → Reaches items n m → m ≡ n
  reaches_itself n _ no_rules no_outs itself = refl
  reaches_itself n _ no_rules no_outs (by_demand other r d reach at given) = absurd (no_rules r (subst (λ o. Contains (rules_of items o) r) (reaches_itself n other no_rules no_outs reach) at))
  reaches_itself n _ no_rules no_outs (by_lookahead other r d reach at given) = absurd (no_outs r (subst (λ o. Contains (out_rules_of items o) r) (reaches_itself n other no_rules no_outs reach) at))
  reaches_itself n _ no_rules no_outs (by_call other r q reach at calls) = absurd (no_outs r (subst (λ o. Contains (out_rules_of items o) r) (reaches_itself n other no_rules no_outs reach) at))

  -- an item without rules: what its name opens is its own
  own_opened : (n : List ℕ) (item : Item) (y : X) → find_item items n ≡ Some item → own_rules item.body ≡ [] → own_out_rules item.body ≡ [] → Opens items n y → own_value item.body ≡ Some y
  own_opened n item y found no_rules no_outs opened =
      let same = reaches_itself n opened.definition (λ r at. none_of r (subst (λ rs. Contains rs r) (rules_there items whole n item found ∙ no_rules) at)) (λ r at. none_of r (subst (λ rs. Contains rs r) (outs_there items whole n item found ∙ no_outs) at)) opened.reached in
      sym (value_there items whole n item found) ∙ (ap (definition_of items) (sym same) ∙ opened.is)

  nothing_opened : (n : List ℕ) (item : Item) (body : Body) (y : X) → find_item items n ≡ Some item → item.body ≡ body → own_rules body ≡ [] → own_out_rules body ≡ [] → own_value body ≡ None → Opens items n y → ⊥
  nothing_opened n item body y found is no_rules no_outs no_value opened =
      let own = own_opened n item y found (ap own_rules is ∙ no_rules) (ap own_out_rules is ∙ no_outs) opened in
      let bad : None ≡ Some y = sym (ap own_value is ∙ no_value) ∙ own in
      cc

  lang_opens : (n : List ℕ) (type : List ℕ) (y : X) → IsLangOn items n type → Opens items n y → ⊥
  lang_opens n type y l opened = lang_no_value items whole opened.definition type y (reached_by_lang items whole n type opened.definition l opened.reached) opened.is

  trans_opens : (n from into : List ℕ) (y : X) → IsTransFrom items n from into → Opens items n y → ⊥
  trans_opens n from into y t opened = elim (reached_by_trans items whole n from into opened.definition t opened.reached) [
    | inl l ↦ lang_no_value items whole opened.definition from y l opened.is
    | inr own ↦ trans_no_value items whole opened.definition from into y own opened.is
  ]

  -- a name opens its own definition alone
  pub opened_by : (n : List ℕ) (item : Item) (body : Body) (y : X) → find_item items n ≡ Some item → item.body ≡ body → Opens items n y → (d : DefItem) × (body ≡ def d) × (d.value ≡ y)
  opened_by n item (sorts t) y found is opened = absurd (nothing_opened n item (sorts t) y found is refl refl refl opened)
  opened_by n item (tree t) y found is opened = absurd (nothing_opened n item (tree t) y found is refl refl refl opened)
  opened_by n item (lang l) y found is opened = absurd (lang_opens n l.of.text y (record { item = item; own = l; found = found; is = is; on = refl }) opened)
  opened_by n item (trans t) y found is opened = absurd (trans_opens n t.from.text t.into.text y (record { item = item; own = t; found = found; is = is; begins = refl; ends = refl }) opened)
  opened_by n item (def d) y found is opened =
      let own : Some d.value ≡ Some y = sym (ap own_value is) ∙ own_opened n item y found (ap own_rules is) (ap own_out_rules is) opened in
      (d, refl, cc)
  opened_by n item (assertion a) y found is opened = absurd (nothing_opened n item (assertion a) y found is refl refl refl opened)

  -- a definition that is known before some items stands before them
  earlier : (before from : List Item) → items ≡ before ++ from → (n : List ℕ) (f : IsFound items whole before n) (d : DefItem) → f.item.body ≡ def d → length ((finds items).item n f.item f.found).before < length before
  earlier before from split n f d is =
      let there = not_false (is_some (find_item before n)) (ap (λ b. is_known_later b && not (is_some (find_item before n))) (sym is) ∙ f.early) in
      stands_earlier items whole before from split (record { text = n; place = nowhere }) f.item f.found ((finds items).item n f.item f.found) there

  -- An expression in which each name is known before is no deeper than there are items before it.
  deep : (k : ℕ) (before from : List Item) → items ≡ before ++ from → length before ≤ k → (x : X) → ((m : List ℕ) → IsNamedIn x m → IsKnown items whole before m) → IsNoDeeper items k x
  deep zero before from split low x known = λ n y inside opened. absurd (
      let f = found_of items whole before n (known n inside) in
      let d = opened_by n f.item f.item.body y f.found refl opened in
      let less = earlier before from split n f d.0 d.1 in
      omega (arith, less, low))
  deep (suc k) before from split low x known = λ n y inside opened.
      (let f = found_of items whole before n (known n inside) in
      let d = opened_by n f.item f.item.body y f.found refl opened in
      let at = (finds items).item n f.item f.found in
      let less = earlier before from split n f d.0 d.1 in
      let c = checked items whole f.item at d.0 d.1 in
      subst (IsNoDeeper items k) d.2 (deep k at.before (f.item ∷ at.behind) at.is (omega (arith, less, low)) d.0.value (names_known items whole at.before 0 (expected_as (defined_kind d.0.into) (declared_type items d.0.from)) d.0.value c.inside)))

  pub no_deeper : (before from : List Item) → items ≡ before ++ from → (around : ℕ) (expected : _) (x : X) → is_empty (x_failures items before around expected x) ≡ true → IsNoDeeper items (length before) x
  no_deeper before from split around expected x e = deep (length before) before from split (omega arith) x (names_known items whole before around expected x e)

  -- the name of a definition stands for its expression
  pub stands_for : (n : Name) (x : X) → definition_of items n.text ≡ Some x → StandsFor items n x
  stands_for n x e =
      let d = the_definition items whole n.text x e in
      let c = checked items whole d.item d.at d.own d.is in
      let depth = no_deeper d.at.before (d.item ∷ d.at.behind) d.at.is 0 (expected_as (defined_kind d.own.into) (declared_type items d.own.from)) d.own.value c.inside in
      definitions items n x (length d.at.before) e (subst (IsNoDeeper items (length d.at.before)) d.value depth) (
      let many : length items ≡ length (d.at.before ++ d.item ∷ d.at.behind) = ap length d.at.is in
      omega (arith, many, length-append d.at.before (d.item ∷ d.at.behind)))
