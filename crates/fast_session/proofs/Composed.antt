-- The compositions of all items that a name needs can be made, where those of the items with the names that were collected can.
use Rattle.std.proofs.Common.{◌≡◌, ◌⊎◌, inl, inr, ℕ, List, [], Option, Some, None, Contains, refl, sym, ap, subst, ◌∙◌, arith}
use Rattle.std.specs.Option.{option_map_or}
use Rattle.model_program.specs.Syntax.{Name}
use Rattle.model_grammar.specs.Syntax.{X, Rule, OutRule, Body, sorts, tree, lang, trans, def, assertion, Item}
use Rattle.model_names.specs.Declared.{own_name, declares, find_item, own_rules, own_out_rules}
use Rattle.model_checks.specs.Sound.{IsSound}
use Rattle.model_checks.proofs.Soundness.{found_passes}
use Rattle.model_meaning.specs.Reached.{IsNamedIn, Reaches, itself, by_demand, by_lookahead, by_call, Opens, DependsOn, on_name, by_definition, definition_of}
use Rattle.model_meaning.proofs.Members.{none_of}
use Rattle.model_run.specs.Items.{expressions_in, in_expression, IsComposable}
use Rattle.model_run.specs.Report.{named_x, AreNeededComposable}
use Rattle.meaning_laws.specs.Reaching.{IsLangOn, IsTransFrom}
use Rattle.meaning_laws.proofs.Known.{has_name}
use Rattle.meaning_laws.proofs.Reaching.{reached_by_lang, reached_by_trans}
use Rattle.meaning_laws.proofs.Valued.{the_definition}
use Rattle.sta_theory.proofs.Lists.{first_in}
use Rattle.fast_eval.proofs.Labels.{stands_next}
use Rattle.fast_eval.proofs.Stepping.{some_same}
use Rattle.fast_session.specs.Needed.{AreClosedFrom, AreComposableOf}

-- an item without expressions
bare_composes : (items : List Item) (body : Body) → ((e : X) → ¬ (Contains (expressions_in body) e)) → IsComposable items body
bare_composes items body bare x y (in_expression _ e at is) = absurd (bare e at)

module _ (items : List Item) (whole : IsSound items) where
  -- the item with the name has no expression
  abbrev IsBare : List ℕ → Type 0
  IsBare m = (item : Item) → find_item items m ≡ Some item → (e : X) → ¬ (Contains (expressions_in item.body) e)

  lang_bare : (m type : List ℕ) → IsLangOn items m type → IsBare m
  lang_bare m type l item found e at = none_of e (subst (λ b. Contains (expressions_in b) e) (ap (λ (i : Item). i.body) (some_same (sym found ∙ l.found)) ∙ l.is) at)

  trans_bare : (m from into : List ℕ) → IsTransFrom items m from into → IsBare m
  trans_bare m from into t item found e at = none_of e (subst (λ b. Contains (expressions_in b) e) (ap (λ (i : Item). i.body) (some_same (sym found ∙ t.found)) ∙ t.is) at)

  -- only a `lang` has rules, and only a `trans` rules with terms
  rules_by_body : (n : List ℕ) (item : Item) (body : Body) (r : Rule) → find_item items n ≡ Some item → item.body ≡ body → Contains (own_rules body) r → (type : List ℕ) × IsLangOn items n type
  rules_by_body n item (sorts t) r found is at = absurd (none_of r at)
  rules_by_body n item (tree t) r found is at = absurd (none_of r at)
  rules_by_body n item (lang l) r found is at = (l.of.text, record { item = item; own = l; found = found; is = is; on = refl })
  rules_by_body n item (trans t) r found is at = absurd (none_of r at)
  rules_by_body n item (def d) r found is at = absurd (none_of r at)
  rules_by_body n item (assertion a) r found is at = absurd (none_of r at)

  rules_by : (n : List ℕ) (o : Option Item) (r : Rule) → find_item items n ≡ o → Contains (option_map_or (λ item. own_rules item.body) o []) r → (type : List ℕ) × IsLangOn items n type
  rules_by n None r found at = absurd (none_of r at)
  rules_by n (Some item) r found at = rules_by_body n item item.body r found refl at

  outs_by_body : (n : List ℕ) (item : Item) (body : Body) (r : OutRule) → find_item items n ≡ Some item → item.body ≡ body → Contains (own_out_rules body) r → (from into : List ℕ) × IsTransFrom items n from into
  outs_by_body n item (sorts t) r found is at = absurd (none_of r at)
  outs_by_body n item (tree t) r found is at = absurd (none_of r at)
  outs_by_body n item (lang l) r found is at = absurd (none_of r at)
  outs_by_body n item (trans t) r found is at = (t.from.text, t.into.text, record { item = item; own = t; found = found; is = is; begins = refl; ends = refl })
  outs_by_body n item (def d) r found is at = absurd (none_of r at)
  outs_by_body n item (assertion a) r found is at = absurd (none_of r at)

  outs_by : (n : List ℕ) (o : Option Item) (r : OutRule) → find_item items n ≡ o → Contains (option_map_or (λ item. own_out_rules item.body) o []) r → (from into : List ℕ) × IsTransFrom items n from into
  outs_by n None r found at = absurd (none_of r at)
  outs_by n (Some item) r found at = outs_by_body n item item.body r found refl at

  bare_behind : (n from into m : List ℕ) → IsTransFrom items n from into → Reaches items n m → IsBare m
  bare_behind n from into m t reach = elim (reached_by_trans items whole n from into m t reach) [ inl l ↦ lang_bare m from l | inr own ↦ trans_bare m from into own ]

  -- what a name reaches besides itself has rules
  reached_bare : (n m : List ℕ) → Reaches items n m → (m ≡ n) ⊎ IsBare m
  reached_bare n _ itself = inl refl
  reached_bare n _ (by_demand other r d reach at given) =
      let (type, l) = rules_by other (find_item items other) r refl at in
      inr (lang_bare d.language.text type (reached_by_lang items whole other type d.language.text l (by_demand other r d itself at given)))
  reached_bare n _ (by_lookahead other r d reach at given) =
      let (from, into, t) = outs_by other (find_item items other) r refl at in
      inr (bare_behind other from into d.language.text t (by_lookahead other r d itself at given))
  reached_bare n q (by_call other r _ reach at calls) =
      let (from, into, t) = outs_by other (find_item items other) r refl at in
      inr (bare_behind other from into q t (by_call other r q itself at calls))

  -- a definition has an expression
  not_bare : (n : List ℕ) (y : X) → definition_of items n ≡ Some y → IsBare n → ⊥
  not_bare n y e bare =
      let d = the_definition items whole n y e in
      bare d.item d.found d.own.value (subst (λ b. Contains (expressions_in b) d.own.value) (sym d.is) (first_in d.own.value []))

  module _ (names : List (List ℕ)) (closed : AreClosedFrom items 0 names) where
    -- the names in the expression of a definition that was collected
    names_inside : (n : List ℕ) (y : X) → definition_of items n ≡ Some y → Contains names n → (m : List ℕ) → IsNamedIn y m → Contains names m
    names_inside n y e there m inside =
        let d = the_definition items whole n y e in
        let own = has_name n (own_name d.item.body) (found_passes (declares n) items d.item d.found) in
        let same : Some d.own.name ≡ Some own.0 = sym (ap own_name d.is) ∙ own.1 in
        let text : d.own.name.text ≡ n = ap (λ (k : Name). k.text) (some_same same) ∙ own.2 in
        closed d.item d.at d.own (omega arith) d.is (subst (Contains names) (sym text) there) m (subst (λ z. IsNamedIn z m) (sym d.value) inside)

    opened_names : (n : List ℕ) (y : X) → Opens items n y → Contains names n → (m : List ℕ) → IsNamedIn y m → Contains names m
    opened_names n y opens there m inside = elim (reached_bare n opens.definition opens.reached) [
      | inl same ↦ names_inside n y (ap (definition_of items) (sym same) ∙ opens.is) there m inside
      | inr bare ↦ absurd (not_bare opens.definition y opens.is bare)
    ]

    collected : (x : X) → ((n : List ℕ) → IsNamedIn x n → Contains names n) → (m : List ℕ) → DependsOn items x m → Contains names m ⊎ IsBare m
    collected x all m (on_name _ n _ inside reached) = elim (reached_bare n m reached) [
      | inl same ↦ inl (subst (Contains names) (sym same) (all n inside))
      | inr bare ↦ inr bare
    ]
    collected x all m (by_definition _ y n _ inside opens more) = collected y (opened_names n y opens (all n inside)) m more

    pub needed_compose : (name : List ℕ) → Contains names name → AreComposableOf items (Contains names) items → AreNeededComposable items name
    needed_compose name there asked item need = elim (collected (named_x name) (λ n same. subst (Contains names) same there) need.own.text need.needed) [
      | inl own ↦ asked item need.own need.there need.named own
      | inr bare ↦ (
          let (k, low, is) = need.there in
          bare_composes items item.body (bare item (whole.found_item item need.own (stands_next items k item low (sym is)) need.named)))
    ]
