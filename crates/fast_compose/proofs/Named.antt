-- What an expression reaches is reached by the names of which it is made.
use Rattle.std.proofs.Common.{◌≡◌, ◌⊎◌, inl, inr, ℕ, true, List, [], ◌∷◌, ◌++◌, Option, Some, None, Contains, All, refl, sym, ap, subst, ◌∙◌}
use Rattle.std.specs.Prelude.{is_some}
use Rattle.std.specs.Option.{option_map_or, option_and_then}
use Rattle.model_program.specs.Syntax.{Name}
use Rattle.model_grammar.specs.declared.Op2.TheVariants.{Intersect, Union, Difference, PreImage, Compose, Restrict, RestrictOut, Apply}
use Rattle.model_grammar.specs.Syntax.{X, named, one, two, literal, Rule, OutRule, Body, sorts, tree, lang, trans, DefItem, def, assertion, Item}
use Rattle.model_names.specs.Declared.{name_of, find_item, own_rules, own_out_rules, rules_of, out_rules_of}
use Rattle.model_names.specs.Kinds.{defined_kind, declared_type}
use Rattle.model_checks.specs.Failures.{is_empty}
use Rattle.model_checks.specs.Rules.{type_name_failures}
use Rattle.model_checks.specs.Expressions.{expected_as, x_failures, needs_be, whole_failures}
use Rattle.model_checks.specs.Programs.{name_again, into_failures, needs_output, body_failures, is_well_formed}
use Rattle.model_checks.specs.Sound.{IsSound, StandsIn}
use Rattle.model_checks.proofs.Soundness.{empty_first, empty_second}
use Rattle.model_checks.proofs.SoundWhole.{sound, finds}
use Rattle.model_meaning.specs.Reached.{Reaches, itself, by_demand, by_lookahead, by_call, IsNamedIn, own_value, definition_of, Opens}
use Rattle.model_meaning.proofs.Members.{one_of, none_of}
use Rattle.model_run.specs.Parts.{operands}
use Rattle.model_run.specs.Plain.{ReachesSome, at_name, at_opened, of_first, of_second, of_restricted, of_out_restricted}
use Rattle.model_layers.specs.Causes.{IsAmong}
use Rattle.model_layers.proofs.Wider.{are_among}
use Rattle.meaning_laws.specs.Reaching.{IsLangOn, IsTransFrom}
use Rattle.meaning_laws.proofs.Known.{names_known, found_of}
use Rattle.meaning_laws.proofs.Reaching.{rules_there, outs_there, value_there, lang_no_value, trans_no_value, reached_by_lang, reached_by_trans}
use Rattle.sta_theory.proofs.Lists.{append_member, first_in, later_in}
use Rattle.fast_build.specs.Transformations.{own_trans, find_trans}
use Rattle.std.proofs.lemmas.List.Elements.{All-contains}
use Rattle.fast_build.proofs.Elements.{all_left, all_right}
use Rattle.fast_build.proofs.Paired.{each_all}
use Rattle.fast_compose.specs.Sources.{sources_in, opened_by, AreDeclared, IsSource, stands, opened, AreSources}

-- ---- names in the expression

module _ (items : List Item) (P : List ℕ → Type 0) where
  -- wherever the name stands
  placed : (m n : Name) → m.text ≡ n.text → ReachesSome items P (named m) → ReachesSome items P (named n)
  placed m n same (at_name _ q reached holds) = at_name n q (subst (λ t. Reaches items t q) same reached) holds
  placed m n same (at_opened _ x opens reached) = at_opened n x (subst (λ t. Opens items t x) same opens) reached

  -- what a name in the expression reaches, the expression does
  by_name : (x : X) (n : Name) → Contains (sources_in x) n.text → ReachesSome items P (named n) → ReachesSome items P x
  by_name (named m) n at reached = elim (one_of m.text n.text [] at) [ inl same ↦ placed n m (sym same) reached | inr none ↦ absurd (none_of n.text none) ]
  by_name (one op place x) n at reached = absurd (none_of n.text at)
  by_name (two Intersect place x y) n at reached = absurd (none_of n.text at)
  by_name (two Union place x y) n at reached = absurd (none_of n.text at)
  by_name (two Difference place x y) n at reached = absurd (none_of n.text at)
  by_name (two PreImage place x y) n at reached = absurd (none_of n.text at)
  by_name (two Compose place x y) n at reached = elim (append_member (sources_in x) (sources_in y) n.text at) [
    | inl here ↦ of_first place x y (by_name x n here reached)
    | inr there ↦ of_second place x y (by_name y n there reached)
  ]
  by_name (two Restrict place x y) n at reached = of_restricted place x y (by_name x n at reached)
  by_name (two RestrictOut place x y) n at reached = of_out_restricted place x y (by_name x n at reached)
  by_name (two Apply place x y) n at reached = absurd (none_of n.text at)
  by_name (literal name labels xs) n at reached = absurd (none_of n.text at)

-- the expression of a definition that has the name
opened_there : (name m : List ℕ) (o : Option X) → Contains (option_map_or sources_in o []) m → (x : X) × (o ≡ Some x) × Contains (sources_in x) m
opened_there name m None at = absurd (none_of m at)
opened_there name m (Some x) at = (x, refl, at)

opens_itself : (items : List Item) (name : List ℕ) (x : X) → definition_of items name ≡ Some x → Opens items name x
opens_itself items name x is = record { definition = name; reached = itself; is = is }

-- what a source of the expression reaches, the expression does
pub by_source : (items : List Item) (P : List ℕ → Type 0) (x : X) (n : List ℕ) → IsSource items x n → ReachesSome items P (named (name_of n)) → ReachesSome items P x
by_source items P x n (stands _ at) reached = by_name items P x (name_of n) at reached
by_source items P x n (opened m _ is at) reached =
    let (y, own, there) = opened_there m n (definition_of items m) at in
    by_source items P x m is (at_opened (name_of m) y (opens_itself items m y own) (by_name items P y (name_of n) there reached))

-- so what it reaches without definitions
pub reached_by_source : (items : List Item) (P : List ℕ → Type 0) (x : X) (n q : List ℕ) → IsSource items x n → Reaches items n q → P q → ReachesSome items P x
reached_by_source items P x n q is reached holds = by_source items P x n is (at_name (name_of n) q reached holds)

-- ---- what a source is made of is among what the expression is made of

module _ (items : List Item) where
  record Among (x : X) (n : List ℕ) : Type 0 where
    name : Name
    is : name.text ≡ n
    among : IsAmong items (named name) x

  of_operand : (e x : X) (n : List ℕ) → Contains (operands e) x → Among x n → Among e n
  of_operand e x n at a = record { name = a.name; is = a.is; among = (are_among items).further (named a.name) x e a.among ((are_among items).operand e x at) }

  among_name : (x : X) (n : List ℕ) → Contains (sources_in x) n → Among x n
  among_name (named m) n at = elim (one_of m.text n [] at) [ inl same ↦ record { name = m; is = same; among = (are_among items).same (named m) } | inr none ↦ absurd (none_of n none) ]
  among_name (one op place x) n at = absurd (none_of n at)
  among_name (two Intersect place x y) n at = absurd (none_of n at)
  among_name (two Union place x y) n at = absurd (none_of n at)
  among_name (two Difference place x y) n at = absurd (none_of n at)
  among_name (two PreImage place x y) n at = absurd (none_of n at)
  among_name (two Compose place x y) n at = elim (append_member (sources_in x) (sources_in y) n at) [
    | inl here ↦ of_operand (two Compose place x y) x n (first_in x (y ∷ [])) (among_name x n here)
    | inr there ↦ of_operand (two Compose place x y) y n (later_in x y (y ∷ []) (first_in y [])) (among_name y n there)
  ]
  among_name (two Restrict place x y) n at = of_operand (two Restrict place x y) x n (first_in x (y ∷ [])) (among_name x n at)
  among_name (two RestrictOut place x y) n at = of_operand (two RestrictOut place x y) x n (first_in x (y ∷ [])) (among_name x n at)
  among_name (two Apply place x y) n at = absurd (none_of n at)
  among_name (literal name labels xs) n at = absurd (none_of n at)

  among_source : (x : X) (n : List ℕ) → IsSource items x n → Among x n
  among_source x n (stands _ at) = among_name x n at
  among_source x n (opened m _ is at) =
      let (y, own, there) = opened_there m n (definition_of items m) at in
      let a = among_source x m is in
      let b = among_name y n there in
      let opens = opens_itself items a.name.text y (subst (λ t. definition_of items t ≡ Some y) (sym a.is) own) in
      let inside = (are_among items).further (named b.name) y (named a.name) b.among ((are_among items).opened a.name y opens) in
      record { name = b.name; is = b.is; among = (are_among items).further (named b.name) (named a.name) x inside a.among }

  pub source_among : (x : X) (n : List ℕ) → IsSource items x n → (m : Name) × (m.text ≡ n) × IsAmong items (named m) x
  source_among x n is = let a = among_source x n is in (a.name, a.is, a.among)

-- ---- names of definitions

module _ (items : List Item) (whole : IsSound items) where
  by_lang : (m : List ℕ) (item : Item) (body : Body) (r : Rule) → find_item items m ≡ Some item → item.body ≡ body → Contains (own_rules body) r → (type : List ℕ) × IsLangOn items m type
  by_lang m item (sorts t) r found is at = absurd (none_of r at)
  by_lang m item (tree t) r found is at = absurd (none_of r at)
  by_lang m item (lang l) r found is at = (l.of.text, record { item = item; own = l; found = found; is = is; on = refl })
  by_lang m item (trans t) r found is at = absurd (none_of r at)
  by_lang m item (def d) r found is at = absurd (none_of r at)
  by_lang m item (assertion a) r found is at = absurd (none_of r at)

  by_trans : (m : List ℕ) (item : Item) (body : Body) (r : OutRule) → find_item items m ≡ Some item → item.body ≡ body → Contains (own_out_rules body) r → (from into : List ℕ) × IsTransFrom items m from into
  by_trans m item (sorts t) r found is at = absurd (none_of r at)
  by_trans m item (tree t) r found is at = absurd (none_of r at)
  by_trans m item (lang l) r found is at = absurd (none_of r at)
  by_trans m item (trans t) r found is at = (t.from.text, t.into.text, record { item = item; own = t; found = found; is = is; begins = refl; ends = refl })
  by_trans m item (def d) r found is at = absurd (none_of r at)
  by_trans m item (assertion a) r found is at = absurd (none_of r at)

  -- a name with rules is that of a language, and one with rules with terms that of a transformation
  rules_lang : (m : List ℕ) (r : Rule) (o : Option Item) → find_item items m ≡ o → Contains (rules_of items m) r → (type : List ℕ) × IsLangOn items m type
  rules_lang m r None found at = absurd (none_of r (subst (λ rs. Contains rs r) (ap (λ o. option_map_or (λ i. own_rules i.body) o []) found) at))
  rules_lang m r (Some item) found at = by_lang m item item.body r found refl (subst (λ rs. Contains rs r) (rules_there items whole m item found) at)

  pub outs_trans : (m : List ℕ) (r : OutRule) (o : Option Item) → find_item items m ≡ o → Contains (out_rules_of items m) r → (from into : List ℕ) × IsTransFrom items m from into
  outs_trans m r None found at = absurd (none_of r (subst (λ rs. Contains rs r) (ap (λ o. option_map_or (λ i. own_out_rules i.body) o []) found) at))
  outs_trans m r (Some item) found at = by_trans m item item.body r found refl (subst (λ rs. Contains rs r) (outs_there items whole m item found) at)

  -- the definition that a name reaches is its own
  own_definition : (n d : List ℕ) (x : X) → Reaches items n d → definition_of items d ≡ Some x → d ≡ n
  own_definition n d x itself is = refl
  own_definition n d x (by_demand other r e reached at given) is =
      let (type, l) = rules_lang other r (find_item items other) refl at in
      absurd (lang_no_value items whole d type x (reached_by_lang items whole other type d l (by_demand other r e itself at given)) is)
  own_definition n d x (by_lookahead other r e reached at given) is =
      let (from, into, t) = outs_trans other r (find_item items other) refl at in
      no_trans_value d from into x (reached_by_trans items whole other from into d t (by_lookahead other r e itself at given)) is
    where
      no_trans_value : (d from into : List ℕ) (x : X) → IsLangOn items d from ⊎ IsTransFrom items d from into → definition_of items d ≡ Some x → d ≡ n
      no_trans_value d from into x (inl l) is = absurd (lang_no_value items whole d from x l is)
      no_trans_value d from into x (inr t) is = absurd (trans_no_value items whole d from into x t is)
  own_definition n d x (by_call other r q reached at calls) is =
      let (from, into, t) = outs_trans other r (find_item items other) refl at in
      no_trans_value d from into x (reached_by_trans items whole other from into d t (by_call other r q itself at calls)) is
    where
      no_trans_value : (d from into : List ℕ) (x : X) → IsLangOn items d from ⊎ IsTransFrom items d from into → definition_of items d ≡ Some x → d ≡ n
      no_trans_value d from into x (inl l) is = absurd (lang_no_value items whole d from x l is)
      no_trans_value d from into x (inr t) is = absurd (trans_no_value items whole d from into x t is)

  -- ---- one of the sources reaches what the expression does

  module _ (P : List ℕ → Type 0) (names : List (List ℕ)) (closed : All (λ n. All (Contains names) (opened_by items n)) names) where
    by_expression : (x : X) → All (Contains names) (sources_in x) → ReachesSome items P x → (n : List ℕ) × Contains names n × (q : List ℕ) × Reaches items n q × P q
    by_expression _ all (at_name n q reached holds) = (n.text, All-contains (Contains names) (n.text ∷ []) n.text all (first_in n.text []), q, reached, holds)
    by_expression _ all (at_opened n x opens reached) =
        let own = own_definition n.text opens.definition x opens.reached opens.is in
        let is : opened_by items n.text ≡ sources_in x = ap (λ o. option_map_or sources_in o []) (ap (definition_of items) (sym own) ∙ opens.is) in
        let there = All-contains (Contains names) (n.text ∷ []) n.text all (first_in n.text []) in
        by_expression x (subst (All (Contains names)) is (All-contains (λ m. All (Contains names) (opened_by items m)) names n.text closed there)) reached
    by_expression _ all (of_first place x y reached) = by_expression x (all_left (Contains names) (sources_in x) (sources_in y) all) reached
    by_expression _ all (of_second place x y reached) = by_expression y (all_right (Contains names) (sources_in x) (sources_in y) all) reached
    by_expression _ all (of_restricted place x y reached) = by_expression x all reached
    by_expression _ all (of_out_restricted place x y reached) = by_expression x all reached

  pub some_source : (P : List ℕ → Type 0) (x : X) (names : List (List ℕ)) → AreSources items x names → ReachesSome items P x → (n : List ℕ) × Contains names n × (q : List ℕ) × Reaches items n q × P q
  some_source P x names s reached = by_expression P names s.closed x s.all reached

  -- ---- a name that isn't that of a transformation reaches no rules with terms

  no_outs_of : (o : Option Item) → option_and_then (λ (i : Item). own_trans i.body) o ≡ None → option_map_or (λ (i : Item). own_out_rules i.body) o [] ≡ []
  no_outs_of None none = refl
  no_outs_of (Some item) none = by item.body none
    where
      by : (b : Body) → own_trans b ≡ None → own_out_rules b ≡ []
      by (sorts t) none = refl
      by (tree t) none = refl
      by (lang l) none = refl
      by (trans t) none = absurd (cc)
      by (def d) none = refl
      by (assertion a) none = refl

  no_trans : (m from into : List ℕ) → find_trans items m ≡ None → IsTransFrom items m from into → ⊥
  no_trans m from into none t =
      let bad : None ≡ Some t.own = sym none ∙ (ap (option_and_then (λ (i : Item). own_trans i.body)) t.found ∙ ap own_trans t.is) in
      cc

  pub no_outs : (n q : List ℕ) (r : OutRule) → find_trans items n ≡ None → Reaches items n q → Contains (out_rules_of items q) r → ⊥
  no_outs n q r none itself at = none_of r (subst (λ rs. Contains rs r) (no_outs_of (find_item items n) none) at)
  no_outs n q r none (by_demand other s e reached there given) at =
      let (type, l) = rules_lang other s (find_item items other) refl there in
      let own = reached_by_lang items whole other type q l (by_demand other s e itself there given) in
      none_of r (subst (λ rs. Contains rs r) (outs_there items whole q own.item own.found ∙ ap own_out_rules own.is) at)
  no_outs n q r none (by_lookahead other s e reached there given) at = no_outs n other s none reached there
  no_outs n q r none (by_call other s p reached there calls) at = no_outs n other s none reached there

  -- ---- names in expressions are declared

  def_by : (item : Item) (body : Body) (x : X) → item.body ≡ body → own_value body ≡ Some x → (d : DefItem) × (item.body ≡ def d) × (d.value ≡ x)
  def_by item (sorts t) x is own = absurd (cc)
  def_by item (tree t) x is own = absurd (cc)
  def_by item (lang l) x is own = absurd (cc)
  def_by item (trans t) x is own = absurd (cc)
  def_by item (def d) x is own = let same : d.value ≡ x = cc in (d, is, same)
  def_by item (assertion a) x is own = absurd (cc)

  -- nothing fails in the expression of a definition, which has the kind that is declared
  pub def_whole : (item : Item) (at : StandsIn items item) (d : DefItem) → item.body ≡ def d → is_empty (whole_failures items at.before (declared_type items d.from) (defined_kind d.into) d.value) ≡ true
  def_whole item at d is =
      let own = subst (λ b. is_empty (body_failures items at.before b) ≡ true) is (whole.each item at) in
      let w = whole_failures items at.before (declared_type items d.from) (defined_kind d.into) d.value in
      empty_first w (needs_output items at.before d.into d.value)
      (empty_second (into_failures items at.before d.into) (w ++ needs_output items at.before d.into d.value)
      (empty_second (type_name_failures items d.from) _ (empty_second (name_again items at.before d.name) _ own)))

  -- a name in an expression in which nothing fails
  pub declared_in : (before : List Item) (around : ℕ) (expected : Option (List ℕ)) (x : X) → is_empty (x_failures items before around expected x) ≡ true → (n : List ℕ) → IsNamedIn x n → is_some (find_item items n) ≡ true
  declared_in before around expected x fine n at = ap is_some (found_of items whole before n (names_known items whole before around expected x fine n at)).found

  value_declared : (name : List ℕ) (o : Option Item) → find_item items name ≡ o → (x : X) → definition_of items name ≡ Some x → (n : List ℕ) → IsNamedIn x n → is_some (find_item items n) ≡ true
  value_declared name None found x is n at = let bad : None ≡ Some x = sym (ap (option_and_then (λ (i : Item). own_value i.body)) found) ∙ is in absurd (cc)
  value_declared name (Some item) found x is n at =
      let (d, body, same) = def_by item item.body x refl (sym (value_there items whole name item found) ∙ is) in
      let at_item = (finds items).item name item found in
      let expected = expected_as (defined_kind d.into) (declared_type items d.from) in
      let fine = empty_first (x_failures items at_item.before 0 expected d.value) (needs_be items at_item.before (declared_type items d.from) (defined_kind d.into) d.value) (def_whole item at_item d body) in
      declared_in at_item.before 0 expected d.value fine n (subst (λ y. IsNamedIn y n) (sym same) at)

-- a source that stands in the expression is named in it
source_named : (x : X) (n : List ℕ) → Contains (sources_in x) n → IsNamedIn x n
source_named (named m) n at = elim (one_of m.text n [] at) [ inl same ↦ same | inr none ↦ absurd (none_of n none) ]
source_named (one op place x) n at = absurd (none_of n at)
source_named (two Intersect place x y) n at = absurd (none_of n at)
source_named (two Union place x y) n at = absurd (none_of n at)
source_named (two Difference place x y) n at = absurd (none_of n at)
source_named (two PreImage place x y) n at = absurd (none_of n at)
source_named (two Compose place x y) n at = elim (append_member (sources_in x) (sources_in y) n at) as (λ _. IsNamedIn (two Compose place x y) n) [ inl here ↦ inl (source_named x n here) | inr there ↦ inr (source_named y n there) ]
source_named (two Restrict place x y) n at = inl (source_named x n at)
source_named (two RestrictOut place x y) n at = inl (source_named x n at)
source_named (two Apply place x y) n at = absurd (none_of n at)
source_named (literal name labels xs) n at = absurd (none_of n at)

pub sources_declared : (items : List Item) (x : X) → ((n : List ℕ) → IsNamedIn x n → is_some (find_item items n) ≡ true) → AreDeclared items (sources_in x)
sources_declared items x known = each_all (λ n. is_some (find_item items n) ≡ true) (sources_in x) (λ n at. known n (source_named x n at))

-- a definition's are declared
pub opened_declared : (items : List Item) (well : is_well_formed items ≡ true) (name m : List ℕ) → Contains (opened_by items name) m → is_some (find_item items m) ≡ true
opened_declared items well name m at =
    let (x, own, there) = opened_there name m (definition_of items name) at in
    value_declared items (sound items well) name (find_item items name) refl x own m (source_named x m there)
