-- The names in expressions of definitions, collected from the last item to the first.
use Rattle.std.proofs.Common.{◌≡◌, ◌⊎◌, inl, inr, ◌<◌, ◌≤◌, ℕ, suc, true, false, not, ◌&&◌, List, [], ◌∷◌, Some, None, length, get_or, Contains, refl, sym, ap, subst, ◌∙◌, arith, length-append}
use Rattle.std.specs.Prelude.{is_some}
use Rattle.std.specs.List.{list_any}
use Rattle.std.specs.Option.{option_and_then}
use Rattle.std.proofs.lemmas.Bool.{cases_lt}
use Rattle.std.proofs.lemmas.List.{get_or_at}
use Rattle.std.proofs.lemmas.List.Elements.{Contains-append_left, Contains-append_right, Contains-append_cases, All-contains}
use Rattle.model_grammar.specs.Syntax.{X, named, one, two, literal, DefItem, Body, sorts, tree, lang, trans, def, assertion, Item}
use Rattle.model_names.specs.Declared.{same_text, own_name, find_item}
use Rattle.model_names.specs.Kinds.{defined_kind, declared_type}
use Rattle.model_checks.specs.Expressions.{expected_as, is_known_later}
use Rattle.model_checks.specs.Sound.{IsSound, StandsIn}
use Rattle.model_checks.proofs.Soundness.{not_false}
use Rattle.model_meaning.specs.Reached.{IsNamedIn, DependsOn, itself, on_name, by_definition, own_value, definition_of}
use Rattle.model_meaning.proofs.Members.{one_of, none_of}
use Rattle.meaning_laws.specs.Shapes.{has_automaton_shape, gives_automaton_one, gives_automaton_two}
use Rattle.model_run.specs.Report.{named_x}
use Rattle.meaning_laws.proofs.Known.{names_known, found_of, stands_earlier}
use Rattle.meaning_laws.proofs.Valued.{checked}
use Rattle.sta_theory.proofs.Lists.{first_in}
use Rattle.fast_build.proofs.Elements.{first_true, second_true}
use Rattle.fast_build.specs.Reached.{IsGrown}
use Rattle.fast_build.proofs.Grown.{test_by_there}
use Rattle.fast_session.specs.Needed.{own_def, names_in, IsFollowed, AreClosedFrom, AreNeeded}

-- ---- the names in an expression of a language

pub in_names : (x : X) → has_automaton_shape x ≡ true → (m : List ℕ) → IsNamedIn x m → Contains (names_in x) m
in_names (named n) form m is = subst (Contains (n.text ∷ [])) is (first_in n.text [])
in_names (one op place x) form m is = in_names x (second_true (gives_automaton_one op) (has_automaton_shape x) form) m is
in_names (two op place x y) form m (inl is) =
    Contains-append_left (names_in x) (names_in y) m (in_names x (first_true (has_automaton_shape x) (has_automaton_shape y) (second_true (gives_automaton_two op) (has_automaton_shape x && has_automaton_shape y) form)) m is)
in_names (two op place x y) form m (inr is) =
    Contains-append_right (names_in x) (names_in y) m (in_names y (second_true (has_automaton_shape x) (has_automaton_shape y) (second_true (gives_automaton_two op) (has_automaton_shape x && has_automaton_shape y) form)) m is)
in_names (literal name labels xs) form m is = absurd (cc)

pub of_names : (x : X) (m : List ℕ) → Contains (names_in x) m → IsNamedIn x m
of_names (named n) m at = elim (one_of n.text m [] at) [ inl same ↦ same | inr none ↦ absurd (none_of m none) ]
of_names (one op place x) m at = of_names x m at
of_names (two op place x y) m at = elim (Contains-append_cases (names_in x) (names_in y) m at) [ inl first ↦ inl (of_names x m first) | inr second ↦ inr (of_names y m second) ]
of_names (literal name labels xs) m at = absurd (none_of m at)

-- ---- definitions

pub is_def : (b : Body) (d : DefItem) → Some d ≡ own_def b → b ≡ def d
is_def (sorts t) d e = absurd (cc)
is_def (tree t) d e = absurd (cc)
is_def (lang l) d e = absurd (cc)
is_def (trans t) d e = absurd (cc)
is_def (def f) d e = let same : d ≡ f = cc in ap def (sym same)
is_def (assertion a) d e = absurd (cc)

pub is_no_def : (b : Body) → None ≡ own_def b → (d : DefItem) → ¬ (b ≡ def d)
is_no_def b none d is = let no : None ≡ Some d = none ∙ ap own_def is in cc

pub inside_form : (e : X) (op : _) (place : _) (x : X) → e ≡ one op place x → has_automaton_shape e ≡ true → has_automaton_shape x ≡ true
inside_form e op place x is form = second_true (gives_automaton_one op) (has_automaton_shape x) (subst (λ y. has_automaton_shape y ≡ true) is form)

pub both_forms : (e : X) (op : _) (place : _) (x y : X) → e ≡ two op place x y → has_automaton_shape e ≡ true → (has_automaton_shape x ≡ true) × (has_automaton_shape y ≡ true)
both_forms e op place x y is form =
    let inner = second_true (gives_automaton_two op) (has_automaton_shape x && has_automaton_shape y) (subst (λ z. has_automaton_shape z ≡ true) is form) in
    (first_true (has_automaton_shape x) (has_automaton_shape y) inner, second_true (has_automaton_shape x) (has_automaton_shape y) inner)

-- ---- one item

one_def : (d e : DefItem) → def d ≡ def e → d ≡ e
one_def d e same = cc

module _ (body : Body) (old new : List (List ℕ)) where
  -- an item that isn't a definition with one of the names
  pub nothing_followed : new ≡ old → ((d : DefItem) → body ≡ def d → ¬ (Contains old d.name.text)) → IsFollowed body old new
  nothing_followed same none = record {
    kept = λ m at. subst (λ l. Contains l m) (sym same) at;
    added = λ m at. inl (subst (λ l. Contains l m) same at);
    followed = λ d is at. absurd (none d is at);
  }

  -- a definition with one of them
  pub def_followed : (d : DefItem) → body ≡ def d → has_automaton_shape d.value ≡ true → Contains old d.name.text → IsGrown old new (names_in d.value) → IsFollowed body old new
  def_followed d is form at grown = record {
    kept = λ m own. subst (λ l. Contains l m) (sym grown.is) (Contains-append_left old grown.added m own);
    added = λ m own. elim (Contains-append_cases old grown.added m (subst (λ l. Contains l m) grown.is own)) [
      | inl was ↦ inl was
      | inr more ↦ inr (d, is, at, of_names d.value m (All-contains (Contains (names_in d.value)) grown.added m grown.of_more more))
    ];
    followed = λ e other own m there. (let same : e ≡ d = one_def e d (sym other ∙ is) in All-contains (Contains new) (names_in d.value) m grown.all (in_names d.value form m (subst (λ (f : DefItem). IsNamedIn f.value m) same there)));
  }

-- a definition with none of them
pub other_def : (body : Body) (old : List (List ℕ)) (d : DefItem) → body ≡ def d → list_any (same_text d.name.text) old ≡ false → IsFollowed body old old
other_def body old d is out = nothing_followed body old old refl (λ e other at.
    (let same : e ≡ d = one_def e d (sym other ∙ is) in
    let there = test_by_there old d.name.text (subst (λ (f : DefItem). Contains old f.name.text) same at) in
    let no : true ≡ false = sym there ∙ out in cc))

-- ---- dependence

module _ (items : List Item) where
  -- on what the expression of a definition depends, all depends that depends on the definition
  depends_through : (x : X) (n : List ℕ) (y : X) (m : List ℕ) → DependsOn items x n → definition_of items n ≡ Some y → DependsOn items y m → DependsOn items x m
  depends_through x n y m (on_name _ k _ at reached) is on = by_definition x y k m at (record { definition = n; reached = reached; is = is }) on
  depends_through x n y m (by_definition _ z k _ at opened more) is on = by_definition x z k m at opened (depends_through z n y m more is on)

  pub on_itself : (name : List ℕ) → DependsOn items (named_x name) name
  on_itself name = on_name (named_x name) name name refl itself

  -- what is so once the items from this place on were looked at
  pub record AreSoFar (name : List ℕ) (n : ℕ) (names : List (List ℕ)) : Type 0 where
    pub itself : Contains names name
    pub needed : (m : List ℕ) → Contains names m → DependsOn items (named_x name) m
    pub closed : AreClosedFrom items n names

  module _ (whole : IsSound items) where
    def_found : (item : Item) (at : StandsIn items item) (d : DefItem) → item.body ≡ def d → find_item items d.name.text ≡ Some item
    def_found item at d is = whole.found_item item d.name at (ap own_name is)

    pub value_found : (item : Item) (at : StandsIn items item) (d : DefItem) → item.body ≡ def d → definition_of items d.name.text ≡ Some d.value
    value_found item at d is = ap (λ o. option_and_then (λ (i : Item). own_value i.body) o) (def_found item at d is) ∙ ap own_value is

    some_same : {A : Type 0} {s t : A} → Some s ≡ Some t → s ≡ t
    some_same e = cc

    -- the names in the expression of a definition aren't those of it and of later ones
    earlier_names : (item : Item) (at : StandsIn items item) (d : DefItem) → item.body ≡ def d → (other : Item) (there : StandsIn items other) (e : DefItem) → other.body ≡ def e → IsNamedIn d.value e.name.text → length there.before < length at.before
    earlier_names item at d is other there e other_is named_at =
        let known = names_known items whole at.before 0 (expected_as (defined_kind d.into) (declared_type items d.from)) d.value (checked items whole item at d is).inside e.name.text named_at in
        let f = found_of items whole at.before e.name.text known in
        let same : f.item ≡ other = some_same (sym f.found ∙ def_found other there e other_is) in
        let body : f.item.body ≡ def e = ap (λ (i : Item). i.body) same ∙ other_is in
        let early = not_false (is_some (find_item at.before e.name.text)) (subst (λ b. (is_known_later b && not (is_some (find_item at.before e.name.text))) ≡ false) body f.early) in
        stands_earlier items whole at.before (item ∷ at.behind) at.is e.name other (def_found other there e other_is) there early

    -- one item stands at one place
    one_place : (item other : Item) (at : StandsIn items item) (there : StandsIn items other) → length at.before ≡ length there.before → item ≡ other
    one_place item other at there same =
        sym (ap (λ l. get_or l (length at.before) item) at.is ∙ get_or_at at.before item at.behind item (length at.before) refl)
        ∙ ap (λ l. get_or l (length at.before) item) there.is ∙ get_or_at there.before other there.behind item (length at.before) (sym same)

    -- ---- the loop

    pub one_followed : (name : List ℕ) (n : ℕ) (item : Item) (at : StandsIn items item) → length at.before ≡ n → (old new : List (List ℕ)) → AreSoFar name (suc n) old → IsFollowed item.body old new → AreSoFar name n new
    one_followed name n item at here old new h f = record {
      itself = f.kept name h.itself;
      needed = λ m own. elim (f.added m own) [
        | inl was ↦ h.needed m was
        | inr w ↦ (let (d, is, there, named_at) = w in depends_through (named_x name) d.name.text d.value m (h.needed d.name.text there) (value_found item at d is) (on_name d.value m m named_at itself))
      ];
      closed = λ other there e low is own m named_at. by other there e low is m named_at (f.added e.name.text own);
    }
      where
        by : (other : Item) (there : StandsIn items other) (e : DefItem) → n ≤ length there.before → other.body ≡ def e → (m : List ℕ) → IsNamedIn e.value m
            → Contains old e.name.text ⊎ ((d : DefItem) × (item.body ≡ def d) × Contains old d.name.text × IsNamedIn d.value e.name.text) → Contains new m
        by other there e low is m named_at (inr (d, own, was, of)) = absurd (let before = earlier_names item at d own other there e is of in omega (arith, before, low, here))
        by other there e low is m named_at (inl was) = elim (cases_lt n (length there.before)) [
          | inl later ↦ f.kept m (h.closed other there e (omega (arith, later)) is was m named_at)
          | inr same ↦
              let one = one_place item other at there (omega (arith, same, low, here)) in
              f.followed e (ap (λ (i : Item). i.body) one ∙ is) was m named_at
        ]

    -- before the last item nothing is followed
    pub none_yet : (name : List ℕ) (n : ℕ) (names : List (List ℕ)) → length items ≤ n → IsGrown [] names (name ∷ []) → AreSoFar name n names
    none_yet name n names all grown = record {
      itself = All-contains (Contains names) (name ∷ []) name grown.all (first_in name []);
      needed = λ m at. (let own = All-contains (Contains (name ∷ [])) grown.added m grown.of_more (subst (λ l. Contains l m) grown.is at) in elim (one_of name m [] own) [
        | inl same ↦ subst (DependsOn items (named_x name)) same (on_itself name)
        | inr none ↦ absurd (none_of m none)
      ]);
      closed = λ item at d low is own m named_at. (let long = ap length at.is ∙ length-append at.before (item ∷ at.behind) in absurd (omega (arith, long, low, all)));
    }

    pub all_needed : (name : List ℕ) (names : List (List ℕ)) → AreSoFar name 0 names → AreNeeded items name names
    all_needed name names h = record { itself = h.itself; needed = h.needed; closed = h.closed }
