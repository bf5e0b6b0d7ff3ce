-- What a name needs is built, item by item.
use Rattle.std.proofs.Common.{◌≡◌, inl, inr, ℕ, Bool, true, false, not, ◌&&◌, List, [], ◌∷◌, ◌++◌, Option, Some, None, take, Contains, refl, sym, ap, subst, ◌∙◌, arith}
use Rattle.std.specs.Prelude.{is_some}
use Rattle.std.specs.Option.{option_and_then, option_map, option_map_or}
use Rattle.model_tree.specs.Tree.{LabelTree}
use Rattle.model_program.specs.Syntax.{Name}
use Rattle.model_grammar.specs.Syntax.{Body, sorts, tree, lang, trans, def, assertion, DefItem, Item}
use Rattle.model_grammar.specs.Places.{nowhere}
use Rattle.model_names.specs.Declared.{own_name, declares, find_item}
use Rattle.model_names.specs.Kinds.{Kind, language, transformation, defined_kind, own_kind}
use Rattle.model_checks.specs.Failures.{is_empty, fails_if, failure}
use Rattle.fast_fault.specs.declared.code.Code.TheVariants.{UsedTooEarly, UnknownName}
use Rattle.model_checks.specs.Expressions.{is_known_later, x_failures}
use Rattle.model_checks.specs.Sound.{IsSound, StandsIn}
use Rattle.model_checks.proofs.Soundness.{found_passes}
use Rattle.model_checks.proofs.SoundWhole.{sound}
use Rattle.model_meaning.specs.Reached.{definition_of}
use Rattle.model_meaning.proofs.Members.{one_of, none_of}
use Rattle.meaning_laws.proofs.Kinded.{IsKinded, kinded}
use Rattle.meaning_laws.proofs.Known.{has_name}
use Rattle.meaning_laws.proofs.Shaped.{item_shape}
use Rattle.meaning_laws.specs.Shapes.{has_automaton_shape, has_body_shape}
use Rattle.model_run.specs.Items.{expressions_in, IsComposable, AreComposable}
use Rattle.model_run.specs.Causes.{HasCause, more_classes, too_wide, form_number}
use Rattle.model_run.specs.Report.{named_x}
use Rattle.model_run.specs.Texts.{IsNameOf}
use Rattle.lin_solve.specs.Shown.{bits_of}
use Rattle.fast_eval.specs.declared.stops.EvalStop.{EvalStop}
use Rattle.fast_eval.specs.declared.stops.EvalStop.TheVariants.{Classes, Wide, Range, Memory}
use Rattle.sta_theory.proofs.Lists.{append_member, first_in}
use Rattle.std.proofs.lemmas.List.Elements.{Contains-append_right}
use Rattle.fast_build.specs.Items.{own_lang}
use Rattle.fast_build.specs.Transformations.{own_trans}
use Rattle.fast_eval.specs.Forms.{IsMadeOn, IsMadeFrom, IsReadyName}
use Rattle.fast_eval.specs.declared.stops.OutputStop.{OutputStop}
use Rattle.fast_eval.specs.declared.stops.OutputStop.TheVariants as outputs
use Rattle.fast_eval.specs.Outputs.{StopsOutputs}
use Rattle.fast_eval.specs.Stops.{StopsExpression}
use Rattle.fast_eval.specs.Defined.{IsDefined, AreDefinedOf, IsMadeInto, AreKnownInto}
use Rattle.fast_eval.specs.Table.{HasBuilt, IsGrown}
use Rattle.fast_eval.specs.declared.built.Built.{Built}
use Rattle.fast_eval.proofs.Outcomes.{each_composable, def_cause}
use Rattle.fast_eval.proofs.Keeping.{built_grown}
use Rattle.fast_eval.proofs.Keeping.{more_twice as grown_twice}
use Rattle.fast_eval.proofs.Stepping.{def_made_into, def_known_into, typed_as, typed_from, found_there, some_same}
use Rattle.fast_session.specs.declared.answers.Halt.{Halt}
use Rattle.fast_session.specs.declared.answers.Halt.TheVariants as halt
use Rattle.fast_session.specs.declared.items.Around.{Around}
use Rattle.fast_session.specs.declared.items.Kept.{Kept}
use Rattle.fast_session.specs.Answers.{stopped_by, stopped_outputs, halt_at}
use Rattle.fast_session.specs.declared.answers.Stopped.{Stopped}
use Rattle.fast_session.specs.declared.answers.Stopped.TheVariants.{By}
use Rattle.fast_session.specs.declared.answers.Stopped.TheVariants as stopped
use Rattle.fast_session.specs.Items.{IsAlwaysStopped, IsBuiltMore}
use Rattle.fast_session.specs.Kept.{items_in}
use Rattle.fast_session.specs.Needed.{AreNeeded, AreComposableOf, IsBuildable, IsHaltAmong, IsHaltNeeded, IsTreeStopped}
use Rattle.fast_session.proofs.Following.{value_found}

-- ---- the form of a definition

module _ (items : List Item) (whole : IsSound items) (item : Item) (at : StandsIn items item) (d : DefItem) (is : item.body ≡ def d) where
  pub form : has_automaton_shape d.value ≡ true
  form = subst (λ b. has_body_shape b ≡ true) is (item_shape items whole item at)

-- ---- a definition with one of the names

module _ (a : Around) (names : List (List ℕ)) (item : Item) (k : Kept) (b : IsBuildable a names item k) (d : DefItem) (is : item.body ≡ def d) where
  whole : IsSound (items_in a)
  whole = sound (items_in a) a.checked.now.well_formed

  pub value_is : definition_of (items_in a) d.name.text ≡ Some d.value
  value_is = value_found (items_in a) whole item b.at d is

  module _ (composable : IsComposable (items_in a) item.body) where
    value_can : AreComposable (items_in a) d.value
    value_can = each_composable (items_in a) item.body composable d.value (subst (λ b. Contains (expressions_in b) d.value) (sym is) (first_in d.value []))

    pub value_made : IsMadeInto (items_in a) d.into d.value
    value_made = def_made_into (items_in a) whole item b.at d is (form (items_in a) whole item b.at d is) value_can

    pub value_known : Contains names d.name.text → AreKnownInto (items_in a) k.built d.into d.value
    value_known there = def_known_into (items_in a) whole item b.at d is k.built (Contains names) b.defined (λ m named_at. b.closed item b.at d (omega arith) is there m named_at) value_made

-- what stops the evaluation of a definition's expression is a cause, whatever was printed before
pub def_always : (items : List Item) (limit : ℕ) (item : Item) (d : DefItem) → item.body ≡ def d → (stop : EvalStop) → StopsExpression items d.value limit stop → IsAlwaysStopped items limit item (stopped_by limit stop)
def_always items limit item d is Classes stop = (λ trees shown. subst (λ b. HasCause items limit trees b (more_classes limit)) (sym is) (def_cause items limit trees d Classes stop), tt)
def_always items limit item d is (Wide c) stop = (λ trees shown. subst (λ b. HasCause items limit trees b (too_wide (bits_of c.width))) (sym is) (def_cause items limit trees d (Wide c) stop), tt)
def_always items limit item d is (Range n) stop = (λ trees shown. subst (λ b. HasCause items limit trees b (form_number n)) (sym is) (def_cause items limit trees d (Range n) stop), tt)
def_always items limit item d is Memory stop = tt

-- an item with one of the names, which has the cause
pub halts_among : (items : List Item) (limit : ℕ) (names : List (List ℕ)) (item : Item) → Contains items item → (own : Name) → own_name item.body ≡ Some own → Contains names own.text
    → (s : Stopped) → IsAlwaysStopped items limit item s → IsHaltAmong items limit names (halt_at item.place s)
halts_among items limit names item there own named at (By cause) stop = (item, there, refl, own, named, at, stop.0 [], stop.1)
halts_among items limit names item there own named at stopped.Memory stop = tt

-- the name of an item, where there is one
pub named_as : (o : Option Name) (text : List ℕ) → Some text ≡ option_map (λ (n : Name). n.text) o → (own : Name) × (o ≡ Some own) × (own.text ≡ text)
named_as None text e = absurd (cc)
named_as (Some own) text e = (own, refl, cc)

pub stands_there : (items : List Item) (item : Item) → StandsIn items item → Contains items item
stands_there items item at = subst (λ l. Contains l item) (sym at.is) (Contains-append_right at.before (item ∷ at.behind) item (first_in item at.behind))

-- ---- all of them

pub none_defined : (P : List ℕ → Type 0) (b : Built) (items : List Item) → AreDefinedOf P b (take 0 items)
none_defined P b [] item d at = absurd (none_of item at)
none_defined P b (x ∷ xs) item d at = absurd (none_of item at)

pub one_defined : (P : List ℕ → Type 0) (old new : Built) (before : List Item) (item : Item) → IsGrown old new → AreDefinedOf P old before → ((d : DefItem) → item.body ≡ def d → P d.name.text → IsDefined new d) → AreDefinedOf P new (before ++ item ∷ [])
one_defined P old new before item grown was own other d at is wanted = elim (append_member before (item ∷ []) other at) [
  | inl here ↦ built_grown old new grown (defined_kind d.into) d.name.text (was other d here is wanted)
  | inr there ↦ elim (one_of item other [] there) [ inl same ↦ own d (ap (λ (i : Item). i.body) same ∙ is) wanted | inr none ↦ absurd (none_of other none) ]
]

-- the same of items whose compositions can be made
pub none_composable : (items : List Item) (P : List ℕ → Type 0) (some : List Item) → AreComposableOf items P (take 0 some)
none_composable items P [] item own at = absurd (none_of item at)
none_composable items P (x ∷ xs) item own at = absurd (none_of item at)

pub one_composable : (items : List Item) (P : List ℕ → Type 0) (before : List Item) (item : Item) → AreComposableOf items P before → ((own : Name) → own_name item.body ≡ Some own → P own.text → IsComposable items item.body) → AreComposableOf items P (before ++ item ∷ [])
one_composable items P before item was own other name at named wanted = elim (append_member before (item ∷ []) other at) [
  | inl here ↦ was other name here named wanted
  | inr there ↦ elim (one_of item other [] there) [
    | inl same ↦ subst (λ (i : Item). IsComposable items i.body) same (own name (ap (λ (i : Item). own_name i.body) same ∙ named) wanted)
    | inr none ↦ absurd (none_of other none)
  ]
]

pub more_twice : (items : List Item) (old mid new : Kept) → IsBuiltMore items old mid → IsBuiltMore items mid new → IsBuiltMore items old new
more_twice items old mid new g h = record { built = h.built; grown = grown_twice old.built mid.built new.built g.grown h.grown; trees = h.trees ∙ g.trees }

-- ---- those of a name

module _ (items : List Item) (limit : ℕ) (name : List ℕ) (names : List (List ℕ)) (need : AreNeeded items name names) where
  pub halt_needed : (h : Halt) → IsHaltAmong items limit names h → IsHaltNeeded items limit name h
  halt_needed (halt.Refused cause place) (item, there, at, own, named, among, has, typed) = (item, record { there = there; own = own; named = named; needed = need.needed own.text among }, at, has, typed)
  halt_needed (halt.Ended refusal) h = absurd h
  halt_needed halt.Memory h = tt

  module _ (b : Built) (defined : AreDefinedOf (Contains names) b items) where
    known_by_body : (kind : Kind) (item : Item) (body : Body) → find_item items name ≡ Some item → item.body ≡ body → own_kind body ≡ Some kind → IsReadyName kind items b name
    known_by_body kind item (sorts t) found is e = absurd (cc)
    known_by_body kind item (tree t) found is e = subst (λ k. IsReadyName k items b name) (some_same e) (inr tt)
    known_by_body kind item (lang l) found is e =
        subst (λ k. IsReadyName k items b name) (some_same e) (inl (ap is_some (ap (option_and_then (λ (i : Item). own_lang i.body)) found ∙ ap own_lang is)))
    known_by_body kind item (trans t) found is e =
        subst (λ k. IsReadyName k items b name) (some_same e) (inl (ap is_some (ap (option_and_then (λ (i : Item). own_trans i.body)) found ∙ ap own_trans is)))
    known_by_body kind item (def d) found is e =
        let own = has_name name (own_name item.body) (found_passes (declares name) items item found) in
        let same : Some d.name ≡ Some own.0 = sym (ap own_name is) ∙ own.1 in
        let text : d.name.text ≡ name = ap (λ (n : Name). n.text) (some_same same) ∙ own.2 in
        subst (λ k. IsReadyName k items b name) (some_same e)
        (inr (subst (HasBuilt (defined_kind d.into) b) text (defined item d (found_there (declares name) items item found) is (subst (Contains names) (sym text) need.itself))))
    known_by_body kind item (assertion s) found is e = absurd (cc)

    known_by : (kind : Kind) (o : Option Item) → find_item items name ≡ o → option_and_then (λ (i : Item). own_kind i.body) o ≡ Some kind → IsReadyName kind items b name
    known_by kind None found e = absurd (cc)
    known_by kind (Some item) found e = known_by_body kind item item.body found refl e

    pub name_known : (kind : Kind) → IsNameOf items kind name → IsReadyName kind items b name
    name_known kind e = known_by kind (find_item items name) refl e

-- ---- the name as an expression

module _ (items : List Item) (whole : IsSound items) (name : List ℕ) where
  nothing_fails : (kind : Kind) (o : Option Item) → find_item items name ≡ o → option_and_then (λ (i : Item). own_kind i.body) o ≡ Some kind → is_empty (x_failures items items 0 None (named_x name)) ≡ true
  nothing_fails kind None found e = absurd (cc)
  nothing_fails kind (Some item) found e =
      subst (λ o. is_empty (option_map_or (λ (i : Item). fails_if (is_known_later i.body && not (is_some o)) UsedTooEarly nowhere) o (failure UnknownName nowhere)) ≡ true) (sym found) (by (is_known_later item.body))
    where
      by : (b : Bool) → is_empty (fails_if (b && not true) UsedTooEarly nowhere) ≡ true
      by true = refl
      by false = refl

  name_kinded : (kind : Kind) → IsNameOf items kind name → IsKinded items (named_x name)
  name_kinded kind is = kinded items whole items 0 None (named_x name) (nothing_fails kind (find_item items name) refl is)

  pub name_made : IsNameOf items language name → (type : List ℕ) × IsMadeOn items type (named_x name)
  name_made is = typed_as items whole (named_x name) (name_kinded language is) is

  pub trans_name_made : IsNameOf items transformation name → (from into : List ℕ) × IsMadeFrom items from into (named_x name)
  trans_name_made is = typed_from items whole (named_x name) (name_kinded transformation is) is

-- a name tells no trees apart
pub name_stops : (items : List Item) (name : List ℕ) (limit : ℕ) (s : EvalStop) → StopsExpression items (named_x name) limit s → s ≡ Memory
name_stops items name limit Classes h = absurd (let no : false ≡ true = h.0 in cc)
name_stops items name limit (Wide c) h = absurd (let no : false ≡ true = h.0 in cc)
name_stops items name limit (Range n) h = absurd (let no : false ≡ true = h.0 in cc)
name_stops items name limit Memory h = refl

-- what stops the search for outputs is a cause of the tree
pub tree_stopped : (items : List Item) (name : List ℕ) (limit : ℕ) (t : LabelTree) (stop : OutputStop) → StopsOutputs items (named_x name) limit t stop → IsTreeStopped items name t (stopped_outputs limit stop)
tree_stopped items name limit t (outputs.Stopped s) cause = subst (λ z. IsTreeStopped items name t (stopped_by limit z)) (sym (name_stops items name limit s cause)) tt
tree_stopped items name limit t (outputs.Range n) cause = (cause, tt)
tree_stopped items name limit t (outputs.Load load) cause = (cause, tt)
