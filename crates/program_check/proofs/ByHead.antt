-- What heads say of names.
use Rattle.std.proofs.Common.{◌≡◌, ℕ, Bool, true, false, ◌||◌, ◌&&◌, cond, List, [], ◌∷◌, ◌++◌, map, Option, Some, None, refl, sym, ap, ◌∙◌, subst, true≢false}
use Rattle.std.specs.Prelude.{is_some, not, IsSome}
use Rattle.std.specs.Borrow.{Bor}
use Rattle.std.specs.Option.{option_map, option_map_or, option_and_then, option_copied}
use Rattle.fast_fault.specs.declared.code.Code.TheVariants.{UnknownName, UsedTooEarly, WrongKind, WrongType}
use Rattle.fast_fault.specs.declared.refusal.Refusal.{Refusal}
use Rattle.model_program.specs.Syntax.{Name}
use Rattle.model_grammar.specs.Syntax.{named, Body, sorts, tree, lang, trans, def, assertion, Item}
use Rattle.model_names.specs.Declared.{same_text, own_name, declares, find_item}
use Rattle.model_names.specs.Kinds.{Kind, language, transformation, a_tree, defined_kind, own_kind, own_type, own_output, declared_type}
use Rattle.model_checks.specs.Failures.{failure, fails_if}
use Rattle.model_checks.specs.Rules.{differ, own_lang, own_trans, language_failures, transformation_failures, rule_limit, type_name_failures, rule_failures, out_rule_failures}
use Rattle.model_checks.specs.Programs.{name_again, into_failures, needs_output, body_failures}
use Rattle.std.specs.List.{flat_map}
use Rattle.std.proofs.lemmas.List.{append_assoc}
use Rattle.program_check.specs.declared.checker.Checker.{Checker}
use Rattle.program_check.specs.Notes.{Notes}
use Rattle.program_check.proofs.Noting.{ends, and_next, as_same}
use Rattle.model_checks.specs.Expressions.{is_other_kind, is_known_later, name_failures, whole_failures}
use Rattle.program_check.specs.declared.expressions.Standing.{Standing}
use Rattle.program_check.specs.Typed.{IsType}
use Rattle.program_check.specs.Standings.{plain_kind, IsStanding}
use Rattle.program_check.specs.Heads.{PlainHead, StandsBy, head_of, head_named, not_ruled, ruled_failures, head_failures, behind_head}
use Rattle.program_check.proofs.Typing.{untyped, stands_input, stands_output}

-- what is lent of something that may be there
pub lent : {A B : Type 0} (f : A → B) (r : Option (Bor A)) (o : Option A) → option_copied r ≡ o → option_map (λ x. f x.now) r ≡ option_map f o
lent f None o is = ap (option_map f) is
lent f (Some x) o is = ap (option_map f) is

kind_of_head : (b : Body) → own_kind b ≡ option_and_then (λ h. Some h.kind) (head_of b)
kind_of_head (sorts t) = refl
kind_of_head (tree t) = refl
kind_of_head (lang l) = refl
kind_of_head (trans t) = refl
kind_of_head (def d) = refl
kind_of_head (assertion a) = refl

input_of_head : (b : Body) → own_type b ≡ option_and_then (λ h. Some h.input) (head_of b)
input_of_head (sorts t) = refl
input_of_head (tree t) = refl
input_of_head (lang l) = refl
input_of_head (trans t) = refl
input_of_head (def d) = refl
input_of_head (assertion a) = refl

output_of_head : (b : Body) → own_output b ≡ option_and_then (λ h. h.output) (head_of b)
output_of_head (sorts t) = refl
output_of_head (tree t) = refl
output_of_head (lang l) = refl
output_of_head (trans t) = refl
output_of_head (def d) = refl
output_of_head (assertion a) = refl

-- what the item says that declares a name, by its head
by_head : {A : Type 0} (f : PlainHead → Option A) (g : Body → Option A) → ((b : Body) → g b ≡ option_and_then f (head_of b)) → (o : Option Item) → option_and_then (λ item. g item.body) o ≡ option_and_then f (option_and_then (λ item. head_of item.body) o)
by_head f g is None = refl
by_head f g is (Some item) = is item.body

module _ (items : List Item) (name : Name) where
  head_stands : (h : Option PlainHead) (s : Standing) → head_named items name.text ≡ h → option_map plain_kind s.kind ≡ option_and_then (λ h. Some h.kind) h
      → IsType items s.input (option_and_then (declared_type items) (option_and_then (λ h. Some h.input) h)) → IsType items s.output (option_and_then (declared_type items) (option_and_then (λ h. h.output) h)) → IsStanding items (named name) s
  head_stands h s is kind input output =
      let item = find_item items name.text in
      record {
        kind = kind ∙ sym (by_head (λ h. Some h.kind) own_kind kind_of_head item ∙ ap (option_and_then (λ h. Some h.kind)) is);
        input = subst (IsType items s.input) (sym (ap (option_and_then (declared_type items)) (by_head (λ h. Some h.input) own_type input_of_head item ∙ ap (option_and_then (λ h. Some h.input)) is))) input;
        output = subst (IsType items s.output) (sym (ap (option_and_then (declared_type items)) (by_head (λ h. h.output) own_output output_of_head item ∙ ap (option_and_then (λ h. h.output)) is))) output;
      }

  pub none_stands : head_named items name.text ≡ None → IsStanding items (named name) (record { kind = None; input = None; output = None })
  none_stands is = head_stands None (record { kind = None; input = None; output = None }) is refl (untyped items) (untyped items)

  pub some_stands : (h : PlainHead) (s : Standing) → head_named items name.text ≡ Some h → StandsBy items h s → IsStanding items (named name) s
  some_stands h s is by = head_stands (Some h) s is by.kind (stands_input items h s by) (stands_output items h s by)

-- what declares a name has a head
abbrev HasHead : Option Item → Type 0
HasHead None = Unit {0}
HasHead (Some item) = IsSome (head_of item.body)

declared_head : (name : List ℕ) (b : Body) → option_map_or (λ n. same_text n.text name) (own_name b) false ≡ true → IsSome (head_of b)
declared_head name (sorts t) e = absurd (true≢false (sym e))
declared_head name (tree t) e = refl
declared_head name (lang l) e = refl
declared_head name (trans t) e = refl
declared_head name (def d) e = refl
declared_head name (assertion a) e = absurd (true≢false (sym e))

has_head : (name : List ℕ) (items : List Item) → HasHead (find_item items name)
has_head name [] = tt
has_head name (x ∷ xs) = by (declares name x) refl (has_head name xs)
  where
    by : (b : Bool) → declares name x ≡ b → HasHead (find_item xs name) → HasHead (cond b (Some x) (find_item xs name))
    by true is later = declared_head name x.body is
    by false is later = later

-- what fails at a name, by the head of what declares it
failing_by_head : (f : PlainHead → List Refusal) (g : Body → List Refusal) (u : List Refusal) → ((b : Body) → IsSome (head_of b) → option_map_or f (head_of b) u ≡ g b)
    → (o : Option Item) → HasHead o → option_map_or f (option_and_then (λ item. head_of item.body) o) u ≡ option_map_or (λ item. g item.body) o u
failing_by_head f g u is None h = refl
failing_by_head f g u is (Some item) h = is item.body h

-- a name that is known from the next item on, or from its own on
name_by_head : (items before : List Item) (name : Name) → option_map_or (λ h. fails_if (not (h.has_rules || is_some (find_item before name.text))) UsedTooEarly name.place) (head_named items name.text) (failure UnknownName name.place) ≡ name_failures items before name
name_by_head items before name = failing_by_head _ (λ b. fails_if (is_known_later b && not known) UsedTooEarly name.place) (failure UnknownName name.place) of (find_item items name.text) (has_head name.text items)
  where
    known : Bool
    known = is_some (find_item before name.text)

    of : (b : Body) → IsSome (head_of b) → option_map_or (λ h. fails_if (not (h.has_rules || known)) UsedTooEarly name.place) (head_of b) (failure UnknownName name.place) ≡ fails_if (is_known_later b && not known) UsedTooEarly name.place
    of (sorts t) h = absurd (true≢false (sym h))
    of (tree t) h = refl
    of (lang l) h = refl
    of (trans t) h = refl
    of (def d) h = refl
    of (assertion a) h = absurd (true≢false (sym h))

no_more : (b : Bool) → (b || false) ≡ b
no_more true = refl
no_more false = refl

pub no_head : (h : PlainHead) → None ≡ Some h → ⊥
no_head h e = absurd (cc)

pub one_head : (items : List Item) (g h : PlainHead) (s : Standing) → Some g ≡ Some h → StandsBy items g s → StandsBy items h s
one_head items g h s e by = let same : g ≡ h = cc in subst (λ (h : PlainHead). StandsBy items h s) same by

-- the name of a language that a demand is of
pub language_by_head : (items : List Item) (of name : Name) → ruled_failures items language (declared_type items of) None name ≡ language_failures items of name
language_by_head items from name = failing_by_head (not_ruled items language (declared_type items from) None name) failing (failure UnknownName name.place) of (find_item items name.text) (has_head name.text items)
  where
    failing : Body → List Refusal
    failing b = option_map_or (λ l. fails_if (differ (declared_type items l.of) (declared_type items from)) WrongType name.place) (own_lang b) (failure WrongKind name.place)

    of : (b : Body) → IsSome (head_of b) → option_map_or (not_ruled items language (declared_type items from) None name) (head_of b) (failure UnknownName name.place) ≡ failing b
    of (sorts t) h = absurd (true≢false (sym h))
    of (tree t) h = refl
    of (lang l) h = ap (λ b. fails_if b WrongType name.place) (no_more (differ (declared_type items l.of) (declared_type items from)))
    of (trans t) h = refl
    of (def d) h = refl
    of (assertion a) h = absurd (true≢false (sym h))

-- the name of a transformation that is called
pub transformation_by_head : (items : List Item) (from into name : Name) → ruled_failures items transformation (declared_type items from) (declared_type items into) name ≡ transformation_failures items from into name
transformation_by_head items from into name = failing_by_head (not_ruled items transformation (declared_type items from) (declared_type items into) name) failing (failure UnknownName name.place) of (find_item items name.text) (has_head name.text items)
  where
    failing : Body → List Refusal
    failing b = option_map_or (λ t. fails_if (differ (declared_type items t.from) (declared_type items from) || differ (declared_type items t.into) (declared_type items into)) WrongType name.place) (own_trans b) (failure WrongKind name.place)

    of : (b : Body) → IsSome (head_of b) → option_map_or (not_ruled items transformation (declared_type items from) (declared_type items into) name) (head_of b) (failure UnknownName name.place) ≡ failing b
    of (sorts t) h = absurd (true≢false (sym h))
    of (tree t) h = refl
    of (lang l) h = refl
    of (trans t) h = refl
    of (def d) h = refl
    of (assertion a) h = absurd (true≢false (sym h))

-- what fails at a name that is to stand for something with rules, by the head of what declares it
module _ (items : List Item) (kind : Kind) (input output : Option (List ℕ)) (name : Name) where
  pub none_ruled : head_named items name.text ≡ None → failure UnknownName name.place ≡ ruled_failures items kind input output name
  none_ruled is = ap (λ h. option_map_or (not_ruled items kind input output name) h (failure UnknownName name.place)) (sym is)

  head_ruled : (h : PlainHead) → head_named items name.text ≡ Some h → not_ruled items kind input output name h ≡ ruled_failures items kind input output name
  head_ruled h is = ap (λ h. option_map_or (not_ruled items kind input output name) h (failure UnknownName name.place)) (sym is)

  pub other_ruled : (h : PlainHead) (b : Bool) → head_named items name.text ≡ Some h → b ≡ (not h.has_rules || is_other_kind kind (Some h.kind)) → b ≡ true → failure WrongKind name.place ≡ ruled_failures items kind input output name
  other_ruled h b is tells other = ap (λ b. cond b (failure WrongKind name.place) (fails_if (differ (declared_type items h.input) input || differ (option_and_then (declared_type items) h.output) output) WrongType name.place)) (sym other ∙ tells) ∙ head_ruled h is

  pub same_ruled : (h : PlainHead) (b c : Bool) → head_named items name.text ≡ Some h → b ≡ (not h.has_rules || is_other_kind kind (Some h.kind)) → b ≡ false
      → c ≡ (differ (declared_type items h.input) input || differ (option_and_then (declared_type items) h.output) output) → fails_if c WrongType name.place ≡ ruled_failures items kind input output name
  same_ruled h b c is tells right differs =
      ap (λ c. fails_if c WrongType name.place) differs
      ∙ ap (λ b. cond b (failure WrongKind name.place) (fails_if (differ (declared_type items h.input) input || differ (option_and_then (declared_type items) h.output) output) WrongType name.place)) (sym right ∙ tells) ∙ head_ruled h is

module _ (items before : List Item) (name : Name) where
  pub none_named : head_named items name.text ≡ None → failure UnknownName name.place ≡ name_failures items before name
  none_named is = ap (λ h. option_map_or (λ (h : PlainHead). fails_if (not (h.has_rules || is_some (find_item before name.text))) UsedTooEarly name.place) h (failure UnknownName name.place)) (sym is) ∙ name_by_head items before name

  pub some_named : (h : PlainHead) (b : Bool) → head_named items name.text ≡ Some h → b ≡ (h.has_rules || is_some (find_item before name.text)) → fails_if (not b) UsedTooEarly name.place ≡ name_failures items before name
  some_named h b is tells = ap (λ b. fails_if (not b) UsedTooEarly name.place) tells ∙ ap (λ h. option_map_or (λ (h : PlainHead). fails_if (not (h.has_rules || is_some (find_item before name.text))) UsedTooEarly name.place) h (failure UnknownName name.place)) (sym is) ∙ name_by_head items before name

-- an item, by its head and what stands behind it
pub item_by_head : (items before : List Item) (b : Body) → option_map_or (head_failures items before) (head_of b) [] ++ behind_head items before b ≡ body_failures items before b
item_by_head items before (sorts t) = refl
item_by_head items before (tree t) =
    ap (λ xs. (name_again items before t.name ++ xs) ++ whole) (ends type) ∙ append_assoc (name_again items before t.name) type whole
  where
    type : List Refusal
    type = type_name_failures items t.of

    whole : List Refusal
    whole = whole_failures items before (declared_type items t.of) a_tree t.value
item_by_head items before (lang l) =
    ap (λ xs. (name_again items before l.name ++ xs) ++ rules) (ends type) ∙ append_assoc (name_again items before l.name) type rules
  where
    type : List Refusal
    type = type_name_failures items l.of

    rules : List Refusal
    rules = rule_limit l.rules ++ flat_map (rule_failures items l.of) l.rules
item_by_head items before (trans t) = append_assoc (name_again items before t.name) (from ++ into) rules ∙ ap (λ xs. name_again items before t.name ++ xs) (append_assoc from into rules)
  where
    from : List Refusal
    from = type_name_failures items t.from

    into : List Refusal
    into = type_name_failures items t.into

    rules : List Refusal
    rules = rule_limit (map (λ r. r.rule) t.rules) ++ flat_map (out_rule_failures items t.from t.into) t.rules
item_by_head items before (def d) = append_assoc (name_again items before d.name) (from ++ into) value ∙ ap (λ xs. name_again items before d.name ++ xs) (append_assoc from into value)
  where
    from : List Refusal
    from = type_name_failures items d.from

    into : List Refusal
    into = into_failures items before d.into

    value : List Refusal
    value = whole_failures items before (declared_type items d.from) (defined_kind d.into) d.value ++ needs_output items before d.into d.value
item_by_head items before (assertion a) = refl

-- an item, by its head and what stands behind it
pub item_noted : (items before : List Item) (b body : Body) (x y z : Checker) → b ≡ body → Notes x y (option_map_or (head_failures items before) (head_of body) []) → Notes y z (behind_head items before b) → Notes x z (body_failures items before body)
item_noted items before b body x y z is one two = as_same (item_by_head items before body) (and_next one (as_same (ap (behind_head items before) is) two))
