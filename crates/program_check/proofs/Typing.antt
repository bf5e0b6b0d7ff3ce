-- Types by their numbers, and by their names.
use Rattle.std.proofs.Common.{◌≡◌, ℕ, suc, Bool, true, false, cond, not, List, [], ◌∷◌, map, Option, Some, None, refl, sym, ap, ◌∙◌, subst, true≢false}
use Rattle.std.specs.Prelude.{find, slice_get, is_some, ◌==◌}
use Rattle.std.specs.Option.{option_map, option_map_or, option_and_then}
use Rattle.std.proofs.lemmas.Bool.Decides.{Decides-eqb}
use Rattle.std.proofs.lemmas.Slice.Eq.{bytes_eq-Decides}
use Rattle.model_program.specs.Syntax.{Name, TypeItem}
use Rattle.model_grammar.specs.Syntax.{Item}
use Rattle.model_names.specs.Declared.{same_text, types_of, find_type}
use Rattle.model_names.specs.Kinds.{same_kind, if_kind, declared_type}
use Rattle.model_names.specs.Kinds as model
use Rattle.model_checks.specs.Rules.{differ, type_at}
use Rattle.model_checks.specs.Expressions.{expected_as}
use Rattle.program_check.specs.declared.expressions.Kind.{Kind}
use Rattle.program_check.specs.declared.expressions.Kind.TheVariants.{Language, Transformation, Tree}
use Rattle.program_check.specs.Numbered.{place_by, declares_type, own_type_item, own_ctors, ctor_place, type_there}
use Rattle.program_check.specs.declared.expressions.Standing.{Standing}
use Rattle.program_check.specs.Heads.{PlainHead, StandsBy}
use Rattle.program_check.specs.Standings.{plain_kind, only_as, number_expected}
use Rattle.program_check.specs.Typed.{type_number, IsType, apart}
use Rattle.program_check.proofs.Found.{step_over, type_by_number, ctors_found}

-- what is found passes its test
found_passes : {A : Type 0} (p : A → Bool) (xs : List A) (y : A) → find p xs ≡ Some y → p y ≡ true
found_passes p [] y e = absurd (cc)
found_passes {A} p (x ∷ xs) y e = by (p x) refl e (found_passes p xs y)
  where
    by : (b : Bool) → p x ≡ b → cond b (Some x) (find p xs) ≡ Some y → (find p xs ≡ Some y → p y ≡ true) → p y ≡ true
    by true is found later = let here : x ≡ y = cc in ap p (sym here) ∙ is
    by false is found later = later found

named_so : (name : List ℕ) (items : List Item) (t : TypeItem) → find_type items name ≡ Some t → t.name.text ≡ name
named_so name items t e = (bytes_eq-Decides t.name.text name).0 (found_passes (λ (t : TypeItem). same_text t.name.text name) (types_of items) t e)

-- where there is no type, there is no number
unplaced : (name : List ℕ) (items : List Item) → type_there items (place_by (declares_type name) items) ≡ None → place_by (declares_type name) items ≡ None
unplaced name [] e = refl
unplaced name (x ∷ xs) e = by (declares_type name x) refl e (unplaced name xs)
  where
    rest : Option ℕ
    rest = place_by (declares_type name) xs

    by : (b : Bool) → declares_type name x ≡ b → type_there (x ∷ xs) (cond b (Some 0) (option_map (λ n. suc n) rest)) ≡ None → (type_there xs rest ≡ None → rest ≡ None) → cond b (Some 0) (option_map (λ n. suc n) rest) ≡ None
    by true is none later = absurd (true≢false (sym is ∙ ap (λ o. option_map_or (λ (t : TypeItem). same_text t.name.text name) o false) none))
    by false is none later = ap (option_map (λ n. suc n)) (later (sym (step_over x xs rest) ∙ none))

differ_none : (n : Option (List ℕ)) → false ≡ differ n None
differ_none None = refl
differ_none (Some x) = refl

module _ (items : List Item) where
  -- no type
  pub untyped : IsType items None None
  untyped = record { named = refl; first = refl }

  -- the type of a name, where it is declared
  pub typed : (name : Name) → IsType items (type_number items name.text) (declared_type items name)
  typed name = record { named = ap (option_map (λ t. t.name.text)) (type_by_number name.text items); first = by (find_type items name.text) refl }
    where
      by : (o : Option TypeItem) → find_type items name.text ≡ o → option_and_then (type_number items) (option_map (λ t. t.name.text) o) ≡ type_number items name.text
      by None e = sym (unplaced name.text items (type_by_number name.text items ∙ e))
      by (Some t) e = ap (type_number items) (named_so name.text items t e)

  typed_if : (name : Option Name) → IsType items (option_and_then (λ n. type_number items n.text) name) (option_and_then (declared_type items) name)
  typed_if None = untyped
  typed_if (Some name) = typed name

  pub at_type : (name : Name) (p : Option ℕ) → p ≡ type_number items name.text → IsType items p (declared_type items name)
  at_type name p e = subst (λ (q : Option ℕ). IsType items q (declared_type items name)) (sym e) (typed name)

  pub stands_input : (h : PlainHead) (s : Standing) → StandsBy items h s → IsType items s.input (declared_type items h.input)
  stands_input h s by = at_type h.input s.input by.input

  pub stands_output : (h : PlainHead) (s : Standing) → StandsBy items h s → IsType items s.output (option_and_then (declared_type items) h.output)
  stands_output h s by = subst (λ (p : Option ℕ). IsType items p (option_and_then (declared_type items) h.output)) (sym by.output) (typed_if h.output)

  -- what is declared has a number
  placed : (name : Name) → is_some (type_number items name.text) ≡ is_some (type_at items name)
  placed name = by (find_type items name.text) refl
    where
      by : (o : Option TypeItem) → find_type items name.text ≡ o → is_some (type_number items name.text) ≡ is_some o
      by None e = ap is_some (unplaced name.text items (type_by_number name.text items ∙ e))
      by (Some t) e = there (type_number items name.text) refl
        where
          there : (p : Option ℕ) → type_number items name.text ≡ p → is_some p ≡ true
          there (Some n) is = refl
          there None is = let none : None ≡ Some t = ap (type_there items) (sym is) ∙ type_by_number name.text items ∙ e in absurd (cc)

  pub input_known : (h : PlainHead) (s : Standing) → StandsBy items h s → is_some s.input ≡ is_some (type_at items h.input)
  input_known h s by = ap is_some by.input ∙ placed h.input

  pub output_known : (h : PlainHead) (s : Standing) (name : Name) → StandsBy items h s → h.output ≡ Some name → is_some s.output ≡ is_some (type_at items name)
  output_known h s name by is = ap is_some (by.output ∙ ap (option_and_then (λ (n : Name). type_number items n.text)) is) ∙ placed name

  -- the type of a number is that of the name
  pub type_is : (p : Option ℕ) (e : Option (List ℕ)) → IsType items p e → type_there items p ≡ option_and_then (find_type items) e
  type_is p e h = sym (ap (type_there items) h.first) ∙ by e
    where
      by : (e : Option (List ℕ)) → type_there items (option_and_then (type_number items) e) ≡ option_and_then (find_type items) e
      by None = refl
      by (Some name) = type_by_number name items

  pub type_found_at : (name : Name) (p : Option ℕ) → p ≡ type_number items name.text → type_there items p ≡ type_at items name
  type_found_at name p e = ap (type_there items) e ∙ type_by_number name.text items

  -- types differ where their numbers do
  pub differ_is : (p q : Option ℕ) (n m : Option (List ℕ)) → IsType items p n → IsType items q m → apart p q ≡ differ n m
  differ_is None q n m h g = ap (λ n. differ n m) h.named
  differ_is (Some a) None n m h g = differ_none n ∙ ap (differ n) g.named
  differ_is (Some a) (Some b) None m h g = absurd (none_first a h.first)
    where
      none_first : (a : ℕ) → None ≡ Some a → ⊥
      none_first a e = absurd (cc)
  differ_is (Some a) (Some b) (Some x) None h g = absurd (none_first b g.first)
    where
      none_first : (a : ℕ) → None ≡ Some a → ⊥
      none_first a e = absurd (cc)
  differ_is (Some a) (Some b) (Some x) (Some y) h g = ap not (by (same_text x y) refl)
    where
      by : (s : Bool) → same_text x y ≡ s → (a == b) ≡ s
      by true e =
          let same : x ≡ y = (bytes_eq-Decides x y).0 e in
          let here : Some a ≡ Some b = sym h.first ∙ ap (type_number items) same ∙ g.first in
          (Decides-eqb a b).1 (cc)
      by false e = same_number (a == b) refl
        where
          same_number : (t : Bool) → (a == b) ≡ t → t ≡ false
          same_number false is = refl
          same_number true is =
              let here : Some x ≡ Some y = sym h.named ∙ ap (λ k. option_map (λ t. t.name.text) (type_there items (Some k))) ((Decides-eqb a b).0 is) ∙ g.named in
              let same : x ≡ y = cc in
              absurd (true≢false (sym ((bytes_eq-Decides x y).1 same) ∙ e))

  only_type : (k : Kind) (known : Option Kind) (p : Option ℕ) (name : Option (List ℕ)) → IsType items p name → IsType items (only_as k known p) (if_kind (plain_kind k) (option_map plain_kind known) name)
  only_type k None p name h = untyped
  only_type k (Some found) p name h = by (same_kind (plain_kind found) (plain_kind k))
    where
      by : (b : Bool) → IsType items (cond b p None) (cond b name None)
      by true = h
      by false = untyped

  -- the type or nothing, where something is known of the kind and of the type
  pub only_is : (k : Kind) (known : Option Kind) (p : Option ℕ) (kind : Option model.Kind) (name : Option (List ℕ)) → option_map plain_kind known ≡ kind → IsType items p name → IsType items (only_as k known p) (if_kind (plain_kind k) kind name)
  only_is k known p kind name kind_is h = subst (λ (o : Option model.Kind). IsType items (only_as k known p) (if_kind (plain_kind k) o name)) kind_is (only_type k known p name h)

  pub expected_is : (k : Kind) (p : Option ℕ) (name : Option (List ℕ)) → IsType items p name → IsType items (number_expected k p) (expected_as (plain_kind k) name)
  expected_is Language p name h = untyped
  expected_is Transformation p name h = untyped
  expected_is Tree p name h = h

-- the constructors of the type of a number have their numbers there
pub own_numbers : {A : Type 0} (f : A → List ℕ → Option ℕ) (names : A) (all : List A) (items : List Item) (n : ℕ) (t : TypeItem) → map f all ≡ map (λ item. ctor_place (own_ctors item)) items
    → Some (f names) ≡ slice_get (map f all) n → type_there items (Some n) ≡ Some t → f names ≡ ctor_place t.ctors
own_numbers f names all items n t are there own = by (slice_get items n) refl
  where
    by : (o : Option Item) → slice_get items n ≡ o → f names ≡ ctor_place t.ctors
    by None e = let none : None ≡ Some t = sym (ap (option_and_then (λ (item : Item). own_type_item item.body)) e) ∙ own in absurd (cc)
    by (Some item) e = ctors_found f names all items n item are there (sym e) ∙ ap (λ o. ctor_place (option_map_or (λ (t : TypeItem). t.ctors) o [])) (sym (ap (option_and_then (λ (item : Item). own_type_item item.body)) e) ∙ own)
