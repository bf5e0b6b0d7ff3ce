-- What is so of each well-formed program.
use Rattle.std.specs.Prelude.{◌≡◌, ℕ, ◌≤◌, ◌&&◌, Bool, true, List, [], ◌∷◌, ◌++◌, Option, Some, Contains, length, map, is_some, not}
use Rattle.std.specs.List.{list_any, list_all}
use Rattle.model_tree.specs.Limits.{most_items, most_rules, most_fields}
use Rattle.model_tree.specs.Signature.{Sort, truths}
use Rattle.model_program.specs.Syntax.{Name, FieldItem, CtorItem, TypeItem, Demand}
use Rattle.model_grammar.specs.Syntax.{Expr, Rule, OutRule, LangItem, TransItem, sorts, lang, trans, Item}
use Rattle.model_names.specs.Declared.{same_text, find_type, own_name, find_item}
use Rattle.model_checks.specs.Failures.{is_empty}
use Rattle.model_names.specs.Sorts.{sort_named}
use Rattle.model_checks.specs.Sorts.{sort_of}
use Rattle.model_checks.specs.Labels.{label_failures}
use Rattle.model_checks.specs.Types.{is_among, is_rank, is_rank_in_range, find_ctor, has_leaf}
use Rattle.model_checks.specs.Rules.{out_failures}
use Rattle.model_checks.specs.Programs.{body_failures, is_well_formed}

-- no two of the names are the same
abbrev pub are_distinct : List Name → Bool
are_distinct [] = true
are_distinct (n ∷ names) = not (list_any (λ m. same_text n.text m.text) names) && are_distinct names

abbrev pub names_of_fields : List FieldItem → List Name
names_of_fields fields = map (λ f. f.name) fields

abbrev pub names_of_ctors : List CtorItem → List Name
names_of_ctors ctors = map (λ c. c.name) ctors

-- A type has a constructor of rank 0, different fields of known sorts, 8 at most, and different constructors with ranks
-- up to 8.
pub record IsSoundType (t : TypeItem) : Type 0 where
  pub leaf : has_leaf t.ctors ≡ true
  pub fields : are_distinct (names_of_fields t.fields) ≡ true
  pub sorts : list_all (λ f. is_some (sort_named f.sort.text)) t.fields ≡ true
  pub few_fields : length t.fields ≤ most_fields
  pub ctors : are_distinct (names_of_ctors t.ctors) ≡ true
  pub ranks : list_all (λ c. is_rank_in_range c.rank) t.ctors ≡ true

-- nothing fails in an expression over these fields, and it is of this sort
pub record IsSoundLabel (fields : List FieldItem) (sort : Sort) (e : Expr) : Type 0 where
  pub inside : is_empty (label_failures (Some fields) e) ≡ true
  pub is_of : sort_of (Some fields) e ≡ Some sort

abbrev pub IsSoundGuard : List FieldItem → Option Expr → Type 0
IsSoundGuard fields guard = (e : Expr) → guard ≡ Some e → IsSoundLabel fields truths e

-- A demand is on one of the variables, and its language is a `lang` of the type with this name.
pub record IsSoundDemand (items : List Item) (of : List ℕ) (vars : List Name) (d : Demand) : Type 0 where
  pub item : Item
  pub language : LangItem
  pub found : find_item items d.language.text ≡ Some item
  pub is : item.body ≡ lang language
  pub type : language.of.text ≡ of
  pub child : is_among vars d.child.text ≡ true

-- A rule has a constructor of the type, with as many different variables as its rank is.
pub record IsSoundRule (items : List Item) (t : TypeItem) (r : Rule) : Type 0 where
  pub ctor : CtorItem
  pub found : find_ctor t.ctors r.ctor.text ≡ Some ctor
  pub rank : is_rank (length r.vars) ctor.rank ≡ true
  pub vars : are_distinct r.vars ≡ true
  pub guard : IsSoundGuard t.fields r.guard
  pub given : (d : Demand) → Contains r.given d → IsSoundDemand items t.name.text r.vars d

-- A language is of a declared type.
pub record IsSoundLang (items : List Item) (l : LangItem) : Type 0 where
  pub type : TypeItem
  pub found : find_type items l.of.text ≡ Some type
  pub named : type.name.text ≡ l.of.text
  pub few : length l.rules ≤ most_rules
  pub rules : (r : Rule) → Contains l.rules r → IsSoundRule items type r

-- A transformation is between two declared types.
pub record IsSoundTrans (items : List Item) (t : TransItem) : Type 0 where
  pub from : TypeItem
  pub found_from : find_type items t.from.text ≡ Some from
  pub named_from : from.name.text ≡ t.from.text
  pub into : TypeItem
  pub found_into : find_type items t.into.text ≡ Some into
  pub named_into : into.name.text ≡ t.into.text
  pub few : length t.rules ≤ most_rules
  pub rules : (r : OutRule) → Contains t.rules r → IsSoundRule items from r.rule
  pub outs : (r : OutRule) → Contains t.rules r → is_empty (out_failures items t.from t.into r.rule.vars r.out) ≡ true

-- where an item stands in the program
pub record StandsIn (items : List Item) (item : Item) : Type 0 where
  pub before : List Item
  pub behind : List Item
  pub is : items ≡ before ++ item ∷ behind

pub record IsSound (items : List Item) : Type 0 where
  -- each item by itself
  pub each : (item : Item) (at : StandsIn items item) → is_empty (body_failures items at.before item.body) ≡ true
  pub types : (item : Item) (t : TypeItem) → StandsIn items item → item.body ≡ sorts t → IsSoundType t
  pub langs : (item : Item) (l : LangItem) → StandsIn items item → item.body ≡ lang l → IsSoundLang items l
  pub transformations : (item : Item) (t : TransItem) → StandsIn items item → item.body ≡ trans t → IsSoundTrans items t
  -- each is the one that is found by its name
  pub found_type : (item : Item) (t : TypeItem) → StandsIn items item → item.body ≡ sorts t → find_type items t.name.text ≡ Some t
  pub found_item : (item : Item) (name : Name) → StandsIn items item → own_name item.body ≡ Some name → find_item items name.text ≡ Some item
  pub few : length items ≤ most_items

-- a well-formed program is sound
abbrev pub AreSound : Type 0
AreSound = (items : List Item) → is_well_formed items ≡ true → IsSound items

-- what is found stands in the program
pub record FindsWhatStands (items : List Item) : Type 0 where
  pub item : (name : List ℕ) (item : Item) → find_item items name ≡ Some item → StandsIn items item
  pub type : (name : List ℕ) (t : TypeItem) → find_type items name ≡ Some t → (item : Item) × StandsIn items item × (item.body ≡ sorts t) × (t.name.text ≡ name)
