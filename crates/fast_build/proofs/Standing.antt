-- What is said of a language that stands, taken apart.
use Rattle.std.proofs.Common.{◌≡◌, ℕ, ◌==◌, Bool, true, false, List, [], ◌∷◌, Option, Some, None, length, refl, ap}
use Rattle.std.proofs.lemmas.Bool.{and_from}
use Rattle.std.specs.Prelude.{is_some}
use Rattle.std.specs.List.{list_all}
use Rattle.std.specs.Option.{option_map_or, option_and_then}
use Rattle.model_tree.specs.Signature.{PlainSignature}
use Rattle.model_program.specs.Syntax.{Name}
use Rattle.model_grammar.specs.Syntax.{named, Rule, LangItem, Body, sorts, tree, lang, trans, def, assertion, Item}
use Rattle.model_names.specs.Declared.{find_type, find_item, own_rules, rules_of, own_out_rules, out_rules_of}
use Rattle.model_meaning.specs.Reached.{own_value, definition_of}
use Rattle.model_names.specs.Kinds.{language, own_kind, own_type, declared_type, kind_of, type_of}
use Rattle.model_meaning.specs.Types.{signature_of, signature_at, input_of, no_signature}
use Rattle.fast_build.specs.Items.{own_lang, find_lang}
use Rattle.fast_build.specs.Numbers.{find_constructor, has_ctor}
use Rattle.fast_build.proofs.Stands.{has_rank, demand_stands, rule_stands}
use Rattle.fast_build.proofs.Elements.{first_true, second_true}

some_found : {A : Type 0} (f : A → Bool) (found : Option A) → option_map_or f found false ≡ true → is_some found ≡ true
some_found f (Some x) e = refl
some_found f None e = absurd (cc)

module _ (items : List Item) (of : Name) (t : PlainSignature) where
  pub rank_there : (r : Rule) → rule_stands items of t r ≡ true → has_rank t r ≡ true
  rank_there r e = first_true (has_rank t r) (list_all (demand_stands items of) r.given) e

  pub ctor_there : (r : Rule) → rule_stands items of t r ≡ true → has_ctor t r ≡ true
  ctor_there r e = some_found (λ c. c.rank == length r.vars) (find_constructor t.constructors r.ctor.text) (rank_there r e)

  pub demands_there : (r : Rule) → rule_stands items of t r ≡ true → list_all (demand_stands items of) r.given ≡ true
  demands_there r e = second_true (has_rank t r) (list_all (demand_stands items of) r.given) e

  pub ctors_there : (rs : List Rule) → list_all (rule_stands items of t) rs ≡ true → list_all (has_ctor t) rs ≡ true
  ctors_there [] e = refl
  ctors_there (r ∷ rs) e = and_from (has_ctor t r) (list_all (has_ctor t) rs) (ctor_there r (first_true (rule_stands items of t r) (list_all (rule_stands items of t) rs) e)) (ctors_there rs (second_true (rule_stands items of t r) (list_all (rule_stands items of t) rs) e))

-- what the item of a language gives
rules_by : (found : Option Item) (l : LangItem) → option_and_then (λ item. own_lang item.body) found ≡ Some l → option_map_or (λ item. own_rules item.body) found [] ≡ l.rules
rules_by None l e = absurd (cc)
rules_by (Some item) l e = by item.body e
  where
    by : (b : Body) → own_lang b ≡ Some l → own_rules b ≡ l.rules
    by (sorts x) e = absurd (cc)
    by (tree x) e = absurd (cc)
    by (lang x) e = let same : x ≡ l = cc in ap (λ y. y.rules) same
    by (trans x) e = absurd (cc)
    by (def x) e = absurd (cc)
    by (assertion x) e = absurd (cc)

-- a language has no rules with outputs, and no expression
outs_by : (found : Option Item) (l : LangItem) → option_and_then (λ item. own_lang item.body) found ≡ Some l → option_map_or (λ item. own_out_rules item.body) found [] ≡ []
outs_by None l e = refl
outs_by (Some item) l e = by item.body e
  where
    by : (b : Body) → own_lang b ≡ Some l → own_out_rules b ≡ []
    by (sorts x) e = refl
    by (tree x) e = refl
    by (lang x) e = refl
    by (trans x) e = absurd (cc)
    by (def x) e = refl
    by (assertion x) e = refl

value_by : (found : Option Item) (l : LangItem) → option_and_then (λ item. own_lang item.body) found ≡ Some l → option_and_then (λ item. own_value item.body) found ≡ None
value_by None l e = refl
value_by (Some item) l e = by item.body e
  where
    by : (b : Body) → own_lang b ≡ Some l → own_value b ≡ None
    by (sorts x) e = refl
    by (tree x) e = refl
    by (lang x) e = refl
    by (trans x) e = refl
    by (def x) e = absurd (cc)
    by (assertion x) e = refl

pub no_out_rules : (items : List Item) (name : List ℕ) (l : LangItem) → find_lang items name ≡ Some l → out_rules_of items name ≡ []
no_out_rules items name l e = outs_by (find_item items name) l e

pub no_definition : (items : List Item) (name : List ℕ) (l : LangItem) → find_lang items name ≡ Some l → definition_of items name ≡ None
no_definition items name l e = value_by (find_item items name) l e

type_by : (found : Option Item) (l : LangItem) → option_and_then (λ item. own_lang item.body) found ≡ Some l → option_and_then (λ item. own_type item.body) found ≡ Some l.of
type_by None l e = absurd (cc)
type_by (Some item) l e = by item.body e
  where
    by : (b : Body) → own_lang b ≡ Some l → own_type b ≡ Some l.of
    by (sorts x) e = absurd (cc)
    by (tree x) e = absurd (cc)
    by (lang x) e = let same : x ≡ l = cc in ap (λ y. Some y.of) same
    by (trans x) e = absurd (cc)
    by (def x) e = absurd (cc)
    by (assertion x) e = absurd (cc)

pub rules_are : (items : List Item) (name : List ℕ) (l : LangItem) → find_lang items name ≡ Some l → rules_of items name ≡ l.rules
rules_are items name l e = rules_by (find_item items name) l e

pub type_is : (items : List Item) (name : List ℕ) (l : LangItem) → find_lang items name ≡ Some l → input_of items name ≡ signature_at items l.of
type_is items name l e = ap (λ found. option_map_or (signature_at items) found no_signature) (type_by (find_item items name) l e)

-- types are told apart by their names
pub same_type : (items : List Item) (m n : Name) → m.text ≡ n.text → signature_at items m ≡ signature_at items n
same_type items m n e = ap (λ text. option_map_or signature_of (find_type items text) no_signature) e

kind_by : (found : Option Item) (l : LangItem) → option_and_then (λ item. own_lang item.body) found ≡ Some l → option_and_then (λ item. own_kind item.body) found ≡ Some language
kind_by None l e = absurd (cc)
kind_by (Some item) l e = by item.body e
  where
    by : (b : Body) → own_lang b ≡ Some l → own_kind b ≡ Some language
    by (sorts x) e = absurd (cc)
    by (tree x) e = absurd (cc)
    by (lang x) e = refl
    by (trans x) e = absurd (cc)
    by (def x) e = absurd (cc)
    by (assertion x) e = absurd (cc)

-- the name of a language, as an expression
pub kind_is : (items : List Item) (n : Name) (l : LangItem) → find_lang items n.text ≡ Some l → kind_of items (named n) ≡ Some language
kind_is items n l e = kind_by (find_item items n.text) l e

pub type_named : (items : List Item) (n : Name) (l : LangItem) → find_lang items n.text ≡ Some l → type_of items (named n) ≡ declared_type items l.of
type_named items n l e = ap (option_and_then (declared_type items)) (type_by (find_item items n.text) l e)

-- the item that the name finds
item_by : (found : Option Item) (l : LangItem) → option_and_then (λ item. own_lang item.body) found ≡ Some l → (item : Item) × (found ≡ Some item) × (item.body ≡ lang l)
item_by None l e = absurd (cc)
item_by (Some item) l e = (item, refl, by item.body e)
  where
    by : (b : Body) → own_lang b ≡ Some l → b ≡ lang l
    by (sorts x) e = absurd (cc)
    by (tree x) e = absurd (cc)
    by (lang x) e = let same : x ≡ l = cc in ap lang same
    by (trans x) e = absurd (cc)
    by (def x) e = absurd (cc)
    by (assertion x) e = absurd (cc)

pub item_there : (items : List Item) (name : List ℕ) (l : LangItem) → find_lang items name ≡ Some l → (item : Item) × (find_item items name ≡ Some item) × (item.body ≡ lang l)
item_there items name l e = item_by (find_item items name) l e

pub lang_there : (items : List Item) (name : List ℕ) → is_some (find_lang items name) ≡ true → (l : LangItem) × (find_lang items name ≡ Some l)
lang_there items name e = by (find_lang items name) e
  where
    by : (o : Option LangItem) → is_some o ≡ true → (l : LangItem) × (o ≡ Some l)
    by None e = absurd (cc)
    by (Some l) e = (l, refl)
