-- What is so of an expression that is a name.
use Rattle.std.proofs.Common.{◌≡◌, ℕ, Bool, true, false, cond, List, [], ◌∷◌, Option, Some, None, find, refl, sym, ap, ◌∙◌}
use Rattle.std.specs.Option.{option_map, option_map_or, option_and_then}
use Rattle.std.proofs.lemmas.Slice.Eq.{bytes_eq-Decides}
use Rattle.model_program.specs.Syntax.{Name, TypeItem}
use Rattle.model_grammar.specs.Syntax.{named, LangItem, lang, TransItem, trans, Item}
use Rattle.model_names.specs.Declared.{same_text, types_of, find_type, find_item}
use Rattle.model_names.specs.Kinds.{language, transformation, own_kind, own_type, own_output, declared_type, kind_of}
use Rattle.model_meaning.specs.Types.{signature_of, no_signature, signature_at, input_of, output_of}
use Rattle.model_meaning.specs.Reached.{own_value, definition_of}
use Rattle.model_meaning.specs.Meaning.{input_type, output_type, signature_named}

-- a type that is found by a name has that name
found_name : (name : List ℕ) (ts : List TypeItem) (t : TypeItem) → find (λ u. same_text u.name.text name) ts ≡ Some t → t.name.text ≡ name
found_name name [] t e = absurd (cc)
found_name name (u ∷ ts) t e = by (same_text u.name.text name) refl e (found_name name ts t)
  where
    by : (b : Bool) → same_text u.name.text name ≡ b → cond b (Some u) (find (λ v. same_text v.name.text name) ts) ≡ Some t
        → (find (λ v. same_text v.name.text name) ts ≡ Some t → t.name.text ≡ name) → t.name.text ≡ name
    by true same found later = let is : u ≡ t = cc in ap (λ v. v.name.text) (sym is) ∙ (bytes_eq-Decides u.name.text name).0 same
    by false other found later = later found

module _ (items : List Item) where
  by_type : (name : List ℕ) (o : Option TypeItem) → find_type items name ≡ o → signature_named items (option_map (λ t. t.name.text) o) ≡ option_map_or signature_of o no_signature
  by_type name None e = refl
  by_type name (Some t) e = ap (λ n. option_map_or signature_of (find_type items n) no_signature) (found_name name (types_of items) t e) ∙ ap (λ o. option_map_or signature_of o no_signature) e

  by_name : (o : Option Name) → signature_named items (option_and_then (declared_type items) o) ≡ option_map_or (signature_at items) o no_signature
  by_name None = refl
  by_name (Some n) = by_type n.text (find_type items n.text) refl

  -- the types of a name are those that its item declares
  pub input_type_of_name : (n : Name) → input_type items (named n) ≡ input_of items n.text
  input_type_of_name n = by_name (option_and_then (λ item. own_type item.body) (find_item items n.text))

  pub output_type_of_name : (n : Name) → output_type items (named n) ≡ output_of items n.text
  output_type_of_name n = by_name (option_and_then (λ item. own_output item.body) (find_item items n.text))

  -- the name of a `lang` is a language, and no definition
  module _ (n : Name) (item : Item) (l : LangItem) (found : find_item items n.text ≡ Some item) (is : item.body ≡ lang l) where
    pub lang_kind : kind_of items (named n) ≡ Some language
    lang_kind = ap (option_and_then (λ i. own_kind i.body)) found ∙ ap own_kind is

    pub lang_undefined : definition_of items n.text ≡ None
    lang_undefined = ap (option_and_then (λ i. own_value i.body)) found ∙ ap own_value is

  -- that of a `trans` is a transformation, and no definition
  module _ (n : Name) (item : Item) (t : TransItem) (found : find_item items n.text ≡ Some item) (is : item.body ≡ trans t) where
    pub trans_kind : kind_of items (named n) ≡ Some transformation
    trans_kind = ap (option_and_then (λ i. own_kind i.body)) found ∙ ap own_kind is

    pub trans_undefined : definition_of items n.text ≡ None
    trans_undefined = ap (option_and_then (λ i. own_value i.body)) found ∙ ap own_value is
