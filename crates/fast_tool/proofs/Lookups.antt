-- What a checked program tells of a name, and what that makes of the name in a command line.
use Rattle.std.proofs.Common.{◌≡◌, ℕ, true, false, List, Option, Some, None, refl, sym, ap, ◌∙◌, subst}
use Rattle.std.specs.Option.{option_map, option_map_or, option_and_then}
use Rattle.fast_fault.specs.declared.code.Code.TheVariants.{UnknownName, WrongKind}
use Rattle.model_tree.specs.Signature.{PlainSignature}
use Rattle.model_program.specs.Syntax.{Name, TypeItem}
use Rattle.model_grammar.specs.Syntax.{Body, sorts, tree, lang, trans, def, assertion, Item}
use Rattle.model_names.specs.Declared.{find_type, find_item, declares}
use Rattle.model_names.specs.Kinds.{Kind, language, transformation, declared_type, own_kind, own_type, own_output, type_of, output_of}
use Rattle.model_meaning.specs.Types.{signature_of, no_signature}
use Rattle.model_meaning.specs.Meaning.{signature_named, input_type, output_type}
use Rattle.model_checks.specs.Programs.{is_well_formed}
use Rattle.model_checks.proofs.Soundness.{found_passes}
use Rattle.model_checks.proofs.SoundParts.{HasType, found_named, declared_as}
use Rattle.model_checks.proofs.SoundWhole.{sound}
use Rattle.program_check.specs.Tells.{Told, stands_for}
use Rattle.model_run.specs.Report.{named_x}
use Rattle.model_run.specs.Texts.{IsNameRefused, IsNameOf}
use Rattle.fast_session.proofs.Building.{name_made, trans_name_made}
use Rattle.fast_eval.proofs.Stepping.{some_same}
use Rattle.fast_tool.specs.Commands.{kind_asked}
use Rattle.fast_tool.specs.declared.words.Question.{Question}
use Rattle.fast_tool.specs.declared.words.Question.TheVariants.{Inside, Outputs}

-- ---- what is told of a name that is declared

-- the item is of this kind and type, and its outputs are of the other type
record IsToldOf (body : Body) (t : Told) : Type 0 where
  kind : own_kind body ≡ Some t.0
  own : Name
  type : own_type body ≡ Some own
  text : own.text ≡ t.1.0
  output : option_map (λ (n : Name). n.text) (own_output body) ≡ t.1.1

by_body : (body : Body) (t : Told) → Some t ≡ stands_for body → IsToldOf body t
by_body (sorts s) t e = absurd (cc)
by_body (tree s) t e = subst (IsToldOf (tree s)) (sym (some_same e)) (record { kind = refl; own = s.of; type = refl; text = refl; output = refl })
by_body (lang s) t e = subst (IsToldOf (lang s)) (sym (some_same e)) (record { kind = refl; own = s.of; type = refl; text = refl; output = refl })
by_body (trans s) t e = subst (IsToldOf (trans s)) (sym (some_same e)) (record { kind = refl; own = s.from; type = refl; text = refl; output = refl })
by_body (def d) t e = subst (IsToldOf (def d)) (sym (some_same e)) (record { kind = refl; own = d.from; type = refl; text = refl; output = refl })
by_body (assertion a) t e = absurd (cc)

record IsDeclared (items : List Item) (name : List ℕ) (t : Told) : Type 0 where
  item : Item
  found : find_item items name ≡ Some item
  is : IsToldOf item.body t

declared_by : (items : List Item) (name : List ℕ) (t : Told) → Some t ≡ option_and_then (λ item. stands_for item.body) (find_item items name) → IsDeclared items name t
declared_by items name t e = by (find_item items name) refl e
  where
    by : (found : Option Item) → find_item items name ≡ found → Some t ≡ option_and_then (λ item. stands_for item.body) found → IsDeclared items name t
    by None is e = absurd (cc)
    by (Some item) is e = record { item = item; found = is; is = by_body item.body t e }

-- a type that a name has is declared
has_type_by : (items : List Item) (own : Name) (s : List ℕ) → declared_type items own ≡ Some s → HasType items own
has_type_by items own s e = by (find_type items own.text) refl e
  where
    by : (found : Option TypeItem) → find_type items own.text ≡ found → option_map (λ (t : TypeItem). t.name.text) found ≡ Some s → HasType items own
    by None is e = absurd (cc)
    by (Some t) is e = record { type = t; found = is; named = found_named items own.text t is }

module _ (items : List Item) (own : Name) (has : HasType items own) (of : List ℕ) (text : own.text ≡ of) where
  signature_found : option_map signature_of (find_type items of) ≡ Some (signature_of has.type)
  signature_found = ap (option_map signature_of) (ap (find_type items) (sym text) ∙ has.found)

  none_found : None ≡ option_map signature_of (find_type items of) → ⊥
  none_found none = let other : None ≡ Some (signature_of has.type) = none ∙ signature_found in cc

  one_found : (s : PlainSignature) (type : Option (List ℕ)) → type ≡ declared_type items own → Some s ≡ option_map signature_of (find_type items of) → s ≡ signature_named items type
  one_found s type is e =
      let same : s ≡ signature_of has.type = some_same (e ∙ signature_found) in
      same ∙ (sym (ap (λ o. option_map_or signature_of o no_signature) has.found) ∙ sym (ap (signature_named items) (is ∙ declared_as items own has)))

module _ (items : List Item) (well : is_well_formed items ≡ true) (name : List ℕ) (t : Told) (told : Some t ≡ option_and_then (λ item. stands_for item.body) (find_item items name)) where
  declared : IsDeclared items name t
  declared = declared_by items name t told

  pub is_named : (kind : Kind) → t.0 ≡ kind → IsNameOf items kind name
  is_named kind is = ap (option_and_then (λ (item : Item). own_kind item.body)) declared.found ∙ (declared.is.kind ∙ ap Some is)

  -- ---- the type of its trees

  type_is : type_of items (named_x name) ≡ declared_type items declared.is.own
  type_is = ap (option_and_then (declared_type items)) (ap (option_and_then (λ (item : Item). own_type item.body)) declared.found ∙ declared.is.type)

  has_own : (asked : Question) → t.0 ≡ kind_asked asked → HasType items declared.is.own
  has_own Inside is = let made = name_made items (sound items well) name (is_named language is) in has_type_by items declared.is.own made.0 (sym type_is ∙ made.1.1)
  has_own Outputs is = let made = trans_name_made items (sound items well) name (is_named transformation is) in has_type_by items declared.is.own made.0 (sym type_is ∙ made.2.1)

  module _ (asked : Question) (is : t.0 ≡ kind_asked asked) (of : List ℕ) (text : t.1.0 ≡ of) where
    -- there is its signature
    pub has_signature : None ≡ option_map signature_of (find_type items of) → ⊥
    has_signature = none_found items declared.is.own (has_own asked is) of (declared.is.text ∙ text)

    pub signature_is : (s : PlainSignature) → Some s ≡ option_map signature_of (find_type items of) → s ≡ input_type items (named_x name)
    signature_is s e = one_found items declared.is.own (has_own asked is) of (declared.is.text ∙ text) s (type_of items (named_x name)) type_is e

  -- ---- and of its outputs

  module _ (is : t.0 ≡ transformation) (of : List ℕ) (text : t.1.1 ≡ Some of) where
    record HasOutput : Type 0 where
      own : Name
      output : own_output declared.item.body ≡ Some own
      named : own.text ≡ of

    has_output : HasOutput
    has_output = by (own_output declared.item.body) refl (declared.is.output ∙ text)
      where
        by : (o : Option Name) → own_output declared.item.body ≡ o → option_map (λ (n : Name). n.text) o ≡ Some of → HasOutput
        by None found e = absurd (cc)
        by (Some n) found e = record { own = n; output = found; named = some_same e }

    output_is : output_of items (named_x name) ≡ declared_type items has_output.own
    output_is = ap (option_and_then (declared_type items)) (ap (option_and_then (λ (item : Item). own_output item.body)) declared.found ∙ has_output.output)

    has_into : HasType items has_output.own
    has_into = let made = trans_name_made items (sound items well) name (is_named transformation is) in has_type_by items has_output.own made.1 (sym output_is ∙ made.2.2)

    pub has_output_signature : None ≡ option_map signature_of (find_type items of) → ⊥
    has_output_signature = none_found items has_output.own has_into of has_output.named

    pub output_signature_is : (s : PlainSignature) → Some s ≡ option_map signature_of (find_type items of) → s ≡ output_type items (named_x name)
    output_signature_is s e = one_found items has_output.own has_into of has_output.named s (output_of items (named_x name)) output_is e

-- ---- other names

told_kind : (body : Body) (told : Told) → Some told ≡ stands_for body → own_kind body ≡ Some told.0
told_kind body told e = (by_body body told e).kind

-- it is of another kind
pub of_another_kind : (items : List Item) (name : List ℕ) (kind : Kind) (t : Told) → ¬ (t.0 ≡ kind) → Some t ≡ option_and_then (λ item. stands_for item.body) (find_item items name) → IsNameRefused items kind name WrongKind
of_another_kind items name kind t other e = by (find_item items name) refl e
  where
    by : (found : Option Item) → find_item items name ≡ found → Some t ≡ option_and_then (λ item. stands_for item.body) found → (item : Item) × (find_item items name ≡ Some item) × ¬ (own_kind item.body ≡ Some kind)
    by None is e = absurd (cc)
    by (Some item) is e = (item, is, λ own. other (some_same (sym (told_kind item.body t e) ∙ own)))

untold : (name : List ℕ) (item : Item) (body : Body) → item.body ≡ body → declares name item ≡ true → None ≡ stands_for body → ⊥
untold name item (sorts t) is own e = let no : false ≡ true = sym (ap (λ b. declares name (record item { body = b })) is) ∙ own in cc
untold name item (tree t) is own e = cc
untold name item (lang l) is own e = cc
untold name item (trans t) is own e = cc
untold name item (def d) is own e = cc
untold name item (assertion a) is own e = let no : false ≡ true = sym (ap (λ b. declares name (record item { body = b })) is) ∙ own in cc

-- it isn't declared
pub not_declared : (items : List Item) (name : List ℕ) (kind : Kind) → None ≡ option_and_then (λ item. stands_for item.body) (find_item items name) → IsNameRefused items kind name UnknownName
not_declared items name kind e = by (find_item items name) refl e
  where
    by : (found : Option Item) → find_item items name ≡ found → None ≡ option_and_then (λ item. stands_for item.body) found → find_item items name ≡ None
    by None is e = is
    by (Some item) is e = absurd (untold name item item.body refl (found_passes (declares name) items item is) e)
