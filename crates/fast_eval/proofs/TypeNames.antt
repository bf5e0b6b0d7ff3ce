-- The names of the types of expressions.
use Rattle.std.proofs.Common.{◌≡◌, inl, inr, ◌≤◌, ℕ, List, Option, Some, None, length, refl, sym, ap, ap₂, subst, ◌∙◌}
use Rattle.std.specs.Option.{option_map, option_map_or, option_and_then}
use Rattle.std.proofs.lemmas.List.{length-map}
use Rattle.indexmap.specs.IndexMap.{IndexMap}
use Rattle.model_tree.specs.Limits.{most_fields}
use Rattle.model_tree.specs.Signature.{Sort, PlainSignature, sorts_of}
use Rattle.model_program.specs.Syntax.{Name, TypeItem}
use Rattle.fast_fault.specs.declared.place.Pos.{Pos}
use Rattle.model_grammar.specs.declared.Op1.{Op1}
use Rattle.model_grammar.specs.declared.Op1.TheVariants.{Complement, Minimize, Domain, GetWitness}
use Rattle.model_grammar.specs.declared.Op2.{Op2}
use Rattle.model_grammar.specs.declared.Op2.TheVariants.{Intersect, Union, Difference, PreImage, Compose, Restrict, RestrictOut, Apply}
use Rattle.model_grammar.specs.Syntax.{X, named, one, two, literal, Body, sorts, tree, lang, trans, def, assertion, Item}
use Rattle.model_names.specs.Declared.{same_text, types_of, find_type, find_item}
use Rattle.model_names.specs.Kinds.{language, transformation, defined_kind, declared_type, own_kind, own_type, own_output}
use Rattle.model_meaning.specs.Types.{signature_of, no_signature}
use Rattle.model_meaning.specs.Meaning.{signature_named}
use Rattle.model_checks.specs.Sound.{IsSound}
use Rattle.model_checks.proofs.Soundness.{same_from_test, found_passes}
use Rattle.model_checks.proofs.SoundWhole.{finds}
use Rattle.model_run.specs.Parts.{IsOn, IsFrom}
use Rattle.program_check.specs.Tells.{Told, stands_for}
use Rattle.fast_eval.specs.Forms.{IsMadeOn, IsMadeFrom, IsMadeAt, inputs_in, outputs_in}
use Rattle.fast_eval.specs.Table.{labels_of, AreLabels}

-- a type that is declared has the name that is looked up
pub record IsDeclared (items : List Item) (type : List ℕ) : Type 0 where
  pub item : TypeItem
  pub found : find_type items type ≡ Some item

declared_by : (items : List Item) (n : Name) (type : List ℕ) (o : Option TypeItem) → find_type items n.text ≡ o → option_map (λ t. t.name.text) o ≡ Some type → (type ≡ n.text) × IsDeclared items type
declared_by items n type None found e = absurd (cc)
declared_by items n type (Some t) found e =
    let name_is : t.name.text ≡ type = cc in
    let text_is : type ≡ n.text = sym name_is ∙ same_from_test t.name.text n.text (found_passes (λ s. same_text s.name.text n.text) (types_of items) t found) in
    (text_is, record { item = t; found = ap (find_type items) text_is ∙ found })

declared : (items : List Item) (n : Name) (type : List ℕ) → declared_type items n ≡ Some type → (type ≡ n.text) × IsDeclared items type
declared items n type e = declared_by items n type (find_type items n.text) refl e

-- what the name of a language stands for
module _ (items : List Item) (type : List ℕ) where
  by_body : (body : Body) → own_kind body ≡ Some language → option_and_then (declared_type items) (own_type body) ≡ Some type → (stands_for body ≡ Some (language, (type, None))) × IsDeclared items type
  by_body (sorts t) kind on = absurd (cc)
  by_body (tree t) kind on = absurd (cc)
  by_body (lang l) kind on = let d = declared items l.of type on in (ap (λ s. Some (language, (s, None))) (sym d.0), d.1)
  by_body (trans t) kind on = absurd (cc)
  by_body (def d) kind on = by d.into kind
    where
      stood : Option Name → Told
      stood into = (defined_kind into, (d.from.text, option_map (λ n. n.text) into))

      by : (into : Option Name) → Some (defined_kind into) ≡ Some language → (Some (stood into) ≡ Some (language, (type, None))) × IsDeclared items type
      by None is = let t = declared items d.from type on in (ap (λ s. Some (language, (s, None))) (sym t.0), t.1)
      by (Some n) is = absurd (cc)
  by_body (assertion a) kind on = absurd (cc)

  by_item : (found : Option Item) → option_and_then (λ item. own_kind item.body) found ≡ Some language → option_and_then (declared_type items) (option_and_then (λ item. own_type item.body) found) ≡ Some type
      → (option_and_then (λ item. stands_for item.body) found ≡ Some (language, (type, None))) × IsDeclared items type
  by_item None kind on = absurd (cc)
  by_item (Some item) kind on = by_body item.body kind on

  pub name_stands : (n : Name) → IsOn items (named n) type → option_and_then (λ item. stands_for item.body) (find_item items n.text) ≡ Some (language, (type, None))
  name_stands n on = (by_item (find_item items n.text) on.0 on.1).0

  pub signature_there : (d : IsDeclared items type) → signature_named items (Some type) ≡ signature_of d.item
  signature_there d = ap (λ o. option_map_or signature_of o no_signature) d.found

  pub few_fields : IsSound items → (d : IsDeclared items type) → length (signature_of d.item).fields ≤ most_fields
  few_fields whole d =
      let (item, at, is, name) = (finds items).type type d.item d.found in
      let sound = whole.types item d.item at is in
      rw length-map sound.few_fields

-- what the name of a transformation stands for
module _ (items : List Item) (from into : List ℕ) where
  pub record AreDeclared (told : Option Told) : Type 0 where
    pub stands : told ≡ Some (transformation, (from, Some into))
    pub input : IsDeclared items from
    pub output : IsDeclared items into

  both_declared : (n m : Name) → declared_type items n ≡ Some from → declared_type items m ≡ Some into → AreDeclared (Some (transformation, (n.text, Some m.text)))
  both_declared n m on out =
      let d = declared items n from on in
      let e = declared items m into out in
      record { stands = ap₂ (λ s t. Some (transformation, (s, Some t))) (sym d.0) (sym e.0); input = d.1; output = e.1 }

  trans_by_body : (body : Body) → own_kind body ≡ Some transformation → option_and_then (declared_type items) (own_type body) ≡ Some from → option_and_then (declared_type items) (own_output body) ≡ Some into → AreDeclared (stands_for body)
  trans_by_body (sorts t) kind on out = absurd (cc)
  trans_by_body (tree t) kind on out = absurd (cc)
  trans_by_body (lang l) kind on out = absurd (cc)
  trans_by_body (trans t) kind on out = both_declared t.from t.into on out
  trans_by_body (def d) kind on out = by d.into kind out
    where
      by : (o : Option Name) → Some (defined_kind o) ≡ Some transformation → option_and_then (declared_type items) o ≡ Some into → AreDeclared (Some (defined_kind o, (d.from.text, option_map (λ n. n.text) o)))
      by None is out = absurd (cc)
      by (Some n) is out = both_declared d.from n on out
  trans_by_body (assertion a) kind on out = absurd (cc)

  trans_by_item : (found : Option Item) → option_and_then (λ item. own_kind item.body) found ≡ Some transformation → option_and_then (declared_type items) (option_and_then (λ item. own_type item.body) found) ≡ Some from
      → option_and_then (declared_type items) (option_and_then (λ item. own_output item.body) found) ≡ Some into → AreDeclared (option_and_then (λ item. stands_for item.body) found)
  trans_by_item None kind on out = absurd (cc)
  trans_by_item (Some item) kind on out = trans_by_body item.body kind on out

  pub trans_stands : (n : Name) → IsFrom items (named n) from into → AreDeclared (option_and_then (λ item. stands_for item.body) (find_item items n.text))
  trans_stands n on = trans_by_item (find_item items n.text) on.0 on.1 on.2

-- the types of an expression are declared
mutual
  pub type_there : (items : List Item) (type : List ℕ) (x : X) → IsMadeOn items type x → IsDeclared items type
  type_there items type (named n) made = (by_item items type (find_item items n.text) made.0 made.1).1
  type_there items type (one Complement place x) made = type_there items type x made
  type_there items type (one Minimize place x) made = type_there items type x made
  type_there items type (one Domain place f) made = (types_there items type made.0 f made.1).0
  type_there items type (one GetWitness place x) made = absurd made
  type_there items type (two Intersect place x y) made = type_there items type x made.0
  type_there items type (two Union place x y) made = type_there items type x made.0
  type_there items type (two Difference place x y) made = type_there items type x made.0
  type_there items type (two PreImage place f y) made = (types_there items type made.0 f made.1).0
  type_there items type (two Compose place x y) made = absurd made
  type_there items type (two Restrict place x y) made = absurd made
  type_there items type (two RestrictOut place x y) made = absurd made
  type_there items type (two Apply place x y) made = absurd made
  type_there items type (literal name labels xs) made = absurd made

  pub types_there : (items : List Item) (from into : List ℕ) (x : X) → IsMadeFrom items from into x → IsDeclared items from × IsDeclared items into
  types_there items from into (named n) made = let d = trans_stands items from into n made in (d.input, d.output)
  types_there items from into (one op place x) made = absurd made
  types_there items from into (two Restrict place f y) made = types_there items from into f made.0
  types_there items from into (two RestrictOut place f y) made = types_there items from into f made.0
  types_there items from into (two Intersect place x y) made = absurd made
  types_there items from into (two Union place x y) made = absurd made
  types_there items from into (two Difference place x y) made = absurd made
  types_there items from into (two PreImage place x y) made = absurd made
  types_there items from into (two Compose place x y) made = let (middle, first, second, can) = made in ((types_there items from middle x first).0, (types_there items middle into y second).1)
  types_there items from into (two Apply place x y) made = absurd made
  types_there items from into (literal name labels xs) made = absurd made

pub type_at : (items : List Item) (type : List ℕ) (x : X) → IsMadeAt items type x → IsDeclared items type
type_at items type x (inl made) = type_there items type x made
type_at items type x (inr (into, made)) = (types_there items type into x made).0

-- the first operand of an operation is at the same type
pub at_only : (items : List Item) (type : List ℕ) (op : Op1) (place : Pos) (x : X) → IsMadeAt items type (one op place x) → IsMadeAt items type x
at_only items type Complement place x (inl made) = inl made
at_only items type Minimize place x (inl made) = inl made
at_only items type Domain place x (inl made) = inr made
at_only items type GetWitness place x (inl made) = absurd made
at_only items type op place x (inr (into, made)) = absurd made

pub at_first : (items : List Item) (type : List ℕ) (op : Op2) (place : Pos) (x y : X) → IsMadeAt items type (two op place x y) → IsMadeAt items type x
at_first items type Intersect place x y (inl made) = inl made.0
at_first items type Union place x y (inl made) = inl made.0
at_first items type Difference place x y (inl made) = inl made.0
at_first items type PreImage place x y (inl made) = inr (made.0, made.1)
at_first items type Compose place x y (inl made) = absurd made
at_first items type Restrict place x y (inl made) = absurd made
at_first items type RestrictOut place x y (inl made) = absurd made
at_first items type Apply place x y (inl made) = absurd made
at_first items type Intersect place x y (inr (into, made)) = absurd made
at_first items type Union place x y (inr (into, made)) = absurd made
at_first items type Difference place x y (inr (into, made)) = absurd made
at_first items type PreImage place x y (inr (into, made)) = absurd made
at_first items type Compose place x y (inr (into, made)) = inr (made.0, made.1)
at_first items type Restrict place x y (inr (into, made)) = inr (into, made.0)
at_first items type RestrictOut place x y (inr (into, made)) = inr (into, made.0)
at_first items type Apply place x y (inr (into, made)) = absurd made

-- what is told of a name is its type
pub name_at : (items : List Item) (type : List ℕ) (n : Name) → IsMadeAt items type (named n) → inputs_in (option_and_then (λ item. stands_for item.body) (find_item items n.text)) ≡ Some type
name_at items type n (inl on) = ap inputs_in (name_stands items type n on)
name_at items type n (inr (into, goes)) = ap inputs_in (trans_stands items type into n goes).stands

-- and that of its outputs
pub name_outputs : (items : List Item) (from into : List ℕ) (n : Name) → IsMadeFrom items from into (named n) → outputs_in (option_and_then (λ item. stands_for item.body) (find_item items n.text)) ≡ Some into
name_outputs items from into n goes = ap outputs_in (trans_stands items from into n goes).stands

pub name_no_outputs : (items : List Item) (type : List ℕ) (n : Name) → IsMadeOn items type (named n) → outputs_in (option_and_then (λ item. stands_for item.body) (find_item items n.text)) ≡ None
name_no_outputs items type n on = ap outputs_in (name_stands items type n on)

-- a type that is told of has few fields
pub few_of : (items : List Item) (of : List ℕ) → IsSound items → (s : PlainSignature) → Some s ≡ option_map signature_of (find_type items of) → length s.fields ≤ most_fields
few_of items of whole s e = by (find_type items of) refl e
  where
    by : (o : Option TypeItem) → find_type items of ≡ o → Some s ≡ option_map signature_of o → length s.fields ≤ most_fields
    by None found is = absurd (cc)
    by (Some t) found is = let same : s ≡ signature_of t = cc in subst (λ (k : PlainSignature). length k.fields ≤ most_fields) (sym same) (few_fields items of whole (record { item = t; found = found }))

-- what is so of the type of an expression
module _ (items : List Item) (x : X) (of : List ℕ) (is : (type : List ℕ) → IsMadeAt items type x → Some of ≡ Some type) (made : (type : List ℕ) × IsMadeAt items type x) where
  same_of : (s t : List ℕ) → Some s ≡ Some t → s ≡ t
  same_of s t e = cc

  made_at_of : IsMadeAt items of x
  made_at_of = subst (λ t. IsMadeAt items t x) (sym (same_of of made.0 (is made.0 made.1))) made.1

  pub of_is : (type : List ℕ) → IsMadeAt items type x → of ≡ type
  of_is type also = same_of of type (is type also)

  pub told_labels : {S : Type 0} (labels : IndexMap (List ℕ) (List Sort) S) → AreLabels items labels → labels_of labels of ≡ Some (sorts_of (signature_named items (Some of)))
  told_labels labels are = let d = type_at items of x made_at_of in are of d.item d.found ∙ ap (λ s. Some (sorts_of s)) (sym (signature_there items of d))
