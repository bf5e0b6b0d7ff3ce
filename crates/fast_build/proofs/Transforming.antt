-- Names of transformations, and what their rules call and demand.
use Rattle.std.proofs.Common.{◌≡◌, inl, inr, ℕ, zero, suc, true, List, [], ◌∷◌, Option, Some, None, Contains, refl, sym, ap, subst, ◌∙◌, arith}
use Rattle.std.specs.Prelude.{is_some}
use Rattle.std.specs.List.{flat_map}
use Rattle.std.specs.Option.{option_and_then, option_map_or}
use Rattle.std.proofs.lemmas.List.Elements.{Contains-append_left, Contains-append_right}
use Rattle.model_program.specs.Syntax.{Demand}
use Rattle.model_grammar.specs.Syntax.{named, Out, child, call, node, Outs, no_out, and_out, OutRule, TransItem, Body, sorts, tree, lang, trans, def, assertion, Item}
use Rattle.model_names.specs.Declared.{name_of, find_item, own_out_rules, out_rules_of}
use Rattle.model_names.specs.Kinds.{language, transformation, kind_of}
use Rattle.model_checks.specs.Programs.{is_well_formed}
use Rattle.model_checks.proofs.SoundWhole.{sound, finds}
use Rattle.model_tree.specs.Signature.{PlainSignature}
use Rattle.model_meaning.specs.Laws.{IsTermTyped, AreTermsTyped}
use Rattle.model_meaning.specs.Reached.{Reaches, itself, by_lookahead, by_call, IsCalledIn, IsCalledInOne}
use Rattle.model_meaning.proofs.Named.{lang_kind}
use Rattle.meaning_laws.specs.Reaching.{IsLangOn, IsTransFrom}
use Rattle.meaning_laws.proofs.Reaching.{reached_by_trans}
use Rattle.meaning_laws.proofs.Rules.{terms_typed_of}
use Rattle.model_layers.proofs.Sight.{the_only}
use Rattle.sta_theory.proofs.Lists.{append_member}
use Rattle.fast_build.specs.Items.{own_lang, find_lang}
use Rattle.fast_build.specs.Reached.{demanded_by}
use Rattle.fast_build.specs.Transformations.{own_trans, find_trans}
use Rattle.fast_build.specs.Called.{called_by, called_by_all, called_in, looked_in}

-- what the item of a transformation gives
item_by : (found : Option Item) (t : TransItem) → option_and_then (λ item. own_trans item.body) found ≡ Some t → (item : Item) × (found ≡ Some item) × (item.body ≡ trans t)
item_by None t e = absurd (cc)
item_by (Some item) t e = (item, refl, by item.body e)
  where
    by : (b : Body) → own_trans b ≡ Some t → b ≡ trans t
    by (sorts x) e = absurd (cc)
    by (tree x) e = absurd (cc)
    by (lang x) e = absurd (cc)
    by (trans x) e = let same : x ≡ t = cc in ap trans same
    by (def x) e = absurd (cc)
    by (assertion x) e = absurd (cc)

pub trans_there : (items : List Item) (name : List ℕ) (t : TransItem) → find_trans items name ≡ Some t → (item : Item) × (find_item items name ≡ Some item) × (item.body ≡ trans t)
trans_there items name t e = item_by (find_item items name) t e

pub trans_from : (items : List Item) (name : List ℕ) (t : TransItem) → find_trans items name ≡ Some t → IsTransFrom items name t.from.text t.into.text
trans_from items name t e = let at = item_by (find_item items name) t e in record { item = at.0; own = t; found = at.1; is = at.2; begins = refl; ends = refl }

pub found_trans : (items : List Item) (name from into : List ℕ) (t : IsTransFrom items name from into) → find_trans items name ≡ Some t.own
found_trans items name from into t = ap (option_and_then (λ (item : Item). own_trans item.body)) t.found ∙ ap own_trans t.is

pub found_item : (items : List Item) (name from into : List ℕ) → IsTransFrom items name from into → is_some (find_item items name) ≡ true
found_item items name from into t = ap is_some t.found

outs_by : (found : Option Item) (t : TransItem) → option_and_then (λ item. own_trans item.body) found ≡ Some t → option_map_or (λ item. own_out_rules item.body) found [] ≡ t.rules
outs_by None t e = absurd (cc)
outs_by (Some item) t e = by item.body e
  where
    by : (b : Body) → own_trans b ≡ Some t → own_out_rules b ≡ t.rules
    by (sorts x) e = absurd (cc)
    by (tree x) e = absurd (cc)
    by (lang x) e = absurd (cc)
    by (trans x) e = let same : x ≡ t = cc in ap (λ y. y.rules) same
    by (def x) e = absurd (cc)
    by (assertion x) e = absurd (cc)

pub outs_are : (items : List Item) (name : List ℕ) (t : TransItem) → find_trans items name ≡ Some t → out_rules_of items name ≡ t.rules
outs_are items name t e = outs_by (find_item items name) t e

-- ---- what is called

pub no_part : {X : Type 0} (x : X) → Contains [] x → ⊥
no_part x (k, low, is) = omega (arith, low)

pub first_part : {X : Type 0} (x : X) (xs : List X) → Contains (x ∷ xs) x
first_part x xs = (0, omega arith, refl)

pub later_part : {X : Type 0} (x y : X) (xs : List X) → Contains xs y → Contains (x ∷ xs) y
later_part x y xs at = Contains-append_right (x ∷ []) xs y at

mutual
  pub is_called : (out : Out) (q : List ℕ) → Contains (called_by out) q → IsCalledIn out q
  is_called (child y) q at = no_part q at
  is_called (call p y) q at = the_only p.text q at
  is_called (node name labels outs) q at = is_called_in outs q at

  pub is_called_in : (outs : Outs) (q : List ℕ) → Contains (called_by_all outs) q → IsCalledInOne outs q
  is_called_in no_out q at = no_part q at
  is_called_in (and_out out outs) q at = elim (append_member (called_by out) (called_by_all outs) q at) as (λ _. IsCalledInOne (and_out out outs) q) [ inl h ↦ inl (is_called out q h) | inr h ↦ inr (is_called_in outs q h) ]

mutual
  pub calls_there : (out : Out) (q : List ℕ) → IsCalledIn out q → Contains (called_by out) q
  calls_there (child y) q is = absurd is
  calls_there (call p y) q is = (0, omega arith, is)
  calls_there (node name labels outs) q is = calls_there_in outs q is

  pub calls_there_in : (outs : Outs) (q : List ℕ) → IsCalledInOne outs q → Contains (called_by_all outs) q
  calls_there_in no_out q is = absurd is
  calls_there_in (and_out out outs) q (inl is) = Contains-append_left (called_by out) (called_by_all outs) q (calls_there out q is)
  calls_there_in (and_out out outs) q (inr is) = Contains-append_right (called_by out) (called_by_all outs) q (calls_there_in outs q is)

-- what is given by some of a list is given by one of it
pub given_by_one : {X Y : Type 0} (f : X → List Y) (xs : List X) (y : Y) → Contains (flat_map f xs) y → (x : X) × Contains xs x × Contains (f x) y
given_by_one f [] y at = absurd (no_part y at)
given_by_one f (x ∷ xs) y at = elim (append_member (f x) (flat_map f xs) y at) [
  | inl h ↦ (x, first_part x xs, h)
  | inr h ↦ (let (z, there, by) = given_by_one f xs y h in (z, later_part x z xs there, by))
]

pub given_by_all : {X Y : Type 0} (f : X → List Y) (xs : List X) (x : X) (y : Y) → Contains xs x → Contains (f x) y → Contains (flat_map f xs) y
given_by_all f [] x y there by = absurd (no_part x there)
given_by_all f (z ∷ xs) x y (zero, low, is) by = Contains-append_left (f z) (flat_map f xs) y (subst (λ w. Contains (f w) y) (sym is) by)
given_by_all f (z ∷ xs) x y (suc k, low, is) by = Contains-append_right (f z) (flat_map f xs) y (given_by_all f xs x y (k, omega (arith, low), is) by)

-- who demands a language, and that it does
pub demanded_there : (given : List Demand) (name : List ℕ) → Contains (demanded_by given) name → (d : Demand) × Contains given d × (d.language.text ≡ name)
demanded_there [] name at = absurd (no_part name at)
demanded_there (d ∷ ds) name (zero, low, is) = (d, first_part d ds, is)
demanded_there (d ∷ ds) name (suc k, low, is) = let (e, there, same) = demanded_there ds name (k, omega (arith, low), is) in (e, later_part d e ds there, same)

pub there_demanded : (given : List Demand) (d : Demand) → Contains given d → Contains (demanded_by given) d.language.text
there_demanded [] d at = absurd (no_part d at)
there_demanded (e ∷ ds) d (zero, low, is) = (0, omega arith, ap (λ (x : Demand). x.language.text) is)
there_demanded (e ∷ ds) d (suc k, low, is) = later_part e.language.text d.language.text (demanded_by ds) (there_demanded ds d (k, omega (arith, low), is))

-- ---- what is reached

pub kinds_apart : Some language ≡ Some transformation → ⊥
kinds_apart e = cc

module _ (items : List Item) (well : is_well_formed items ≡ true) where
  mutual
    typed_call : (s t : PlainSignature) (out : Out) (q : List ℕ) → IsTermTyped items s t out → IsCalledIn out q → kind_of items (named (name_of q)) ≡ Some transformation
    typed_call s t (child y) q typed is = absurd is
    typed_call s t (call p y) q typed is = subst (λ text. kind_of items (named (name_of text)) ≡ Some transformation) is typed.kind
    typed_call s t (node name labels outs) q typed is = typed_call_in s t outs q typed.2 is

    typed_call_in : (s t : PlainSignature) (outs : Outs) (q : List ℕ) → AreTermsTyped items s t outs → IsCalledInOne outs q → kind_of items (named (name_of q)) ≡ Some transformation
    typed_call_in s t no_out q typed is = absurd is
    typed_call_in s t (and_out out outs) q typed (inl is) = typed_call s t out q typed.0 is
    typed_call_in s t (and_out out outs) q typed (inr is) = typed_call_in s t outs q typed.1 is

  -- a name that is reached and is a transformation is one between the same types
  pub reached_from : (n from into q : List ℕ) → IsTransFrom items n from into → Reaches items n q → kind_of items (named (name_of q)) ≡ Some transformation → IsTransFrom items q from into
  reached_from n from into q t reach kind = elim (reached_by_trans items (sound items well) n from into q t reach) [
    | inl l ↦ absurd (kinds_apart (sym (lang_kind items (name_of q) l.item l.own l.found l.is) ∙ kind))
    | inr own ↦ own
  ]

  pub call_from : (n from into q : List ℕ) → IsTransFrom items n from into → Contains (called_in (out_rules_of items n)) q → IsTransFrom items q from into
  call_from n from into q t at =
      let (r, there, by) = given_by_one (λ (r : OutRule). called_by r.out) (out_rules_of items n) q at in
      let calls = is_called r.out q by in
      reached_from n from into q t (by_call n r q itself there calls) (typed_call _ _ r.out q (terms_typed_of items (sound items well) n r there) calls)

  -- a language that is demanded is one on the type of the inputs
  pub demand_on : (n from into : List ℕ) (r : OutRule) (d : Demand) → IsTransFrom items n from into → Contains (out_rules_of items n) r → Contains r.rule.given d → IsLangOn items d.language.text from
  demand_on n from into r d t at given =
      let s = (sound items well).transformations t.item t.own ((finds items).item n t.item t.found) t.is in
      let own = subst (λ rs. Contains rs r) (outs_are items n t.own (found_trans items n from into t)) at in
      let sd = (s.rules r own).given d given in
      record { item = sd.item; own = sd.language; found = sd.found; is = sd.is; on = sd.type ∙ (s.named_from ∙ t.begins) }

  pub found_lang : (n type : List ℕ) (l : IsLangOn items n type) → find_lang items n ≡ Some l.own
  found_lang n type l = ap (option_and_then (λ (item : Item). own_lang item.body)) l.found ∙ ap own_lang l.is

module _ (items : List Item) (name : List ℕ) where
  pub call_reached : (other last : List ℕ) → Reaches items name other → Contains (called_in (out_rules_of items other)) last → Reaches items name last
  call_reached other last reached at =
      let (r, there, by) = given_by_one (λ (r : OutRule). called_by r.out) (out_rules_of items other) last at in
      by_call other r last reached there (is_called r.out last by)

  pub look_reached : (other last : List ℕ) → Reaches items name other → Contains (looked_in (out_rules_of items other)) last → Reaches items name last
  look_reached other last reached at =
      let (r, there, by) = given_by_one (λ (r : OutRule). demanded_by r.rule.given) (out_rules_of items other) last at in
      let (d, given, is) = demanded_there r.rule.given last by in
      subst (Reaches items name) is (by_lookahead other r d reached there given)
