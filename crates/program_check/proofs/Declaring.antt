-- An item is a type, or has a head, or declares nothing.
use Rattle.std.proofs.Common.{◌≡◌, ℕ, Bool, false, cond, List, [], ◌∷◌, ◌++◌, map, Option, Some, None, refl, sym, ap, ◌∙◌, subst}
use Rattle.std.specs.Prelude.{Result, Ok, Err, OnOk}
use Rattle.std.specs.Option.{option_map, option_map_or}
use Rattle.model_program.specs.Syntax.{Name, TypeItem}
use Rattle.model_grammar.specs.Syntax.{Body, sorts, tree, lang, trans, def, assertion, Item}
use Rattle.model_names.specs.Declared.{same_text, own_name, declares}
use Rattle.program_check.specs.declared.names.Names.{Names}
use Rattle.program_check.specs.declared.declarations.Declarations.{Declarations}
use Rattle.program_check.specs.Naming.{place_in, or_else, Adds, Grows}
use Rattle.program_check.specs.Numbered.{own_type_item, declares_type, own_ctors, ctor_place, Declares}
use Rattle.program_check.specs.Heads.{PlainHead, head_of}

nameless : (b : Body) (t : TypeItem) → own_type_item b ≡ Some t → own_name b ≡ None
nameless (sorts u) t e = refl
nameless (tree u) t e = absurd (cc)
nameless (lang u) t e = absurd (cc)
nameless (trans u) t e = absurd (cc)
nameless (def u) t e = absurd (cc)
nameless (assertion u) t e = absurd (cc)

named_by_head : (b : Body) (h : PlainHead) → head_of b ≡ Some h → own_name b ≡ Some h.name
named_by_head (sorts u) h e = absurd (cc)
named_by_head (tree u) h e = ap (option_map (λ (h : PlainHead). h.name)) e
named_by_head (lang u) h e = ap (option_map (λ (h : PlainHead). h.name)) e
named_by_head (trans u) h e = ap (option_map (λ (h : PlainHead). h.name)) e
named_by_head (def u) h e = ap (option_map (λ (h : PlainHead). h.name)) e
named_by_head (assertion u) h e = absurd (cc)

unnamed : (b : Body) → head_of b ≡ None → own_name b ≡ None
unnamed (sorts u) e = refl
unnamed (tree u) e = absurd (cc)
unnamed (lang u) e = absurd (cc)
unnamed (trans u) e = absurd (cc)
unnamed (def u) e = absurd (cc)
unnamed (assertion u) e = refl

none_later : (o : Option ℕ) → o ≡ or_else o None
none_later None = refl
none_later (Some n) = refl

unchanged : (names : Names) (has : List ℕ → Bool) (place : ℕ) → ((other : List ℕ) → has other ≡ false) → Grows names names has place
unchanged names has place none = record { same = λ other. none_later (place_in names other) ∙ ap (λ b. or_else (place_in names other) (cond b (Some place) None)) (sym (none other)) }

one_added : (old new : Names) (has : List ℕ → Bool) (name : List ℕ) (place : ℕ) → ((other : List ℕ) → same_text name other ≡ has other) → Adds old new name place → Grows old new has place
one_added old new has name place is adds = record { same = λ other. adds.same other ∙ ap (λ b. or_else (place_in old other) (cond b (Some place) None)) (is other) }

on_ok : {T E : Type 0} {A B : Type 0} (r : Result T E) → (A → B) → OnOk r A → OnOk r B
on_ok (Ok u) f h = f h
on_ok (Err e) f h = tt

module _ (old new : Declarations) (item : Item) (place : ℕ) where
  -- a type is added
  pub type_declared : {T E : Type 0} (r : Result T E) (t : TypeItem) → own_type_item item.body ≡ Some t → old.names ≡ new.names → map place_in new.ctors.items ≡ map place_in old.ctors.items ++ ctor_place (own_ctors item) ∷ []
      → OnOk r (Adds old.types new.types t.name.text place) → OnOk r (Declares old new item place)
  type_declared r t is same ctors = on_ok r (λ adds. record {
    types = one_added old.types new.types (λ name. declares_type name item) t.name.text place (λ other. ap (λ o. option_map_or (λ (t : TypeItem). same_text t.name.text other) o false) (sym is)) adds;
    names = subst (λ (names : Names). Grows old.names names (λ name. declares name item) place) same (unchanged old.names (λ name. declares name item) place (λ other. ap (λ o. option_map_or (λ (n : Name). same_text n.text other) o false) (nameless item.body t is)));
    ctors = ctors;
  })

  -- another name is
  pub name_declared : {T E : Type 0} (r : Result T E) (h : PlainHead) → own_type_item item.body ≡ None → head_of item.body ≡ Some h → old.types ≡ new.types → map place_in new.ctors.items ≡ map place_in old.ctors.items ++ ctor_place (own_ctors item) ∷ []
      → OnOk r (Adds old.names new.names h.name.text place) → OnOk r (Declares old new item place)
  name_declared r h none is same ctors = on_ok r (λ adds. record {
    types = subst (λ (types : Names). Grows old.types types (λ name. declares_type name item) place) same (unchanged old.types (λ name. declares_type name item) place (λ other. ap (λ o. option_map_or (λ (t : TypeItem). same_text t.name.text other) o false) none));
    names = one_added old.names new.names (λ name. declares name item) h.name.text place (λ other. ap (λ o. option_map_or (λ (n : Name). same_text n.text other) o false) (sym (named_by_head item.body h is))) adds;
    ctors = ctors;
  })

  -- nothing is
  pub none_declared : own_type_item item.body ≡ None → head_of item.body ≡ None → old.types ≡ new.types → old.names ≡ new.names → map place_in new.ctors.items ≡ map place_in old.ctors.items ++ ctor_place (own_ctors item) ∷ [] → Declares old new item place
  none_declared none is same_types same_names ctors = record {
    types = subst (λ (types : Names). Grows old.types types (λ name. declares_type name item) place) same_types (unchanged old.types (λ name. declares_type name item) place (λ other. ap (λ o. option_map_or (λ (t : TypeItem). same_text t.name.text other) o false) none));
    names = subst (λ (names : Names). Grows old.names names (λ name. declares name item) place) same_names (unchanged old.names (λ name. declares name item) place (λ other. ap (λ o. option_map_or (λ (n : Name). same_text n.text other) o false) (unnamed item.body is)));
    ctors = ctors;
  }
