-- What is said of the languages of a well-formed program.
use Rattle.std.proofs.Common.{◌≡◌, ℕ, ℤ, pos, negsuc, ◌≤◌, ◌==◌, Bool, true, false, cond, ◌&&◌, ◌||◌, List, [], ◌∷◌, Option, Some, None, map, length, get_or, Contains, refl, sym, ap, ap₂, subst, ◌∙◌}
use Rattle.std.specs.Prelude.{not}
use Rattle.std.specs.List.{list_any}
use Rattle.std.specs.Option.{option_map_or, option_and_then}
use Rattle.std.proofs.lemmas.List.{length-map}
use Rattle.std.proofs.lemmas.List.Elements.{Contains-get_or}
use Rattle.model_tree.specs.Limits.{most_fields}
use Rattle.model_tree.specs.Signature.{PlainConstructor, PlainSignature, names_of}
use Rattle.model_program.specs.Syntax.{Name, Demand, CtorItem, TypeItem}
use Rattle.model_grammar.specs.Syntax.{Expr, Rule, LangItem, Item}
use Rattle.model_names.specs.Declared.{same_text}
use Rattle.model_meaning.specs.Types.{rank_of, signature_of, signature_at, no_signature}
use Rattle.model_checks.specs.Types.{is_rank, find_ctor}
use Rattle.model_checks.specs.Programs.{is_well_formed}
use Rattle.model_checks.specs.Sound.{are_distinct, names_of_ctors, IsSoundType, IsSoundGuard, IsSoundDemand, IsSoundRule, IsSoundLang, IsSound}
use Rattle.model_checks.proofs.SoundWhole.{sound, finds}
use Rattle.meaning_laws.proofs.SoundGuards.{sound_guard}
use Rattle.model_checks.proofs.Soundness.{same_itself}
use Rattle.model_meaning.proofs.Rules.{all_pass}
use Rattle.fast_build.specs.Items.{own_lang, find_lang}
use Rattle.fast_build.specs.Numbers.{find_constructor}
use Rattle.fast_build.specs.Stands.{GuardStands}
use Rattle.fast_build.proofs.Stands.{are_apart, has_rank, demand_stands, rule_stands, LangStands, AllStand}
use Rattle.fast_build.proofs.Standing.{item_there}

-- names that are different are different texts
none_mapped : (x : Name) (ns : List Name) → list_any (same_text x.text) (map (λ (n : Name). n.text) ns) ≡ list_any (λ m. same_text x.text m.text) ns
none_mapped x [] = refl
none_mapped x (n ∷ ns) = ap (λ b. same_text x.text n.text || b) (none_mapped x ns)

pub apart_texts : (ns : List Name) → are_apart (map (λ n. n.text) ns) ≡ are_distinct ns
apart_texts [] = refl
apart_texts (n ∷ ns) = ap₂ (λ a b. not a && b) (none_mapped n ns) (apart_texts ns)

abbrev pub plain_ctor : CtorItem → PlainConstructor
plain_ctor c = record { name = c.name.text; rank = rank_of c.rank }

pub ctor_texts : (cs : List CtorItem) → map (λ (c : PlainConstructor). c.name) (map plain_ctor cs) ≡ map (λ (n : Name). n.text) (names_of_ctors cs)
ctor_texts [] = refl
ctor_texts (c ∷ cs) = ap (λ ns. c.name.text ∷ ns) (ctor_texts cs)

-- the constructor that is found
pub ctor_found : (cs : List CtorItem) (name : List ℕ) (c : CtorItem) → find_ctor cs name ≡ Some c → find_constructor (map plain_ctor cs) name ≡ Some (plain_ctor c)
ctor_found [] name c e = absurd (cc)
ctor_found (x ∷ xs) name c e = by (same_text x.name.text name) e (ctor_found xs name c)
  where
    by : (b : Bool) → cond b (Some x) (find_ctor xs name) ≡ Some c → (find_ctor xs name ≡ Some c → find_constructor (map plain_ctor xs) name ≡ Some (plain_ctor c)) → cond b (Some (plain_ctor x)) (find_constructor (map plain_ctor xs) name) ≡ Some (plain_ctor c)
    by true e later = let same : x ≡ c = cc in ap (λ y. Some (plain_ctor y)) same
    by false e later = later e

pub rank_same : (r : ℤ) (k : ℕ) → is_rank k r ≡ true → (rank_of r == k) ≡ true
rank_same (pos n) k e = e
rank_same (negsuc n) k e = absurd (cc)

module _ (items : List Item) (ok : is_well_formed items ≡ true) where
  is_sound : IsSound items
  is_sound = sound items ok

  module _ (l : LangItem) (s : IsSoundLang items l) where
    abbrev t : TypeItem
    t = s.type

    signature_is : signature_at items l.of ≡ signature_of t
    signature_is = ap (λ o. option_map_or signature_of o no_signature) s.found

    of_is : t.name.text ≡ l.of.text
    of_is = s.named

    demand_ok : (vars : List Name) (d : Demand) → IsSoundDemand items t.name.text vars d → demand_stands items l.of d ≡ true
    demand_ok vars d sd =
        let found : find_lang items d.language.text ≡ Some sd.language = ap (option_and_then (λ (item : Item). own_lang item.body)) sd.found ∙ ap own_lang sd.is in
        ap (λ o. option_map_or (λ (k : LangItem). same_text k.of.text l.of.text) o false) found ∙ ap (λ x. same_text x l.of.text) (sd.type ∙ of_is) ∙ same_itself l.of.text

    rank_ok : (r : Rule) → IsSoundRule items t r → has_rank (signature_of t) r ≡ true
    rank_ok r sr = ap (λ o. option_map_or (λ (c : PlainConstructor). c.rank == length r.vars) o false) (ctor_found t.ctors r.ctor.text sr.ctor sr.found) ∙ rank_same sr.ctor.rank (length r.vars) sr.rank

    rule_ok : (r : Rule) → Contains l.rules r → rule_stands items l.of (signature_at items l.of) r ≡ true
    rule_ok r at =
        let sr = s.rules r at in
        ap₂ (λ a b. a && b) (ap (λ g. has_rank g r) signature_is ∙ rank_ok r sr) (all_pass (demand_stands items l.of) r.given (λ d named. demand_ok r.vars d (sr.given d named)))

    guard_ok : IsSoundType t → (guard : Option Expr) → IsSoundGuard t.fields guard → GuardStands (signature_of t).fields guard
    guard_ok st None sound = tt
    guard_ok st (Some e) sound = let g = sound_guard t.fields st.sorts st.few_fields e (sound e refl) in (g.is, g.within)

    lang_ok : IsSoundType t → LangStands items l
    lang_ok st = record {
      type = t;
      found = s.found;
      apart = ap (λ g. are_apart (names_of g)) signature_is ∙ ap are_apart (ctor_texts t.ctors) ∙ apart_texts (names_of_ctors t.ctors) ∙ st.ctors;
      few = subst (λ (g : PlainSignature). length g.fields ≤ most_fields) (sym signature_is) (rw length-map st.few_fields);
      rules = all_pass (rule_stands items l.of (signature_at items l.of)) l.rules rule_ok;
      guards = λ k d low. let r = get_or l.rules k d in
          subst (λ (g : PlainSignature). GuardStands g.fields r.guard) (sym signature_is) (guard_ok st r.guard (s.rules r (Contains-get_or l.rules k d low)).guard);
    }

  -- its languages stand
  pub all_stand : AllStand items
  all_stand name l e =
      let at = item_there items name l e in
      let here = (finds items).item name at.0 at.1 in
      let s = is_sound.langs at.0 l here at.2 in
      let type = (finds items).type l.of.text s.type s.found in
      lang_ok l s (is_sound.types type.0 s.type type.1 type.2)
