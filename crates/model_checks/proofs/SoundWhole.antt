-- A well-formed program is sound.
use Rattle.std.proofs.Common.{◌≡◌, Bool, true, false, List, [], ◌∷◌, ◌++◌, Some, sym, ap, ◌∙◌, subst}
use Rattle.std.specs.Prelude.{is_some, find}
use Rattle.std.specs.Option.{option_map_or}
use Rattle.model_tree.specs.Limits.{most_items}
use Rattle.fast_fault.specs.declared.code.Code.TheVariants.{DuplicateType, DuplicateName, TooMany}
use Rattle.model_program.specs.Syntax.{Name, TypeItem}
use Rattle.model_grammar.specs.Syntax.{Body, sorts, tree, lang, trans, def, assertion, Item}
use Rattle.model_names.specs.Declared.{same_text, types_of, own_types, find_type, own_name, find_item, declares}
use Rattle.model_checks.specs.Failures.{failure, is_empty}
use Rattle.model_checks.specs.Types.{type_failures}
use Rattle.model_checks.specs.Programs.{type_again, name_again, body_failures, item_limit, failures_behind, is_well_formed}
use Rattle.model_checks.specs.Sound.{IsSoundType, StandsIn, IsSound, FindsWhatStands}
use Rattle.model_checks.proofs.Soundness.{empty_first, empty_second, passed, at_most, same_itself, found_passes, Splits, found_splits, finds_first, type_item, types_behind, item_passes, same_from_test}
use Rattle.model_checks.proofs.SoundParts.{some_fails, HaveTypes, AreSoundTypes, type_of_lang, sound_type, sound_lang, sound_trans}

pub stands_of : {items : List Item} {item : Item} → Splits items item → StandsIn items item
stands_of s = record { before = s.before; behind = s.behind; is = s.is }

pub finds : (items : List Item) → FindsWhatStands items
finds items = record {
  item = λ name item e. stands_of (found_splits (declares name) items item e);
  type = λ name t e. (let h = type_item (λ u. same_text u.name.text name) items t e in (h.item, stands_of h.splits, h.is, same_from_test t.name.text name (found_passes (λ u. same_text u.name.text name) (types_of items) t e)));
}

each_item : (items : List Item) → is_well_formed items ≡ true → (item : Item) (at : StandsIn items item) → is_empty (body_failures items at.before item.body) ≡ true
each_item items e item at =
    item_passes items [] at.before item at.behind (ap (λ l. is_empty (failures_behind items [] l)) (sym at.is) ∙ empty_second (item_limit items) (failures_behind items [] items) e)

named_before : (items before : List Item) (body : Body) (name : Name) → own_name body ≡ Some name → is_empty (body_failures items before body) ≡ true → is_some (find_item before name.text) ≡ false
named_before items before (sorts t) name is e = absurd (cc)
named_before items before (tree t) name is e = let same : t.name ≡ name = cc in ap (λ n. is_some (find_item before n.text)) (sym same) ∙ passed _ DuplicateName t.name.place (empty_first (name_again items before t.name) _ e)
named_before items before (lang t) name is e = let same : t.name ≡ name = cc in ap (λ n. is_some (find_item before n.text)) (sym same) ∙ passed _ DuplicateName t.name.place (empty_first (name_again items before t.name) _ e)
named_before items before (trans t) name is e = let same : t.name ≡ name = cc in ap (λ n. is_some (find_item before n.text)) (sym same) ∙ passed _ DuplicateName t.name.place (empty_first (name_again items before t.name) _ e)
named_before items before (def t) name is e = let same : t.name ≡ name = cc in ap (λ n. is_some (find_item before n.text)) (sym same) ∙ passed _ DuplicateName t.name.place (empty_first (name_again items before t.name) _ e)
named_before items before (assertion t) name is e = absurd (cc)

declares_own : (item : Item) (name : Name) → own_name item.body ≡ Some name → declares name.text item ≡ true
declares_own item name is = ap (λ o. option_map_or (λ n. same_text n.text name.text) o false) is ∙ same_itself name.text

pub sound : (items : List Item) → is_well_formed items ≡ true → IsSound items
sound items e = record {
  each = each_item items e;
  types = λ item t at is. type_there item t at is;
  langs = λ item l at is. sound_lang items at.before l types_there sound_types (subst (λ (b : Body). is_empty (body_failures items at.before b) ≡ true) is (each_item items e item at));
  transformations = λ item t at is. sound_trans items at.before t types_there sound_types (subst (λ (b : Body). is_empty (body_failures items at.before b) ≡ true) is (each_item items e item at));
  found_type = λ item t at is. find_own_type item t at is;
  found_item = λ item name at is. subst (λ (l : List Item). find_item l name.text ≡ Some item) (sym at.is) (finds_first (declares name.text) at.before at.behind item (named_before items at.before item.body name is (each_item items e item at)) (declares_own item name is));
  few = at_most (λ item. failure TooMany item.place) items most_items (λ x e. some_fails TooMany x.place e) (empty_first (item_limit items) (failures_behind items [] items) e);
}
  where
    own_type : (item : Item) (t : TypeItem) (at : StandsIn items item) → item.body ≡ sorts t → is_empty (type_again items at.before t.name ++ type_failures t) ≡ true
    own_type item t at is = subst (λ (b : Body). is_empty (body_failures items at.before b) ≡ true) is (each_item items e item at)

    type_there : (item : Item) (t : TypeItem) → StandsIn items item → item.body ≡ sorts t → IsSoundType t
    type_there item t at is = sound_type t (empty_second (type_again items at.before t.name) (type_failures t) (own_type item t at is))

    sound_types : AreSoundTypes items
    sound_types name t found = let h = type_item (λ u. same_text u.name.text name) items t found in type_there h.item t (stands_of h.splits) h.is

    types_there : HaveTypes items
    types_there item name l found is = let at = stands_of (found_splits (declares name) items item found) in type_of_lang items at.before l (subst (λ (b : Body). is_empty (body_failures items at.before b) ≡ true) is (each_item items e item at))

    find_own_type : (item : Item) (t : TypeItem) → StandsIn items item → item.body ≡ sorts t → find_type items t.name.text ≡ Some t
    find_own_type item t at is =
        let p : TypeItem → Bool = λ u. same_text u.name.text t.name.text in
        let none = passed (is_some (find_type at.before t.name.text)) DuplicateType t.name.place (empty_first (type_again items at.before t.name) (type_failures t) (own_type item t at is)) in
        ap (λ l. find p (types_of l)) at.is ∙ ap (find p) (types_behind at.before (item ∷ at.behind)) ∙ ap (λ b. find p (types_of at.before ++ (own_types b ++ types_of at.behind))) is
        ∙ finds_first p (types_of at.before) (types_of at.behind) t none (same_itself t.name.text)
