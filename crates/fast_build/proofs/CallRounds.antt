-- The rounds in which the transformations that are called, and the languages that are demanded, are gathered.
use Rattle.std.proofs.Common.{◌≡◌, ℕ, zero, suc, ◌≤◌, true, List, [], ◌∷◌, ◌++◌, Some, length, get_or, All, Contains, ap, subst, ◌∙◌, arith}
use Rattle.std.specs.Prelude.{is_some}
use Rattle.std.specs.List.{IsDistinct}
use Rattle.std.specs.Cmp.{IsEquivalence}
use Rattle.model_grammar.specs.Syntax.{LangItem, TransItem, Item}
use Rattle.model_names.specs.Declared.{same_text, rules_of, out_rules_of}
use Rattle.model_checks.specs.Programs.{is_well_formed}
use Rattle.model_meaning.specs.Reached.{Reaches, itself}
use Rattle.meaning_laws.specs.Reaching.{IsTransFrom}
use Rattle.model_checks.proofs.Soundness.{is_there}
use Rattle.fast_build.specs.Items.{find_lang}
use Rattle.fast_build.specs.Transformations.{find_trans}
use Rattle.fast_build.specs.Reached.{IsGrown, AreReached, demanded_in}
use Rattle.fast_build.specs.Called.{called_in}
use Rattle.std.proofs.lemmas.List.Elements.{All-contains}
use Rattle.fast_build.proofs.Closing.{all_grown, not_more_than_items}
use Rattle.fast_build.proofs.Reaching.{reached_of}
use Rattle.fast_build.proofs.Rounds.{demanded_reached}
use Rattle.fast_build.proofs.Standing.{item_there, lang_there}
use Rattle.fast_build.proofs.Transforming.{trans_from, found_trans, found_item, call_from, call_reached}
use Rattle.fast_build.proofs.WellFormed.{all_stand}

-- the only name of one
only_name : (name x : List ℕ) → Contains (name ∷ []) x → name ≡ x
only_name name x (zero, low, is) = is
only_name name x (suc k, low, is) = absurd (omega (arith, low))

none_name : (P : List ℕ → Type 0) → All P []
none_name P k d low = absurd (omega (arith, low))

-- ---- transformations

-- each of the names is that of a transformation between the types of the first
abbrev pub AreKnown : List Item → List ℕ → List (List ℕ) → Type 0
AreKnown items name names = (t : TransItem) → find_trans items name ≡ Some t → All (λ n. IsTransFrom items n t.from.text t.into.text) names

pub first_known : (items : List Item) (name : List ℕ) (names : List (List ℕ)) (t : TransItem) → find_trans items name ≡ Some t → IsGrown [] names (name ∷ []) → All (λ n. IsTransFrom items n t.from.text t.into.text) names
first_known items name names t found g =
    all_grown (λ n. IsTransFrom items n t.from.text t.into.text) [] names (name ∷ []) g (none_name _) (λ n at. subst (λ m. IsTransFrom items m t.from.text t.into.text) (only_name name n at) (trans_from items name t found))

pub more_known : (items : List Item) (well : is_well_formed items ≡ true) (old new : List (List ℕ)) (n from into : List ℕ) → All (λ m. IsTransFrom items m from into) old → Contains old n → IsGrown old new (called_in (out_rules_of items n)) → All (λ m. IsTransFrom items m from into) new
more_known items well old new n from into known at g =
    all_grown (λ m. IsTransFrom items m from into) old new (called_in (out_rules_of items n)) g known (λ m by. call_from items well n from into m (All-contains (λ m. IsTransFrom items m from into) old n known at) by)

pub more_called : (items : List Item) (name : List ℕ) (old new : List (List ℕ)) (n : List ℕ) → AreReached items name old → Contains old n → IsGrown old new (called_in (out_rules_of items n)) → AreReached items name new
more_called items name old new n so_far at g = record {
  others = so_far.others ++ g.added;
  first = g.is ∙ ap (λ z. z ++ g.added) so_far.first;
  reached = all_grown (Reaches items name) old new (called_in (out_rules_of items n)) g so_far.reached (λ m by. call_reached items name n m (All-contains (Reaches items name) old n so_far.reached at) by);
}

pub found_one : (items : List Item) (name n : List ℕ) (names : List (List ℕ)) → is_some (find_trans items name) ≡ true → AreKnown items name names → Contains names n → (t : TransItem) × (find_trans items n ≡ Some t)
found_one items name n names there known at =
    let own = is_there (find_trans items name) there in
    let t = All-contains (λ m. IsTransFrom items m own.0.from.text own.0.into.text) names n (known own.0 own.1) at in
    (t.own, found_trans items n own.0.from.text own.0.into.text t)

pub no_more : (items : List Item) (name : List ℕ) (laws : IsEquivalence same_text) (names : List (List ℕ)) → is_some (find_trans items name) ≡ true → AreKnown items name names → IsDistinct same_text names → length names ≤ length items
no_more items name laws names there known apart =
    let own = is_there (find_trans items name) there in
    not_more_than_items items laws names (λ k d low. found_item items (get_or names k d) own.0.from.text own.0.into.text (known own.0 own.1 k d low)) apart

-- ---- languages

abbrev pub AreLanguages : List Item → List (List ℕ) → Type 0
AreLanguages items names = All (λ n. is_some (find_lang items n) ≡ true) names

pub more_languages : (items : List Item) (well : is_well_formed items ≡ true) (old new : List (List ℕ)) (n : List ℕ) (l : LangItem) → AreLanguages items old → find_lang items n ≡ Some l → IsGrown old new (demanded_in (rules_of items n)) → AreLanguages items new
more_languages items well old new n l known found g =
    all_grown (λ m. is_some (find_lang items m) ≡ true) old new (demanded_in (rules_of items n)) g known
    (λ m by. (let there = reached_of items l.of.text n m (all_stand items well) (record { lang = l; found = found; of_is = λ i. l.of.text }) (demanded_reached items n n m itself by) in ap is_some there.found))

pub more_from_seeds : (items : List Item) (seeds old new : List (List ℕ)) (n : List ℕ) → All (λ m. (s : List ℕ) × Contains seeds s × Reaches items s m) old → Contains old n → IsGrown old new (demanded_in (rules_of items n))
    → All (λ m. (s : List ℕ) × Contains seeds s × Reaches items s m) new
more_from_seeds items seeds old new n so_far at g =
    let own = All-contains (λ m. (s : List ℕ) × Contains seeds s × Reaches items s m) old n so_far at in
    all_grown (λ m. (s : List ℕ) × Contains seeds s × Reaches items s m) old new (demanded_in (rules_of items n)) g so_far (λ m by. (own.0, own.1, demanded_reached items own.0 n m own.2 by))

pub no_more_languages : (items : List Item) (laws : IsEquivalence same_text) (names : List (List ℕ)) → AreLanguages items names → IsDistinct same_text names → length names ≤ length items
no_more_languages items laws names known apart =
    not_more_than_items items laws names
    (λ k d low. (let l = lang_there items (get_or names k d) (known k d low) in let at = item_there items (get_or names k d) l.0 l.1 in ap is_some at.1)) apart
