-- Items that are numbered, and items that are looked at, one after another.
use Rattle.std.proofs.Common.{◌≡◌, ℕ, suc, ◌+◌, ◌<◌, ◌≤◌, Bool, true, false, cond, List, [], ◌∷◌, ◌++◌, length, map, take, drop, get_or, Option, Some, None, refl, sym, ap, ap₂, ◌∙◌, subst, arith}
use Rattle.std.specs.Option.{option_map}
use Rattle.std.proofs.lemmas.List.{take_more, take_all, get_or-map, length-map, length-take-le, map-append}
use Rattle.fast_fault.specs.declared.refusal.Refusal.{Refusal}
use Rattle.model_checks.specs.Failures.{first_among}
use Rattle.model_checks.specs.Programs.{body_failures, failures_behind}
use Rattle.fast_syntax.specs.declared.items.Item as code
use Rattle.fast_syntax.specs.Plain.{plain_item}
use Rattle.fast_syntax.proofs.Appending.{drop_at}
use Rattle.program_check.specs.declared.names.Names.{Names}
use Rattle.program_check.specs.declared.declarations.Declarations.{Declarations}
use Rattle.model_names.specs.Declared.{declares}
use Rattle.program_check.specs.Naming.{place_in, or_else, Grows}
use Rattle.program_check.specs.Numbered.{place_by, declares_type, own_ctors, ctor_place, AreNumbered}
use Rattle.program_check.proofs.Noting.{first_among-append}

pub take_at : {A : Type 0} (xs : List A) (i : ℕ) (x : A) → i < length xs → x ≡ get_or xs i x → take (i + 1) xs ≡ take i xs ++ x ∷ []
take_at xs i x low is = take_more xs i x low ∙ ap (λ y. take i xs ++ y ∷ []) (sym is)

moved : (a : Option ℕ) (b : Bool) (n : ℕ) → option_map (λ k. suc k) (or_else a (cond b (Some n) None)) ≡ or_else (option_map (λ k. suc k) a) (cond b (Some (suc n)) None)
moved None true n = refl
moved None false n = refl
moved (Some k) b n = refl

-- the number of the first, with one more behind
pub place_behind : {A : Type 0} (p : A → Bool) (xs : List A) (x : A) → place_by p (xs ++ x ∷ []) ≡ or_else (place_by p xs) (cond (p x) (Some (length xs)) None)
place_behind p [] x = refl
place_behind p (y ∷ xs) x = by (p y) (ap (option_map (λ k. suc k)) (place_behind p xs x) ∙ moved (place_by p xs) (p x) (length xs))
  where
    by : (b : Bool) → option_map (λ k. suc k) (place_by p (xs ++ x ∷ [])) ≡ or_else (option_map (λ k. suc k) (place_by p xs)) (cond (p x) (Some (suc (length xs))) None)
        → cond b (Some 0) (option_map (λ k. suc k) (place_by p (xs ++ x ∷ []))) ≡ or_else (cond b (Some 0) (option_map (λ k. suc k) (place_by p xs))) (cond (p x) (Some (suc (length xs))) None)
    by true later = refl
    by false later = later

pub take_mapped : {A B : Type 0} (plain : A → B) (xs : List A) (i : ℕ) (x : A) → i < length xs → x ≡ get_or xs i x → take (i + 1) (map plain xs) ≡ take i (map plain xs) ++ plain x ∷ []
take_mapped plain xs i x low is = take_at (map plain xs) i (plain x) (rw length-map low) (ap plain is ∙ sym (get_or-map plain xs i x (plain x) low))

pub length_taken : {A : Type 0} (xs : List A) (i : ℕ) → i ≤ length xs → length (take i xs) ≡ i
length_taken xs i low = length-take-le i xs low

-- the names so far
pub numbered_more : {A B : Type 0} (plain : A → B) (has : List ℕ → B → Bool) (xs : List A) (i : ℕ) (x : A) (old new : Names) → i < length xs → x ≡ get_or xs i x → ((other : List ℕ) → place_in new other ≡ or_else (place_in old other) (cond (has other (plain x)) (Some i) None))
    → ((name : List ℕ) → place_in old name ≡ place_by (has name) (take i (map plain xs))) → (name : List ℕ) → place_in new name ≡ place_by (has name) (take (i + 1) (map plain xs))
numbered_more plain has xs i x old new low is grows so_far name =
    let n : length (take i (map plain xs)) ≡ i = length_taken (map plain xs) i (rw length-map (omega arith)) in
    grows name ∙ ap₂ (λ o k. or_else o (cond (has name (plain x)) (Some k) None)) (so_far name) (sym n)
    ∙ sym (place_behind (has name) (take i (map plain xs)) (plain x)) ∙ ap (place_by (has name)) (sym (take_mapped plain xs i x low is))

pub numbered_all : {A B : Type 0} (plain : A → B) (has : List ℕ → B → Bool) (xs : List A) (i : ℕ) (names : Names) → length xs ≤ i → ((name : List ℕ) → place_in names name ≡ place_by (has name) (take i (map plain xs))) → (name : List ℕ) → place_in names name ≡ place_by (has name) (map plain xs)
numbered_all plain has xs i names end so_far name = so_far name ∙ ap (place_by (has name)) (take_all i (map plain xs) (rw length-map end))

-- what the items so far declare, with one more
pub numbered_item : (xs : List code.Item) (i : ℕ) (x : code.Item) (old new : Declarations) → i < length xs → x ≡ get_or xs i x → Grows old.types new.types (λ name. declares_type name (plain_item x)) i → Grows old.names new.names (λ name. declares name (plain_item x)) i
    → map place_in new.ctors.items ≡ map place_in old.ctors.items ++ ctor_place (own_ctors (plain_item x)) ∷ [] → AreNumbered (take i (map plain_item xs)) old → AreNumbered (take (i + 1) (map plain_item xs)) new
numbered_item xs i x old new low is types names ctors so_far = record {
  types = numbered_more plain_item declares_type xs i x old.types new.types low is types.same so_far.types;
  names = numbered_more plain_item declares xs i x old.names new.names low is names.same so_far.names;
  ctors = ctors ∙ ap (λ l. l ++ ctor_place (own_ctors (plain_item x)) ∷ []) so_far.ctors
      ∙ sym (ap (map (λ item. ctor_place (own_ctors item))) (take_mapped plain_item xs i x low is) ∙ map-append (λ item. ctor_place (own_ctors item)) (take i (map plain_item xs)) (plain_item x ∷ []));
}

pub numbered_items : (xs : List code.Item) (i : ℕ) (d : Declarations) → length xs ≤ i → AreNumbered (take i (map plain_item xs)) d → AreNumbered (map plain_item xs) d
numbered_items xs i d end so_far = subst (λ items. AreNumbered items d) (take_all i (map plain_item xs) (rw length-map end)) so_far

-- one more item
pub item_more : (xs : List code.Item) (i : ℕ) (x : code.Item) (a b whole : Option Refusal) → i < length xs → x ≡ get_or xs i x
    → b ≡ first_among a (body_failures (map plain_item xs) (take i (map plain_item xs)) (plain_item x).body)
    → first_among a (failures_behind (map plain_item xs) (take i (map plain_item xs)) (map plain_item (drop i xs))) ≡ whole → first_among b (failures_behind (map plain_item xs) (take (i + 1) (map plain_item xs)) (map plain_item (drop (i + 1) xs))) ≡ whole
item_more xs i x a b whole low is noted left =
    let all = map plain_item xs in
    let rest = failures_behind all (take (i + 1) all) (map plain_item (drop (i + 1) xs)) in
    let own = body_failures all (take i all) (plain_item x).body in
    ap (λ k. first_among k rest) noted ∙ sym (first_among-append a own rest)
    ∙ ap (first_among a) (sym (ap (λ l. failures_behind all (take i all) (map plain_item l)) (drop_at xs i x low is)
    ∙ ap (λ l. own ++ failures_behind all l (map plain_item (drop (i + 1) xs))) (sym (take_mapped plain_item xs i x low is)))) ∙ left
