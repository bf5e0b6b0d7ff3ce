-- Names that are added one by one, while each that stood before is noted.
use Rattle.std.proofs.Common.{◌≡◌, ℕ, suc, ◌+◌, ◌<◌, ◌≤◌, Bool, true, false, ◌||◌, cond, List, [], ◌∷◌, ◌++◌, length, map, take, drop, get_or, Option, Some, None, refl, sym, ap, ap₂, ◌∙◌, subst, arith}
use Rattle.std.specs.Prelude.{is_some}
use Rattle.std.specs.Option.{option_map}
use Rattle.std.proofs.lemmas.List.{take_all, drop_all, length-map, map-append}
use Rattle.fast_fault.specs.declared.code.Code.{Code}
use Rattle.model_program.specs.Syntax.{Name, CtorItem}
use Rattle.model_names.specs.Declared.{same_text}
use Rattle.model_checks.specs.Failures.{fails_if}
use Rattle.model_checks.specs.Types.{is_among, repeated_behind, repeated}
use Rattle.fast_syntax.proofs.Appending.{drop_at}
use Rattle.program_check.specs.declared.names.Names.{Names}
use Rattle.program_check.specs.Notes.{HasMemory, Noted, LeftOver}
use Rattle.program_check.specs.Naming.{place_in, or_else, Adds}
use Rattle.program_check.specs.Numbered.{name_place, ctor_place}
use Rattle.program_check.specs.declared.checker.Checker.{Checker}
use Rattle.program_check.proofs.Noting.{more, done}
use Rattle.program_check.proofs.Noting.{at_first as nothing_yet}
use Rattle.program_check.proofs.Numbering.{take_at, place_behind, length_taken}

-- a name has a number exactly where it is among them
some_place : (b : Bool) (o : Option ℕ) → is_some (cond b (Some 0) (option_map (λ n. suc n) o)) ≡ (b || is_some o)
some_place true o = refl
some_place false None = refl
some_place false (Some n) = refl

pub placed_among : (names : List Name) (text : List ℕ) → is_some (name_place names text) ≡ is_among names text
placed_among [] text = refl
placed_among (n ∷ names) text = some_place (same_text n.text text) (name_place names text) ∙ ap (λ b. same_text n.text text || b) (placed_among names text)

-- the number of a constructor is that of its name
pub placed_ctors : (ctors : List CtorItem) (name : List ℕ) → name_place (map (λ c. c.name) ctors) name ≡ ctor_place ctors name
placed_ctors [] name = refl
placed_ctors (c ∷ ctors) name = ap (λ o. cond (same_text c.name.text name) (Some 0) (option_map (λ n. suc n) o)) (placed_ctors ctors name)

-- their numbers, after one more
places_more : (names : List Name) (n : Name) (old new : Names) (place : ℕ) → length names ≡ place → Adds old new n.text place → ((text : List ℕ) → place_in old text ≡ name_place names text) → (text : List ℕ) → place_in new text ≡ name_place (names ++ n ∷ []) text
places_more names n old new place many adds there text =
    adds.same text ∙ ap₂ (λ o k. or_else o (cond (same_text n.text text) (Some k) None)) (there text) (sym many)
    ∙ sym (place_behind (λ m. same_text m.text text) names n)

-- what is so before the element of this number
pub record SoFar {A : Type 0} (f : A → Name) (code : Code) (all : List A) (i : ℕ) (start now : Checker) (names : Names) : Type 0 where
  pub noted : LeftOver start now (repeated code (map f all)) (repeated_behind code (map f (take i all)) (map f (drop i all)))
  pub there : (text : List ℕ) → place_in names text ≡ name_place (map f (take i all)) text

pub at_first : {A : Type 0} (f : A → Name) (code : Code) (all : List A) (start : Checker) (names : Names) → ((text : List ℕ) → place_in names text ≡ None) → HasMemory start → SoFar f code all 0 start start names
at_first f code all start names none h = record { noted = nothing_yet start (repeated code (map f all)) h; there = none }

one_more_of : {A : Type 0} (f : A → Name) (code : Code) (all : List A) (i : ℕ) (x : A) (start a b : Checker) (old new : Names) → i < length all → x ≡ get_or all i x
    → Noted a b (fails_if (is_some (place_in old (f x).text)) code (f x).place) → Adds old new (f x).text i → SoFar f code all i start a old → SoFar f code all (i + 1) start b new
one_more_of f code all i x start a b old new low is noted adds so_far =
    let before : map f (take (i + 1) all) ≡ map f (take i all) ++ f x ∷ [] = ap (map f) (take_at all i x low is) ∙ map-append f (take i all) (x ∷ []) in
    record {
      noted = more (repeated_behind code (map f (take (i + 1) all)) (map f (drop (i + 1) all))) noted
          (ap (λ xs. repeated_behind code (map f (take i all)) (map f xs)) (drop_at all i x low is)
          ∙ ap₂ (λ b xs. fails_if b code (f x).place ++ repeated_behind code xs (map f (drop (i + 1) all))) (sym (ap is_some (so_far.there (f x).text) ∙ placed_among (map f (take i all)) (f x).text)) (sym before)) so_far.noted;
      there = λ text. places_more (map f (take i all)) (f x) old new i (length-map (take i all) f ∙ length_taken all i (omega (arith, low))) adds so_far.there text ∙ ap (λ names. name_place names text) (sym before);
    }

pub one_more : {A : Type 0} (f : A → Name) (code : Code) (all : List A) (i : ℕ) (x : A) (n : Name) (start a b : Checker) (old new : Names) → i < length all → x ≡ get_or all i x → n ≡ f x
    → Noted a b (fails_if (is_some (place_in old n.text)) code n.place) → Adds old new n.text i → SoFar f code all i start a old → SoFar f code all (i + 1) start b new
one_more f code all i x n start a b old new low is named noted adds so_far =
    one_more_of f code all i x start a b old new low is (subst (λ (m : Name). Noted a b (fails_if (is_some (place_in old m.text)) code m.place)) named noted) (subst (λ (m : Name). Adds old new m.text i) named adds) so_far

pub all_noted : {A : Type 0} (f : A → Name) (code : Code) (all : List A) (i : ℕ) (start known : Checker) (names : Names) → length all ≤ i → SoFar f code all i start known names → Noted start known (repeated code (map f all))
all_noted f code all i start known names end so_far =
    done (ap (λ xs. repeated_behind code (map f (take i all)) (map f xs)) (drop_all i all end)) so_far.noted

pub all_placed : {A : Type 0} (f : A → Name) (code : Code) (all : List A) (i : ℕ) (start known : Checker) (names : Names) → length all ≤ i → SoFar f code all i start known names → (text : List ℕ) → place_in names text ≡ name_place (map f all) text
all_placed f code all i start known names end so_far text = so_far.there text ∙ ap (λ xs. name_place (map f xs) text) (take_all i all end)
