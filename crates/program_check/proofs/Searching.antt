-- What is found by its number, and what a rule is made of.
use Rattle.std.proofs.Common.{◌≡◌, ℕ, ◌+◌, ◌<◌, ◌≤◌, Bool, true, false, ◌||◌, cond, List, [], ◌∷◌, map, drop, get_or, Option, Some, None, length, refl, sym, ap, ap₂, ◌∙◌, suc, find}
use Rattle.std.specs.Prelude.{MatchOption, slice_get}
use Rattle.std.specs.Option.{option_map, option_and_then}
use Rattle.std.specs.List.{flat_map, list_any}
use Rattle.std.proofs.lemmas.List.{drop_all}
use Rattle.fast_syntax.proofs.Appending.{drop_at}
use Rattle.fast_fault.specs.declared.code.Code.TheVariants.{DuplicateVariable}
use Rattle.model_program.specs.Syntax.{Name, TypeItem, Demand}
use Rattle.model_grammar.specs.Syntax.{Rule, Out, Item}
use Rattle.model_checks.specs.Types.{repeated}
use Rattle.model_checks.specs.Rules.{constructor_failures, scope_of, guard_failures, type_at, demand_failures}
use Rattle.program_check.specs.declared.checker.Checker.{Checker}
use Rattle.program_check.specs.Notes.{Noted}
use Rattle.program_check.specs.Variables.{made_failures, whole_rule_failures}
use Rattle.program_check.specs.Numbered.{place_by}
use Rattle.program_check.proofs.Found.{at_next}
use Rattle.program_check.proofs.Noting.{next, same}

-- what is found by its number is what is found by its test
pub found_by : {A : Type 0} (p : A → Bool) (xs : List A) → option_and_then (slice_get xs) (place_by p xs) ≡ find p xs
found_by p [] = refl
found_by p (x ∷ xs) = by (p x) (at_next x xs (place_by p xs) ∙ found_by p xs)
  where
    by : (b : Bool) → option_and_then (slice_get (x ∷ xs)) (option_map (λ n. suc n) (place_by p xs)) ≡ find p xs
        → option_and_then (slice_get (x ∷ xs)) (cond b (Some 0) (option_map (λ n. suc n) (place_by p xs))) ≡ cond b (Some x) (find p xs)
    by true later = refl
    by false later = later

pub either_way : {A B : Type 0} (f : A → B) (r : Option A) (o : Option B) → option_map f r ≡ o → MatchOption r (o ≡ None) (λ x. o ≡ Some (f x))
either_way f None o e = sym e
either_way f (Some x) o e = sym e

-- a rule, by its parts
pub rule_noted : (items : List Item) (of into : Name) (r : Rule) (out : Option Out) (t : Option TypeItem) (vars : List Name) (given : List Demand) (n : ℕ) (a b c d e f : Checker) → t ≡ type_at items of → vars ≡ r.vars → given ≡ r.given → n ≡ length r.vars
    → Noted a b (constructor_failures t r.ctor n) → Noted b c (repeated DuplicateVariable vars) → Noted c d (guard_failures (scope_of t) r.guard) → Noted d e (flat_map (demand_failures items of vars) given) → Noted e f (made_failures items of into vars out)
    → Noted a f (whole_rule_failures items of into r out)
rule_noted items of into r out t vars given n a b c d e f t_is vars_are given_is many one two three four five =
    next (next (same (ap₂ (λ o m. constructor_failures o r.ctor m) t_is many) one)
    (next (same (ap (repeated DuplicateVariable) vars_are) two) (next (same (ap (λ x. guard_failures (scope_of x) r.guard) t_is) three)
    (same (ap₂ (λ vs ds. flat_map (demand_failures items of vs) ds) vars_are given_is) four)))) (same (ap (λ vs. made_failures items of into vs out) vars_are) five)

-- whether one of them passes, seen element by element
pub any_at : {A B : Type 0} (p : B → Bool) (f : A → B) (xs : List A) (i : ℕ) (x : A) (whole : Bool) → i < length xs → x ≡ get_or xs i x → list_any p (map f (drop i xs)) ≡ whole → (p (f x) || list_any p (map f (drop (i + 1) xs))) ≡ whole
any_at p f xs i x whole low is so_far = sym (ap (λ l. list_any p (map f l)) (drop_at xs i x low is)) ∙ so_far

pub any_found : {A B : Type 0} (p : B → Bool) (f : A → B) (xs : List A) (i : ℕ) (x : A) (b whole : Bool) → i < length xs → x ≡ get_or xs i x → b ≡ p (f x) → b ≡ true → list_any p (map f (drop i xs)) ≡ whole → true ≡ whole
any_found p f xs i x b whole low is passes found so_far = ap (λ c. c || list_any p (map f (drop (i + 1) xs))) (sym found ∙ passes) ∙ any_at p f xs i x whole low is so_far

pub any_more : {A B : Type 0} (p : B → Bool) (f : A → B) (xs : List A) (i : ℕ) (x : A) (b whole : Bool) → i < length xs → x ≡ get_or xs i x → b ≡ p (f x) → b ≡ false → list_any p (map f (drop i xs)) ≡ whole → list_any p (map f (drop (i + 1) xs)) ≡ whole
any_more p f xs i x b whole low is passes found so_far = ap (λ c. c || list_any p (map f (drop (i + 1) xs))) (sym found ∙ passes) ∙ any_at p f xs i x whole low is so_far

pub any_none : {A B : Type 0} (p : B → Bool) (f : A → B) (xs : List A) (i : ℕ) (whole : Bool) → length xs ≤ i → list_any p (map f (drop i xs)) ≡ whole → false ≡ whole
any_none p f xs i whole end so_far = ap (λ l. list_any p (map f l)) (sym (drop_all i xs end)) ∙ so_far
