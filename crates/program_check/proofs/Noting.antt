-- Failing conditions that are noted, one list after another.
use Rattle.std.proofs.Common.{◌≡◌, ℕ, ◌+◌, ◌<◌, List, [], ◌∷◌, ◌++◌, length, map, drop, get_or, Option, refl, sym, ap, ◌∙◌, Bool, true, false, true≢false, subst}
use Rattle.std.specs.Prelude.{Result, Ok, Err, IfOk, OnOk, IsOk, MatchResult, Some, None, is_some}
use Rattle.std.specs.Option.{option_map}
use Rattle.std.specs.List.{flat_map}
use Rattle.fast_fault.specs.declared.refusal.Refusal.{Refusal}
use Rattle.model_checks.specs.Failures.{first_of, first_among}
use Rattle.fast_syntax.proofs.Appending.{drop_at}
use Rattle.program_check.specs.declared.checker.Checker.{Checker}
use Rattle.program_check.specs.Notes.{HasMemory, Noted, Notes, LeftOver, Left}

pub first_among-append : (known : Option Refusal) (xs ys : List Refusal) → first_among known (xs ++ ys) ≡ first_among (first_among known xs) ys
first_among-append known [] ys = refl
first_among-append known (x ∷ xs) ys = first_among-append (first_of known x) xs ys

-- these and then those
pub next : {a b c : Checker} {xs ys : List Refusal} → Noted a b xs → Noted b c ys → Noted a c (xs ++ ys)
next {a} {b} {c} {xs} {ys} one two = record {
  is = two.is ∙ ap (λ k. first_among k ys) one.is ∙ sym (first_among-append a.known xs ys);
  had = one.had;
}

-- none
pub nothing : (a : Checker) → HasMemory a → Noted a a []
nothing a h = record { is = refl; had = h }

-- none more
pub and_none : {a b c : Checker} {xs : List Refusal} → Noted a b xs → Noted b c [] → Noted a c xs
and_none one two = record { is = two.is ∙ one.is; had = one.had }

-- the same ones
pub same : {a b : Checker} {xs ys : List Refusal} → xs ≡ ys → Noted a b xs → Noted a b ys
same {a} e one = record { is = one.is ∙ ap (first_among a.known) e; had = one.had }

-- unless memory ran out, the same ones, and these and then those
pub as_same : {a b : Checker} {xs ys : List Refusal} → xs ≡ ys → Notes a b xs → Notes a b ys
as_same e one h = same e (one h)

pub and_next : {a b c : Checker} {xs ys : List Refusal} → Notes a b xs → Notes b c ys → Notes a c (xs ++ ys)
and_next one two h = let last = two h in next (one last.had) last

-- these, with none behind
pub ends : (xs : List Refusal) → xs ++ [] ≡ xs
ends [] = refl
ends (x ∷ xs) = ap (λ ys. x ∷ ys) (ends xs)

-- memory ran out
pub ran : {A : Type 0} {b : Bool} → b ≡ true → b ≡ false → A
ran is isnt = absurd (true≢false (sym is ∙ isnt))

-- whether there is something, seen another way
pub some_mapped : {A B : Type 0} (f : A → B) (o : Option A) → is_some o ≡ is_some (option_map f o)
some_mapped f None = refl
some_mapped f (Some x) = refl

-- ---- what was made, unless memory ran out

pub if_made : {T E : Type 0} (P : T → Type 0) {r : Result T E} {x : T} → r ≡ Ok x → IfOk r P → P x
if_made {T} {E} P is made = subst (λ (r : Result T E). IfOk r P) is made

pub was_done : {T E : Type 0} (P Q : Type 0) (r : Result T E) → IsOk r → MatchResult r (λ _. P) (λ _. Q) → P
was_done P Q (Ok x) done made = made
was_done P Q (Err e) done made = absurd (true≢false (sym done))

pub was_ok : {T E : Type 0} (P : Type 0) (r : Result T E) → IsOk r → OnOk r P → P
was_ok P (Ok x) done made = made
was_ok P (Err e) done made = absurd (true≢false (sym done))

pub either_way : {T E : Type 0} {P Q R : Type 0} (r : Result T E) → (P → R) → (Q → R) → MatchResult r (λ _. P) (λ _. Q) → R
either_way (Ok x) one other made = one made
either_way (Err e) one other made = other made

-- ---- one after another

pub at_first : (a : Checker) (all : List Refusal) → Left a a all all
at_first a all h = record { is = refl; had = h }

pub more : {a b c : Checker} {all left xs : List Refusal} (rest : List Refusal) → Noted b c xs → left ≡ xs ++ rest → LeftOver a b all left → LeftOver a c all rest
more {a} {b} {c} {all} {left} {xs} rest one split so_far = record {
  is = ap (λ k. first_among k rest) one.is ∙ sym (first_among-append b.known xs rest) ∙ ap (first_among b.known) (sym split) ∙ so_far.is;
  had = so_far.had;
}

-- what is left of what was left
pub left_then : {a b c : Checker} {all mid left rest : List Refusal} → mid ≡ left → LeftOver b c left rest → LeftOver a b all mid → LeftOver a c all rest
left_then {a} {b} split one so_far = record { is = one.is ∙ ap (first_among b.known) (sym split) ∙ so_far.is; had = so_far.had }

-- these, before what is left
pub left_by : {a b : Checker} {all xs : List Refusal} (rest : List Refusal) → all ≡ xs ++ rest → Noted a b xs → LeftOver a b all rest
left_by {a} {b} {all} {xs} rest split one = more rest one split (at_first a all one.had)

-- nothing is left
pub done : {a b : Checker} {all none : List Refusal} → none ≡ [] → LeftOver a b all none → Noted a b all
done {a} {b} empty so_far = record { is = ap (first_among b.known) (sym empty) ∙ so_far.is; had = so_far.had }

-- one more element of a list
pub one_of : {A B : Type 0} (f : B → List Refusal) (plain : A → B) (xs : List A) (i : ℕ) (x : A) → i < length xs → x ≡ get_or xs i x → flat_map f (map plain (drop i xs)) ≡ f (plain x) ++ flat_map f (map plain (drop (i + 1) xs))
one_of f plain xs i x low is = ap (λ ys. flat_map f (map plain ys)) (drop_at xs i x low is)
