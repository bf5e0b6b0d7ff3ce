-- The tokens that are printed are the longest pieces where they stand.
use Rattle.std.proofs.Common.{◌≡◌, ℕ, ◌≤◌, Bool, true, false, ◌||◌, ◌==◌, List, [], ◌∷◌, ◌++◌, length, refl, sym, ap, ◌∙◌, subst, append_assoc, arith, ◌⊎◌, inl, inr}
use Rattle.std.proofs.lemmas.List.{length-append}
use Rattle.std.proofs.lemmas.Bool.Decides.{nat_tests}
use Rattle.model_program.specs.Characters.{AllIn, LeavesOff, in_name, is_digit, is_blank}
use Rattle.model_program.specs.Spellings.{spelling, signs, hyphenated}
use Rattle.model_program.specs.Quotes.{IsQuoted}
use Rattle.model_program.specs.Pieces.{PieceKind, Name, Hyphenated, Digits, Text, Sign, Blank, Comment, IsPiece, IsName, IsOneOf, IsLongest}
use Rattle.model_program.proofs.Spelled.{AllWords, spelled_among}
use Rattle.model_program.proofs.Runs.{run_longest, same_run}
use Rattle.model_program.proofs.QuoteLaws.{same_quoted}
use Rattle.model_program.proofs.Families.{longest_alone, same_family, family, Words}
use Rattle.model_program.proofs.Unique.{halves_of, same_hyphenated, name_all}
use Rattle.model_grammar.proofs.Laid.{is_parting, IsParted}

parts_names : (c : ℕ) → is_parting c ≡ true → in_name c ≡ false
parts_names c is = grind (arith, nat_tests)

parts_digits : (c : ℕ) → is_parting c ≡ true → is_digit c ≡ false
parts_digits c is = grind (arith, nat_tests)

pub name_leaves_off : (after : List ℕ) → IsParted after → LeavesOff in_name after
name_leaves_off [] parted = tt
name_leaves_off (c ∷ cs) parted = parts_names c parted

pub digits_leave_off : (after : List ℕ) → IsParted after → LeavesOff is_digit after
digits_leave_off [] parted = tt
digits_leave_off (c ∷ cs) parted = parts_digits c parted

hyphen_parts : (left after more : List ℕ) → IsParted after → after ≡ 45 ∷ more → ⊥
hyphen_parts left [] more parted same = cc
hyphen_parts left (c ∷ cs) more parted same = let e : c ≡ 45 = cc in let f : true ≡ false = sym parted ∙ ap is_parting e in cc

-- a name, or a keyword that is spelled as one could be
pub name_longest : (cs after : List ℕ) → IsName cs → IsParted after → IsLongest Name cs after
name_longest cs after name parted = record { is = name; longest = λ other front rest same is. among other front rest same is (same_family Name other cs after front rest name same is) }
  where
    among : (other : PieceKind) (front rest : List ℕ) → cs ++ after ≡ front ++ rest → IsPiece other front rest → Words ≡ family other → length front ≤ length cs
    among Name front rest same is kinds = run_longest in_name cs after front rest (name_all front is) (name_leaves_off after parted) same
    among Hyphenated front rest same is kinds =
        let h = halves_of front is.0.0 is.0.1 in
        let e : cs ++ after ≡ h.left ++ (45 ∷ (h.right ++ rest)) = same ∙ ap (λ l. l ++ rest) h.split ∙ append_assoc h.left (45 ∷ h.right) rest in
        let f = same_run in_name cs after h.left (45 ∷ (h.right ++ rest)) (name_all cs name) (name_leaves_off after parted) h.before refl e in
        absurd (hyphen_parts h.left after (h.right ++ rest) parted f.1)
    among Digits front rest same is kinds = absurd (cc)
    among Text front rest same is kinds = absurd (cc)
    among Sign front rest same is kinds = absurd (cc)
    among Blank front rest same is kinds = absurd (cc)
    among Comment front rest same is kinds = absurd (cc)

-- a keyword with a hyphen
pub hyphenated_longest : (cs after : List ℕ) → IsOneOf hyphenated cs → IsParted after → IsLongest Hyphenated cs after
hyphenated_longest cs after one parted = record { is = (one, name_leaves_off after parted); longest = λ other front rest same is. among other front rest same is (same_family Hyphenated other cs after front rest (one, name_leaves_off after parted) same is) }
  where
    among : (other : PieceKind) (front rest : List ℕ) → cs ++ after ≡ front ++ rest → IsPiece other front rest → Words ≡ family other → length front ≤ length cs
    among Name front rest same is kinds =
        let h = halves_of cs one.0 one.1 in
        let e : h.left ++ (45 ∷ (h.right ++ after)) ≡ front ++ rest = sym (append_assoc h.left (45 ∷ h.right) after) ∙ ap (λ l. l ++ after) (sym h.split) ∙ same in
        let shorter = run_longest in_name h.left (45 ∷ (h.right ++ after)) front rest (name_all front is) refl e in
        let k = ap length h.split in let l = length-append h.left (45 ∷ h.right) in
        omega arith
    among Hyphenated front rest same is kinds = let e = same_hyphenated cs after front rest (one, name_leaves_off after parted) is same in omega arith
    among Digits front rest same is kinds = absurd (cc)
    among Text front rest same is kinds = absurd (cc)
    among Sign front rest same is kinds = absurd (cc)
    among Blank front rest same is kinds = absurd (cc)
    among Comment front rest same is kinds = absurd (cc)

pub digits_longest : (cs after : List ℕ) → AllIn is_digit cs → 1 ≤ length cs → length cs ≤ 38 → IsParted after → IsLongest Digits cs after
digits_longest cs after all some few parted = longest_alone Digits tt cs after (record { digits = all; some = some; few = few; whole = digits_leave_off after parted })
    (λ front rest same is. run_longest is_digit cs after front rest is.digits (digits_leave_off after parted) same)

pub text_longest : (cs values after : List ℕ) → IsQuoted cs values → IsLongest Text cs after
text_longest cs values after quoted = longest_alone Text tt cs after (values, quoted)
    (λ front rest same is. let e = same_quoted cs front after rest values is.0 quoted is.1 same in omega arith)

pub blank_longest : (c : ℕ) (after : List ℕ) → is_blank c ≡ true → IsLongest Blank (c ∷ []) after
blank_longest c after is = longest_alone Blank tt (c ∷ []) after (c, refl, is)
    (λ front rest same blank. let e = ap length blank.1 in omega arith)

-- a sign has one character, or a second one that is `=` or `>`, which the first can have behind it
abbrev is_second : ℕ → Bool
is_second c = (c == 61) || (c == 62)

abbrev has_second : ℕ → Bool
has_second c = (c == 58) || (c == 45) || (c == 61) || (c == 33) || (c == 60) || (c == 62)

abbrev IsShaped : List ℕ → Type 0
IsShaped [] = ⊥
IsShaped (c ∷ []) = Unit {0}
IsShaped (c ∷ d ∷ []) = (has_second c ≡ true) × (is_second d ≡ true)
IsShaped (c ∷ d ∷ e ∷ cs) = ⊥

sign_shaped : (cs : List ℕ) → IsOneOf signs cs → IsShaped cs
unfolding signs
sign_shaped cs one = let e = spelled_among (λ v. IsShaped (spelling v)) signs every cs one.0 one.1 in subst IsShaped e.0 e.1
  where
    every : AllWords (λ v. IsShaped (spelling v)) signs
    every = (tt, (tt, (tt, (tt, (tt, (tt, (tt, (tt, (tt, ((refl, refl), ((refl, refl), ((refl, refl), (tt, ((refl, refl), ((refl, refl), ((refl, refl), (tt, (tt, (tt, (tt, (tt, (tt, (tt, tt)))))))))))))))))))))))

-- no second character of a sign follows
abbrev pub NoSecond : List ℕ → Type 0
NoSecond [] = Unit {0}
NoSecond (d ∷ cs) = is_second d ≡ false

-- the character can't have another of its sign behind it, or none follows
abbrev pub StaysAlone : List ℕ → List ℕ → Type 0
StaysAlone [] after = Unit {0}
StaysAlone (c ∷ []) after = (has_second c ≡ false) ⊎ NoSecond after
StaysAlone (c ∷ d ∷ cs) after = Unit {0}

shorter_sign : (cs front after rest : List ℕ) → IsShaped cs → IsShaped front → StaysAlone cs after → cs ++ after ≡ front ++ rest → length front ≤ length cs
shorter_sign [] front after rest one two stays same = absurd one
shorter_sign (c ∷ []) [] after rest one two stays same = absurd two
shorter_sign (c ∷ []) (d ∷ e ∷ f ∷ more) after rest one two stays same = absurd two
shorter_sign (c ∷ d ∷ []) [] after rest one two stays same = absurd two
shorter_sign (c ∷ d ∷ []) (e ∷ f ∷ g ∷ more) after rest one two stays same = absurd two
shorter_sign (c ∷ d ∷ e ∷ more) front after rest one two stays same = absurd one
shorter_sign (c ∷ []) (d ∷ []) after rest one two stays same = omega arith
shorter_sign (c ∷ []) (d ∷ e ∷ []) [] rest one two stays same = absurd (cc)
shorter_sign (c ∷ []) (d ∷ e ∷ []) (a ∷ after) rest one two (inl none) same = let f : c ≡ d = cc in let g : false ≡ true = sym none ∙ ap has_second f ∙ two.0 in absurd (cc)
shorter_sign (c ∷ []) (d ∷ e ∷ []) (a ∷ after) rest one two (inr none) same = let f : a ≡ e = cc in let g : false ≡ true = sym none ∙ ap is_second f ∙ two.1 in absurd (cc)
shorter_sign (c ∷ d ∷ []) (e ∷ []) after rest one two stays same = omega arith
shorter_sign (c ∷ d ∷ []) (e ∷ f ∷ []) after rest one two stays same = omega arith

pub sign_longest : (cs after : List ℕ) → IsOneOf signs cs → StaysAlone cs after → IsLongest Sign cs after
sign_longest cs after one stays = longest_alone Sign tt cs after one (λ front rest same is. shorter_sign cs front after rest (sign_shaped cs one) (sign_shaped front is) stays same)

parts_seconds : (c : ℕ) → is_parting c ≡ true → is_second c ≡ false
parts_seconds c is = grind (arith, nat_tests)

pub parted_alone : (cs after : List ℕ) → IsParted after → StaysAlone cs after
parted_alone [] after parted = tt
parted_alone (c ∷ []) [] parted = inr tt
parted_alone (c ∷ []) (d ∷ after) parted = inr (parts_seconds d parted)
parted_alone (c ∷ d ∷ cs) after parted = tt
