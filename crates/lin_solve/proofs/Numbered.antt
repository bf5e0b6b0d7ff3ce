-- The steps of numbering.
use Rattle.std.proofs.Common.{◌≡◌, ℕ, suc, ◌+◌, ◌<◌, ◌≤◌, List, [], ◌∷◌, ◌++◌, length, drop, get_or, Bool, true, false, cond, ◌||◌, refl, ap, sym, ◌∙◌, subst, arith}
use Rattle.std.specs.Prelude.{Some}
use Rattle.std.specs.List.{slice_get}
use Rattle.std.proofs.lemmas.List.{at_drop_more, at_drop_all, map-append, length-map}
use Rattle.std.proofs.lemmas.List.Elements.{All-push}
use Rattle.model_form.specs.Form.{Form, form, remainders_of, heights, height}
use Rattle.model_form.specs.Ranges.{AreRemainders, IsForm}
use Rattle.model_chain.specs.Literals as plain
use Rattle.model_chain.specs.Literals.{is_same, is_in, place, with_one, seen, seen_all, seen_in, has_field}
use Rattle.model_chain.proofs.Places.{place_in}
use Rattle.label_core.specs.declared.theory.Lit.{Lit}
use Rattle.lin_form.specs.declared.form.RemTerm.{RemTerm}
use Rattle.lin_form.specs.Terms.{plain_remainders}
use Rattle.lin_form.specs.Nest.{nest_front, base_of, divisors_of}
use Rattle.lin_form.proofs.Nests.{seen_next as front_next, front_all, parts_nest, base_lower, of_base, of_first}
use Rattle.lin_form.proofs.Evaluating.{remainder_at}
use Rattle.lin_form.proofs.Reducing.{inner_lower}
use Rattle.lin_solve.specs.declared.compare.Compare.{Compare}
use Rattle.lin_solve.specs.declared.numbering.Remainder.{Remainder}
use Rattle.lin_solve.specs.Plain.{plain_literals, plain_remainder, plain_known, plain_term, front_remainder, ArePositive}
use Rattle.lin_solve.specs.Cases.{is_open}

-- ---- one remainder

in_place : (r : plain.Remainder) (R : List plain.Remainder) → place r R < length R → is_in r R ≡ true
in_place r [] h = absurd (omega arith)
in_place r (s ∷ R) h = by (is_same r s) (in_place r R) h
  where
    by : (b : Bool) → (place r R < length R → is_in r R ≡ true) → cond b 0 (suc (place r R)) < suc (length R) → b || is_in r R ≡ true
    by true f h = refl
    by false f h = f (omega arith)

pub with_known : (r : plain.Remainder) (R : List plain.Remainder) → place r R < length R → R ≡ with_one r R
with_known r R h = ap (λ b. cond b R (R ++ r ∷ [])) (sym (in_place r R h))

pub with_new : (r : plain.Remainder) (R : List plain.Remainder) → length R ≤ place r R → R ++ r ∷ [] ≡ with_one r R
with_new r R h = by (is_in r R) refl
  where
    by : (b : Bool) → is_in r R ≡ b → R ++ r ∷ [] ≡ cond b R (R ++ r ∷ [])
    by true e = absurd (let l = place_in r R e in omega arith)
    by false e = refl

pub known_push : (xs ys : List Remainder) (r : Remainder) → ys ≡ xs ++ r ∷ [] → plain_known ys ≡ plain_known xs ++ plain_remainder r ∷ []
known_push xs ys r e = ap plain_known e ∙ map-append plain_remainder xs (r ∷ [])

pub positive_push : (xs ys : List Remainder) (r : Remainder) → ys ≡ xs ++ r ∷ [] → 0 < r.divisor → ArePositive xs → ArePositive ys
positive_push xs ys r e p h = subst ArePositive (sym e) (All-push (λ x. 0 < x.divisor) xs r h p)

-- ---- a form

height_of : (f : Form) → height f ≡ suc (heights (remainders_of f))
height_of (form c ts rs) = refl

pub item_lower : (f : Form) (ts : List RemTerm) (k : ℕ) (t : RemTerm) → plain_remainders ts ≡ remainders_of f → k < length ts → t ≡ get_or ts k t → height t.inner < height f
item_lower f ts k t e l is =
    let low = subst (λ (x : RemTerm). height x.inner ≤ heights (plain_remainders ts)) (sym is) (inner_lower ts k t l) in
    let whole = height_of f ∙ ap (λ r. suc (heights r)) (sym e) in
    omega arith

pub item_positive : (f : Form) (ts : List RemTerm) (k : ℕ) (t : RemTerm) → IsForm f → plain_remainders ts ≡ remainders_of f → k < length ts → t ≡ get_or ts k t → 0 < t.divisor
item_positive (form c us rs) ts k t h e l is = subst (λ (x : RemTerm). 0 < x.divisor) (sym is) (remainder_at ts k t (subst AreRemainders (sym e) h.2) l).1

seen_of : (f : Form) (R : List plain.Remainder) → seen f R ≡ seen_all (remainders_of f) R
seen_of (form c ts rs) R = refl

pub seen_start : (f : Form) (ts : List RemTerm) (R : List plain.Remainder) → plain_remainders ts ≡ remainders_of f → seen_all (plain_remainders ts) R ≡ seen f R
seen_start f ts R e = ap (λ r. seen_all r R) e ∙ sym (seen_of f R)

pub seen_step : (ts : List RemTerm) (k : ℕ) (t : RemTerm) (R : List plain.Remainder) → k < length ts → t ≡ get_or ts k t → seen_all (plain_remainders (drop k ts)) R ≡ seen_all (plain_remainders (drop (k + 1) ts)) (with_one (plain_term t) (seen t.inner R))
seen_step ts k t R l is = at_drop_more (λ us. seen_all (plain_remainders us) R) ts k t l ∙ ap (λ (x : RemTerm). seen_all (plain_remainders (drop (k + 1) ts)) (with_one (plain_term x) (seen x.inner R))) (sym is)

pub seen_end : (ts : List RemTerm) (k : ℕ) (R : List plain.Remainder) → length ts ≤ k → seen_all (plain_remainders (drop k ts)) R ≡ R
seen_end ts k R l = at_drop_all (λ us. seen_all (plain_remainders us) R) ts k l

-- ---- literals

pub literals_step : (ls : List (Lit Compare)) (k : ℕ) (l : Lit Compare) (R : List plain.Remainder) → k < length ls → l ≡ get_or ls k l → seen_in (plain_literals (drop k ls)) R ≡ seen_in (plain_literals (drop (k + 1) ls)) (seen l.atom.right (seen l.atom.left R))
literals_step ls k l R h is = at_drop_more (λ us. seen_in (plain_literals us) R) ls k l h ∙ ap (λ (x : Lit Compare). seen_in (plain_literals (drop (k + 1) ls)) (seen x.atom.right (seen x.atom.left R))) (sym is)

pub literals_end : (ls : List (Lit Compare)) (k : ℕ) (R : List plain.Remainder) → length ls ≤ k → seen_in (plain_literals (drop k ls)) R ≡ R
literals_end ls k R l = at_drop_all (λ us. seen_in (plain_literals us) R) ls k l

pub known_length : (R : List Remainder) → length (plain_known R) ≡ length R
known_length R = length-map R plain_remainder

-- ---- remainders of nothing but a remainder

pub seen_next : (i : ℕ) (f : Form) (R S : List plain.Remainder) (r : plain.Remainder) → i < length (divisors_of f) → r ≡ front_remainder i f → S ≡ seen (nest_front i (base_of f) (divisors_of f)) R
    → with_one r S ≡ seen (nest_front (i + 1) (base_of f) (divisors_of f)) R
seen_next i f R S r h e s = (λ j. with_one (e j) (s j)) ∙ ap (λ g. seen g R) (sym (front_next i (base_of f) (divisors_of f) 0 h))

pub seen_whole : (i : ℕ) (f : Form) (R : List plain.Remainder) → length (divisors_of f) ≤ i → seen (nest_front i (base_of f) (divisors_of f)) R ≡ seen f R
seen_whole i f R h = ap (λ g. seen g R) (front_all i (base_of f) (divisors_of f) h ∙ parts_nest f)

pub within_lower : (f : Form) (ts : List RemTerm) (k : ℕ) (t : RemTerm) (g : Form) → plain_remainders ts ≡ remainders_of f → k < length ts → t ≡ get_or ts k t → g ≡ base_of t.inner → height g < height f
within_lower f ts k t g e l is same = let low = item_lower f ts k t e l is in let under = base_lower t.inner in let h = ap height same in omega arith

pub under_lower : (f g : Form) → g ≡ base_of f → height g ≤ height f
under_lower f g same = let under = base_lower f in let h = ap height same in omega arith

pub field_within : (n : ℕ) (f : Form) → has_field n (base_of f) ≡ has_field n f
field_within n = of_base (has_field n) (λ f k. either (has_field n f))
  where
    either : (b : Bool) → (b || false) ≡ b
    either true = refl
    either false = refl

pub open_within : (steps : List ℕ) (m : ℕ) (f : Form) → is_open steps (get_or (divisors_of f) 0 m) (base_of f) ≡ is_open steps m f
open_within steps = of_first (is_open steps) (λ m f k. either (is_open steps k f))
  where
    either : (b : Bool) → (b || false) ≡ b
    either true = refl
    either false = refl

pub first_lower : (f : Form) (ts : List RemTerm) (t : RemTerm) (g : Form) → plain_remainders ts ≡ remainders_of f → Some t ≡ slice_get ts 0 → g ≡ base_of t.inner → height g < height f
first_lower f [] t g e s same = cc
first_lower f (x ∷ ts) t g e s same = let own : t ≡ x = cc in within_lower f (x ∷ ts) 0 t g e (omega arith) own same
