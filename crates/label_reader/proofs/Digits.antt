-- Counting the digits of a number while its value is taken.
use mir.Syntax.{w128}
use mir.Val.{to_z, of_z}
use Rattle.std.proofs.Math.IntN.{◌-ℤ◌}
use Rattle.std.proofs.lemmas.Int.{to_z-of_z, ints}
use Rattle.model_grammar.specs.Expressions.{negative}
use Rattle.std.proofs.Common.{◌≡◌, ℕ, zero, suc, ℤ, pos, FitsSigned, ◌+◌, ◌*◌, ◌^◌, ◌<◌, ◌≤◌, List, [], ◌∷◌, ◌++◌, length, refl, sym, ap, ◌∙◌, subst, add-one, arith}
use Rattle.std.specs.Char.{digit_value, encode_utf8}
use Rattle.std.specs.Str.{IsUtf8, chars}
use Rattle.std.proofs.lemmas.Str.{IsUtf8-past_char, chars_past_char}
use Rattle.std.specs.Str.Parse.{AllDigits, digits_value, digits_value_after}
use Rattle.std.proofs.Math.Nat.{pow-suc, pow-succ', pow-le-pow_right, mul-le-mul_right, mul_assoc}
use Rattle.model_program.specs.Lexeme.{Lexeme}
use Rattle.read_forms.specs.Reads.{IsRead, closed}
use Rattle.model_program.specs.Grammar.{IsDigits, IsNumber}
use Rattle.model_grammar.proofs.Constants.{digits_small}

-- the first character of a text is taken
pub char_taken : (before after : List ℕ) (c : ℕ) → IsUtf8 before → before ≡ encode_utf8 c ++ after → IsUtf8 after × (chars before ≡ c ∷ chars after)
char_taken before after c text e = (IsUtf8-past_char before after c text e, chars_past_char before after c text e)

pub chars_ended : (bs : List ℕ) → length bs ≡ 0 → chars bs ≡ []
unfolding chars
chars_ended [] ended = refl
chars_ended (b ∷ bs) ended = absurd (omega (arith, ended))

-- so many of the characters are digits, and write the value; the rest are left
pub record IsCounting (all rest : List ℕ) (value count : ℕ) : Type 0 where
  pub same : digits_value_after 10 value rest ≡ digits_value 10 all
  pub counted : count + length rest ≡ length all
  pub into : AllDigits 10 rest → AllDigits 10 all
  pub back : AllDigits 10 all → AllDigits 10 rest
  pub below : value < 10 ^ count
  pub few : count ≤ 38

pub left_smaller : (before rest : List ℕ) (c : ℕ) → before ≡ c ∷ rest → length rest < length before
left_smaller before rest c here = let e : length before ≡ length (c ∷ rest) = ap length here in omega arith

pub counting_starts : (all : List ℕ) → IsCounting all all 0 0
counting_starts all = record { same = refl; counted = omega arith; into = λ h. h; back = λ h. h; below = omega arith; few = omega arith }

pub counting_more : (all before rest : List ℕ) (c value count digit : ℕ) → IsCounting all before value count → before ≡ c ∷ rest → digit_value c < 10 → digit ≡ digit_value c → (count ≡ 38 → ⊥) → IsCounting all rest (value * 10 + digit) (count + 1)
counting_more all before rest c value count digit so_far here is_digit value_is not_most =
    let s : IsCounting all (c ∷ rest) value count = subst (λ (l : List ℕ). IsCounting all l value count) here so_far in
    let b = s.below in let f = s.few in let n = s.counted in
    record {
      same = ap (λ d. digits_value_after 10 (value * 10 + d) rest) value_is ∙ s.same;
      counted = omega arith;
      into = λ h. s.into (is_digit, h);
      back = λ h. (s.back h).1;
      below = rw add-one (omega (arith, pow-suc 10 count));
      few = omega arith;
    }

pub counting_wrong : (all before rest : List ℕ) (c value count : ℕ) → IsCounting all before value count → before ≡ c ∷ rest → (digit_value c < 10 → ⊥) → IsDigits all → ⊥
counting_wrong all before rest c value count so_far here no_digit digits = no_digit (subst (λ (l : List ℕ). AllDigits 10 l) here (so_far.back digits.0.1)).0

pub counting_long : (all before rest : List ℕ) (c value count : ℕ) → IsCounting all before value count → before ≡ c ∷ rest → count ≡ 38 → IsDigits all → ⊥
counting_long all before rest c value count so_far here most digits = let n = so_far.counted in let e : length before ≡ length (c ∷ rest) = ap length here in let d = digits.1 in omega arith

pub counting_none : (all rest : List ℕ) (value count : ℕ) → IsCounting all rest value count → rest ≡ [] → count ≡ 0 → IsDigits all → ⊥
counting_none all rest value count so_far ended none digits = let n = so_far.counted in let e : length rest ≡ 0 = ap length ended in let d = digits.0.0 in omega arith

pub counting_done : (all rest : List ℕ) (value count : ℕ) → IsCounting all rest value count → rest ≡ [] → (count ≡ 0 → ⊥) → IsDigits all × (value ≡ digits_value 10 all)
counting_done all rest value count so_far ended some =
    let n = so_far.counted in let f = so_far.few in let e : length rest ≡ 0 = ap length ended in
    let all_digits : AllDigits 10 all = so_far.into (subst (λ (l : List ℕ). AllDigits 10 l) (sym ended) tt) in
    let value_is : value ≡ digits_value 10 all = ap (λ l. digits_value_after 10 value l) (sym ended) ∙ so_far.same in
    (((omega arith, all_digits), omega arith), value_is)

pub counting_small : (all rest : List ℕ) (value count : ℕ) → IsCounting all rest value count → value < 10 ^ 38
counting_small all rest value count so_far = let b = so_far.below in let p : 10 ^ count ≤ 10 ^ 38 = pow-le-pow_right (omega arith) so_far.few in omega (arith, b, p)

-- one more digit still fits
pub counting_room : (all rest : List ℕ) (value count : ℕ) → IsCounting all rest value count → (count ≡ 38 → ⊥) → value * 10 + 10 ≤ 10 ^ 38
counting_room all rest value count so_far not_most =
    let b = so_far.below in let f = so_far.few in
    let le : count ≤ 37 = omega (arith, f, not_most) in let p : 10 ^ count ≤ 10 ^ 37 = pow-le-pow_right (omega arith) le in
    omega (arith, b, p)

pub fits_below : (z : ℤ) (n : ℕ) → z ≡ pos n → n < 10 ^ 38 → FitsSigned w128 z
fits_below z n z_is below = subst (λ (y : ℤ). FitsSigned w128 y) (sym z_is) (omega (arith, below))

through : (a b c : ℕ) → a ≤ b → b ≤ c → a ≤ c
through a b c ab bc = omega arith

digits_below : (before : ℕ) (cs : List ℕ) → AllDigits 10 cs → digits_value_after 10 before cs + 1 ≤ (before + 1) * 10 ^ length cs
digits_below before [] h = omega arith
digits_below before (c ∷ cs) h =
    let d = h.0 in
    let step : (before * 10 + digit_value c + 1) * 10 ^ length cs ≤ (before + 1) * 10 * 10 ^ length cs = mul-le-mul_right (10 ^ length cs) (omega (arith, d)) in
    subst (λ (m : ℕ). digits_value_after 10 (before * 10 + digit_value c) cs + 1 ≤ m) (mul_assoc (before + 1) 10 (10 ^ length cs) ∙ ap (λ p. (before + 1) * p) (sym (pow-succ' 10 (length cs))))
    (through (digits_value_after 10 (before * 10 + digit_value c) cs + 1) ((before * 10 + digit_value c + 1) * 10 ^ length cs) ((before + 1) * 10 * 10 ^ length cs) (digits_below (before * 10 + digit_value c) cs h.1) step)

pub number_fits : (n : ℤ) (tokens rest : List Lexeme) → IsRead IsNumber closed tokens n rest → FitsSigned w128 n
number_fits n tokens rest read = let s = read.spelled in fits_below n (digits_value 10 s.0.text) s.3 (digits_small s.0.text s.2)

negated_fits : (m : ℕ) → m < 10 ^ 38 → FitsSigned w128 (negative m)
negated_fits zero small = omega arith
negated_fits (suc m) small = omega (arith, small)

minus_is : (m : ℕ) → pos 0 -ℤ pos m ≡ negative m
minus_is zero = refl
minus_is (suc m) = omega (arith, ints)

-- the number that is written with a `-`
pub negated_number_is : (n : ℤ) (text : List ℕ) → n ≡ pos (digits_value 10 text) → IsDigits text → to_z w128 (of_z w128 (pos 0 -ℤ to_z w128 (of_z w128 n))) ≡ negative (digits_value 10 text)
negated_number_is n text is digits =
    let m = digits_value 10 text in let small = digits_small text digits in
    let e : to_z w128 (of_z w128 n) ≡ pos m = to_z-of_z w128 n (fits_below n m is small) ∙ is in
    ap (λ z. to_z w128 (of_z w128 (pos 0 -ℤ z))) e ∙ ap (λ z. to_z w128 (of_z w128 z)) (minus_is m) ∙ to_z-of_z w128 (negative m) (negated_fits m small)
