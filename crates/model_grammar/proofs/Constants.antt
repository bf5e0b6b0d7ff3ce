-- Numbers and quoted texts are written.
use Rattle.std.proofs.Common.{inl, inr, ◌≡◌, ℕ, ◌+◌, ◌*◌, ◌^◌, ◌<◌, ◌≤◌, Bool, true, false, ◌||◌, ◌==◌, nat_lt, if◌then◌else◌, List, [], ◌∷◌, ◌++◌, length, refl, sym, ap, ◌∙◌, subst, arith}
use Rattle.std.specs.Prelude.{codes}
use Rattle.std.specs.Char.{digit_value}
use Rattle.std.specs.Fmt.{digits, decimal}
use Rattle.std.specs.List.{flat_map}
use Rattle.std.specs.Str.Parse.{AllDigits, digits_value, digits_value_after}
use Rattle.std.proofs.lemmas.Str.Parse.{IsNumeralModel, numerals_by_value, tells_digits, digits_value_short}
use Rattle.std.proofs.lemmas.Fmt.{digits_is_IsNumeral, decimal_is_IsNumeral_wide, length-decimal-le_wide, hex_one_digit, hex_two_digits}
use Rattle.std.proofs.lemmas.Bool.Decides.{nat_tests}
use Rattle.std.proofs.lemmas.Bool.{cases_lt, eqb-true}
use Rattle.model_tree.specs.Printed.{escaped, numbered, printed_text}
use Rattle.model_program.specs.Characters.{AllIn, is_digit, is_hexadecimal, in_quotes}
use Rattle.model_program.specs.Quotes.{IsUnit, plain, short, long, AreUnits, no_units, unit, IsQuoted, amount}
use Rattle.model_program.specs.Grammar.{IsDigits}

model : IsNumeralModel (AllDigits 10) (digits_value 10)
model = numerals_by_value (AllDigits 10) tells_digits

-- a number that is written by 38 digits at most
pub digits_small : (text : List ℕ) → IsDigits text → digits_value 10 text < 10 ^ 38
digits_small text is = digits_value_short model text 38 is.0.1 is.1

wide : (n : ℕ) → n < 10 ^ 38 → n < 10 ^ 64
wide n small = omega (arith, small)

pub decimal_digits : (n : ℕ) → n < 10 ^ 38 → IsDigits (decimal n)
decimal_digits n small = ((decimal_is_IsNumeral_wide n (wide n small)).0, length-decimal-le_wide 38 n (omega arith) small (wide n small))

pub decimal_value : (n : ℕ) → n < 10 ^ 38 → digits_value 10 (decimal n) ≡ n
decimal_value n small = (decimal_is_IsNumeral_wide n (wide n small)).1

digit_character : (c : ℕ) → digit_value c < 10 → is_digit c ≡ true
digit_character c small = grind (arith, nat_tests)

hexadecimal_character : (c : ℕ) → digit_value c < 16 → is_hexadecimal c ≡ true
hexadecimal_character c small = grind (arith, nat_tests)

pub digit_characters : (text : List ℕ) → AllDigits 10 text → AllIn is_digit text
digit_characters [] all = tt
digit_characters (c ∷ cs) all = (digit_character c all.0, digit_characters cs all.1)

pub hexadecimal_characters : (text : List ℕ) → AllDigits 16 text → AllIn is_hexadecimal text
hexadecimal_characters [] all = tt
hexadecimal_characters (c ∷ cs) all = (hexadecimal_character c all.0, hexadecimal_characters cs all.1)

amount_value : (base before : ℕ) (text : List ℕ) → amount base before text ≡ digits_value_after base before text
amount_value base before [] = refl
amount_value base before (c ∷ cs) = amount_value base (before * base + digit_value c) cs

hex_length : (n : ℕ) → n < 128 → length (digits 16 false n) ≤ 6
hex_length n small = elim (cases_lt n 16) [ inl one ↦ let e = ap length (hex_one_digit false n one) in omega arith | inr two ↦ let e = ap length (hex_two_digits false n two (omega arith)) in omega arith ]

-- a character by its number
numbered_unit : (c : ℕ) → c < 128 → IsUnit (numbered c) c
numbered_unit c small =
    let numeral = digits_is_IsNumeral 16 false (omega arith) (omega arith) c (omega arith) in
    long (123 ∷ digits 16 false c ++ 125 ∷ []) c (record {
      digits = digits 16 false c;
      braces = refl;
      hexadecimal = hexadecimal_characters (digits 16 false c) numeral.0.1;
      some = numeral.0.0;
      few = hex_length c small;
      amounts = sym (amount_value 16 0 (digits 16 false c) ∙ numeral.1);
      scalar = grind (arith, nat_tests);
    })

quote_unit : (c : ℕ) → ((c == 34) || (c == 92)) ≡ true → IsUnit (92 ∷ c ∷ []) c
quote_unit c is = by (c == 34) refl (c == 92) refl
  where
    by : (a : Bool) → (c == 34) ≡ a → (b : Bool) → (c == 92) ≡ b → IsUnit (92 ∷ c ∷ []) c
    by true same b other = subst (λ (d : ℕ). IsUnit (92 ∷ d ∷ []) d) (sym (eqb-true c 34 same)) (short 34 34 refl)
    by false same true other = subst (λ (d : ℕ). IsUnit (92 ∷ d ∷ []) d) (sym (eqb-true c 92 other)) (short 92 92 refl)
    by false same false other = let f : false ≡ true = (λ i. (sym same i) || (sym other i)) ∙ is in absurd (cc)

control_small : (c : ℕ) → (nat_lt c 32 || (c == 127)) ≡ true → c < 128
control_small c is = grind (arith, nat_tests)

plain_inside : (c : ℕ) → ((c == 34) || (c == 92)) ≡ false → (c == 10) ≡ false → in_quotes c ≡ true
plain_inside c one two = grind (arith, nat_tests)

abbrev if_control : ℕ → Bool → List ℕ
if_control c b = if b then numbered c else c ∷ []

abbrev if_tab : ℕ → Bool → List ℕ
if_tab c b = if b then codes "\\t" else if_control c (nat_lt c 32 || (c == 127))

abbrev if_line : ℕ → Bool → List ℕ
if_line c b = if b then codes "\\n" else if_tab c (c == 9)

-- an escaped character stands for it
pub escaped_unit : (c : ℕ) → IsUnit (escaped c) c
escaped_unit c = quotes ((c == 34) || (c == 92)) refl
  where
    controls : ((c == 34) || (c == 92)) ≡ false → (c == 10) ≡ false → (b : Bool) → (nat_lt c 32 || (c == 127)) ≡ b → IsUnit (if_control c b) c
    controls one two true e = numbered_unit c (control_small c e)
    controls one two false e = plain c (plain_inside c one two)

    tabs : ((c == 34) || (c == 92)) ≡ false → (c == 10) ≡ false → (b : Bool) → (c == 9) ≡ b → IsUnit (if_tab c b) c
    tabs one two true e = subst (λ (d : ℕ). IsUnit (92 ∷ 116 ∷ []) d) (sym (eqb-true c 9 e)) (short 116 9 refl)
    tabs one two false e = controls one two (nat_lt c 32 || (c == 127)) refl

    lines : ((c == 34) || (c == 92)) ≡ false → (b : Bool) → (c == 10) ≡ b → IsUnit (if_line c b) c
    lines one true e = subst (λ (d : ℕ). IsUnit (92 ∷ 110 ∷ []) d) (sym (eqb-true c 10 e)) (short 110 10 refl)
    lines one false e = tabs one e (c == 9) refl

    quotes : (b : Bool) → ((c == 34) || (c == 92)) ≡ b → IsUnit (if b then 92 ∷ c ∷ [] else if_line c (c == 10)) c
    quotes true e = quote_unit c e
    quotes false e = lines e (c == 10) refl

pub escaped_units : (text : List ℕ) → AreUnits (flat_map escaped text) text
escaped_units [] = no_units
escaped_units (c ∷ cs) = unit (escaped c) (flat_map escaped cs) c cs (escaped_unit c) (escaped_units cs)

-- what is printed of a text is quoted, and stands for it
pub printed_quoted : (text : List ℕ) → IsQuoted (printed_text text) text
printed_quoted text = record { inside = flat_map escaped text; quotes = refl; units = escaped_units text }
