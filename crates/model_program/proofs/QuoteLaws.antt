-- A quoted text can be read in one way only.
use Rattle.std.proofs.Common.{◌≡◌, ℕ, ◌+◌, ◌*◌, Bool, true, false, List, [], ◌∷◌, ◌++◌, length, refl, sym, ap, ◌∙◌, append_assoc, arith, Some, None, if◌then◌else◌, ◌==◌}
use Rattle.std.specs.Char.{digit_value}
use Rattle.std.proofs.lemmas.List.{length-append}
use Rattle.std.proofs.lemmas.Bool.Decides.{nat_tests}
use Rattle.std.proofs.lemmas.Bool.{eqb-true}
use Rattle.model_program.specs.Characters.{AllIn, is_hexadecimal, in_quotes}
use Rattle.model_program.specs.Quotes.{IsBraced, IsUnit, plain, short, long, AreUnits, no_units, unit, IsQuoted, escape, amount, plain_from, escape_from, braced_from, led_by, quoted_value}
use Rattle.model_program.proofs.Runs.{same_run}

pub not_plain : (c d : ℕ) → in_quotes c ≡ true → c ≡ d → in_quotes d ≡ false → ⊥
not_plain c d is same other = let e : true ≡ false = sym is ∙ ap in_quotes same ∙ other in cc

pub braces_open : (cs a : List ℕ) (value : ℕ) (is : IsBraced cs value) → cs ++ a ≡ 123 ∷ is.digits ++ 125 ∷ a
braces_open cs a value is = ap (λ l. l ++ a) is.braces ∙ ap (λ l. 123 ∷ l) (append_assoc is.digits (125 ∷ []) a)

pub same_braced : (cs ds a b : List ℕ) (v w : ℕ) → IsBraced cs v → IsBraced ds w → cs ++ a ≡ ds ++ b → (v ≡ w) × (a ≡ b) × (length cs ≡ length ds)
same_braced cs ds a b v w one two same =
    let e : 123 ∷ one.digits ++ 125 ∷ a ≡ 123 ∷ two.digits ++ 125 ∷ b = sym (braces_open cs a v one) ∙ same ∙ braces_open ds b w two in
    let f : one.digits ++ 125 ∷ a ≡ two.digits ++ 125 ∷ b = cc in
    let g = same_run is_hexadecimal one.digits (125 ∷ a) two.digits (125 ∷ b) one.hexadecimal refl two.hexadecimal refl f in
    let h : a ≡ b = (let i = g.1 in cc) in
    let k = ap length same in let l = length-append cs a in let m = length-append ds b in let n = ap length h in
    (one.amounts ∙ ap (λ d. amount 16 0 d) g.0 ∙ sym two.amounts, h, omega arith)

-- the unit at the front of a text is one
pub same_unit : (u w a b : List ℕ) (v x : ℕ) → IsUnit u v → IsUnit w x → u ++ a ≡ w ++ b → (v ≡ x) × (a ≡ b)
same_unit u w a b v x (plain c is) (plain d is2) same = (let e : c ∷ a ≡ d ∷ b = same in cc, let e : c ∷ a ≡ d ∷ b = same in cc)
same_unit u w a b v x (plain c is) (short d value is2) same = absurd (not_plain c 92 is (let e : c ∷ a ≡ 92 ∷ d ∷ b = same in cc) refl)
same_unit u w a b v x (plain c is) (long cs value is2) same = absurd (not_plain c 92 is (let e : c ∷ a ≡ 92 ∷ 117 ∷ cs ++ b = same in cc) refl)
same_unit u w a b v x (short c value is) (plain d is2) same = absurd (not_plain d 92 is2 (let e : 92 ∷ c ∷ a ≡ d ∷ b = same in cc) refl)
same_unit u w a b v x (short c value is) (short d value2 is2) same =
    let e : 92 ∷ c ∷ a ≡ 92 ∷ d ∷ b = same in let f : c ≡ d = cc in let g : Some value ≡ Some value2 = sym is ∙ ap escape f ∙ is2 in (cc, cc)
same_unit u w a b v x (short c value is) (long cs value2 is2) same =
    let e : 92 ∷ c ∷ a ≡ 92 ∷ 117 ∷ cs ++ b = same in let f : c ≡ 117 = cc in let g : None ≡ Some value = sym (ap escape f) ∙ is in absurd (cc)
same_unit u w a b v x (long cs value is) (plain d is2) same = absurd (not_plain d 92 is2 (let e : 92 ∷ 117 ∷ cs ++ a ≡ d ∷ b = same in cc) refl)
same_unit u w a b v x (long cs value is) (short d value2 is2) same =
    let e : 92 ∷ 117 ∷ cs ++ a ≡ 92 ∷ d ∷ b = same in let f : d ≡ 117 = cc in let g : None ≡ Some value2 = sym (ap escape f) ∙ is2 in absurd (cc)
same_unit u w a b v x (long cs value is) (long ds value2 is2) same =
    let e : 92 ∷ 117 ∷ cs ++ a ≡ 92 ∷ 117 ∷ ds ++ b = same in let f : cs ++ a ≡ ds ++ b = cc in
    let g = same_braced cs ds a b value value2 is is2 f in (g.0, g.1)

-- no unit begins with a quote
pub unit_no_quote : (u a b : List ℕ) (v : ℕ) → IsUnit u v → u ++ a ≡ 34 ∷ b → ⊥
unit_no_quote u a b v (plain c is) same = not_plain c 34 is (let e : c ∷ a ≡ 34 ∷ b = same in cc) refl
unit_no_quote u a b v (short c value is) same = let e : 92 ∷ c ∷ a ≡ 34 ∷ b = same in let f : 92 ≡ 34 = cc in let g : (92 == 92) ≡ (34 == 92) = ap (λ (n : ℕ). n == 92) f in let h : true ≡ false = g in cc
unit_no_quote u a b v (long cs value is) same = let e : 92 ∷ 117 ∷ cs ++ a ≡ 34 ∷ b = same in let f : 92 ≡ 34 = cc in let g : (92 == 92) ≡ (34 == 92) = ap (λ (n : ℕ). n == 92) f in let h : true ≡ false = g in cc

-- what is left of a quoted text behind some of its units
pub record IsLeft (rest more : List ℕ) : Type 0 where
  pub inside : List ℕ
  pub values_left : List ℕ
  pub units : AreUnits inside values_left
  pub split : rest ≡ inside ++ 34 ∷ more

-- units at the front of a text are units of each quoted text there
pub units_front : (passed rest inside more values others : List ℕ) → AreUnits passed values → AreUnits inside others → passed ++ rest ≡ inside ++ 34 ∷ more → IsLeft rest more
units_front passed rest inside more values others no_units all same = record { inside = inside; values_left = others; units = all; split = same }
units_front passed rest inside more values others (unit f b v vs is are) no_units same = absurd (unit_no_quote f (b ++ rest) more v is (sym (append_assoc f b rest) ∙ same))
units_front passed rest inside more values others (unit f b v vs is are) (unit f2 b2 v2 vs2 is2 are2) same =
    let e = same_unit f f2 (b ++ rest) (b2 ++ 34 ∷ more) v v2 is is2 (sym (append_assoc f b rest) ∙ same ∙ append_assoc f2 b2 (34 ∷ more)) in
    let later = units_front b rest b2 more vs vs2 are are2 e.1 in
    record { inside = later.inside; values_left = later.values_left; units = later.units; split = later.split }

left_quote : (a more inside values : List ℕ) → AreUnits inside values → 34 ∷ a ≡ inside ++ 34 ∷ more → a ≡ more
left_quote a more inside values no_units same = let e : 34 ∷ a ≡ 34 ∷ more = same in cc
left_quote a more inside values (unit f b v vs is are) same = absurd (unit_no_quote f (b ++ 34 ∷ more) a v is (sym (append_assoc f b (34 ∷ more)) ∙ sym same))

quotes_open : (cs values a : List ℕ) (is : IsQuoted cs values) → cs ++ a ≡ 34 ∷ is.inside ++ 34 ∷ a
quotes_open cs values a is = ap (λ l. l ++ a) is.quotes ∙ ap (λ l. 34 ∷ l) (append_assoc is.inside (34 ∷ []) a)

-- the quoted text at the front of a text is one
pub same_quoted : (cs ds a b values others : List ℕ) → IsQuoted cs values → IsQuoted ds others → cs ++ a ≡ ds ++ b → length cs ≡ length ds
same_quoted cs ds a b values others one two same =
    let e : 34 ∷ one.inside ++ 34 ∷ a ≡ 34 ∷ two.inside ++ 34 ∷ b = sym (quotes_open cs values a one) ∙ same ∙ quotes_open ds others b two in
    let f : one.inside ++ 34 ∷ a ≡ two.inside ++ 34 ∷ b = cc in
    let left = units_front one.inside (34 ∷ a) two.inside b values others one.units two.units f in
    let g = left_quote a b left.inside left.values_left left.units left.split in
    let k = ap length same in let l = length-append cs a in let m = length-append ds b in let n = ap length g in
    omega arith

no_quote : (c : ℕ) → in_quotes c ≡ true → (c == 34) ≡ false
no_quote c is = grind (arith, nat_tests)

no_backslash : (c : ℕ) → in_quotes c ≡ true → (c == 92) ≡ false
no_backslash c is = grind (arith, nat_tests)

no_open : (c : ℕ) → is_hexadecimal c ≡ true → (c == 123) ≡ false
no_open c is = grind (arith, nat_tests)

no_close : (c : ℕ) → is_hexadecimal c ≡ true → (c == 125) ≡ false
no_close c is = grind (arith, nat_tests)

no_u : (c value : ℕ) → escape c ≡ Some value → (c == 117) ≡ false
no_u c value is = by (c == 117) refl
  where
    by : (b : Bool) → (c == 117) ≡ b → b ≡ false
    by false e = refl
    by true e = let f : None ≡ Some value = sym (ap escape (eqb-true c 117 e)) ∙ is in absurd (cc)

digits_stand_for : (before : ℕ) (digits rest : List ℕ) → AllIn is_hexadecimal digits → braced_from before (digits ++ 125 ∷ rest) ≡ amount 16 before digits ∷ plain_from rest
digits_stand_for before [] rest all = refl
digits_stand_for before (c ∷ digits) rest all =
    ap (λ b. if b then before ∷ plain_from (digits ++ 125 ∷ rest) else if c == 123 then braced_from 0 (digits ++ 125 ∷ rest) else braced_from (before * 16 + digit_value c) (digits ++ 125 ∷ rest)) (no_close c all.0)
    ∙ ap (λ b. if b then braced_from 0 (digits ++ 125 ∷ rest) else braced_from (before * 16 + digit_value c) (digits ++ 125 ∷ rest)) (no_open c all.0)
    ∙ digits_stand_for (before * 16 + digit_value c) digits rest all.1

-- a unit stands for its character
pub unit_stands_for : (u rest : List ℕ) (v : ℕ) → IsUnit u v → plain_from (u ++ rest) ≡ v ∷ plain_from rest
unit_stands_for u rest v (plain c is) =
    ap (λ b. if b then [] else if c == 92 then escape_from rest else c ∷ plain_from rest) (no_quote c is)
    ∙ ap (λ b. if b then escape_from rest else c ∷ plain_from rest) (no_backslash c is)
unit_stands_for u rest v (short c value is) =
    ap (λ b. if b then braced_from 0 rest else led_by (escape c) (plain_from rest)) (no_u c value is) ∙ ap (λ o. led_by o (plain_from rest)) is
unit_stands_for u rest v (long cs value is) =
    ap (λ l. braced_from 0 l) (braces_open cs rest value is) ∙ digits_stand_for 0 is.digits rest is.hexadecimal ∙ ap (λ n. n ∷ plain_from rest) (sym is.amounts)

units_stand_for : (inside values : List ℕ) → AreUnits inside values → plain_from (inside ++ 34 ∷ []) ≡ values
units_stand_for inside values no_units = refl
units_stand_for inside values (unit f b v vs is are) =
    ap (λ l. plain_from l) (append_assoc f b (34 ∷ [])) ∙ unit_stands_for f (b ++ 34 ∷ []) v is ∙ ap (λ l. v ∷ l) (units_stand_for b vs are)

-- what a quoted text stands for is one, and reading it from left to right gives that
pub quoted_stands_for : (text values : List ℕ) → IsQuoted text values → quoted_value text ≡ values
quoted_stands_for text values is = ap quoted_value is.quotes ∙ units_stand_for is.inside values is.units
