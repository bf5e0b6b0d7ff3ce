-- Characters of a text that grows.
use mir.Syntax.{w128}
use Rattle.std.proofs.Common.{ℤ, pos, negsuc, suc, FitsSigned, ◌^◌, ◌<◌, arith, ◌≡◌, ℕ, true, false, ◌&&◌, List, [], ◌∷◌, ◌++◌, refl, sym, ap, ◌∙◌, append-nil, append_assoc}
use Rattle.std.specs.Prelude.{encode_utf8, Result, Ok, Err, IfOk}
use Rattle.std.specs.Char.{IsScalar}
use Rattle.std.specs.Str.{chars, IsUtf8, IsAscii}
use Rattle.std.proofs.lemmas.Str.{chars-append, chars-encodes, chars-IsAscii, IsAscii-append}
use Rattle.std.proofs.lemmas.Fmt.{IsAscii-decimal_wide, digits_is_IsNumeral}
use Rattle.std.proofs.lemmas.Str.Ascii.{IsAscii-cons, IsAscii-nil}
use Rattle.std.proofs.lemmas.Bool.Decides.{nat_tests}
use Rattle.model_program.specs.Characters.{AllIn, is_hexadecimal}
use Rattle.model_grammar.proofs.Constants.{hexadecimal_characters}
use Rattle.std.specs.Fmt.{decimal, signed_decimal, digits}
use Rattle.model_tree.specs.Printed.{numbered, escaped, printed_text}
use Rattle.std.specs.List.{flat_map}
use Rattle.std.proofs.lemmas.List.Concat.{flat_map-append}
use Rattle.model_program.specs.Cuts.{texts_of}
use Rattle.model_grammar.specs.Printed.{whole}

-- bytes behind a text
pub chars_more : (old more new all : List ℕ) → IsUtf8 old → new ≡ old ++ more → chars old ≡ all → chars new ≡ all ++ chars more
chars_more old more new all utf8 same is = ap chars same ∙ chars-append old more utf8 ∙ ap (λ l. l ++ chars more) is

-- a character behind a text
pub character_more : (old new all : List ℕ) (c : ℕ) → IsScalar c → IsUtf8 old → new ≡ old ++ encode_utf8 c → chars old ≡ all → chars new ≡ all ++ c ∷ []
character_more old new all c scalar utf8 same is =
    let one : chars (encode_utf8 c) ≡ c ∷ [] = ap chars (sym (append-nil (encode_utf8 c))) ∙ chars-encodes (c ∷ []) (ap (λ b. b && true) scalar) in
    chars_more old (encode_utf8 c) new all utf8 same is ∙ ap (λ l. all ++ l) one

-- a fact of what is there follows from another
pub if_ok : {T E : Type 0} {P Q : T → Type 0} (r : Result T E) → ((x : T) → P x → Q x) → IfOk r P → IfOk r Q
if_ok (Ok x) into holds = into x holds
if_ok (Err e) into holds = tt

decimal_characters : (n : ℕ) → n < 10 ^ 64 → chars (decimal n) ≡ decimal n
decimal_characters n small = chars-IsAscii (decimal n) (IsAscii-decimal_wide n small)

-- the characters of a number
pub whole_characters : (z : ℤ) → FitsSigned w128 z → chars (signed_decimal z) ≡ texts_of (whole z)
unfolding chars lib.Utf8.encode
whole_characters (pos n) fits = decimal_characters n (omega (arith, fits)) ∙ sym (append-nil (decimal n))
whole_characters (negsuc n) fits = chars-append (45 ∷ []) (decimal (suc n)) ((45 ∷ []), (refl, refl)) ∙ ap (λ l. 45 ∷ l) (decimal_characters (suc n) (omega (arith, fits)) ∙ sym (append-nil (decimal (suc n))))

hexadecimal_small : (c : ℕ) → is_hexadecimal c ≡ true → c < 128
hexadecimal_small c is = grind (arith, nat_tests)

hexadecimal_ascii : (ds : List ℕ) → AllIn is_hexadecimal ds → IsAscii ds
hexadecimal_ascii [] all = IsAscii-nil
hexadecimal_ascii (c ∷ cs) all = IsAscii-cons c cs (hexadecimal_small c all.0) (hexadecimal_ascii cs all.1)

pub numbered_characters : (n : ℕ) → n < 128 → chars (numbered n) ≡ numbered n
numbered_characters n small =
    let numeral = digits_is_IsNumeral 16 false (omega arith) (omega arith) n (omega arith) in
    chars-IsAscii (numbered n) (IsAscii-cons 92 (117 ∷ 123 ∷ (digits 16 false n ++ 125 ∷ [])) (omega arith) (IsAscii-cons 117 (123 ∷ (digits 16 false n ++ 125 ∷ [])) (omega arith) (IsAscii-cons 123 (digits 16 false n ++ 125 ∷ []) (omega arith) (IsAscii-append (digits 16 false n) (125 ∷ []) (hexadecimal_ascii (digits 16 false n) (hexadecimal_characters (digits 16 false n) numeral.0.1)) (IsAscii-cons 125 [] (omega arith) IsAscii-nil)))))

-- a text in quotes
pub quoted_text : (before text : List ℕ) → ((before ++ 34 ∷ []) ++ flat_map escaped text) ++ 34 ∷ [] ≡ before ++ (printed_text text ++ [])
quoted_text before text = simp (append_assoc, append-nil)

pub escaped_more : (before front : List ℕ) (c : ℕ) → (before ++ flat_map escaped front) ++ escaped c ≡ before ++ flat_map escaped (front ++ c ∷ [])
escaped_more before front c = rw (flat_map-append escaped front (c ∷ []), append-nil (escaped c), append_assoc before (flat_map escaped front) (escaped c)) refl
