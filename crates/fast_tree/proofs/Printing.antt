-- Printed texts, piece by piece.
use Rattle.std.proofs.Common.{◌≡◌, ℕ, ◌+◌, suc, drop, drop-cons, add-one, ℤ, ◌^◌, ◌/◌, ◌%◌, inl, inr, false, ◌<◌, ◌≤◌, List, [], ◌∷◌, ◌++◌, length, get_or, map, refl, ap, sym, ◌∙◌, append_assoc, append-nil, arith}
use Rattle.std.specs.Prelude.{codes}
use Rattle.std.specs.List.{flat_map}
use Rattle.std.specs.Str.{encode_utf8_all}
use lib.Utf8.{encode}
use lib.Signed.{mag}
use Rattle.std.proofs.lemmas.Str.{encodes-append, encode_ascii, encodes-IsAscii}
use Rattle.std.proofs.lemmas.Fmt.{IsAscii-signed, hex_one_digit, hex_two_digits}
use Rattle.std.proofs.lemmas.Bool.Decides.{nat_tests}
use Rattle.std.proofs.lemmas.Bool.{cases_lt}
use Rattle.std.proofs.lemmas.List as lists
use Rattle.std.proofs.Math.ListN.{get_or-map}
use Rattle.std.specs.Fmt.{digits, digit_glyph, signed_decimal}
use Rattle.std.proofs.lemmas.List.Concat.{flat_map-append}
use Rattle.model_tree.specs.Label.{Label}
use Rattle.model_tree.specs.Tree.{Tree, constructor_of, relabel}
use Rattle.model_tree.proofs.Typed.{typed_constructor}
use Rattle.model_tree.specs.Signature.{PlainConstructor, HasType, names_of}
use Rattle.fast_tree.specs.declared.signature.Signature.{Signature}
use Rattle.fast_tree.specs.declared.signature.CtorOf.{CtorOf}
use Rattle.fast_tree.specs.Signatures.{plain_constructor, plain_signature}
use Rattle.fast_tree.specs.declared.label.Value.{Value}
use Rattle.fast_tree.specs.Entries.{field_of}
use Rattle.model_tree.specs.Printed.{joined, printed_field, escaped, numbered}

-- the first of what is left of a list
pub drop_at : {A : Type 0} (xs : List A) (i : ℕ) (x : A) → i < length xs → x ≡ get_or xs i x → drop i xs ≡ x ∷ drop (i + 1) xs
drop_at xs i x h e = rw add-one (drop-cons xs i x h ∙ ap (λ y. y ∷ drop (suc i) xs) (sym e))

-- the fields after the first, each with its separator
abbrev pub later_fields : List Value → List ℕ
later_fields values = flat_map (λ p. codes ", " ++ p) (map printed_field (map field_of values))

field_more : (out field rest : List ℕ) → ((out ++ codes ", ") ++ encode_utf8_all field) ++ encode_utf8_all rest ≡ out ++ encode_utf8_all ((codes ", " ++ field) ++ rest)
unfolding encode
field_more out field rest = simp (encodes-append, append_assoc)

pub fields_more : (out : List ℕ) (value : Value) (values : List Value) → ((out ++ codes ", ") ++ encode_utf8_all (printed_field (field_of value))) ++ encode_utf8_all (later_fields values) ≡ out ++ encode_utf8_all (later_fields (value ∷ values))
fields_more out value values = field_more out (printed_field (field_of value)) (later_fields values)

-- the first field and the later ones
pub fields_begin : (out : List ℕ) (first : Value) (later values : List Value) → values ≡ first ∷ later → (out ++ encode_utf8_all (printed_field (field_of first))) ++ encode_utf8_all (later_fields later) ≡ out ++ encode_utf8_all (joined (codes ", ") (map printed_field (map field_of values)))
fields_begin out first later values e = rw e (rw (encodes-append (printed_field (field_of first)) (later_fields later)) (append_assoc out (encode_utf8_all (printed_field (field_of first))) (encode_utf8_all (later_fields later))))

-- one more character of a text
pub character_more : (out front : List ℕ) (c : ℕ) → (out ++ encode_utf8_all (flat_map escaped front)) ++ encode_utf8_all (escaped c) ≡ out ++ encode_utf8_all (flat_map escaped (front ++ c ∷ []))
character_more out front c = rw (flat_map-append escaped front (c ∷ []), append-nil (escaped c), encodes-append (flat_map escaped front) (escaped c), append_assoc out (encode_utf8_all (flat_map escaped front)) (encode_utf8_all (escaped c))) refl

-- digits are one byte each
pub number_bytes : (z : ℤ) → mag z < 2 ^ 63 → encode_utf8_all (signed_decimal z) ≡ signed_decimal z
number_bytes z h = encodes-IsAscii (signed_decimal z) (IsAscii-signed z h)

digit_byte : (n : ℕ) → n < 16 → encode (digit_glyph false n) ≡ digit_glyph false n ∷ []
digit_byte n h = encode_ascii (digit_glyph false n) (grind (arith, nat_tests))

one_digit : (n : ℕ) → n < 16 → encode_utf8_all (digits 16 false n) ≡ digits 16 false n
one_digit n h = rw (hex_one_digit false n h) (ap (λ xs. xs ++ []) (digit_byte n h))

two_digits : (n : ℕ) → 16 ≤ n → n < 128 → encode_utf8_all (digits 16 false n) ≡ digits 16 false n
two_digits n low high = rw (hex_two_digits false n low (omega arith)) (λ i. digit_byte (n / 16) (omega arith) i ++ (digit_byte (n % 16) (omega arith) i ++ []))

hex_bytes : (n : ℕ) → n < 128 → encode_utf8_all (digits 16 false n) ≡ digits 16 false n
hex_bytes n h = elim (cases_lt n 16) [ inl low ↦ one_digit n low | inr high ↦ two_digits n high h ]

-- the number of a control character
pub number_escape : (n : ℕ) → n < 128 → encode_utf8_all (numbered n) ≡ numbered n
unfolding encode
number_escape n h = ap (λ xs. codes "\\u{" ++ xs) (encodes-append (digits 16 false n) (codes "}") ∙ ap (λ xs. xs ++ codes "}") (hex_bytes n h))

-- a text in quotes
pub quoted : (out text : List ℕ) → ((out ++ 34 ∷ []) ++ encode_utf8_all text) ++ 34 ∷ [] ≡ out ++ encode_utf8_all (34 ∷ (text ++ 34 ∷ []))
unfolding encode
quoted out text = simp (encodes-append, append_assoc)

-- the pieces of a node
pub node_text : (out name label children : List ℕ) → ((((((out ++ 40 ∷ []) ++ encode_utf8_all name) ++ 32 ∷ 91 ∷ []) ++ encode_utf8_all label) ++ 93 ∷ []) ++ encode_utf8_all children) ++ 41 ∷ [] ≡ out ++ encode_utf8_all (codes "(" ++ (name ++ (codes " [" ++ (label ++ (codes "]" ++ (children ++ codes ")"))))))
unfolding encode
node_text out name label children = simp (encodes-append, append_assoc)

-- a node that is written piece by piece
pub node_written : (out name label children : List ℕ) {a b c d e f g : List ℕ} → a ≡ out ++ 40 ∷ [] → b ≡ a ++ encode_utf8_all name → c ≡ b ++ 32 ∷ 91 ∷ [] → d ≡ c ++ encode_utf8_all label → e ≡ d ++ 93 ∷ [] → f ≡ e ++ encode_utf8_all children → g ≡ f ++ 41 ∷ [] → g ≡ out ++ encode_utf8_all (codes "(" ++ (name ++ (codes " [" ++ (label ++ (codes "]" ++ (children ++ codes ")"))))))
node_written out name label children p q r s t u v =
    let whole = node_text out name label children in
    cc

-- a constructor's name
pub name_at : (s : Signature) (i : ℕ) (d : CtorOf) → i < length s.constructors.items → get_or (names_of (plain_signature s)) i [] ≡ (get_or s.constructors.items i d).name
name_at s i d h =
    let bound : i < length (map plain_constructor s.constructors.items) = rw lists.length-map h in
    lists.get_or-map (λ (c : PlainConstructor). c.name) (map plain_constructor s.constructors.items) i (plain_constructor d) [] bound ∙ ap (λ (c : PlainConstructor). c.name) (get_or-map plain_constructor s.constructors.items i d)

-- a space and a child, and what comes after them
pub child_more : (out child rest : List ℕ) → ((out ++ 32 ∷ []) ++ encode_utf8_all child) ++ encode_utf8_all rest ≡ out ++ encode_utf8_all (codes " " ++ (child ++ rest))
unfolding encode
child_more out child rest = simp (encodes-append, append_assoc)

-- the constructor's number of a tree that has the type
pub typed_number : {A : Type 0} (f : A → Label) (s : Signature) (t : Tree A) → HasType (plain_signature s) (relabel f t) → constructor_of t < length s.constructors.items
typed_number f s t h = simp lists.length-map at (typed_constructor f (plain_signature s) t h)

pub ruleset on_characters = (number_bytes, number_escape)
