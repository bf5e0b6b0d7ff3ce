-- Characters that are bytes.
use Rattle.std.proofs.Common.{ℕ, ◌≡◌, ◌<◌, ◌+◌, List, [], ◌∷◌, ◌++◌, true, get_or, take, length, append_assoc, append-nil, Fits, w8, add-one, suc, ap, ◌∙◌, sym, refl, arith}
use Rattle.std.specs.Prelude.{encode_utf8, encode_utf8_all}
use Rattle.std.specs.Str.{chars}
use Rattle.std.proofs.Math.Utf8.{scalars, low_scalar}
use Rattle.std.proofs.Math.Seq.{take-suc}
use Rattle.std.proofs.lemmas.Str.{chars-encodes}

encodes_last : (xs : List ℕ) (c : ℕ) → encode_utf8_all (xs ++ (c ∷ [])) ≡ encode_utf8_all xs ++ encode_utf8 c
encodes_last [] c = append-nil (encode_utf8 c)
encodes_last (x ∷ xs) c = ap (λ z. encode_utf8 x ++ z) (encodes_last xs c) ∙ sym (append_assoc (encode_utf8 x) (encode_utf8_all xs) (encode_utf8 c))

-- a byte more
pub encodes_more : (xs : List ℕ) (i c d : ℕ) → i < length xs → c ≡ get_or xs i d → encode_utf8_all (take (i + 1) xs) ≡ encode_utf8_all (take i xs) ++ encode_utf8 c
encodes_more xs i c d low is =
    ap encode_utf8_all (ap (λ j. take j xs) (add-one i) ∙ (take-suc xs i d low ∙ ap (λ x. take i xs ++ (x ∷ [])) (sym is))) ∙ encodes_last (take i xs) c

bytes_scalars : (xs : List ℕ) → ((i : ℕ) → Fits w8 (get_or xs i 0)) → scalars xs ≡ true
bytes_scalars [] fit = refl
bytes_scalars (x ∷ xs) fit =
    let first = low_scalar x (omega (arith, fit 0)) in
    let others = bytes_scalars xs (λ i. fit (suc i)) in
    cc

-- the text whose characters are the bytes has these characters
pub bytes_chars : (xs : List ℕ) → ((i : ℕ) → Fits w8 (get_or xs i 0)) → chars (encode_utf8_all xs) ≡ xs
bytes_chars xs fit = chars-encodes xs (bytes_scalars xs fit)
