-- Texts that are among others, and texts that aren't.
use Rattle.std.proofs.Common.{◌≡◌, ◌+◌, ◌≤◌, ◌<◌, ℕ, zero, suc, max, List, [], ◌∷◌, ◌++◌, length, get_or, refl, ap, sym, ◌∙◌, subst, arith, All, Contains, inl, inr, ⊎_elim, ◌⊎◌}
use Rattle.std.specs.Str.{chars, IsUtf8, encode_utf8_all}
use Rattle.std.proofs.lemmas.List.Elements.{Contains-append_left, Contains-append_right, Contains-get_or}
use Rattle.std.proofs.lemmas.List.Recursion.{max_bounds}
use Rattle.std.proofs.lemmas.List.{length-append, get_or_append_left}
use Rattle.std.proofs.lemmas.Str.{encodes-chars}
use Rattle.flat_label.specs.Fresh.{AreFresh}

-- the most bytes that one of the texts has
abbrev pub longest : List (List ℕ) → ℕ
longest [] = 0
longest (t ∷ ts) = max (length (encode_utf8_all t)) (longest ts)

-- a text that is among others has no more bytes than the longest of them
pub among_short : (ts : List (List ℕ)) (bytes : List ℕ) → IsUtf8 bytes → Contains ts (chars bytes) → length bytes ≤ longest ts
among_short ts bytes utf8 (k, low, is) =
    let own : length (encode_utf8_all (get_or ts k (chars bytes))) ≡ length bytes = ap (λ t. length (encode_utf8_all t)) is ∙ ap length (encodes-chars bytes utf8) in
    let bound = max_bounds longest (λ t. length (encode_utf8_all t)) refl (λ _ _. refl) ts k (chars bytes) low in subst (λ n. n ≤ longest ts) own bound

-- texts that have at most so many bytes
abbrev pub AreShort : ℕ → List (List ℕ) → Type 0
AreShort n ts = All (λ t. length (encode_utf8_all t) ≤ n) ts

-- a text with more bytes is none of them
pub longer_new : (ts : List (List ℕ)) (t : List ℕ) (n : ℕ) → AreShort n ts → n < length (encode_utf8_all t) → ¬ (Contains ts t)
longer_new ts t n short long (k, low, is) = absurd (omega (arith, long, subst (λ s. length (encode_utf8_all s) ≤ n) is (short k t low)))

push_at : (ts : List (List ℕ)) (t d : List ℕ) (k : ℕ) → k < length (ts ++ t ∷ []) → ((k < length ts) × (get_or (ts ++ t ∷ []) k d ≡ get_or ts k d)) ⊎ ((k ≡ length ts) × (get_or (ts ++ t ∷ []) k d ≡ t))
push_at [] t d zero low = inr (refl, refl)
push_at [] t d (suc k) low = absurd (omega arith)
push_at (x ∷ ts) t d zero low = inl (omega arith, refl)
push_at (x ∷ ts) t d (suc k) low = ⊎_elim (λ h. inl (omega (arith, h.0), h.1)) (λ h. inr (ap suc h.0, h.1)) (push_at ts t d k (omega arith))

-- one more text that is neither a given one nor one of those before it
pub one_more_fresh : (n : ℕ) (given ts : List (List ℕ)) (t : List ℕ) → AreFresh n given ts → ¬ (Contains (given ++ ts) t) → AreFresh (n + 1) given (ts ++ t ∷ [])
one_more_fresh n given ts t fresh new = record {
  many = rw length-append (omega (arith, fresh.many));
  apart = λ i j d below low. ⊎_elim
      (λ h same. fresh.apart i j d below h.0 (sym (earlier i d (omega (arith, h.0))) ∙ same ∙ h.1))
      (λ h same. new (Contains-append_right given ts t (subst (Contains ts) (sym (earlier i d (omega (arith, h.0))) ∙ same ∙ h.1) (Contains-get_or ts i d (omega (arith, h.0))))))
      (push_at ts t d j low);
  new = λ k d low. ⊎_elim
      (λ h found. fresh.new k d h.0 (subst (Contains given) h.1 found))
      (λ h found. new (Contains-append_left given ts t (subst (Contains given) h.1 found)))
      (push_at ts t d k low);
} where
  earlier : (i : ℕ) (d : List ℕ) → i < length ts → get_or (ts ++ t ∷ []) i d ≡ get_or ts i d
  earlier i d low = get_or_append_left ts (t ∷ []) d i low
