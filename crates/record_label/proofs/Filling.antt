-- The first eight numbers of a list.
use Rattle.std.proofs.Common.{◌≡◌, ◌<◌, ◌≤◌, ◌+◌, ◌++◌, length, take, map, ap, ℕ, List, [], ◌∷◌, get_or, refl, sym, ◌∙◌, arith, ◌⊎◌, inl, inr}
use Rattle.std.proofs.Math.IntN.{ℤ, pos}
use Rattle.std.proofs.Math.ListN.{set, length-set}
use Rattle.std.proofs.lemmas.Bool.{cases_order}
use Rattle.std.proofs.lemmas.Grind.{get_or-set_at}
use Rattle.std.proofs.lemmas.List.{get_or-set_other, get_or_append_left, get_or_push, get_or_past, length_push, take_more, map-append, append-nil}
use Rattle.model_tree.specs.Label.{Field, whole, truth, text}
use Rattle.model_guard.specs.Forms.{wholes_in}
use Rattle.fast_tree.specs.Entries.{field_of}
use Rattle.fast_tree.specs.declared.label.Value.{Value}
use Rattle.fast_tree.specs.declared.label.Value.TheVariants.{Int, Bool, Text}

-- eight numbers: the first of the others, as many as there are, and then 0
pub record AreFirst (ws : List ℤ) (n : ℕ) (ns : List ℤ) : Type 0 where
  pub eight : length ws ≡ 8
  pub many : n ≤ 8
  pub low : n ≤ length ns
  pub all : n < 8 → length ns ≤ n
  pub first : (k : ℕ) → k < 8 → get_or ws k (pos 0) ≡ get_or ns k (pos 0)

-- one more, where there are eight
pub no_more : (ws ns : List ℤ) (n : ℕ) (z : ℤ) → 8 ≤ n → AreFirst ws n ns → AreFirst ws n (ns ++ z ∷ [])
no_more ws ns n z late h = record {
  eight = h.eight;
  many = h.many;
  low = let l = h.low in let e = length_push ns z in omega arith;
  all = λ l. absurd (omega (arith, late, l));
  first = λ k l. h.first k l ∙ sym (get_or_append_left ns (z ∷ []) (pos 0) k (let m = h.low in omega arith));
}

-- one more, where there are fewer
pub one_further : (ws ns : List ℤ) (n : ℕ) (z : ℤ) → n < 8 → AreFirst ws n ns → AreFirst (set ws n z) (n + 1) (ns ++ z ∷ [])
one_further ws ns n z early h = record {
  eight = length-set ws n z ∙ h.eight;
  many = omega arith;
  low = let e = length_push ns z in omega arith;
  all = λ l. let e = length_push ns z in omega arith;
  first = λ k l. now k l (cases_order k n);
}
  where
    same : length ns ≡ n
    same = let l = h.low in let m = h.all early in omega arith

    past : (k : ℕ) → n < k → get_or ns k (pos 0) ≡ get_or (ns ++ z ∷ []) k (pos 0)
    past k l = let e = length_push ns z in get_or_past ns k (pos 0) (omega (arith, same, l)) ∙ sym (get_or_past (ns ++ z ∷ []) k (pos 0) (omega (arith, same, l)))

    before : (k : ℕ) → k < n → get_or ns k (pos 0) ≡ get_or (ns ++ z ∷ []) k (pos 0)
    before k l = sym (get_or_append_left ns (z ∷ []) (pos 0) k (omega (arith, same, l)))

    now : (k : ℕ) → k < 8 → (k ≡ n) ⊎ ((k < n) ⊎ (n < k)) → get_or (set ws n z) k (pos 0) ≡ get_or (ns ++ z ∷ []) k (pos 0)
    now k l (inr (inl m)) = get_or-set_other ws n k z (pos 0) (λ q. absurd (omega (arith, m, q))) ∙ h.first k l ∙ before k m
    now k l (inl m) = get_or-set_at ws n k z (pos 0) m (let e = h.eight in omega (arith, early, e)) ∙ sym (get_or_push ns z (pos 0) k (same ∙ sym m))
    now k l (inr (inr m)) = get_or-set_other ws n k z (pos 0) (λ q. absurd (omega (arith, m, q))) ∙ h.first k l ∙ past k m

pub wholes_push : (vs : List Field) (f : Field) → wholes_in (vs ++ f ∷ []) ≡ wholes_in vs ++ wholes_in (f ∷ [])
wholes_push [] f = refl
wholes_push (whole n ∷ vs) f = ap (λ ns. n ∷ ns) (wholes_push vs f)
wholes_push (truth b ∷ vs) f = wholes_push vs f
wholes_push (text t ∷ vs) f = wholes_push vs f

-- the whole numbers of one value more
pub wholes_more : (vs : List Value) (i : ℕ) (v : Value) → i < length vs → v ≡ get_or vs i v → wholes_in (map field_of (take (i + 1) vs)) ≡ wholes_in (map field_of (take i vs)) ++ wholes_in (field_of v ∷ [])
wholes_more vs i v low is =
    ap (λ us. wholes_in (map field_of us)) (take_more vs i v low ∙ ap (λ u. take i vs ++ u ∷ []) (sym is))
    ∙ ap wholes_in (map-append field_of (take i vs) (v ∷ []))
    ∙ wholes_push (map field_of (take i vs)) (field_of v)

pub no_whole : (ns : List ℤ) (v : Value) → ((n : ℤ) → v ≡ Int n → ⊥) → ns ++ wholes_in (field_of v ∷ []) ≡ ns
no_whole ns (Int n) h = absurd (h n refl)
no_whole ns (Bool b) h = append-nil ns
no_whole ns (Text t) h = append-nil ns
