-- One more number of an opposite.
use Rattle.std.proofs.Common.{ℕ, ◌+◌, ◌≡◌, ◌<◌, ◌≤◌, ◌⊎◌, inl, inr, List, [], ◌∷◌, ◌++◌, get_or, length, refl, sym, ap, subst, ◌∙◌, arith}
use Rattle.std.proofs.lemmas.Bool.{cases_lt}
use Rattle.std.proofs.lemmas.List.{get_or_append_left, get_or_at, length_push}
use Rattle.model_sta.specs.Sets.{Row}
use Rattle.sta_ops.specs.Numbers.{HasNoOpposite, IsOppositeAmong, IsNumber, AreNumbered}

pub none_numbered : (rows : List Row) (n count : ℕ) → count ≡ 0 → AreNumbered rows n count [] []
none_numbered rows n count e = record { many = sym e; each = λ s low. absurd (omega (arith, low, e)); fresh_low = λ f low. absurd (omega arith); fresh_at = λ f low. absurd (omega arith); fresh_need = λ f low. absurd (omega arith) }

module _ (rows : List Row) (n count : ℕ) (numbers fresh : List ℕ) (h : AreNumbered rows n count numbers fresh) (t : ℕ) where
  abbrev numbers' : List ℕ
  numbers' = numbers ++ t ∷ []

  old_at : (s : ℕ) → s < count → get_or numbers' s 0 ≡ get_or numbers s 0
  old_at s low = get_or_append_left numbers (t ∷ []) 0 s (omega (arith, low, h.many))

  last_at : (s : ℕ) → s ≡ count → get_or numbers' s 0 ≡ t
  last_at s e = get_or_at numbers t [] 0 s (h.many ∙ sym e)

  there_numbered : IsOppositeAmong rows n count t → AreNumbered rows n (count + 1) numbers' fresh
  there_numbered is = record {
    many = length_push numbers t ∙ ap (λ k. k + 1) h.many;
    each = λ s low. elim (cases_lt s count) [
      | inl before ↦ subst (λ k. IsOppositeAmong rows n s k ⊎ ((f : ℕ) × (f < length fresh) × (get_or fresh f 0 ≡ s) × (k ≡ n + f))) (sym (old_at s before)) (h.each s before)
      | inr past ↦ (let e : s ≡ count = omega (arith, past, low) in inl (subst (λ k. IsOppositeAmong rows n s k) (sym (last_at s e)) (subst (λ k. IsOppositeAmong rows n k t) (sym e) is)))
    ];
    fresh_low = λ f low. omega (arith, h.fresh_low f low);
    fresh_at = λ f low. old_at (get_or fresh f 0) (h.fresh_low f low) ∙ h.fresh_at f low;
    fresh_need = h.fresh_need;
  }

  new_numbered : HasNoOpposite rows n count → t ≡ n + length fresh → AreNumbered rows n (count + 1) numbers' (fresh ++ count ∷ [])
  new_numbered none is = record {
    many = length_push numbers t ∙ ap (λ k. k + 1) h.many;
    each = λ s low. elim (cases_lt s count) [
      | inl before ↦ subst (λ k. IsOppositeAmong rows n s k ⊎ ((f : ℕ) × (f < length (fresh ++ count ∷ [])) × (get_or (fresh ++ count ∷ []) f 0 ≡ s) × (k ≡ n + f))) (sym (old_at s before)) (elim (h.each s before) [
        | inl there ↦ inl there
        | inr new ↦ (let (f, f_low, f_is, at) = new in inr (f, omega (arith, f_low, length_push fresh count), get_or_append_left fresh (count ∷ []) 0 f f_low ∙ f_is, at))
      ])
      | inr past ↦ (
          let e : s ≡ count = omega (arith, past, low) in
          inr (length fresh, omega (arith, length_push fresh count), get_or_at fresh count [] 0 (length fresh) refl ∙ sym e, last_at s e ∙ is))
    ];
    fresh_low = λ f low. elim (cases_lt f (length fresh)) [
      | inl before ↦ omega (arith, get_or_append_left fresh (count ∷ []) 0 f before, h.fresh_low f before)
      | inr past ↦ omega (arith, get_or_at fresh count [] 0 f (last f low past))
    ];
    fresh_at = λ f low. elim (cases_lt f (length fresh)) [
      | inl before ↦ ap (λ s. get_or numbers' s 0) (get_or_append_left fresh (count ∷ []) 0 f before) ∙ old_at (get_or fresh f 0) (h.fresh_low f before) ∙ h.fresh_at f before
      | inr past ↦ last_at (get_or (fresh ++ count ∷ []) f 0) (get_or_at fresh count [] 0 f (last f low past)) ∙ is ∙ ap (λ k. n + k) (last f low past)
    ];
    fresh_need = λ f low. elim (cases_lt f (length fresh)) [
      | inl before ↦ subst (HasNoOpposite rows n) (sym (get_or_append_left fresh (count ∷ []) 0 f before)) (h.fresh_need f before)
      | inr past ↦ subst (HasNoOpposite rows n) (sym (get_or_at fresh count [] 0 f (last f low past))) none
    ];
  }
    where
      last : (f : ℕ) → f < length (fresh ++ count ∷ []) → length fresh ≤ f → length fresh ≡ f
      last f low past = omega (arith, low, past, length_push fresh count)

  pub next_numbered : (new next : List ℕ) → next ≡ numbers ++ t ∷ [] → IsNumber rows n count fresh new t → AreNumbered rows n (count + 1) next new
  next_numbered new next put is = subst (λ l. AreNumbered rows n (count + 1) l new) (sym put) (elim is [
    | inl there ↦ subst (AreNumbered rows n (count + 1) numbers') (sym there.1) (there_numbered there.0)
    | inr fresh_one ↦ subst (AreNumbered rows n (count + 1) numbers') (sym fresh_one.2) (new_numbered fresh_one.0 fresh_one.1)
  ])
