-- Facts on the kinds at a place.
use Rattle.std.proofs.Common.{ℕ, ◌≡◌, ◌<◌, ◌≤◌, ◌⊎◌, inl, inr, ◌↔◌, Bool, true, false, true≢false, not, cond, if◌then◌else◌, List, [], ◌∷◌, ◌++◌, map, get_or, slice_get, Some, length, Contains, refl, sym, ap, subst, ◌∙◌, arith}
use Rattle.std.specs.Bool.{beq}
use Rattle.std.specs.List.{list_any}
use Rattle.std.specs.Cmp.{booleans_Decides}
use Rattle.std.specs.Cmp.Lexicographic.{pointwise}
use Rattle.std.proofs.lemmas.Bool.{cases_lt}
use Rattle.std.proofs.lemmas.Slice.Eq.{slice_eq-Decides}
use Rattle.std.proofs.lemmas.Option.{get_or_from_slice_get, slice_get_within}
use Rattle.std.proofs.lemmas.List.{length_push, get_or_append_left, get_or_at}
use Rattle.model_sta.specs.Sets.{Row, has}
use Rattle.model_sta.proofs.Reached.{same_default}
use Rattle.sta_classes.specs.Places.{AreNumbered}
use Rattle.sta_theory.proofs.Lists.{any_true}

module _ {X : Type 0} (xs : List X) (y d : X) where
  pub old_at : (k : ℕ) → k < length xs → get_or (xs ++ y ∷ []) k d ≡ get_or xs k d
  old_at k low = get_or_append_left xs (y ∷ []) d k low

  pub new_at : (k : ℕ) → k ≡ length xs → get_or (xs ++ y ∷ []) k d ≡ y
  new_at k e = get_or_at xs y [] d k (sym e)

module _ (states kind_of firsts : List ℕ) (keys rows : List Row) (row : Row) (h : AreNumbered states kind_of firsts keys rows) where
  -- one more class of a kind that is there
  same_kind : (kind : ℕ) → kind < length keys → get_or keys kind [] ≡ map (has row) states → AreNumbered states (kind_of ++ kind ∷ []) firsts keys (rows ++ row ∷ [])
  same_kind kind low at = record {
    many = omega (arith, h.many, length_push kind_of kind, length_push rows row);
    low = λ k l. elim (cases_lt k (length rows)) [
      | inl below ↦ subst (λ z. z < length keys) (sym (old_at kind_of kind 0 k (omega (arith, below, h.many)))) (h.low k below)
      | inr past ↦ subst (λ z. z < length keys) (sym (new_at kind_of kind 0 k (omega (arith, past, l, h.many, length_push rows row)))) low
    ];
    keys_are = λ k l. elim (cases_lt k (length rows)) [
      | inl below ↦ ap (λ z. get_or keys z []) (old_at kind_of kind 0 k (omega (arith, below, h.many))) ∙ h.keys_are k below ∙ sym (ap (λ r. map (has r) states) (old_at rows row [] k below))
      | inr past ↦
          ap (λ z. get_or keys z []) (new_at kind_of kind 0 k (omega (arith, past, l, h.many, length_push rows row))) ∙ at ∙ sym (ap (λ r. map (has r) states) (new_at rows row [] k (omega (arith, past, l, length_push rows row))))
    ];
    distinct = h.distinct;
    one_each = h.one_each;
    few = omega (arith, h.few, length_push rows row);
    firsts_low = λ i l. omega (arith, h.firsts_low i l, length_push rows row);
    firsts_are = λ i l. old_at kind_of kind 0 (get_or firsts i 0) (omega (arith, h.firsts_low i l, h.many)) ∙ h.firsts_are i l;
    first = λ k l. elim (cases_lt k (length rows)) [
      | inl below ↦ subst (λ z. get_or firsts z 0 ≤ k) (sym (old_at kind_of kind 0 k (omega (arith, below, h.many)))) (h.first k below)
      | inr past ↦ omega (arith, ap (λ z. get_or firsts z 0) (new_at kind_of kind 0 k (omega (arith, past, l, h.many, length_push rows row))), h.firsts_low kind (omega (arith, low, h.one_each)), past)
    ];
  }

  apart : ¬ Contains keys (map (has row) states) → (i m : ℕ) → i < length keys → m ≡ length keys → get_or (keys ++ map (has row) states ∷ []) i [] ≡ get_or (keys ++ map (has row) states ∷ []) m [] → ⊥
  apart new i m l e same =
      new (i, l, same_default keys i (map (has row) states) [] l ∙ sym (old_at keys (map (has row) states) [] i l) ∙ same ∙ new_at keys (map (has row) states) [] m e)

  -- one more class, which is the first of its kind
  new_kind : ¬ Contains keys (map (has row) states) → AreNumbered states (kind_of ++ length keys ∷ []) (firsts ++ length kind_of ∷ []) (keys ++ map (has row) states ∷ []) (rows ++ row ∷ [])
  new_kind new = record {
    many = omega (arith, h.many, length_push kind_of (length keys), length_push rows row);
    low = λ k l. elim (cases_lt k (length rows)) [
      | inl below ↦ subst (λ z. z < length (keys ++ map (has row) states ∷ [])) (sym (old_at kind_of (length keys) 0 k (omega (arith, below, h.many)))) (omega (arith, h.low k below, length_push keys (map (has row) states)))
      | inr past ↦
          subst (λ z. z < length (keys ++ map (has row) states ∷ [])) (sym (new_at kind_of (length keys) 0 k (omega (arith, past, l, h.many, length_push rows row)))) (omega (arith, length_push keys (map (has row) states)))
    ];
    keys_are = λ k l. elim (cases_lt k (length rows)) [
      | inl below ↦
          ap (λ z. get_or (keys ++ map (has row) states ∷ []) z []) (old_at kind_of (length keys) 0 k (omega (arith, below, h.many))) ∙ old_at keys (map (has row) states) [] (get_or kind_of k 0) (h.low k below)
          ∙ h.keys_are k below ∙ sym (ap (λ r. map (has r) states) (old_at rows row [] k below))
      | inr past ↦
          ap (λ z. get_or (keys ++ map (has row) states ∷ []) z []) (new_at kind_of (length keys) 0 k (omega (arith, past, l, h.many, length_push rows row))) ∙ new_at keys (map (has row) states) [] (length keys) refl
          ∙ sym (ap (λ r. map (has r) states) (new_at rows row [] k (omega (arith, past, l, length_push rows row))))
    ];
    distinct = λ i m l n same. elim (cases_lt i (length keys)) [
      | inl i_low ↦ elim (cases_lt m (length keys)) [
        | inl m_low ↦ h.distinct i m i_low m_low (sym (old_at keys (map (has row) states) [] i i_low) ∙ same ∙ old_at keys (map (has row) states) [] m m_low)
        | inr m_past ↦ absurd (apart new i m i_low (omega (arith, m_past, n, length_push keys (map (has row) states))) same)
      ]
      | inr i_past ↦ elim (cases_lt m (length keys)) [
        | inl m_low ↦ absurd (apart new m i m_low (omega (arith, i_past, l, length_push keys (map (has row) states))) (sym same))
        | inr m_past ↦ omega (arith, i_past, m_past, l, n, length_push keys (map (has row) states))
      ]
    ];
    one_each = omega (arith, h.one_each, length_push firsts (length kind_of), length_push keys (map (has row) states));
    few = omega (arith, h.few, length_push firsts (length kind_of), length_push rows row);
    firsts_low = λ i l. elim (cases_lt i (length firsts)) [
      | inl below ↦ omega (arith, old_at firsts (length kind_of) 0 i below, h.firsts_low i below, length_push rows row)
      | inr past ↦ omega (arith, new_at firsts (length kind_of) 0 i (omega (arith, past, l, length_push firsts (length kind_of))), h.many, length_push rows row)
    ];
    firsts_are = λ i l. elim (cases_lt i (length firsts)) [
      | inl below ↦
          ap (λ z. get_or (kind_of ++ length keys ∷ []) z 0) (old_at firsts (length kind_of) 0 i below) ∙ old_at kind_of (length keys) 0 (get_or firsts i 0) (omega (arith, h.firsts_low i below, h.many)) ∙ h.firsts_are i below
      | inr past ↦
          ap (λ z. get_or (kind_of ++ length keys ∷ []) z 0) (new_at firsts (length kind_of) 0 i (omega (arith, past, l, length_push firsts (length kind_of)))) ∙ new_at kind_of (length keys) 0 (length kind_of) refl
          ∙ omega (arith, past, l, length_push firsts (length kind_of), h.one_each)
    ];
    first = λ k l. elim (cases_lt k (length rows)) [
      | inl below ↦
          omega (
            arith,
            ap (λ z. get_or (firsts ++ length kind_of ∷ []) z 0) (old_at kind_of (length keys) 0 k (omega (arith, below, h.many))),
            old_at firsts (length kind_of) 0 (get_or kind_of k 0) (omega (arith, h.low k below, h.one_each)),
            h.first k below,
          )
      | inr past ↦
          omega (
            arith,
            ap (λ z. get_or (firsts ++ length kind_of ∷ []) z 0) (new_at kind_of (length keys) 0 k (omega (arith, past, l, h.many, length_push rows row))),
            new_at firsts (length kind_of) 0 (length keys) (sym h.one_each),
            past,
            h.many,
          )
    ];
  }

  -- what a set of keys says of one that is put into it
  pub next_numbered : (kind_of' firsts' : List ℕ) (keys' : List Row) (kind : ℕ) (new : Bool) (value : Row) → value ≡ map (has row) states
      → new ≡ not (list_any (pointwise beq value) keys) → keys' ≡ (if list_any (pointwise beq value) keys then keys else keys ++ value ∷ [])
      → ((k : Row) × (slice_get keys' kind ≡ Some k) × (pointwise beq value k ≡ true)) → kind_of' ≡ kind_of ++ kind ∷ [] → firsts' ≡ cond new (firsts ++ length kind_of ∷ []) firsts
      → AreNumbered states kind_of' firsts' keys' (rows ++ row ∷ [])
  next_numbered kind_of' firsts' keys' kind new value is added made stored put noted = by (list_any (pointwise beq value) keys) refl
    where
      value_is : value ≡ stored.0
      value_is = (slice_eq-Decides booleans_Decides value stored.0 (pointwise beq value stored.0) refl).0 stored.2

      at : get_or keys' kind [] ≡ map (has row) states
      at = get_or_from_slice_get keys' kind stored.0 [] stored.1 ∙ sym value_is ∙ is

      within : kind < length keys'
      within = slice_get_within keys' kind stored.0 stored.1

      found : Contains keys value → list_any (pointwise beq value) keys ≡ true
      found there = any_true (pointwise beq value) keys value there ((slice_eq-Decides booleans_Decides value value (pointwise beq value value) refl).1 refl)

      by : (b : Bool) → list_any (pointwise beq value) keys ≡ b → AreNumbered states kind_of' firsts' keys' (rows ++ row ∷ [])
      by true e =
          let same_keys : keys' ≡ keys = made ∙ ap (λ b. if b then keys else keys ++ value ∷ []) e in
          let same_firsts : firsts' ≡ firsts = noted ∙ ap (λ b. cond b (firsts ++ length kind_of ∷ []) firsts) (added ∙ ap not e) in
          subst (λ z. AreNumbered states z firsts' keys' (rows ++ row ∷ [])) (sym put)
          (subst (λ z. AreNumbered states (kind_of ++ kind ∷ []) z keys' (rows ++ row ∷ [])) (sym same_firsts)
          (subst (λ z. AreNumbered states (kind_of ++ kind ∷ []) firsts z (rows ++ row ∷ [])) (sym same_keys)
          (same_kind kind (subst (λ z. kind < length z) same_keys within) (ap (λ z. get_or z kind []) (sym same_keys) ∙ at))))
      by false e =
          let same_keys : keys' ≡ keys ++ map (has row) states ∷ [] = made ∙ ap (λ b. if b then keys else keys ++ value ∷ []) e ∙ ap (λ v. keys ++ v ∷ []) is in
          let same_firsts : firsts' ≡ firsts ++ length kind_of ∷ [] = noted ∙ ap (λ b. cond b (firsts ++ length kind_of ∷ []) firsts) (added ∙ ap not e) in
          let last : kind ≡ length keys = elim (cases_lt kind (length keys)) [
            | inl below ↦
                absurd (true≢false (sym (found (
                  kind,
                  below,
                  same_default keys kind value [] below ∙ sym (old_at keys (map (has row) states) [] kind below) ∙ ap (λ z. get_or z kind []) (sym same_keys) ∙ at ∙ sym is,
                )) ∙ e))
            | inr past ↦ omega (arith, past, subst (λ z. kind < length z) same_keys within, length_push keys (map (has row) states))
          ] in
          subst (λ z. AreNumbered states z firsts' keys' (rows ++ row ∷ [])) (sym (put ∙ ap (λ n. kind_of ++ n ∷ []) last))
          (subst (λ z. AreNumbered states (kind_of ++ length keys ∷ []) z keys' (rows ++ row ∷ [])) (sym same_firsts)
          (subst (λ z. AreNumbered states (kind_of ++ length keys ∷ []) (firsts ++ length kind_of ∷ []) z (rows ++ row ∷ [])) (sym same_keys)
          (new_kind (λ there. true≢false (sym (found (subst (Contains keys) (sym is) there)) ∙ e)))))

  -- classes are of one kind where their numbers are one
  pub numbers_tell : (k m : ℕ) → k < length rows → m < length rows → (get_or kind_of k 0 ≡ get_or kind_of m 0) ↔ (map (has (get_or rows k [])) states ≡ map (has (get_or rows m [])) states)
  numbers_tell k m k_low m_low = (
    (λ e. sym (h.keys_are k k_low) ∙ ap (λ z. get_or keys z []) e ∙ h.keys_are m m_low),
    (λ e. h.distinct (get_or kind_of k 0) (get_or kind_of m 0) (h.low k k_low) (h.low m m_low) (h.keys_are k k_low ∙ e ∙ sym (h.keys_are m m_low))),
  )

  -- a class is listed where it is the first of its kind
  pub listed_first : (k : ℕ) → Contains firsts k → get_or firsts (get_or kind_of k 0) 0 ≡ k
  listed_first k at =
      let (i, low, is) = at in
      let here : get_or firsts i 0 ≡ k = same_default firsts i 0 k low ∙ is in
      ap (λ z. get_or firsts z 0) (ap (λ z. get_or kind_of z 0) (sym here) ∙ h.firsts_are i low) ∙ here

-- which classes are listed once one more is noted
pub next_longer : (kind_of firsts firsts' : List ℕ) (new : Bool) → firsts' ≡ cond new (firsts ++ length kind_of ∷ []) firsts → (firsts' ≡ firsts) ⊎ (firsts' ≡ firsts ++ length kind_of ∷ [])
next_longer kind_of firsts firsts' true e = inr e
next_longer kind_of firsts firsts' false e = inl e
