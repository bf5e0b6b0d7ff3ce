-- Cooper's theorem for systems: a system has a solution exactly where one of the puts has.
use Rattle.std.proofs.Common.{◌≡◌, ℕ, zero, suc, ◌+◌, ◌<◌, ◌⊎◌, inl, inr, ⊎_elim, List, [], ◌∷◌, ◌++◌, length, map, arith, refl, ap, sym, ◌∙◌, subst}
use Rattle.std.proofs.Math.IntN.{ℤ, pos, ◌+ℤ◌, ◌-ℤ◌, neg_ℤ}
use Rattle.std.specs.List.{All, Contains, slice_index_or}
use Rattle.std.proofs.lemmas.Int.{ints}
use Rattle.std.proofs.lemmas.List.Elements.{All-nil, All-cons, All-head, All-tail, All-map, All-contains, Contains-append_right}
use Rattle.math_cooper.specs.Line.{Line, HoldsAt}
use Rattle.math_cooper.specs.System.{Condition, Holds, Solves, line, Affine, affine_value, put, put_all, low_form, high_form, free_form, IsUnitAt, RepeatsAt, IsLowAt, IsHighAt, IsSolvable, HasWidth}
use Rattle.math_cooper.proofs.OneVariable.{IsUnitBoth, Repeats, NotLow, IsLow, IsHigh, LowPut, HighPut, Puts, mirror, cooper}
use Rattle.math_cooper.proofs.Systems.{line_in, line_out, put_in, put_out, low_value, high_value, free_value, low_length, high_length, free_length}

pub all_unmap : {A B : Type 0} (P : B → Type 0) (f : A → B) (L : List A) → All P (map f L) → All (λ l. P (f l)) L
all_unmap P f [] h = All-nil (λ l. P (f l))
all_unmap P f (l ∷ L) h = All-cons (λ m. P (f m)) l L (All-head P (f l) (map f L) h) (all_unmap P f L (All-tail P (f l) (map f L) h))

pub contains_unmap : {A B : Type 0} (f : A → B) (L : List A) (l : B) → Contains (map f L) l → (m : A) × Contains L m × (f m ≡ l)
contains_unmap f [] l c = absurd (let h = c.1 in omega arith)
contains_unmap f (m ∷ L) l (zero, h, e) = (m, (0, omega arith, refl), e)
contains_unmap f (m ∷ L) l (suc k, h, e) = let r = contains_unmap f L l (k, omega arith, e) in (r.0, Contains-append_right (m ∷ []) L r.0 r.1, r.2)

unit_line : (i : ℕ) (vs : List ℤ) (c : Condition) → IsUnitAt i c → IsUnitBoth (line i vs c)
unfolding line mirror
unit_line i vs c u = (λ k. (u k).0, λ k p. ap neg_ℤ ((u k).1 (omega (arith, ints))))

repeats_line : (i D : ℕ) (vs : List ℤ) (c : Condition) → RepeatsAt i D c → Repeats D (line i vs c)
unfolding line
repeats_line i D vs c r = r

low_line : (i : ℕ) (vs : List ℤ) (c : Condition) → IsLow (line i vs c) → IsLowAt i c
unfolding line
low_line i vs c l = l

line_low : (i : ℕ) (vs : List ℤ) (c : Condition) → IsLowAt i c → IsLow (line i vs c)
unfolding line
line_low i vs c l = l

high_line : (i : ℕ) (vs : List ℤ) (c : Condition) → IsHigh (line i vs c) → IsHighAt i c
unfolding line
high_line i vs c l = l

not_low_line : (i : ℕ) (vs : List ℤ) (c : Condition) → NotLow (line i vs c) → IsLowAt i c → ⊥
unfolding line
not_low_line i vs c n l = let q = n l.0 in let e = l.1 in omega (arith, ints)

not_high_line : (i : ℕ) (vs : List ℤ) (c : Condition) → NotLow (mirror (line i vs c)) → IsHighAt i c → ⊥
unfolding line mirror
not_high_line i vs c n l = let q = n l.0 in let e = l.1 in omega (arith, ints)

-- ---- a solution of a put is one of the system

pub put_sound : (i : ℕ) (g : Affine) (ws : List ℤ) (S : List Condition) → length ws ≡ i → length g.coefficients ≡ i → All (HasWidth (i + 1)) S → Solves ws (put_all i g S) → Solves (ws ++ affine_value g ws ∷ []) S
put_sound i g ws S h e w s k d l = line_out i ws (affine_value g ws) (slice_index_or S k d) h (put_out i g ws (slice_index_or S k d) e (w k d l) (all_unmap (Holds ws) (put i g) S s k d l))

-- a system that holds at the form's value for variable i holds with the form put
put_complete : (i : ℕ) (g : Affine) (ws : List ℤ) (S : List Condition) (x : ℤ) → affine_value g ws ≡ x → length g.coefficients ≡ i → All (HasWidth (i + 1)) S → All (HoldsAt x) (map (line i ws) S) → Solves ws (put_all i g S)
put_complete i g ws S x e h w s = All-map (Holds ws) (put i g) S (λ k d l. put_in i g ws (slice_index_or S k d) h (w k d l) (subst (λ y. HoldsAt y (line i ws (slice_index_or S k d))) (sym e) (all_unmap (HoldsAt x) (line i ws) S s k d l)))

-- ---- the theorem

pub record LowPutAt (i D : ℕ) (S : List Condition) : Type 0 where
  pub bound : Condition
  pub in_system : Contains S bound
  pub low : IsLowAt i bound
  pub offset : ℕ
  pub below : offset < D
  pub solvable : IsSolvable i (put_all i (low_form i bound offset) S)

pub record HighPutAt (i D : ℕ) (S : List Condition) : Type 0 where
  pub bound : Condition
  pub in_system : Contains S bound
  pub high : IsHighAt i bound
  pub offset : ℕ
  pub below : offset < D
  pub solvable : IsSolvable i (put_all i (high_form i bound offset) S)

pub record FreePutAt (i D : ℕ) (S : List Condition) : Type 0 where
  pub offset : ℕ
  pub below : offset < D
  pub solvable : IsSolvable i (put_all i (free_form i offset) S)

abbrev pub PutsAt : ℕ → ℕ → List Condition → Type 0
PutsAt i D S = LowPutAt i D S ⊎ (All (λ c. IsLowAt i c → ⊥) S × (HighPutAt i D S ⊎ (All (λ c. IsHighAt i c → ⊥) S × FreePutAt i D S)))

rest_is : (i : ℕ) (ws : List ℤ) (b : Condition) (l : Line) → line i ws b ≡ l → (line i ws b).rest ≡ l.rest
rest_is i ws b l e = ap (λ (m : Line). m.rest) e

-- a list with a last element
pub last_of : (i : ℕ) (vs : List ℤ) → length vs ≡ i + 1 → (ws : List ℤ) × (x : ℤ) × (length ws ≡ i) × (vs ≡ ws ++ x ∷ [])
last_of i [] e = absurd (omega arith)
last_of zero (v ∷ []) e = ([], v, refl, refl)
last_of zero (v ∷ w ∷ vs) e = absurd (omega arith)
last_of (suc i) (v ∷ vs) e = let r = last_of i vs (omega arith) in (v ∷ r.0, r.1, ap suc r.2, ap (λ t. v ∷ t) r.3)

pub eliminate : (i D : ℕ) (S : List Condition) → 0 < D → All (IsUnitAt i) S → All (RepeatsAt i D) S → All (HasWidth (i + 1)) S → IsSolvable (i + 1) S → PutsAt i D S
eliminate i D S some unit rep wide s =
    let split = last_of i s.0 s.1 in
    let ws = split.0 in
    let x = split.1 in
    let f : Condition → Line = line i ws in
    let at : All (HoldsAt x) (map f S) = All-map (HoldsAt x) f S (λ k d l. line_in i ws x (slice_index_or S k d) split.2 (subst (λ w. Holds w (slice_index_or S k d)) split.3 (s.2 k d l))) in
    let puts : Puts (map f S) D = cooper (map f S) D some (All-map IsUnitBoth f S (λ k d l. unit_line i ws (slice_index_or S k d) (unit k d l))) (All-map (Repeats D) f S (λ k d l. repeats_line i D ws (slice_index_or S k d) (rep k d l))) x at in
    ⊎_elim
    (λ (p : LowPut (map f S) D).
    let m = contains_unmap f S p.line p.in_list in
    let low : IsLowAt i m.0 = low_line i ws m.0 (subst IsLow (sym m.2) p.low) in
    let width = All-contains (HasWidth (i + 1)) S m.0 wide m.1 in
    let is : affine_value (low_form i m.0 p.offset) ws ≡ neg_ℤ p.line.rest +ℤ pos p.offset = low_value i m.0 p.offset ws ∙ ap (λ r. neg_ℤ r +ℤ pos p.offset) (rest_is i ws m.0 p.line m.2) in
    inl (record {
      bound = m.0;
      in_system = m.1;
      low = low;
      offset = p.offset;
      below = p.below;
      solvable = (ws, split.2, put_complete i (low_form i m.0 p.offset) ws S _ is (low_length i p.offset m.0 width) wide p.holds);
    }))
    (λ none. inr (
      λ k d l. not_low_line i ws (slice_index_or S k d) (all_unmap NotLow f S none.0 k d l),
      ⊎_elim
          (λ (p : HighPut (map f S) D).
          let m = contains_unmap f S p.line p.in_list in
          let high : IsHighAt i m.0 = high_line i ws m.0 (subst IsHigh (sym m.2) p.high) in
          let width = All-contains (HasWidth (i + 1)) S m.0 wide m.1 in
          let is : affine_value (high_form i m.0 p.offset) ws ≡ p.line.rest -ℤ pos p.offset = high_value i m.0 p.offset ws ∙ ap (λ r. r -ℤ pos p.offset) (rest_is i ws m.0 p.line m.2) in
          inl (record {
            bound = m.0;
            in_system = m.1;
            high = high;
            offset = p.offset;
            below = p.below;
            solvable = (ws, split.2, put_complete i (high_form i m.0 p.offset) ws S _ is (high_length i p.offset m.0 width) wide p.holds);
          }))
          (λ last. inr (
            λ k d l. not_high_line i ws (slice_index_or S k d) (all_unmap (λ l. NotLow (mirror l)) f S last.0 k d l),
            (let p = last.1 in record {
              offset = p.offset;
              below = p.below;
              solvable = (ws, split.2, put_complete i (free_form i p.offset) ws S _ (free_value i p.offset ws) (free_length i p.offset) wide p.holds);
            }),
          ))
          none.1,
    ))
    puts
