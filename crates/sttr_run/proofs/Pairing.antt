-- Lists that are made of others, element by element.
use Rattle.std.proofs.Common.{ℕ, ◌+◌, ◌<◌, ◌≤◌, ◌≡◌, inl, inr, List, [], ◌∷◌, ◌++◌, take, get_or, length, sym, subst}
use Rattle.std.proofs.lemmas.List.{take_all}
use Rattle.sttr_run.specs.Sets.{Adds, ArePairs, AreEach}
use Rattle.sttr_run.proofs.Members.{nil_out, push_out, push_old, push_new, taken}

module _ {X Y : Type 0} (R : X → Y → Type 0) where
  pub adds_none : (old : List Y) → Adds R [] old old
  adds_none old = record { each = λ y at. inl at; kept = λ y at. at; all = λ x at. absurd (nil_out x at) }

  pub adds_more : (xs : List X) (old new : List Y) (x : X) (y : Y) → Adds R xs old new → R x y → Adds R (xs ++ x ∷ []) old (new ++ y ∷ [])
  adds_more xs old new x y a r = record {
    each = λ z at. elim (push_out new y z at) [
      | inl b ↦ elim (a.each z b) [ inl o ↦ inl o | inr s ↦ inr (s.0, push_old xs x s.0 s.1, s.2) ]
      | inr e ↦ inr (x, push_new xs x, subst (R x) e r)
    ];
    kept = λ z at. push_old new y z (a.kept z at);
    all = λ z at. elim (push_out xs x z at) [
      | inl b ↦ (let (w, in_new, s) = a.all z b in (w, push_old new y w in_new, s))
      | inr e ↦ (y, push_new new y, subst (λ u. R u y) e r)
    ];
  }

  pub each_none : AreEach R [] []
  each_none = record { each = λ y at. absurd (nil_out y at); all = λ x at. absurd (nil_out x at) }

  pub each_more : (xs : List X) (ys : List Y) (x : X) (y : Y) → AreEach R xs ys → R x y → AreEach R (xs ++ x ∷ []) (ys ++ y ∷ [])
  each_more xs ys x y a r = record {
    each = λ z at. elim (push_out ys y z at) [
      | inl b ↦ (let s = a.each z b in (s.0, push_old xs x s.0 s.1, s.2))
      | inr e ↦ (x, push_new xs x, subst (R x) e r)
    ];
    all = λ z at. elim (push_out xs x z at) [
      | inl b ↦ (let s = a.all z b in (s.0, push_old ys y s.0 s.1, s.2))
      | inr e ↦ (y, push_new ys y, subst (λ u. R u y) e r)
    ];
  }

module _ {W X Y : Type 0} (R : W → X → Y → Type 0) where
  pub pairs_none : (xs : List X) → ArePairs R [] xs []
  pairs_none xs = record { each = λ y at. absurd (nil_out y at); all = λ w at. absurd (nil_out w at) }

  pub pairs_more : (ws : List W) (xs : List X) (old new : List Y) (w : W) → ArePairs R ws xs old → Adds (R w) xs old new → ArePairs R (ws ++ w ∷ []) xs new
  pairs_more ws xs old new w p a = record {
    each = λ y at. elim (a.each y at) [
      | inl o ↦ (let s = p.each y o in (s.0, push_old ws w s.0 s.1, s.2, s.3, s.4))
      | inr s ↦ (w, push_new ws w, s.0, s.1, s.2)
    ];
    all = λ v at x in_xs. elim (push_out ws w v at) [
      | inl b ↦ (let s = p.all v b x in_xs in (s.0, a.kept s.0 s.1, s.2))
      | inr e ↦ (let s = a.all x in_xs in (s.0, s.1, subst (λ u. R u x s.0) e s.2))
    ];
  }

module _ {X Y : Type 0} (R : X → Y → Type 0) where
  -- a loop goes on by one element, and to the end
  pub adds_step : (xs : List X) (i : ℕ) (old new more : List Y) (x : X) (y : Y) → i < length xs → x ≡ get_or xs i x → more ≡ new ++ y ∷ [] → Adds R (take i xs) old new → R x y → Adds R (take (i + 1) xs) old more
  adds_step xs i old new more x y low is e a r = subst (λ ts. Adds R ts old more) (sym (taken xs i x low is)) (subst (λ zs. Adds R (take i xs ++ x ∷ []) old zs) (sym e) (adds_more R (take i xs) old new x y a r))

  pub adds_end : (xs : List X) (i : ℕ) (old new : List Y) → length xs ≤ i → Adds R (take i xs) old new → Adds R xs old new
  adds_end xs i old new low a = subst (λ ts. Adds R ts old new) (take_all i xs low) a

module _ {W X Y : Type 0} (R : W → X → Y → Type 0) where
  pub pairs_step : (ws : List W) (i : ℕ) (xs : List X) (old new : List Y) (w : W) → i < length ws → w ≡ get_or ws i w → ArePairs R (take i ws) xs old → Adds (R w) xs old new → ArePairs R (take (i + 1) ws) xs new
  pairs_step ws i xs old new w low is p a = subst (λ ts. ArePairs R ts xs new) (sym (taken ws i w low is)) (pairs_more R (take i ws) xs old new w p a)

  pub pairs_end : (ws : List W) (i : ℕ) (xs : List X) (ys : List Y) → length ws ≤ i → ArePairs R (take i ws) xs ys → ArePairs R ws xs ys
  pairs_end ws i xs ys low p = subst (λ ts. ArePairs R ts xs ys) (take_all i ws low) p
