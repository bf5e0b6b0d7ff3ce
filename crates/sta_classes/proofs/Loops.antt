-- Rows that are filled from the left.
use Rattle.std.proofs.Common.{ℕ, zero, suc, ◌≡◌, ◌<◌, ◌≤◌, ◌+◌, Bool, true, false, cond, List, [], ◌∷◌, length, get_or, set, map, replicate, refl, sym, ap, ◌∙◌, arith, add-one}

module _ {X : Type 0} (f : X → Bool) where
  -- f of each element before number i, and false at the others
  abbrev pub filled : ℕ → List X → List Bool
  filled zero xs = replicate (length xs) false
  filled (suc i) [] = []
  filled (suc i) (x ∷ xs) = f x ∷ filled i xs

  pub filled_length : (i : ℕ) (xs : List X) → length (filled i xs) ≡ length xs
  filled_length zero [] = refl
  filled_length zero (x ∷ xs) = ap suc (filled_length zero xs)
  filled_length (suc i) [] = refl
  filled_length (suc i) (x ∷ xs) = ap suc (filled_length i xs)

  put : (b : Bool) (i : ℕ) (xs : List X) (x : X) → i < length xs → get_or xs i x ≡ x → b ≡ f x → cond b (set (filled i xs) i true) (filled i xs) ≡ filled (suc i) xs
  put b i [] x low at e = absurd (omega arith)
  put true zero (y ∷ xs) x low at e = ap (λ c. c ∷ replicate (length xs) false) (e ∙ ap f (sym at))
  put false zero (y ∷ xs) x low at e = ap (λ c. c ∷ replicate (length xs) false) (e ∙ ap f (sym at))
  put true (suc i) (y ∷ xs) x low at e = ap (λ r. f y ∷ r) (put true i xs x (omega arith) at e)
  put false (suc i) (y ∷ xs) x low at e = ap (λ r. f y ∷ r) (put false i xs x (omega arith) at e)

  pub filled_more : (b : Bool) (i : ℕ) (xs : List X) (x : X) (old new : List Bool) → i < length xs → x ≡ get_or xs i x → b ≡ f x → new ≡ cond b (set old i true) old → old ≡ filled i xs → new ≡ filled (i + 1) xs
  filled_more b i xs x old new low at e is begun =
      is ∙ ap (λ r. cond b (set r i true) r) begun ∙ put b i xs x low (sym at) e ∙ ap (λ k. filled k xs) (sym (add-one i))

  done : (i : ℕ) (xs : List X) → length xs ≤ i → filled i xs ≡ map f xs
  done zero [] l = refl
  done zero (x ∷ xs) l = absurd (omega arith)
  done (suc i) [] l = refl
  done (suc i) (x ∷ xs) l = ap (λ r. f x ∷ r) (done i xs (omega arith))

  pub filled_all : (i : ℕ) (xs : List X) (row : List Bool) → length xs ≤ i → row ≡ filled i xs → row ≡ map f xs
  filled_all i xs row l e = e ∙ done i xs l
