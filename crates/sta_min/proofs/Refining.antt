-- Rounds split blocks until nothing changes.
use Rattle.std.proofs.Common.{ℕ, suc, ◌+◌, ◌≡◌, ◌<◌, ◌≤◌, inl, inr, List, [], ◌∷◌, ◌++◌, get_or, length, refl, sym, ap, subst, ◌∙◌, arith}
use Rattle.std.proofs.lemmas.Bool.{cases_lt}
use Rattle.sta_theory.specs.Rounds.{room, IsDense}
use Rattle.sta_theory.proofs.Rounds.{room_falls}
use Rattle.sta_theory.proofs.Dense.{dense_none, dense_first, dense_later}
use Rattle.sta_min.specs.Firsts.{AreNumbers}
use Rattle.sta_min.specs.Rounds.{signature_at, IsFiner}
use Rattle.sta_min.proofs.FirstOnes.{are_numbers}

abbrev head : List ℕ → ℕ
head [] = 0
head (x ∷ xs) = x

module _ (nodes : List (List ℕ)) where
  module _ (bs finer : List ℕ) (is : IsFiner nodes bs finer) where
    -- two classes with one signature are of one block
    pub of_one_block : (i : ℕ) → i < length nodes → get_or bs (get_or finer i 0) 0 ≡ get_or bs i 0
    of_one_block i low = ap head (is.same i low)

    -- the numbers don't fall
    pub room_left : AreNumbers (length nodes) bs → ¬ (finer ≡ bs) → room (length nodes) finer < room (length nodes) bs
    room_left numbers other =
        room_falls (length nodes) bs finer (numbers.many ∙ sym is.many)
        (λ i within.
        let low : i < length nodes = omega (arith, within, numbers.many) in
        let grows : get_or bs i 0 ≤ get_or finer i 0 = elim (cases_lt (get_or finer i 0) (get_or bs i 0)) [
          | inl less ↦ absurd (numbers.first i low (get_or finer i 0) less (of_one_block i low))
          | inr high ↦ high
        ] in
        (grows, omega (arith, is.up_to i low, low)))
        (λ e. other (sym e))

    pub finer_numbers : AreNumbers (length nodes) finer
    finer_numbers = are_numbers (signature_at nodes bs) (length nodes) finer is

-- ---- numbers without gaps, with no more first classes than classes

pub record IsDenseSoFar (numbers : List ℕ) (n : ℕ) (firsts dense : List ℕ) : Type 0 where
  pub is : IsDense n numbers firsts dense
  pub few : length firsts ≤ n

pub first_dense : (numbers firsts dense : List ℕ) → firsts ≡ [] → dense ≡ [] → IsDenseSoFar numbers 0 firsts dense
first_dense numbers firsts dense f d =
    subst (λ l. IsDenseSoFar numbers 0 l dense) (sym f) (subst (λ l. IsDenseSoFar numbers 0 [] l) (sym d) (record { is = dense_none numbers; few = omega arith }))

module _ (numbers : List ℕ) (are : AreNumbers (length numbers) numbers) (n : ℕ) (low : n < length numbers) (firsts dense : List ℕ) (so_far : IsDenseSoFar numbers n firsts dense) where
  pub next_first : get_or numbers n 0 ≡ n → (firsts' dense' : List ℕ) → firsts' ≡ firsts ++ n ∷ [] → dense' ≡ dense ++ length firsts ∷ [] → IsDenseSoFar numbers (n + 1) firsts' dense'
  next_first own firsts' dense' f d =
      subst (λ l. IsDenseSoFar numbers (n + 1) l dense') (sym f)
      (subst (λ l. IsDenseSoFar numbers (n + 1) (firsts ++ n ∷ []) l) (sym d) (record { is = dense_first n numbers firsts dense so_far.is own; few = omega (arith, so_far.few, longer firsts) }))
    where
      longer : (xs : List ℕ) → length (xs ++ n ∷ []) ≡ suc (length xs)
      longer [] = refl
      longer (x ∷ xs) = ap suc (longer xs)

  pub next_later : ¬ (get_or numbers n 0 ≡ n) → (x : ℕ) → x ≡ get_or dense (get_or numbers n 0) 0 → (dense' : List ℕ) → dense' ≡ dense ++ x ∷ [] → IsDenseSoFar numbers (n + 1) firsts dense'
  next_later other x x_is dense' d =
      subst (λ l. IsDenseSoFar numbers (n + 1) firsts l) (sym (d ∙ ap (λ y. dense ++ y ∷ []) x_is))
      (record { is = dense_later n numbers firsts dense so_far.is (let up = are.up_to n low in omega (arith, up, other)) (are.own n low); few = omega (arith, so_far.few) })
