-- The numbers of opposites.
use Rattle.std.specs.Prelude.{ℕ, ◌+◌, ◌≡◌, ◌<◌, ◌⊎◌, not, List, [], ◌∷◌, ◌++◌, get_or, length}
use Rattle.model_sta.specs.Sets.{Row, has}

-- over the sets of the classes
module _ (rows : List Row) where
  -- exactly the sets without the one state have the other
  abbrev pub AreOpposite : ℕ → ℕ → Type 0
  AreOpposite s t = (k : ℕ) → k < length rows → has (get_or rows k []) t ≡ not (has (get_or rows k []) s)

  -- of the first n states
  abbrev pub HasNoOpposite : ℕ → ℕ → Type 0
  HasNoOpposite n s = (t : ℕ) → t < n → ¬ (AreOpposite s t)

  abbrev pub IsOppositeAmong : ℕ → ℕ → ℕ → Type 0
  IsOppositeAmong n s t = (t < n) × AreOpposite s t

  -- a state that there is, or a new one for the state, which is put behind the others that have new ones
  abbrev pub IsNumber : ℕ → ℕ → List ℕ → List ℕ → ℕ → Type 0
  IsNumber n s old new t = (IsOppositeAmong n s t × (new ≡ old)) ⊎ (HasNoOpposite n s × (t ≡ n + length old) × (new ≡ old ++ s ∷ []))

  -- the number of the opposite of each of the first so many states, and which of them have new ones
  pub record AreNumbered (n count : ℕ) (numbers fresh : List ℕ) : Type 0 where
    pub many : length numbers ≡ count
    pub each : (s : ℕ) → s < count → IsOppositeAmong n s (get_or numbers s 0) ⊎ ((f : ℕ) × (f < length fresh) × (get_or fresh f 0 ≡ s) × (get_or numbers s 0 ≡ n + f))
    pub fresh_low : (f : ℕ) → f < length fresh → get_or fresh f 0 < count
    pub fresh_at : (f : ℕ) → f < length fresh → get_or numbers (get_or fresh f 0) 0 ≡ n + f
    pub fresh_need : (f : ℕ) → f < length fresh → HasNoOpposite n (get_or fresh f 0)
