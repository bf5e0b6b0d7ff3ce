-- The first of things that are one.
use Rattle.std.specs.Prelude.{ℕ, ◌≡◌, ◌<◌, ◌≤◌, ◌⊎◌, Bool, List, Some, None, get_or, length}
use Rattle.indexmap.specs.IndexMap.{IndexMap, get, Updates}

-- the key has a number already, or now has this one
abbrev pub IsKept : {K S : Type 0} → (K → K → Bool) → IndexMap K ℕ S → IndexMap K ℕ S → K → ℕ → ℕ → Type 0
IsKept eq old new key number kept = ((get eq old key ≡ Some kept) × (new ≡ old)) ⊎ ((get eq old key ≡ None) × (kept ≡ number) × Updates eq old new key (Some number))

-- of the first n things f 0, f 1, ..: for each the number of the first one that it is
pub record AreFirsts {X : Type 0} (f : ℕ → X) (n : ℕ) (firsts : List ℕ) : Type 0 where
  pub many : length firsts ≡ n
  pub up_to : (i : ℕ) → i < n → get_or firsts i 0 ≤ i
  pub same : (i : ℕ) → i < n → f (get_or firsts i 0) ≡ f i
  pub first : (i : ℕ) → i < n → (j : ℕ) → j < get_or firsts i 0 → ¬ (f j ≡ f i)

-- each of n numbers is that of the first one of its block
pub record AreNumbers (n : ℕ) (bs : List ℕ) : Type 0 where
  pub many : length bs ≡ n
  pub up_to : (i : ℕ) → i < n → get_or bs i 0 ≤ i
  pub own : (i : ℕ) → i < n → get_or bs (get_or bs i 0) 0 ≡ get_or bs i 0
  pub first : (i : ℕ) → i < n → (j : ℕ) → j < get_or bs i 0 → ¬ (get_or bs j 0 ≡ get_or bs i 0)
