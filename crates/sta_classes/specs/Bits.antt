-- Rows of truth values as bits of words of 64 bits.
use Rattle.std.specs.Prelude.{ℕ, zero, suc, ◌+◌, ◌*◌, ◌/◌, ◌%◌, ◌==◌, ◌&&◌, Bool, false, List, [], ◌∷◌, get_or, length, cond}
use Rattle.std.specs.Int.{bit_at}
use Rattle.model_sta.specs.Tabled.{tabulate}

-- the bits below a number, each in its place of its word
abbrev pub bits_of : ℕ → List ℕ → List Bool
bits_of n words = tabulate n (λ i. bit_at (get_or words (i / 64) 0) (i % 64) == 1)

-- the word of so many bits, the lowest first
unfoldable pub word_of : ℕ → (ℕ → Bool) → ℕ
word_of zero f = 0
word_of (suc n) f = cond (f 0) 1 0 + 2 * word_of n (λ i. f (suc i))

-- the words that have these bits
abbrev pub words_of : List Bool → List ℕ
words_of row = tabulate (suc (length row / 64)) (λ k. word_of 64 (λ i. get_or row (64 * k + i) false))

-- what both rows of one length have
abbrev pub both : List Bool → List Bool → List Bool
both [] q = []
both (b ∷ p) [] = []
both (b ∷ p) (d ∷ q) = (b && d) ∷ both p q
