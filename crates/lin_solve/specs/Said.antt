-- What literals say of the value of one form, and numbers that reach from a least to a greatest one.
use Rattle.std.specs.Prelude.{ℕ, ℤ, pos, ◌≡◌, ◌+ℤ◌, ◌-ℤ◌, ◌≤ℤ◌, ◌<◌, length, Bool, true, false, List, slice_index_or, Option, Some, None}
use Rattle.std.specs.List.{All}
use Rattle.lin_solve.specs.declared.compare.Relation.{Relation}
use Rattle.lin_solve.specs.declared.compare.Relation.TheVariants.{Less, AtMost, Equal}
use Rattle.lin_solve.specs.declared.said.Said.{Said}
use Rattle.lin_solve.specs.declared.said.Said.TheVariants.{From, UpTo, Is, IsNot}
use Rattle.lin_solve.specs.declared.said.Fact.{Fact}
use Rattle.lin_solve.specs.declared.said.Reach.{Reach}

abbrev pub Says : Said → ℤ → Type 0
Says (From n) v = n ≤ℤ v
Says (UpTo n) v = v ≤ℤ n
Says (Is n) v = v ≡ n
Says (IsNot n) v = v ≡ n → ⊥

-- of v, where the left side less the right one is v less n, or n less v
abbrev pub said_at : Relation → Bool → Bool → ℤ → Said
said_at Less true false n = UpTo (n -ℤ pos 1)
said_at Less true true n = From (n +ℤ pos 1)
said_at Less false false n = From n
said_at Less false true n = UpTo n
said_at AtMost true false n = UpTo n
said_at AtMost true true n = From n
said_at AtMost false false n = From (n +ℤ pos 1)
said_at AtMost false true n = UpTo (n -ℤ pos 1)
said_at Equal true minus n = Is n
said_at Equal false minus n = IsNot n

abbrev pub IsOver : Option ℤ → ℤ → Type 0
IsOver None v = Unit {0}
IsOver (Some n) v = n ≤ℤ v

abbrev pub IsUnder : Option ℤ → ℤ → Type 0
IsUnder None v = Unit {0}
IsUnder (Some n) v = v ≤ℤ n

abbrev pub Reaches : Reach → ℤ → Type 0
Reaches r v = IsOver r.low v × IsUnder r.high v

-- z is v less n, or n less v
abbrev pub IsParted : Bool → ℤ → ℤ → ℤ → Type 0
IsParted false n v z = z ≡ v -ℤ n
IsParted true n v z = z ≡ n -ℤ v

-- there is a number at the fact's place, and it is as is said
abbrev pub IsSo : List ℤ → Fact → Type 0
IsSo vs f = (f.place < length vs) × Says f.said (slice_index_or vs f.place (pos 0))

abbrev pub AreSo : List Fact → List ℤ → Type 0
AreSo fs vs = All (IsSo vs) fs

-- each number is within the reach at its place
abbrev pub AreWithin : List Reach → List ℤ → Type 0
AreWithin rs vs = (k : ℕ) (d : Reach) → k < length rs → Reaches (slice_index_or rs k d) (slice_index_or vs k (pos 0))
