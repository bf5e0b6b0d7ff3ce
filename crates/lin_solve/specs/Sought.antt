-- What is sought of literals, where negated equalities are given a side one after another.
use Rattle.std.specs.Prelude.{◌≡◌, ◌<◌, ℕ, ℤ, Bool, true, false, List, Vec, length, slice_index_or}
use Rattle.model_chain.specs.Literals as plain
use Rattle.model_chain.specs.Literals.{Literal, HoldsAll, compare_holds}
use Rattle.lin_reduce.specs.declared.nodes.Explored.{Explored}
use Rattle.lin_reduce.specs.declared.nodes.Explored.TheVariants as explored
use Rattle.label_core.specs.declared.theory.Lit.{Lit}
use Rattle.lin_solve.specs.declared.compare.Compare.{Compare}
use Rattle.lin_solve.specs.declared.found.Sought.{Sought}
use Rattle.lin_solve.specs.declared.found.Sought.TheVariants.{Values, Never, Open}
use Rattle.lin_solve.specs.Plain.{plain_literals}
use Rattle.lin_solve.specs.Among.{SomeOf}

-- they hold at no values of the eight fields
abbrev pub NeverHoldAll : List Literal → Type 0
NeverHoldAll ls = (us : List ℤ) → length us ≡ 8 → HoldsAll ls us → ⊥

abbrev pub TellsExplored : List Literal → Explored → Type 0
TellsExplored ls explored.Never = NeverHoldAll ls
TellsExplored ls (explored.Maybe values) = Unit {0}
TellsExplored ls explored.Open = Unit {0}

abbrev pub TellsSought : List Literal → Sought → Type 0
TellsSought ls (Values vs) = (length vs.items ≡ 8) × HoldsAll ls vs.items
TellsSought ls Never = NeverHoldAll ls
TellsSought ls Open = Unit {0}

-- that the left side is less, or the right one
abbrev pub less_of : Compare → Bool → plain.Compare
less_of c false = record { left = c.left; relation = plain.less; right = c.right }
less_of c true = record { left = c.right; relation = plain.less; right = c.left }

-- if there is a literal at the place, its sides are so
abbrev pub IsSidedAt : List (Lit Compare) → ℕ → Bool → List ℤ → Type 0
IsSidedAt ls place turned us = (d : Lit Compare) → place < length ls → compare_holds (less_of (slice_index_or ls place d).atom turned) us ≡ true

-- some of the lists holds at these values
abbrev pub SomeHold : {G : Type 0} → List ℤ → List (Vec (Lit Compare) G) → Type 0
SomeHold us lists = SomeOf (λ ls. HoldsAll (plain_literals ls.items) us) lists
