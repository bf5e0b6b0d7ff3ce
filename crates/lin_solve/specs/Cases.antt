-- Cases of values: in each a field is a rest and a multiple of a step.
use Rattle.std.specs.Prelude.{ℕ, ℤ, pos, ◌≡◌, ◌<◌, ◌%◌, ◌+ℤ◌, ◌*ℤ◌, Bool, false, not, ◌||◌, ◌==◌, List, [], ◌∷◌, slice_index_or, length}
use Rattle.model_form.specs.Form.{Form, form, Term, Remainders, no_remainders, remainder}
use Rattle.lin_solve.specs.declared.cases.Case.{Case}
use Rattle.lin_solve.specs.declared.cases.Turn.{Turn}
use Rattle.lin_solve.specs.declared.cases.Next.{Next}
use Rattle.lin_solve.specs.declared.cases.Next.TheVariants.{Lost, Split, Try}
use Rattle.label_core.specs.declared.theory.Lit.{Lit}
use Rattle.model_chain.specs.Literals.{HoldsAll}
use Rattle.lin_solve.specs.declared.compare.Compare.{Compare}
use Rattle.lin_solve.specs.Plain.{plain_literals}
use Rattle.lin_solve.specs.Among.{SomeOf}

-- the field's step is no multiple of the number, as none is of 0
abbrev pub is_loose : List ℕ → ℕ → ℕ → Bool
is_loose steps by field = (by == 0) || not (slice_index_or steps field 0 % by == 0)

abbrev pub some_loose : List ℕ → ℕ → List Term → Bool
some_loose steps by [] = false
some_loose steps by (t ∷ ts) = is_loose steps by t.field || some_loose steps by ts

-- the step of some field outside remainders is no multiple of the number, or that of one within of its divisor
abbrev mutual
  pub is_open : List ℕ → ℕ → Form → Bool
  is_open steps by (form c ts rs) = some_loose steps by ts || some_open steps rs

  pub some_open : List ℕ → Remainders → Bool
  some_open steps no_remainders = false
  some_open steps (remainder a f k rs) = is_open steps k f || some_open steps rs

-- each value is the rest at its place and a multiple of the step there
abbrev pub IsIn : Case → List ℤ → Type 0
IsIn c us = (k : ℕ) → (q : ℤ) × (slice_index_or us k (pos 0) ≡ slice_index_or c.rests k (pos 0) +ℤ (pos (slice_index_or c.steps k 0) *ℤ q))

-- besides, the times of the field's step are so many and a multiple of the turn's
abbrev pub IsPart : Case → Turn → ℕ → List ℤ → Type 0
IsPart c t n us = IsIn c us × (q : ℤ) × (slice_index_or us t.field (pos 0) ≡ slice_index_or c.rests t.field (pos 0) +ℤ (pos (slice_index_or c.steps t.field 0) *ℤ (pos n +ℤ (pos t.times *ℤ q))))

-- the values are in some case
abbrev pub SomeCase : List ℤ → List Case → Type 0
SomeCase us cases = SomeOf (λ c. IsIn c us) cases

-- the literals hold nowhere in a case that is lost, and one that is split is split for one of them
abbrev pub TellsNext : List (Lit Compare) → Case → Next → Type 0
TellsNext ls c Lost = (us : List ℤ) → IsIn c us → HoldsAll (plain_literals ls) us → ⊥
TellsNext ls c (Split n t) = n < length ls
TellsNext ls c Try = Unit {0}
