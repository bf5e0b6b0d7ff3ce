-- Chains as plain data, and what an answer says.
use Rattle.std.specs.Prelude.{ℕ, ℤ, ◌≡◌, Bool, true, false, List, ◌++◌, map, length}
use Rattle.model_tree.specs.Range.{IsLabelNumber}
use Rattle.std.specs.List.{All}
use Rattle.math_cooper.specs.Puts as plain
use Rattle.cooper_solve.specs.Told.{put_of}
use Rattle.model_chain.specs.Literals as chain
use Rattle.model_chain.specs.Literals.{HoldsAll}
use Rattle.model_chain.specs.Chains as chains
use Rattle.model_chain.specs.Chains.{side_choices, Passes, IsFar}
use Rattle.label_core.specs.declared.theory.Lit.{Lit}
use Rattle.label_core.specs.declared.theory.Verdict.{Verdict}
use Rattle.label_core.specs.declared.theory.Verdict.TheVariants.{Sat, Unsat, Wide}
use Rattle.lin_solve.specs.declared.compare.Compare.{Compare}
use Rattle.lin_solve.specs.declared.chain.Choice.{Choice}
use Rattle.lin_solve.specs.declared.chain.Choice.TheVariants.{Side, Put}
use Rattle.lin_solve.specs.declared.chain.Chain.{Chain}
use Rattle.lin_solve.specs.declared.chain.Width.{Width}
use Rattle.lin_solve.specs.declared.chain.Width.TheVariants.{Solution, Number, BoundedNumber}
use Rattle.lin_solve.specs.Plain.{plain_literals}

abbrev pub plain_choice : Choice → chains.Choice
plain_choice (Side k b) = chains.side k b
plain_choice (Put p) = chains.take_put (put_of p)

abbrev pub bits_of : Width → ℕ
bits_of Solution = 64
bits_of Number = 128
bits_of BoundedNumber = 128

abbrev pub is_bounded : Width → Bool
is_bounded Solution = false
is_bounded Number = false
is_bounded BoundedNumber = true

abbrev pub plain_chain : Chain → chains.Chain
plain_chain c = record { literals = plain_literals c.literals.items; choices = map plain_choice c.choices.items; bounded = is_bounded c.width }

abbrev pub PassesWidth : Chain → Type 0
PassesWidth c = Passes (bits_of c.width) (plain_chain c)

abbrev pub choices_of : List chain.Literal → List Bool → List plain.Put → List chains.Choice
choices_of ls sides ps = side_choices 0 ls sides ++ map chains.take_put ps

abbrev pub AllKept : List ℤ → Type 0
AllKept us = All IsLabelNumber us

-- values of the eight fields at which the literals hold, that there are none, or a chain that passes its width, of such
-- literals; where it is far, no values of 64 bits satisfy the literals
abbrev pub Answers : {V : Type 0} → (List (Lit Compare) → Type 0) → (V → List ℤ) → List (Lit Compare) → Verdict V Chain → Type 0
Answers Are values_of ls (Sat v) = (length (values_of v) ≡ 8) × HoldsAll (plain_literals ls) (values_of v)
Answers Are values_of ls Unsat = (us : List ℤ) → length us ≡ 8 → HoldsAll (plain_literals ls) us → ⊥
Answers Are values_of ls (Wide c) = Are c.literals.items × PassesWidth c × (IsFar (plain_chain c) → (us : List ℤ) → length us ≡ 8 → AllKept us → HoldsAll (plain_literals ls) us → ⊥)
