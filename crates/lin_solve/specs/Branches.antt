-- Branches of values: each has literals over what is left of the fields.
use Rattle.std.specs.Prelude.{ℤ, ◌≡◌, List, length}
use Rattle.model_form.specs.Form.{Form}
use Rattle.model_form.specs.Meaning.{values_of}
use Rattle.model_chain.specs.Literals.{Literal, HoldsAll}
use Rattle.label_core.specs.declared.theory.Lit.{Lit}
use Rattle.lin_solve.specs.declared.compare.Compare.{Compare}
use Rattle.lin_solve.specs.declared.branches.Branch.{Branch}
use Rattle.lin_solve.specs.Plain.{plain_literals}
use Rattle.lin_solve.specs.Among.{SomeOf}

-- the literals hold at some values of the eight fields
pub record HoldSomewhere (ls : List Literal) : Type 0 where
  pub values : List ℤ
  pub eight : length values ≡ 8
  pub hold : HoldsAll ls values

abbrev pub IsHeld : Branch → Type 0
IsHeld b = HoldSomewhere (plain_literals b.literals.items)

-- some branch has values at which its literals hold
abbrev pub SomeHeld : List Branch → Type 0
SomeHeld branches = SomeOf IsHeld branches

-- where the first literals hold at the values of the forms, the others hold
abbrev pub ArePut : List (Lit Compare) → List Form → List (Lit Compare) → Type 0
ArePut ls gs ms = (vs : List ℤ) → HoldsAll (plain_literals ls) (values_of gs vs) → HoldsAll (plain_literals ms) vs

-- the literals hold at no values of the forms
abbrev pub NeverPut : List (Lit Compare) → List Form → Type 0
NeverPut ls gs = (vs : List ℤ) → length vs ≡ 8 → HoldsAll (plain_literals ls) (values_of gs vs) → ⊥
