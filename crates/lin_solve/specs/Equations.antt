-- Equations that give a field, and literals where it is put.
use Rattle.std.specs.Prelude.{◌≡◌, ℕ, ℤ, pos, List, length, slice_index_or}
use Rattle.model_form.specs.Form.{Form, value}
use Rattle.model_chain.specs.Literals.{HoldsAll, compare_holds}
use Rattle.label_core.specs.declared.theory.Lit.{Lit}
use Rattle.lin_solve.specs.declared.compare.Compare.{Compare}
use Rattle.lin_solve.specs.Plain.{plain_compare, plain_literals}

-- where the literal holds, the field has the form's value
abbrev pub Gives : Lit Compare → Form → ℕ → Type 0
Gives l f field = (us : List ℤ) → compare_holds (plain_compare l.atom) us ≡ l.sign → value f us ≡ slice_index_or us field (pos 0)

-- where the first literals hold at values of the eight fields, the others do too
abbrev pub HoldAlso : List (Lit Compare) → List (Lit Compare) → Type 0
HoldAlso ls ms = (us : List ℤ) → length us ≡ 8 → HoldsAll (plain_literals ls) us → HoldsAll (plain_literals ms) us
