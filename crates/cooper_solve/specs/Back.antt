-- The value of one more variable.
use Rattle.std.specs.Prelude.{ℕ, ℤ, ◌*ℤ◌, ◌≡◌, ◌<◌, ◌≤◌, ◌⊎◌, [], ◌∷◌, ◌++◌}
use Rattle.model_tree.specs.Range.{IsLabelNumber}
use Rattle.math_cooper.specs.System.{Affine, affine_value}
use Rattle.cooper_solve.specs.declared.found.Put.{Put}
use Rattle.cooper_solve.specs.declared.found.Solution.{Solution}
use Rattle.cooper_solve.specs.declared.found.Found.{Found}
use Rattle.cooper_solve.specs.declared.found.Found.TheVariants.{Solved, Far, Wide, Unsat}

-- the value is kept where it is one of the first eight and fits 64 bits
abbrev pub IsBack : Solution → Put → Affine → ℤ → ℕ → Found → Type 0
IsBack s p g c i (Solved t) =
    (t.puts.items ≡ s.puts.items ++ p ∷ [])
    × (((8 ≤ i) × (t.values.items ≡ s.values.items)) ⊎ ((i < 8) × ((x : ℤ) × IsLabelNumber x × (c *ℤ x ≡ affine_value g s.values.items) × (t.values.items ≡ s.values.items ++ x ∷ []))))
IsBack s p g c i (Far ps) = (ps.items ≡ s.puts.items ++ p ∷ []) × (i < 8) × ((x : ℤ) → IsLabelNumber x → c *ℤ x ≡ affine_value g s.values.items → ⊥)
IsBack s p g c i (Wide ps) = ⊥
IsBack s p g c i Unsat = ⊥
