-- How often a term uses a child.
use Rattle.std.specs.Prelude.{ℕ, ◌+◌, cond, ◌==◌}
use Rattle.model_sttr.specs.Terms.{Term, on, build, Parts, no_parts, part}

module _ {H M : Type 0} (j : ℕ) where
  abbrev mutual
    pub use_count : Term H M → ℕ
    use_count (on h i) = cond (i == j) 1 0
    use_count (build c m ps) = uses_in ps

    pub uses_in : Parts H M → ℕ
    uses_in no_parts = 0
    uses_in (part p ps) = use_count p + uses_in ps
