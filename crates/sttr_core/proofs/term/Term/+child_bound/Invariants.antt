use Rattle.std.proofs.Common.{◌≡◌, ℕ, ◌≤◌, map, drop}
use Rattle.sttr_core.specs.Terms.{plain_term}
use Rattle.sttr_core.specs.Uses.{use_count, uses_in}
use Rattle.sttr_core.proofs.Parts.{parts_of}
use Rattle.sttr_core.proofs.term.Term.+child_bound.Given as goal

abbrev pub invariant-parts : goal.invariant-parts
invariant-parts g l =
    (j : ℕ) → l.bound ≤ j → use_count j (plain_term l.self) ≡ uses_in j (parts_of (map plain_term (drop l.part-index l.part-items)))
