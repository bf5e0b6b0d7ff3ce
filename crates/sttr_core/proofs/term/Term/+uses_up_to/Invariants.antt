use Rattle.std.proofs.Common.{◌≡◌, ◌+◌, ◌≤◌, min, map, drop}
use Rattle.sttr_core.specs.Terms.{plain_term}
use Rattle.sttr_core.specs.Uses.{use_count, uses_in}
use Rattle.sttr_core.proofs.Parts.{parts_of}
use Rattle.sttr_core.proofs.term.Term.+uses_up_to.Given as goal

abbrev pub invariant-parts : goal.invariant-parts
invariant-parts g l =
    (l.found ≤ l.most) × (min (l.found + uses_in l.child (parts_of (map plain_term (drop l.part-index l.part-items)))) l.most ≡ min (use_count l.child (plain_term l.self)) l.most)
