use Rattle.std.proofs.Common.{ℕ, List, Contains, ◌↔◌}
use Rattle.sta_classes.specs.Rows.{lists_of}
use Rattle.sta_min.specs.Lists.{IsListOf}
use Rattle.sta_min.proofs.lists.combinations.Given as goal

abbrev pub invariant-loop-j : goal.invariant-loop-j
invariant-loop-j l = (ks : List ℕ) → Contains (lists_of l.lists.items) ks ↔ IsListOf (lists_of l.choices) l.j ks
