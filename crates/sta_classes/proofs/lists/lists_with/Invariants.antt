use Rattle.std.proofs.Common.{ℕ, List, map, Contains, ◌↔◌}
use Rattle.sta_classes.specs.Lists.{IsListWith}
use Rattle.sta_classes.specs.Rows.{lists_of}
use Rattle.sta_classes.proofs.lists.lists_with.Given as goal

abbrev pub invariant-loop-j : goal.invariant-loop-j
invariant-loop-j l = (ks : List ℕ) → Contains (lists_of l.lists.items) ks ↔ IsListWith (map (λ p. p.firsts.items) l.places) l.place l.class l.j ks
