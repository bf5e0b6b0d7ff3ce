use Rattle.std.proofs.Common.{◌≡◌, ℕ, ◌+◌, ◌<◌, All, map, take}
use Rattle.sttr_core.specs.Terms.{plain_term}
use Rattle.sttr_apply.specs.Calls.{calls_of, used, asks_in}
use Rattle.sttr_apply.proofs.calls.+add_calls.Given as goal

abbrev pub invariant-parts : goal.invariant-parts
invariant-parts g l = record {
  used : (q : ℕ) → used (asks_in l.asks.items) q ≡ used (asks_in l.fn.asks.items) q + calls_of q l.child (map plain_term (take l.part-index l.part-items));
  some : All (λ a. 0 < a.uses) l.fn.asks.items → All (λ a. 0 < a.uses) l.asks.items;
}
