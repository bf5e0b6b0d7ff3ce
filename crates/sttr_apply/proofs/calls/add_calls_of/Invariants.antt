use Rattle.std.proofs.Common.{◌≡◌, ℕ, ◌+◌, ◌<◌, All, map, take}
use Rattle.sttr_core.specs.Terms.{plain_term}
use Rattle.sttr_apply.specs.Calls.{calls_of, used, asks_in}
use Rattle.sttr_apply.proofs.calls.add_calls_of.Given as goal

abbrev pub invariant-terms : goal.invariant-terms
invariant-terms g l = record {
  used : (q : ℕ) → used (asks_in l.asks.items) q ≡ used (asks_in l.fn.asks.items) q + calls_of q l.child (map (λ t. plain_term t.now) (take l.term-index l.terms));
  some : All (λ a. 0 < a.uses) l.fn.asks.items → All (λ a. 0 < a.uses) l.asks.items;
}
