use Rattle.std.proofs.Common.{◌≡◌, ℕ, ◌<◌, All, map, take}
use Rattle.sttr_core.specs.Terms.{plain_term}
use Rattle.sttr_apply.specs.Calls.{calls_each, used, asks_in}
use Rattle.sttr_apply.proofs.calls.asks_on.Given as goal

abbrev pub invariant-terms : goal.invariant-terms
invariant-terms g l = record {
  used : (q : ℕ) → used (asks_in l.asks.items) q ≡ calls_each q l.child (map (λ those. map (λ t. plain_term t.now) those.items) (take l.those-index l.terms));
  some : All (λ a. 0 < a.uses) l.asks.items;
}
