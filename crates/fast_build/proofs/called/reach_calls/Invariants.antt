use Rattle.std.proofs.Common.{◌≡◌, ◌≤◌, ◌-◌, map, take, length, Some, All}
use Rattle.fast_syntax.specs.Plain.{plain_trans}
use Rattle.model_grammar.specs.Syntax.{TransItem}
use Rattle.meaning_laws.specs.Reaching.{IsTransFrom}
use Rattle.fast_build.specs.Items.{items_of}
use Rattle.fast_build.specs.Transformations.{find_trans}
use Rattle.fast_build.specs.Reached.{AreReached}
use Rattle.fast_build.specs.Called.{AreCallsClosed}
use Rattle.fast_build.proofs.called.reach_calls.Given as goal

abbrev pub invariant-reach : goal.invariant-reach
invariant-reach l = record {
  known : (t : TransItem) → find_trans (items_of l.checked) l.name ≡ Some t → All (λ n. IsTransFrom (items_of l.checked) n t.from.text t.into.text) l.names.keys;
  reached : AreReached (items_of l.checked) l.name l.names.keys;
  closed : AreCallsClosed (items_of l.checked) l.names.keys (take (length l.transformations.items) l.names.keys);
  transformations : map (find_trans (items_of l.checked)) (take (length l.transformations.items) l.names.keys) ≡ map (λ x. Some (plain_trans x.now)) l.transformations.items;
  count : length l.transformations.items ≤ length l.names.keys;
}

abbrev pub decreases-reach : goal.decreases-reach
decreases-reach l = length (items_of l.checked) - length l.transformations.items
