use Rattle.std.proofs.Common.{◌≡◌, ◌≤◌, ◌-◌, map, take, length, Some}
use Rattle.fast_syntax.specs.Plain.{plain_lang}
use Rattle.fast_build.specs.Items.{items_of, find_lang}
use Rattle.fast_build.specs.Reached.{AreReached, AreClosed}
use Rattle.fast_build.proofs.reached.reach.Given as goal

abbrev pub invariant-reach : goal.invariant-reach
invariant-reach l = record {
  reached : AreReached (items_of l.checked) l.name l.names.keys;
  closed : AreClosed (items_of l.checked) l.names.keys (take (length l.langs.items) l.names.keys);
  langs : map (find_lang (items_of l.checked)) (take (length l.langs.items) l.names.keys) ≡ map (λ x. Some (plain_lang x.now)) l.langs.items;
  count : length l.langs.items ≤ length l.names.keys;
}

abbrev pub decreases-reach : goal.decreases-reach
decreases-reach l = length (items_of l.checked) - length l.langs.items
