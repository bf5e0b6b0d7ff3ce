use Rattle.std.proofs.Common.{◌≡◌, ◌≤◌, ◌-◌, ℕ, List, true, map, take, length, Some, All, Contains}
use Rattle.std.specs.Prelude.{is_some}
use Rattle.fast_syntax.specs.Plain.{plain_lang}
use Rattle.model_meaning.specs.Reached.{Reaches}
use Rattle.fast_build.specs.Items.{items_of, find_lang}
use Rattle.fast_build.specs.Reached.{AreClosed}
use Rattle.fast_build.proofs.looked.gather.Given as goal

abbrev pub invariant-gather : goal.invariant-gather
invariant-gather l = record {
  known : All (λ n. is_some (find_lang (items_of l.checked) n) ≡ true) l.names.keys;
  kept : All (Contains l.names.keys) l.initial.names.keys;
  reached : All (λ n. (s : List ℕ) × Contains l.initial.names.keys s × Reaches (items_of l.checked) s n) l.names.keys;
  closed : AreClosed (items_of l.checked) l.names.keys (take (length l.langs.items) l.names.keys);
  langs : map (find_lang (items_of l.checked)) (take (length l.langs.items) l.names.keys) ≡ map (λ x. Some (plain_lang x.now)) l.langs.items;
  count : length l.langs.items ≤ length l.names.keys;
}

abbrev pub decreases-gather : goal.decreases-gather
decreases-gather l = length (items_of l.checked) - length l.langs.items
