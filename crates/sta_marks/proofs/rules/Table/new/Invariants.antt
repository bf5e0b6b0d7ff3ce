use Rattle.std.proofs.Common.{ℕ, ◌≡◌, ◌<◌, [], map, get_or, length}
use Rattle.sta_marks.specs.Rules.{plain_rules, owned_from, plain_owned}
use Rattle.sta_marks.proofs.rules.Table.new.Given as goal

abbrev pub invariant-constructors : goal.invariant-constructors
invariant-constructors g l = record {
  many : length l.lists.items ≡ l.constructor;
  each : (c : ℕ) → c < l.constructor → map plain_owned (get_or (map (λ v. v.items) l.lists.items) c []) ≡ owned_from c 0 (plain_rules l.rules);
}
