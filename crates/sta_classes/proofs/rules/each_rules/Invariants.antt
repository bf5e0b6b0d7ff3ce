use Rattle.std.proofs.Common.{ℕ, ◌≡◌, ◌<◌, length, get_or}
use Rattle.sta_classes.specs.Applying.{IsRules}
use Rattle.sta_classes.specs.declared.rules.Rules.{Rules}
use Rattle.sta_classes.proofs.rules.each_rules.Given as goal

abbrev pub invariant-constructors : goal.invariant-constructors
invariant-constructors g l = record {
  many : length l.each.items ≡ l.constructor;
  are : (c : ℕ) (own : Rules g.row.A.Denot) → c < length l.each.items → get_or l.each.items c own ≡ own → IsRules g.A.PartialEq.eq l.rules c own;
}
