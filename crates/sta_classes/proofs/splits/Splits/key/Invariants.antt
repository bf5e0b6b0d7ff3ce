use Rattle.std.proofs.Common.{◌≡◌, Bool, List, [], length, map, take, get_or}
use Rattle.model_sta.specs.Sets.{rows_meet}
use Rattle.sta_core.specs.Machine.{plain_rule}
use Rattle.sta_classes.specs.Splits.{AreMet}
use Rattle.sta_classes.proofs.splits.Splits.key.Given as goal

abbrev pub invariant-loop-place : goal.invariant-loop-place
invariant-loop-place g l = (rows : List (List Bool)) → AreMet l.own.list.items (length l.children) rows l.self.met.items → l.key ≡ map (λ x. rows_meet (map (λ k. get_or rows k []) (take l.place l.children)) (plain_rule x.rule.now).demands) l.own.list.items
