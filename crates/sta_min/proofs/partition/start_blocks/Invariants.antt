use Rattle.std.specs.Bool.{beq}
use Rattle.std.specs.Cmp.{booleans_Decides}
use Rattle.model_sta.specs.Sets.{has}
use Rattle.sta_classes.specs.Plain.{class_row}
use Rattle.sta_min.specs.Firsts.{AreFirsts}
use Rattle.sta_min.proofs.FirstOnes.{IsFirstMap}
use Rattle.sta_min.proofs.partition.start_blocks.Given as goal

abbrev pub invariant-classes : goal.invariant-classes
invariant-classes g l = record {
  map : IsFirstMap (λ b. b) beq booleans_Decides (λ k. has (class_row l.table k) l.state) l.class l.seen;
  firsts : AreFirsts (λ k. has (class_row l.table k) l.state) l.class l.blocks.items;
}
