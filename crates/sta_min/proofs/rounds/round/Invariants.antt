use Rattle.std.proofs.Common.{nat_eq}
use Rattle.std.specs.Cmp.Lexicographic.{pointwise}
use Rattle.sta_classes.specs.Rows.{lists_of}
use Rattle.sta_min.specs.Firsts.{AreFirsts}
use Rattle.sta_min.specs.Rounds.{signature_at}
use Rattle.sta_min.proofs.FirstOnes.{IsFirstMap, decides_lists}
use Rattle.sta_min.proofs.rounds.round.Given as goal

abbrev pub invariant-classes : goal.invariant-classes
invariant-classes l = record {
  map : IsFirstMap (λ v. v.items) (pointwise nat_eq) decides_lists (signature_at (lists_of l.nodes) l.blocks) l.class l.seen;
  firsts : AreFirsts (signature_at (lists_of l.nodes) l.blocks) l.class l.finer.items;
}
