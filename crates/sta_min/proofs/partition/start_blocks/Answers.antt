use Rattle.std.proofs.Common.{◌+◌, ◌≡◌, length, refl, sym, subst, arith}
use Rattle.std.specs.Bool.{beq}
use Rattle.std.specs.Cmp.{booleans_Decides}
use Rattle.model_sta.specs.Sets.{has}
use Rattle.sta_classes.specs.Plain.{class_row}
use Rattle.sta_min.specs.Firsts.{AreFirsts}
use Rattle.sta_min.proofs.FirstOnes.{IsNextMap, empty_map, next_map, no_firsts, firsts_more}
use Rattle.sta_min.proofs.partition.start_blocks.Goals as goal

pub classes-init : goal.classes-init
classes-init g c = record {
  map = empty_map (λ b. b) beq booleans_Decides (λ k. has (class_row c.args.table.now k) c.args.state) 0 c.new-seen.result refl c.new-seen.ensures.empty;
  firsts = subst (AreFirsts (λ k. has (class_row c.args.table.now k) c.args.state) 0) (sym c.new-blocks.ensures.items) (no_firsts (λ k. has (class_row c.args.table.now k) c.args.state) 0 refl);
}

pub classes-preserved : goal.classes-preserved
classes-preserved g c =
    let h : IsNextMap (λ b. b) beq booleans_Decides (λ k. has (class_row c.args.table.now k) c.args.state) c.classes.class c.classes.seen c.number_of.new.seen c.classes.invariant.map c.has.result (sym c.has.ensures) c.in_ok-number_of.field-0 c.in_ok-number_of.ensures =
    next_map (λ b. b) beq booleans_Decides (λ k. has (class_row c.args.table.now k) c.args.state) c.classes.class c.classes.seen c.number_of.new.seen c.classes.invariant.map c.has.result (sym c.has.ensures) c.in_ok-number_of.field-0 c.in_ok-number_of.ensures in
    record {
      map = h.map;
      firsts = subst (AreFirsts (λ k. has (class_row c.args.table.now k) c.args.state) (c.classes.class + 1)) (sym c.in_ok-push.ensures.items) (firsts_more (λ k. has (class_row c.args.table.now k) c.args.state) c.classes.class c.classes.blocks.items c.classes.invariant.firsts c.in_ok-number_of.field-0 h.up_to h.same h.first);
    }

pub returns : goal.returns
returns g c =
    subst (λ n. AreFirsts (λ k. has (class_row c.args.table.now k) c.args.state) n c.classes.blocks.items)
    (let e : c.classes.class ≡ length c.args.table.now.found = omega (arith, c.classes-test.false, c.classes.auto.class-end, c.len-class-end.ensures) in e) c.classes.invariant.firsts
