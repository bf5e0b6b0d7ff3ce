use Rattle.std.proofs.Common.{nat_eq, ap, sym, subst, refl, ◌∙◌, ◌≡◌, length, ◌+◌, arith}
use Rattle.std.specs.Cmp.Lexicographic.{pointwise}
use Rattle.std.proofs.lemmas.List.{length-map}
use Rattle.sta_classes.specs.Rows.{lists_of}
use Rattle.sta_classes.proofs.Rows.{list_at}
use Rattle.sta_min.specs.Firsts.{AreFirsts}
use Rattle.sta_min.specs.Rounds.{signature, signature_at}
use Rattle.sta_min.proofs.FirstOnes.{IsNextMap, decides_lists, empty_map, next_map, no_firsts, firsts_more}
use Rattle.sta_min.proofs.rounds.round.Goals as goal

pub classes-init : goal.classes-init
classes-init c = record {
  map = empty_map (λ v. v.items) (pointwise nat_eq) decides_lists (signature_at (lists_of c.args.nodes.now) c.args.blocks.now) 0 c.new-seen.result refl c.new-seen.ensures.empty;
  firsts = subst (AreFirsts (signature_at (lists_of c.args.nodes.now) c.args.blocks.now) 0) (sym c.new-finer.ensures.items) (no_firsts (signature_at (lists_of c.args.nodes.now) c.args.blocks.now) 0 refl);
}

pub classes-preserved : goal.classes-preserved
classes-preserved c =
    let f = signature_at (lists_of c.args.nodes.now) c.args.blocks.now in
    let here : f c.classes.class ≡ c.in_ok-key.key.items =
    sym (c.in_ok-key.ensures ∙ ap (signature c.args.blocks.now c.classes.class) (list_at c.args.nodes.now c.classes.class c.index-nodes-class.result c.deref.result.now c.classes-test.true c.index-nodes-class.is c.deref.ensures.value)) in
    let h : IsNextMap (λ v. v.items) (pointwise nat_eq) decides_lists f c.classes.class c.classes.seen c.number_of.new.seen c.classes.invariant.map c.in_ok-key.key here c.in_ok-number_of.field-0 c.in_ok-number_of.ensures =
    next_map (λ v. v.items) (pointwise nat_eq) decides_lists f c.classes.class c.classes.seen c.number_of.new.seen c.classes.invariant.map c.in_ok-key.key here c.in_ok-number_of.field-0 c.in_ok-number_of.ensures in
    record {
      map = h.map;
      firsts = subst (AreFirsts f (c.classes.class + 1)) (sym c.in_ok-push.ensures.items) (firsts_more f c.classes.class c.classes.finer.items c.classes.invariant.firsts c.in_ok-number_of.field-0 h.up_to h.same h.first);
    }

pub returns : goal.returns
returns c =
    subst (λ n. AreFirsts (signature_at (lists_of c.args.nodes.now) c.args.blocks.now) n c.classes.finer.items)
    (let e : c.classes.class ≡ length (lists_of c.args.nodes.now) = omega (arith, c.classes-test.false, c.classes.auto.class-end, length-map c.args.nodes.now (λ v. v.items)) in e) c.classes.invariant.firsts
