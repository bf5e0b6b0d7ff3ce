use Rattle.std.proofs.Common.{◌≡◌, ◌<◌, ap, sym, subst, ◌∙◌, length, true≢false}
use Rattle.std.proofs.lemmas.List.{length-map}
use Rattle.sta_classes.specs.Rows.{lists_of}
use Rattle.sta_theory.specs.Rounds.{room}
use Rattle.sta_min.specs.Firsts.{AreNumbers}
use Rattle.sta_min.specs.Rounds.{AreBelow, IsFiner, begun, later}
use Rattle.sta_min.proofs.FirstOnes.{decides_lists}
use Rattle.sta_min.proofs.Refining.{finer_numbers, room_left}
use Rattle.sta_min.proofs.rounds.refined.Goals as goal

pub rounds-init : goal.rounds-init
rounds-init c = record { numbers = c.requires.numbers; after = begun }

pub round-requires-clause-many : goal.round-requires-clause-many
round-requires-clause-many c = ap length c.deref.ensures.value ∙ c.rounds.invariant.numbers.many

pub round-requires-clause-below : goal.round-requires-clause-below
round-requires-clause-below c = subst (λ n. AreBelow n c.args.nodes.now) (sym (ap length c.deref.ensures.value ∙ c.rounds.invariant.numbers.many)) c.requires.below

pub returns-then-eq : goal.returns-then-eq
returns-then-eq c =
    let finer : IsFiner (lists_of c.args.nodes.now) c.rounds.blocks.items c.in_ok-finer.finer.items = subst (λ l. IsFiner (lists_of c.args.nodes.now) l c.in_ok-finer.finer.items) c.deref.ensures.value c.in_ok-finer.ensures in
    let same : c.in_ok-finer.finer.items ≡ c.rounds.blocks.items = (decides_lists c.in_ok-finer.finer.items c.rounds.blocks.items).0 (sym c.eq.ensures ∙ c.if-eq.true) in
    record {
      numbers = subst (λ n. AreNumbers n c.rounds.blocks.items) (sym (length-map c.args.nodes.now (λ v. v.items))) c.rounds.invariant.numbers;
      after = c.rounds.invariant.after;
      last = subst (IsFiner (lists_of c.args.nodes.now) c.rounds.blocks.items) same finer;
    }

pub rounds-smaller : goal.rounds-smaller
rounds-smaller c =
    let finer : IsFiner (lists_of c.args.nodes.now) c.rounds.blocks.items c.in_ok-finer.finer.items = subst (λ l. IsFiner (lists_of c.args.nodes.now) l c.in_ok-finer.finer.items) c.deref.ensures.value c.in_ok-finer.ensures in
    let long : length (lists_of c.args.nodes.now) ≡ length c.args.nodes.now = length-map c.args.nodes.now (λ v. v.items) in
    subst (λ n. room n c.in_ok-finer.finer.items < room n c.rounds.blocks.items) long
    (room_left (lists_of c.args.nodes.now) c.rounds.blocks.items c.in_ok-finer.finer.items finer (subst (λ n. AreNumbers n c.rounds.blocks.items) (sym long) c.rounds.invariant.numbers)
    (λ same. true≢false (sym ((decides_lists c.in_ok-finer.finer.items c.rounds.blocks.items).1 same) ∙ sym c.eq.ensures ∙ c.if-eq.false)))

pub rounds-preserved : goal.rounds-preserved
rounds-preserved c =
    let finer : IsFiner (lists_of c.args.nodes.now) c.rounds.blocks.items c.in_ok-finer.finer.items = subst (λ l. IsFiner (lists_of c.args.nodes.now) l c.in_ok-finer.finer.items) c.deref.ensures.value c.in_ok-finer.ensures in
    let long : length (lists_of c.args.nodes.now) ≡ length c.args.nodes.now = length-map c.args.nodes.now (λ v. v.items) in
    record {
      numbers = subst (λ n. AreNumbers n c.in_ok-finer.finer.items) long (finer_numbers (lists_of c.args.nodes.now) c.rounds.blocks.items c.in_ok-finer.finer.items finer);
      after = later c.rounds.blocks.items c.in_ok-finer.finer.items c.rounds.invariant.after finer;
    }
