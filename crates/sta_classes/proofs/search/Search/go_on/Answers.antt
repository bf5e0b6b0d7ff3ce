use Rattle.std.proofs.lemmas.Result.{IfOk-at_ok}
use Rattle.std.proofs.lemmas.List.{length_push}
use Rattle.std.proofs.Common.{◌≤◌, length, ap, sym, subst, arith}
use Rattle.sta_classes.specs.Rules.{plain_rules, meaning_of}
use Rattle.sta_classes.proofs.Runs.{run_first, run_last, run_sound, run_kinds, run_rest, taken_as, split_again}
use Rattle.sta_classes.proofs.Keys.{split_next}
use Rattle.sta_classes.proofs.Turns.{few_found}
use Rattle.sta_classes.proofs.Keeping.{stopped}
use Rattle.sta_classes.proofs.search.Search.go_on.Goals as goal

pub turns-init : goal.turns-init
turns-init g c = record {
  under = c.requires.begun.under;
  rest = λ s better new. run_first (g.T.Theory.meaning c.args.self.now.theory.now) c.args.self.now.ranks.now c.args.self.now.rules.now c.args.course.now.known.classes.items c.args.course.now.known.places.items s c.requires.begun.none c.requires.begun.under.kinds new;
}

pub take-requires : goal.take-requires
take-requires g c = record { kept = c.in_ok-open_new.ensures.under.sound.kept }

pub open_new-requires : goal.open_new-requires
open_new-requires g c = record { ready = c.requires.ready; under = c.turns.invariant.under }

pub returns-in_default : goal.returns-in_default
returns-in_default g c = record {
  classes = c.in_ok-open_new.ensures.under.sound.classes;
  complete = run_last (g.T.Theory.meaning c.args.self.now.theory.now) c.args.self.now.ranks.now c.args.self.now.rules.now c.turns.course.known.classes.items c.turns.course.known.places.items c.open_new.new.offers.pending c.take.new.self c.in_ok-open_new.ensures.under.sound c.turns.invariant.under.kinds (c.turns.invariant.rest c.open_new.new.offers.pending c.in_ok-open_new.ensures.better c.in_ok-open_new.ensures.offered) c.in_default.ensures.taken;
  kinds = c.turns.invariant.under.kinds;
  few = omega (arith, c.in_ok-open_new.ensures.under.few, few_found c.args.self.now.ranks.now (g.T.Theory.meaning c.args.self.now.theory.now).has (g.T.Theory.meaning c.args.self.now.theory.now).keeps (meaning_of g.T.Theory.atom_holds (plain_rules c.args.self.now.rules.now)) g.T.Theory.label_of c.turns.course.known.classes.items c.open_new.new.offers.pending c.in_ok-open_new.ensures.under.sound);
}

pub turns-preserved : goal.turns-preserved
turns-preserved g c = record {
  under = record {
    sound = run_sound (g.T.Theory.meaning c.args.self.now.theory.now) c.args.self.now.ranks.now c.args.self.now.rules.now c.turns.course.known.classes.items c.turns.course.known.places.items c.open_new.new.offers.pending c.take.new.self c.in_ok-open_new.ensures.under.sound c.turns.invariant.under.kinds (c.turns.invariant.rest c.open_new.new.offers.pending c.in_ok-open_new.ensures.better c.in_ok-open_new.ensures.offered) c.in_ok-kept.field-0 (taken_as c.open_new.new.offers.pending c.take.new.self c.in-Some.class c.in_ok-kept.field-0 c.in_ok-kept.ensures.0 c.in-Some.ensures.taken) c.take.ensures.kept c.add.new.self.classes.items c.add.new.self.places.items c.in_ok-add.ensures.classes c.in_ok-add.ensures.many c.in_ok-add.ensures.each;
    kinds = run_kinds (g.T.Theory.meaning c.args.self.now.theory.now) c.args.self.now.ranks.now c.args.self.now.rules.now c.turns.course.known.classes.items c.turns.course.known.places.items c.open_new.new.offers.pending c.take.new.self c.in_ok-open_new.ensures.under.sound c.turns.invariant.under.kinds (c.turns.invariant.rest c.open_new.new.offers.pending c.in_ok-open_new.ensures.better c.in_ok-open_new.ensures.offered) c.in_ok-kept.field-0 (taken_as c.open_new.new.offers.pending c.take.new.self c.in-Some.class c.in_ok-kept.field-0 c.in_ok-kept.ensures.0 c.in-Some.ensures.taken) c.take.ensures.kept c.add.new.self.classes.items c.add.new.self.places.items c.in_ok-add.ensures.classes c.in_ok-add.ensures.many c.in_ok-add.ensures.each;
    splits = split_again (g.T.Theory.meaning c.args.self.now.theory.now) c.args.self.now.ranks.now c.args.self.now.own.now c.turns.course.known.classes.items c.add.new.self.classes.items c.open_new.new.offers.splits.items c.add_to_splits-told.new.splits.items c.in-Some.class c.in_ok-kept.field-0 c.in_ok-kept.ensures.0 c.in_ok-add.ensures.classes
        (λ rows h. split_next (g.T.Theory.meaning c.args.self.now.theory.now) c.args.self.now.ranks.now c.args.self.now.own.now rows c.in-Some.class.row c.open_new.new.offers.splits.items c.add_to_splits-told.new.splits.items h (IfOk-at_ok _ c.in_ok-kept.ensures.1 c.add_to_splits-told.ensures)) c.in_ok-open_new.ensures.under.splits;
    few = subst (λ z. length z.keys ≤ c.args.self.now.most) (sym c.in-Some.ensures.taken.sets_are) c.in_ok-open_new.ensures.under.few;
  };
  rest = run_rest (g.T.Theory.meaning c.args.self.now.theory.now) c.args.self.now.ranks.now c.args.self.now.rules.now c.turns.course.known.classes.items c.turns.course.known.places.items c.open_new.new.offers.pending c.take.new.self c.in_ok-open_new.ensures.under.sound c.turns.invariant.under.kinds (c.turns.invariant.rest c.open_new.new.offers.pending c.in_ok-open_new.ensures.better c.in_ok-open_new.ensures.offered) c.in_ok-kept.field-0 (taken_as c.open_new.new.offers.pending c.take.new.self c.in-Some.class c.in_ok-kept.field-0 c.in_ok-kept.ensures.0 c.in-Some.ensures.taken) c.take.ensures.kept c.add.new.self.classes.items c.add.new.self.places.items c.in_ok-add.ensures.classes c.in_ok-add.ensures.many c.in_ok-add.ensures.each;
}

pub turns-smaller : goal.turns-smaller
turns-smaller g c = omega (arith, ap length c.in_ok-add.ensures.classes, length_push c.turns.course.known.classes.items c.in_ok-kept.field-0, ap (λ z. length z.keys) c.in-Some.ensures.taken.sets_are, c.in_ok-open_new.ensures.under.few, few_found c.args.self.now.ranks.now (g.T.Theory.meaning c.args.self.now.theory.now).has (g.T.Theory.meaning c.args.self.now.theory.now).keeps (meaning_of g.T.Theory.atom_holds (plain_rules c.args.self.now.rules.now)) g.T.Theory.label_of c.add.new.self.classes.items c.take.new.self (run_sound (g.T.Theory.meaning c.args.self.now.theory.now) c.args.self.now.ranks.now c.args.self.now.rules.now c.turns.course.known.classes.items c.turns.course.known.places.items c.open_new.new.offers.pending c.take.new.self c.in_ok-open_new.ensures.under.sound c.turns.invariant.under.kinds (c.turns.invariant.rest c.open_new.new.offers.pending c.in_ok-open_new.ensures.better c.in_ok-open_new.ensures.offered) c.in_ok-kept.field-0 (taken_as c.open_new.new.offers.pending c.take.new.self c.in-Some.class c.in_ok-kept.field-0 c.in_ok-kept.ensures.0 c.in-Some.ensures.taken) c.take.ensures.kept c.add.new.self.classes.items c.add.new.self.places.items c.in_ok-add.ensures.classes c.in_ok-add.ensures.many c.in_ok-add.ensures.each))

pub returns-in_err-open_new : goal.returns-in_err-open_new
returns-in_err-open_new g c = stopped c.from_residual.result _ _ c.in_err-open_new.field-0.0 c.from_residual.ensures.1 c.in_err-open_new.ensures

pub returns-in_err-kept : goal.returns-in_err-kept
returns-in_err-kept g c = stopped c.from_residual-in_err-kept.result _ _ _ c.from_residual-in_err-kept.ensures.1 tt

pub returns-in_err-add : goal.returns-in_err-add
returns-in_err-add g c = stopped c.from_residual-in_err-add.result _ _ _ c.from_residual-in_err-add.ensures.1 tt

pub add_to_splits-told-requires : goal.add_to_splits-told-requires
add_to_splits-told-requires g c = record { own = c.requires.ready.many; many = c.in_ok-open_new.ensures.under.splits.many }
