use Rattle.std.proofs.Common.{arith, length, subst, sym}
use Rattle.std.proofs.lemmas.Result.{IfOk-from_err}
use Rattle.label_split.specs.Numbers.{truths_at, AreAsked, HaveSigns}
use Rattle.label_split.specs.Search.{branch_lists, Covers, IsLooked, MayFollow}
use Rattle.label_split.proofs.Branches.{covers_all, last_many, left_found, left_nearer, left_same, many_in_one, may_follow, no_branch, none_left, passes_left, turned, wide_left}
use Rattle.label_split.proofs.Verdicts.{ok_as}
use Rattle.label_split.proofs.search.search.Goals as goal

pub returns-in_err-branches : goal.returns-in_err-branches
returns-in_err-branches g c = IfOk-from_err c.from_residual.result _ c.from_residual.ensures.0

pub returns-in_err-follow : goal.returns-in_err-follow
returns-in_err-follow g c = IfOk-from_err c.from_residual-in_err-follow.result _ c.from_residual-in_err-follow.ensures.0

pub branches-init : goal.branches-init
branches-init g c = record {
  left = λ l has asked. covers_all (length c.args.atoms.now) (branch_lists c.in_ok-branches.branches.items) c.in_ok-branches.ensures (truths_at g.T.Theory.atom_holds c.args.atoms.now l);
  many = many_in_one (length c.args.atoms.now) (branch_lists c.in_ok-branches.branches.items) c.in_ok-branches.ensures;
}

pub look_at-look-requires-clause-asked : goal.look_at-look-requires-clause-asked
look_at-look-requires-clause-asked g c = subst (λ n. AreAsked n c.args.asked.now.formulas.now c.args.asked.now.signs.now) (sym (last_many (length c.args.atoms.now) c.branches.branches.items c.pop.new.self.items c.in-Some.known c.in-Some.ensures.items c.branches.invariant.many)) c.requires.asked

pub look_at-look-requires-clause-many : goal.look_at-look-requires-clause-many
look_at-look-requires-clause-many g c = last_many (length c.args.atoms.now) c.branches.branches.items c.pop.new.self.items c.in-Some.known c.in-Some.ensures.items c.branches.invariant.many

pub look_at-look-requires-clause-fit : goal.look_at-look-requires-clause-fit
look_at-look-requires-clause-fit g c = c.requires.fit

pub follow-requires : goal.follow-requires
follow-requires g c = ok_as (IsLooked (g.T.Theory.meaning c.args.theory.now) c.args.atoms.now (HaveSigns c.args.asked.now.formulas.now c.args.asked.now.signs.now) c.in-Some.known.signs.items c.look_at-look.new.known.signs.items) (MayFollow c.look_at-look.new.known.signs.items)
    (may_follow (g.T.Theory.meaning c.args.theory.now) c.args.atoms.now (HaveSigns c.args.asked.now.formulas.now c.args.asked.now.signs.now) c.in-Some.known.signs.items c.look_at-look.new.known.signs.items) c.look_at-look.result c.look_at-look.ensures

pub branches-smaller-in-Unsat : goal.branches-smaller-in-Unsat
branches-smaller-in-Unsat g c = (turned (g.T.Theory.meaning c.args.theory.now) c.args.atoms.now (HaveSigns c.args.asked.now.formulas.now c.args.asked.now.signs.now) c.branches.branches.items c.pop.new.self.items c.in-Some.known c.look_at-look.new.known.signs.items c.in-Some.ensures.items c.branches.invariant.many c.look_at-look.result c.look_at-look.ensures c.follow.new.branches.items _ c.in_ok-follow.ensures).less

pub branches-preserved-in-Unsat : goal.branches-preserved-in-Unsat
branches-preserved-in-Unsat g c = record {
  left = left_same (g.T.Theory.meaning c.args.theory.now) (g.met.T.Theory.keeps_labels c.args.theory.now) c.args.atoms.now (HaveSigns c.args.asked.now.formulas.now c.args.asked.now.signs.now) (branch_lists c.branches.branches.items) (branch_lists c.follow.new.branches.items) c.branches.wide _ c.in-Unsat.is (turned (g.T.Theory.meaning c.args.theory.now) c.args.atoms.now (HaveSigns c.args.asked.now.formulas.now c.args.asked.now.signs.now) c.branches.branches.items c.pop.new.self.items c.in-Some.known c.look_at-look.new.known.signs.items c.in-Some.ensures.items c.branches.invariant.many c.look_at-look.result c.look_at-look.ensures c.follow.new.branches.items _ c.in_ok-follow.ensures) c.branches.invariant.left;
  many = (turned (g.T.Theory.meaning c.args.theory.now) c.args.atoms.now (HaveSigns c.args.asked.now.formulas.now c.args.asked.now.signs.now) c.branches.branches.items c.pop.new.self.items c.in-Some.known c.look_at-look.new.known.signs.items c.in-Some.ensures.items c.branches.invariant.many c.look_at-look.result c.look_at-look.ensures c.follow.new.branches.items _ c.in_ok-follow.ensures).many;
}

pub returns-in-Sat : goal.returns-in-Sat
returns-in-Sat g c = left_found (g.T.Theory.meaning c.args.theory.now) (g.met.T.Theory.keeps_labels c.args.theory.now) c.args.atoms.now (HaveSigns c.args.asked.now.formulas.now c.args.asked.now.signs.now) (branch_lists c.branches.branches.items) (branch_lists c.follow.new.branches.items) c.in-Sat.value _ c.in-Sat.is (turned (g.T.Theory.meaning c.args.theory.now) c.args.atoms.now (HaveSigns c.args.asked.now.formulas.now c.args.asked.now.signs.now) c.branches.branches.items c.pop.new.self.items c.in-Some.known c.look_at-look.new.known.signs.items c.in-Some.ensures.items c.branches.invariant.many c.look_at-look.result c.look_at-look.ensures c.follow.new.branches.items _ c.in_ok-follow.ensures)

pub nearer-requires : goal.nearer-requires
nearer-requires g c = passes_left (g.T.Theory.meaning c.args.theory.now) (g.met.T.Theory.keeps_labels c.args.theory.now) c.args.atoms.now (HaveSigns c.args.asked.now.formulas.now c.args.asked.now.signs.now) c.branches.wide (λ l. Covers (branch_lists c.branches.branches.items) (truths_at g.T.Theory.atom_holds c.args.atoms.now l)) c.branches.invariant.left

pub branches-smaller : goal.branches-smaller
branches-smaller g c = (turned (g.T.Theory.meaning c.args.theory.now) c.args.atoms.now (HaveSigns c.args.asked.now.formulas.now c.args.asked.now.signs.now) c.branches.branches.items c.pop.new.self.items c.in-Some.known c.look_at-look.new.known.signs.items c.in-Some.ensures.items c.branches.invariant.many c.look_at-look.result c.look_at-look.ensures c.follow.new.branches.items _ c.in_ok-follow.ensures).less

pub branches-preserved : goal.branches-preserved
branches-preserved g c = record {
  left = left_nearer (g.T.Theory.meaning c.args.theory.now) (g.met.T.Theory.keeps_labels c.args.theory.now) c.args.atoms.now (HaveSigns c.args.asked.now.formulas.now c.args.asked.now.signs.now) (branch_lists c.branches.branches.items) (branch_lists c.follow.new.branches.items) c.branches.wide c.in-Wide.chain c.nearer.result _ c.in-Wide.is (turned (g.T.Theory.meaning c.args.theory.now) c.args.atoms.now (HaveSigns c.args.asked.now.formulas.now c.args.asked.now.signs.now) c.branches.branches.items c.pop.new.self.items c.in-Some.known c.look_at-look.new.known.signs.items c.in-Some.ensures.items c.branches.invariant.many c.look_at-look.result c.look_at-look.ensures c.follow.new.branches.items _ c.in_ok-follow.ensures) c.nearer.ensures c.branches.invariant.left;
  many = (turned (g.T.Theory.meaning c.args.theory.now) c.args.atoms.now (HaveSigns c.args.asked.now.formulas.now c.args.asked.now.signs.now) c.branches.branches.items c.pop.new.self.items c.in-Some.known c.look_at-look.new.known.signs.items c.in-Some.ensures.items c.branches.invariant.many c.look_at-look.result c.look_at-look.ensures c.follow.new.branches.items _ c.in_ok-follow.ensures).many;
}

pub returns-in-None : goal.returns-in-None
returns-in-None g c = none_left (g.T.Theory.meaning c.args.theory.now) (g.met.T.Theory.keeps_labels c.args.theory.now) c.args.atoms.now (λ l. HaveSigns c.args.asked.now.formulas.now c.args.asked.now.signs.now (truths_at g.T.Theory.atom_holds c.args.atoms.now l)) (λ l. Covers (branch_lists c.branches.branches.items) (truths_at g.T.Theory.atom_holds c.args.atoms.now l)) c.branches.wide c.in-None.is (λ l. no_branch c.branches.branches.items (omega (arith, c.in_default.ensures.cases, c.branches.branches.ok.0)) (truths_at g.T.Theory.atom_holds c.args.atoms.now l)) c.branches.invariant.left

pub returns : goal.returns
returns g c = wide_left (g.T.Theory.meaning c.args.theory.now) (g.met.T.Theory.keeps_labels c.args.theory.now) c.args.atoms.now (λ l. HaveSigns c.args.asked.now.formulas.now c.args.asked.now.signs.now (truths_at g.T.Theory.atom_holds c.args.atoms.now l)) (λ l. Covers (branch_lists c.branches.branches.items) (truths_at g.T.Theory.atom_holds c.args.atoms.now l)) c.branches.wide c.in-Some-wide.chain c.in-Some-wide.is (λ l. no_branch c.branches.branches.items (omega (arith, c.in_default.ensures.cases, c.branches.branches.ok.0)) (truths_at g.T.Theory.atom_holds c.args.atoms.now l)) c.branches.invariant.left
