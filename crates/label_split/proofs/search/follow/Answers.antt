use Rattle.std.proofs.Common.{refl}
use Rattle.std.proofs.lemmas.Result.{IfOk-from_err}
use Rattle.label_core.specs.declared.theory.Verdict.TheVariants.{Sat, Unsat, Wide}
use Rattle.label_split.specs.Search.{branch_lists}
use Rattle.label_split.specs.declared.search.Look.TheVariants.{Found, Closed, TooWide, Again, Turn}
use Rattle.label_split.proofs.Branches.{followed, may_be_followed, pushed}
use Rattle.label_split.proofs.search.follow.Goals as goal

pub returns-in_err-value : goal.returns-in_err-value
returns-in_err-value g c = IfOk-from_err c.from_residual.result _ c.from_residual.ensures.0

pub returns-in_err-push-in-Again : goal.returns-in_err-push-in-Again
returns-in_err-push-in-Again g c = IfOk-from_err c.from_residual-in_err-push-in-Again.result _ c.from_residual-in_err-push-in-Again.ensures.0

pub returns-in_err-note-in-Again : goal.returns-in_err-note-in-Again
returns-in_err-note-in-Again g c = IfOk-from_err c.from_residual-in_err-note-in-Again.result _ c.from_residual-in_err-note-in-Again.ensures.0

pub add_branches-requires : goal.add_branches-requires
add_branches-requires g c = may_be_followed c.args.known.signs.items (branch_lists c.args.branches.now.items) (branch_lists c.args.branches.now.items) c.args.look _ (Turn c.in-Turn.number c.in-Turn.atom c.in-Turn.sign) c.in_ok-value.was c.in-Turn.is c.requires

pub returns-in_err-add_branches-in-Turn : goal.returns-in_err-add_branches-in-Turn
returns-in_err-add_branches-in-Turn g c = IfOk-from_err c.from_residual-in_err-add_branches-in-Turn.result _ c.from_residual-in_err-add_branches-in-Turn.ensures.0

pub returns-in_err-note-in-Turn : goal.returns-in_err-note-in-Turn
returns-in_err-note-in-Turn g c = IfOk-from_err c.from_residual-in_err-note-in-Turn.result _ c.from_residual-in_err-note-in-Turn.ensures.0

pub returns-in-Found : goal.returns-in-Found
returns-in-Found g c = followed c.args.known.signs.items (branch_lists c.args.branches.now.items) (branch_lists c.args.branches.now.items) c.args.look _ (Found c.in-Found.value) c.in_ok-value.was c.in-Found.is (Sat c.in-Found.value) (refl, refl)

pub returns-in-Closed : goal.returns-in-Closed
returns-in-Closed g c = followed c.args.known.signs.items (branch_lists c.args.branches.now.items) (branch_lists c.args.branches.now.items) c.args.look _ Closed c.in_ok-value.was c.in-Closed.is Unsat (refl, refl)

pub returns-in-TooWide : goal.returns-in-TooWide
returns-in-TooWide g c = followed c.args.known.signs.items (branch_lists c.args.branches.now.items) (branch_lists c.args.branches.now.items) c.args.look _ (TooWide c.in-TooWide.chain) c.in_ok-value.was c.in-TooWide.is (Wide c.in-TooWide.chain) (refl, refl)

pub returns-in_ok-note-in-Again : goal.returns-in_ok-note-in-Again
returns-in_ok-note-in-Again g c = followed c.args.known.signs.items (branch_lists c.args.branches.now.items) (branch_lists c.push.new.self.items) c.args.look _ (Again c.in-Again.number c.in-Again._atom) c.in_ok-value.was c.in-Again.is Unsat (refl, pushed c.args.branches.now.items c.push.new.self.items c.args.known c.args.known.signs.items c.in_ok-push-in-Again.ensures.items refl)

pub returns-in_ok-note-in-Turn : goal.returns-in_ok-note-in-Turn
returns-in_ok-note-in-Turn g c = followed c.args.known.signs.items (branch_lists c.args.branches.now.items) (branch_lists c.add_branches.new.branches.items) c.args.look _ (Turn c.in-Turn.number c.in-Turn.atom c.in-Turn.sign) c.in_ok-value.was c.in-Turn.is Unsat (refl, c.in_ok-add_branches-in-Turn.ensures)
