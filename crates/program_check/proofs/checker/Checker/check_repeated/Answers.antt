use Rattle.fast_syntax.specs.View.{plain_name}
use Rattle.program_check.proofs.Repeating.{at_first, one_more, all_noted, all_placed}
use Rattle.std.proofs.Common.{◌∙◌, ap}
use Rattle.std.specs.Prelude.{is_some}
use Rattle.model_checks.specs.Failures.{fails_if}
use Rattle.program_check.proofs.Noting.{same, and_none, was_ok}
use Rattle.program_check.proofs.checker.Checker.check_repeated.Goals as goal

pub all-init : goal.all-init
all-init g c = at_first g.N.Named.name_of c.args.code c.args.all.now c.args.self.now c.new-names.result c.new-names.ensures

pub all-preserved : goal.all-preserved
all-preserved g c h =
    let name = c.name-name.result.now in
    let none = c.note_want.ensures.noted h in
    let there = c.is_some.ensures ∙ ap is_some c.place.ensures in
    let noted = and_none (same (ap (λ b. fails_if b c.args.code name.place) there) (c.note_if.ensures none.had)) none in
    one_more g.N.Named.name_of c.args.code c.args.all.now c.all.place c.index-all-place.result (plain_name name) c.args.self.now c.all.self c.note_want.new.self c.all.names c.add-added.new.self
    c.all-test.true c.index-all-place.is c.name-name.ensures noted (was_ok _ c.add-added.result (c.note_want.ensures.done h) c.add-added.ensures) (c.all.invariant noted.had)

pub returns-clause-noted : goal.returns-clause-noted
returns-clause-noted g c h = all_noted g.N.Named.name_of c.args.code c.args.all.now c.all.place c.args.self.now c.all.self c.all.names c.all-test.false (c.all.invariant h)

pub returns-clause-places : goal.returns-clause-places
returns-clause-places g c h = all_placed g.N.Named.name_of c.args.code c.args.all.now c.all.place c.args.self.now c.all.self c.all.names c.all-test.false (c.all.invariant h)
