use Rattle.std.proofs.Common.{sym, ◌∙◌}
use Rattle.fast_build.proofs.Naming.{ctor_numbered, ctor_unknown}
use Rattle.fast_build.proofs.numbers.constructor_number.Goals as goal

pub unreachable-requires : goal.unreachable-requires
unreachable-requires c = ctor_unknown c.args.constructors.now c.args.name.now (sym c.constructor_place.ensures ∙ c.in_default.is) c.requires

pub returns-in-Ok : goal.returns-in-Ok
returns-in-Ok c = ctor_numbered c.args.constructors.now c.args.name.now c.in-Some.place c.in-Ok.number (sym c.constructor_place.ensures ∙ c.in-Some.is) c.in-Ok.ensures.1
