use Rattle.std.proofs.Common.{ap, sym, ◌∙◌}
use Rattle.lin_form.specs.Nest.{base_of, divisors_of}
use Rattle.lin_form.proofs.Nests.{base_is, divisors_are}
use Rattle.lin_form.proofs.form.Dividend.parts.Goals as goal

pub returns-clause-base : goal.returns-clause-base
returns-clause-base c = sym (base_is c.self.inside.base c.self.inside.divisors.items c.self.invariant.more) ∙ ap base_of c.self.view_is

pub returns-clause-divisors : goal.returns-clause-divisors
returns-clause-divisors c = c.deref.ensures.value ∙ sym (divisors_are c.self.inside.base c.self.inside.divisors.items c.self.invariant.more) ∙ ap divisors_of c.self.view_is
