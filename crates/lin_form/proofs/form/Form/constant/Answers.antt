use Rattle.std.proofs.Common.{subst}
use Rattle.lin_form.specs.Whole.{IsWhole}
use Rattle.lin_form.proofs.Wholes.{sound_whole}
use Rattle.lin_form.proofs.form.Form.constant.Goals as goal

pub returns-clause-whole : goal.returns-clause-whole
returns-clause-whole c = subst IsWhole c.self.view_is (sound_whole c.self.inside.depth _ c.self.invariant)
