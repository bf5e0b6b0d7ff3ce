use Rattle.std.proofs.Common.{ap, sym, ◌∙◌, suc, arith, add-one}
use Rattle.lin_form.specs.declared.form.Dividend.TheInside.{Inside}
use Rattle.lin_form.specs.Nest.{depth, depth_over}
use Rattle.lin_form.proofs.Nests.{depth_over_is}
use Rattle.lin_form.proofs.Wholes.{inner_low}
use Rattle.lin_form.proofs.form.Dividend.depth_over.Goals as goal

pub overflow_add-result : goal.overflow_add-result
overflow_add-result c = let d = c.self-inside.invariant.depth in let l = inner_low _ c.self-inside.invariant.inner in omega arith

pub returns : goal.returns
returns c =
    add-one _ ∙ ap suc (c.self-inside.invariant.depth ∙ ap (λ (x : Inside). depth x.base) c.self-inside.view_is)
    ∙ sym (depth_over_is c.self.inside.base c.self.inside.divisors.items c.self.invariant.more) ∙ ap depth_over c.self.view_is
