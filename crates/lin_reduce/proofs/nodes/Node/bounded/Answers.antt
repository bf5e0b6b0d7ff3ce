use Rattle.std.proofs.Common.{◌∙◌, sym, subst}
use Rattle.math_cooper.specs.System.{Solves}
use Rattle.lin_reduce.proofs.Cutting.{one_more}
use Rattle.lin_reduce.proofs.nodes.Node.bounded.Goals as goal

pub returns : goal.returns
returns c = λ vs e w h.
    one_more vs c.in_ok-system.system.items c.push.new.self.items c.in_ok-condition.field-0 (c.in_ok-push.ensures {u = tt}).items
    (subst (Solves vs) (sym (c.in_ok-system.ensures {u = tt} ∙ c.deref.ensures.value)) h)
    (c.in_ok-condition.ensures {u = tt} vs e w)
