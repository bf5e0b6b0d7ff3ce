use Rattle.std.proofs.Common.{sym, subst}
use Rattle.lin_solve.specs.Said.{AreWithin}
use Rattle.lin_solve.proofs.Saying.{within_all}
use Rattle.lin_solve.proofs.said.is_clash.Goals as goal

pub loop-init : goal.loop-init
loop-init c = λ vs so. subst (λ rs. AreWithin rs vs) (sym ((c.in_ok-reaches.ensures {u = tt}).items_if_clones_equal (λ y e. e))) (within_all c.args.count vs)
