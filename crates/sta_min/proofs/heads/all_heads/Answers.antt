use Rattle.std.proofs.Common.{inl, inr, [], length, map, refl, ap, arith}
use Rattle.sta_classes.proofs.Grown.{nowhere}
use Rattle.sta_min.specs.Heads.{plain_head, IsHeadOf}
use Rattle.sta_min.proofs.Probing.{up_none, up_more, up_all}
use Rattle.sta_min.proofs.heads.all_heads.Goals as goal

pub constructors-init : goal.constructors-init
constructors-init g c = up_none (IsHeadOf c.args.table.now c.args.count) [] (map plain_head c.new-heads.result.items) 0 refl (ap (map plain_head) c.new-heads.ensures.items)

pub constructors-preserved : goal.constructors-preserved
constructors-preserved g c =
    up_more (IsHeadOf c.args.table.now c.args.count) [] (map plain_head c.constructors.heads.items) (map plain_head c.add_heads.new.heads.items) c.constructors.constructor c.constructors.invariant c.in_ok-add_heads.ensures

pub returns : goal.returns
returns g c h =
    let f = up_all (IsHeadOf c.args.table.now c.args.count) [] (map plain_head c.constructors.heads.items) c.constructors.constructor (length c.args.ranks.now) c.constructors.auto.constructor-end (omega (arith, c.constructors-test.false)) c.constructors.invariant in
    ((λ at. elim ((f h).0 at) [ inl none ↦ absurd (nowhere h none) | inr w ↦ w ]), (λ w. (f h).1 (inr w)))
