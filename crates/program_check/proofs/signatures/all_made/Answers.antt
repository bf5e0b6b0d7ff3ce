use Rattle.program_check.proofs.Signing.{made_more, made_all}
use Rattle.program_check.proofs.signatures.all_made.Goals as goal

pub made-requires : goal.made-requires
made-requires g c = c.requires c.all.one-index c.one-item.result c.all-test.true c.one-item.is

pub all-preserved : goal.all-preserved
all-preserved g c = made_more g.S.Signed.plain g.S.Signed.signed _ _ _ c.args.all.now c.all.one-index c.one-item.result c.in_ok-push.ensures.items c.in_ok-made.ensures c.all-test.true c.one-item.is c.all.invariant

pub returns : goal.returns
returns g c = made_all g.S.Signed.plain g.S.Signed.signed _ c.args.all.now c.all.one-index c.all-test.false c.all.invariant
