use Rattle.std.proofs.Common.{not, Some}
use Rattle.std.proofs.Math.ListN.{set}
use Rattle.std.proofs.lemmas.Result.{IfOk-from_err}
use Rattle.label_split.proofs.Branches.{pushed_two}
use Rattle.label_split.proofs.search.add_branches.Goals as goal

pub with-requires : goal.with-requires
with-requires c = c.requires

pub with-requires-2 : goal.with-requires-2
with-requires-2 c = c.requires

pub returns : goal.returns
returns c =
    let known = c.args.known.now.signs.items in
    pushed_two c.args.branches.now.items c.push.new.self.items c.push-2.new.self.items _ _ (set known c.args.atom (Some (not c.args.sign))) (set known c.args.atom (Some c.args.sign)) c.in_ok-push.ensures.items c.in_ok-push-2.ensures.items c.in_ok-with.ensures c.in_ok-with-2.ensures

pub returns-in_err-with : goal.returns-in_err-with
returns-in_err-with c = IfOk-from_err c.from_residual.result _ c.from_residual.ensures.0

pub returns-in_err-push : goal.returns-in_err-push
returns-in_err-push c = IfOk-from_err c.from_residual-in_err-push.result _ c.from_residual-in_err-push.ensures.0

pub returns-in_err-with-2 : goal.returns-in_err-with-2
returns-in_err-with-2 c = IfOk-from_err c.from_residual-in_err-with-2.result _ c.from_residual-in_err-with-2.ensures.0

pub returns-in_err-push-2 : goal.returns-in_err-push-2
returns-in_err-push-2 c = IfOk-from_err c.from_residual-in_err-push-2.result _ c.from_residual-in_err-push-2.ensures.0
