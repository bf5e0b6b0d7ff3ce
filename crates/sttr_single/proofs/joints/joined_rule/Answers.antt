use Rattle.std.proofs.Common.{map, subst, MatchOption}
use Rattle.sta_core.specs.Machine.{plain_rule}
use Rattle.sttr_single.specs.Joints.{AreNowhere, AreJoinedFor}
use Rattle.sttr_single.proofs.Applying.{never_nowhere}
use Rattle.sttr_single.proofs.joints.joined_rule.Goals as goal

pub returns-in_default : goal.returns-in_default
returns-in_default g c =
    let r = plain_rule c.args.first.now in
    let s = plain_rule c.args.second.now in
    let looks = c.args.looks.now in
    never_nowhere g.T.Theory.atom_holds looks r s (g.T.Theory.meaning c.args.theory.now).has (subst (λ o. MatchOption o (AreNowhere r s looks) (λ v. AreJoinedFor r s looks (map (λ d. d.items) v.items))) c.in_default.is c.in_ok-demands.ensures)
