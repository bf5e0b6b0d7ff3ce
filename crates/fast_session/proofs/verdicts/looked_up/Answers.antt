use Rattle.std.proofs.Common.{refl, sym, ap, subst}
use Rattle.fast_syntax.specs.Plain.{plain_x, plain_claim, plain_assert, plain_item}
use Rattle.fast_session.specs.Kept.{items_in}
use Rattle.fast_session.specs.Items.{IsStoppedAt}
use Rattle.fast_session.proofs.Members.{member_on, member_names, member_stops, member_verdict, passes_inside, passes_outside}
use Rattle.model_run.specs.Outcomes.{trees_in}
use Rattle.fast_session.proofs.verdicts.looked_up.Goals as goal

pub member-requires-clause-given : goal.member-requires-clause-given
member-requires-clause-given c =
    let r = c.requires.ready in
    record { typed = r.kept.typed; printed = trees_in r.outcomes; told = r.told; shallow = r.shallow }

pub member-requires-clause-made : goal.member-requires-clause-made
member-requires-clause-made c = member_on _ _ _ c.requires.ready c.requires.composable _ c.requires.is (plain_x c.in-Member.x) (plain_x c.in-Member.y) (ap plain_claim c.in-Member.is)

pub member-requires-clause-known : goal.member-requires-clause-known
member-requires-clause-known c = (member_names _ _ _ c.requires.ready c.requires.composable _ c.requires.is (plain_x c.in-Member.x) (plain_x c.in-Member.y) (ap plain_claim c.in-Member.is)).0

pub member-requires-clause-also_known : goal.member-requires-clause-also_known
member-requires-clause-also_known c = (member_names _ _ _ c.requires.ready c.requires.composable _ c.requires.is (plain_x c.in-Member.x) (plain_x c.in-Member.y) (ap plain_claim c.in-Member.is)).1

pub returns-in-Ok-clause-verdict : goal.returns-in-Ok-clause-verdict
returns-in-Ok-clause-verdict c =
    let inside = c.in-Ok.member.inside in
    let wanted = c.args.own.now.wanted in
    member_verdict _ _ _ c.requires.ready c.requires.composable (plain_assert c.args.own.now) c.requires.is (plain_x c.in-Member.x) (plain_x c.in-Member.y) (ap plain_claim c.in-Member.is) _ _ c.in-Ok.member (passes_inside inside wanted) (passes_outside inside wanted) refl
    (λ done told. c.in-Ok.ensures.member (trees_in done) told) (λ done told. c.in-Ok.ensures.owed (trees_in done) told) c.in-Ok.ensures.typed c.in-Ok.ensures.limits

pub returns-in-Err-clause-stopped : goal.returns-in-Err-clause-stopped
returns-in-Err-clause-stopped c =
    let items = items_in c.args.around.now in
    let limit = c.args.around.now.limit in
    subst (IsStoppedAt items limit (plain_item c.args.item.now) c.args.kept.now) (sym c.unvalued.ensures)
    (member_stops _ _ _ c.requires.ready c.requires.composable _ c.requires.is (plain_x c.in-Member.x) (plain_x c.in-Member.y) (ap plain_claim c.in-Member.is) _ (λ done told. c.in-Err.ensures.stop _ told) c.in-Err.ensures.shown)
