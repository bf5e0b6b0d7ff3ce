use Rattle.std.proofs.Common.{refl, subst, ◌∙◌}
use Rattle.std.specs.List.{Contains}
use Rattle.std.proofs.lemmas.List.{get_or_default}
use Rattle.cooper_solve.specs.Views.{IsBoundAt, no_condition}
use Rattle.cooper_solve.proofs.Listed.{bounds_listed, bounds_push}
use Rattle.cooper_solve.proofs.bounds.list_bound.Goals as goal

pub returns-then-is_listed : goal.returns-then-is_listed
returns-then-is_listed c =
    let S = c.args.system.now in
    let n = c.args.number in
    let same = c.index-system-number.is ∙ get_or_default S n c.index-system-number.result no_condition c.requires.within in
    let r = c.if-is_listed.ensures {u = tt} refl in
    bounds_listed c.args.low c.args.last S n c.args.bounds.now.items c.requires.before r.0 (subst (λ l. Contains l r.0) c.deref.ensures.value r.1) (r.2 ∙ same)

pub returns : goal.returns
returns c =
    let S = c.args.system.now in
    let n = c.args.number in
    let same = c.index-system-number.is ∙ get_or_default S n c.index-system-number.result no_condition c.requires.within in
    let bound = (c.if-not-is_bound.ensures {u = tt}).0 refl in
    bounds_push c.args.low c.args.last S n c.args.bounds.now.items c.requires.before c.push.new.self.items (c.in_ok-push.ensures {u = tt}).items c.requires.within (subst (IsBoundAt c.args.low c.args.last) same bound)
