use Rattle.std.proofs.Common.{◌≡◌, ◌∙◌, Some, None, sym, ap, subst}
use Rattle.fast_syntax.specs.Plain.{plain_assert}
use Rattle.fast_eval.specs.Forms.{IsMadeAt}
use Rattle.fast_session.specs.Kept.{items_in}
use Rattle.fast_session.proofs.Judging.{named_verdict}
use Rattle.fast_session.proofs.verdicts.line_of.Goals as goal

pub unreachable-requires : goal.unreachable-requires
unreachable-requires c =
    let type = c.requires.made.0 in
    let no : None ≡ Some type = c.in_default.ensures type (subst (IsMadeAt (items_in c.args.around.now) type) (sym c.spoken_of.ensures) c.requires.made.1) in
    absurd (cc)

pub returns : goal.returns
returns c =
    let type = c.requires.made.0 in
    let told = c.in-Some.ensures type (subst (IsMadeAt (items_in c.args.around.now) type) (sym c.spoken_of.ensures) c.requires.made.1) in
    named_verdict (items_in c.args.around.now) (plain_assert c.args.own.now) type _ c.requires.made.1 (ap Some c.in_ok-copy.ensures ∙ told) c.args.line c.args.verdict
