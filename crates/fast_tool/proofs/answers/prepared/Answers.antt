use Rattle.std.proofs.Common.{[], inl, IfErr, OnOk, subst, sym}
use Rattle.model_run.specs.Texts.{IsNameOf}
use Rattle.model_run.specs.Report.{AreNeededComposable}
use Rattle.fast_session.specs.Needed.{IsHaltNeeded}
use Rattle.fast_session.specs.Sessions.{items_in}
use Rattle.fast_session.specs.Sessions as of
use Rattle.fast_tool.proofs.Answering.{prepared_by}
use Rattle.fast_tool.proofs.answers.prepared.Goals as goal

pub prepare-requires : goal.prepare-requires
prepare-requires c = record { session = inl ([], c.requires.at) }

pub returns-clause-prepared : goal.returns-clause-prepared
returns-clause-prepared c = λ kind is.
    let named = c.as_str.ensures.characters in
    let old = c.args.session.now in
    let new = c.prepare.new.self in
    prepared_by kind c.prepare.result old new c.args.name.now c.requires.at c.prepare.ensures.program c.prepare.ensures.at
    (subst (of.IsPrepared kind new) named (c.prepare.ensures.prepared kind (subst (IsNameOf (items_in old) kind) (sym named) is)))
    (subst (λ n. OnOk c.prepare.result (AreNeededComposable (items_in old) n)) named c.prepare.ensures.composable)

pub returns-clause-halt : goal.returns-clause-halt
returns-clause-halt c =
    let s = c.args.session.now in
    subst (λ n. IfErr c.prepare.result (IsHaltNeeded (items_in s) s.limit n)) c.as_str.ensures.characters (c.prepare.ensures.halt c.requires.at.running)
