use Rattle.std.proofs.Common.{OnOk, inl, subst, sym}
use Rattle.model_tree.specs.Signature.{HasType}
use Rattle.model_names.specs.Kinds.{language}
use Rattle.model_meaning.specs.Meaning.{input_type}
use Rattle.model_run.specs.Report.{named_x}
use Rattle.tree_files.specs.Placed.{meant}
use Rattle.fast_session.specs.Sessions.{items_in}
use Rattle.fast_session.specs.Sessions as of
use Rattle.fast_tool.proofs.Answering.{still_prepared}
use Rattle.fast_tool.specs.Answers.{IsPrepared}
use Rattle.fast_tool.proofs.answers.is_inside.Goals as goal
use Rattle.fast_tool.proofs.answers.is_inside.Goals.{in-Ok, in-Err}

pub member-requires : goal.member-requires
member-requires c =
    let named = sym c.as_str.ensures.characters in
    let s = c.args.session.now in
    record { prepared = subst (of.IsPrepared language s) named (inl c.requires.prepared.ready); typed = subst (λ n. HasType (input_type (items_in s) (named_x n)) (meant c.args.tree.now)) named c.requires.typed; kept = c.requires.kept }

pub returns-clause-prepared : goal.returns-clause-prepared
returns-clause-prepared c =
    let new = c.member.new.self in
    let name = c.args.name.now in
    elim c.match-member.branch [
      | in-Ok w ↦ subst (λ r. OnOk r (IsPrepared language new name)) (sym w.result-is) (still_prepared c.args.session.now new name c.requires.prepared c.member.ensures.program w.in-Ok.ensures.at c.member.ensures.prepared)
      | in-Err w ↦ subst (λ r. OnOk r (IsPrepared language new name)) (sym w.result-is) tt
    ]
