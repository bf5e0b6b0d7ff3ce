use Rattle.std.proofs.Common.{◌≡◌, map, ap, subst, sym, ◌∙◌}
use Rattle.std.specs.List.{All}
use Rattle.model_tree.specs.Signature.{HasType}
use Rattle.model_names.specs.Kinds.{transformation}
use Rattle.model_meaning.specs.Meaning.{output_type}
use Rattle.model_run.specs.Report.{named_x}
use Rattle.fast_tree.specs.Signatures.{plain_signature}
use Rattle.fast_build.specs.Items.{items_of}
use Rattle.fast_eval.specs.Outputs.{cut_tree, AreOutputsOf}
use Rattle.fast_session.specs.Sessions.{items_in}
use Rattle.tree_files.specs.Placed.{meant}
use Rattle.fast_tool.proofs.Answering.{still_ready}
use Rattle.fast_tool.proofs.applied.listed.Goals as goal

pub returns-in_err-cuts-clause-prepared : goal.returns-in_err-cuts-clause-prepared
returns-in_err-cuts-clause-prepared c = still_ready c.args.session.now c.outputs.new.self transformation c.args.name.now c.requires.prepared c.outputs.ensures.program c.outputs.ensures.ready

pub outputs_text-requires : goal.outputs_text-requires
outputs_text-requires c =
    let items = items_in c.args.session.now in
    let name = c.args.name.now in
    let into = output_type items (named_x name) in
    let are = subst (λ n. AreOutputsOf items (named_x n) (meant c.args.tree.now) (map cut_tree c.in_ok-cuts.cuts.items)) c.as_str.ensures.characters c.in_ok-cuts.ensures.outputs in
    let of : plain_signature c.type_of_outputs-of.result.now ≡ into = c.type_of_outputs-of.ensures ∙ ap (λ k. output_type (items_of k) (named_x name)) (c.checked.ensures ∙ c.outputs.ensures.program.program) in
    record {
      typed = subst (λ s. All (HasType s) (map cut_tree c.deref.result.now)) (sym of) (subst (λ cs. All (HasType into) (map cut_tree cs)) (sym c.deref.ensures.value) are.typed);
    }

pub returns-in_err-outputs_text-clause-prepared : goal.returns-in_err-outputs_text-clause-prepared
returns-in_err-outputs_text-clause-prepared c = still_ready c.args.session.now c.outputs.new.self transformation c.args.name.now c.requires.prepared c.outputs.ensures.program c.outputs.ensures.ready

pub returns-clause-prepared : goal.returns-clause-prepared
returns-clause-prepared c = still_ready c.args.session.now c.outputs.new.self transformation c.args.name.now c.requires.prepared c.outputs.ensures.program c.outputs.ensures.ready
