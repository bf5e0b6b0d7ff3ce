use Rattle.std.proofs.Common.{None, ap, sym, subst, map}
use Rattle.fast_syntax.specs.Plain.{plain_program}
use Rattle.fast_build.specs.Items.{items_of}
use Rattle.fast_tool.specs.Commands.{kind_asked}
use Rattle.model_meaning.specs.Meaning.{input_type}
use Rattle.model_run.specs.Report.{named_x}
use Rattle.model_run.specs.Texts.{IsNameOf}
use Rattle.tree_files.specs.Placed.{plain_placed, AreOfType}
use Rattle.fast_tool.proofs.Texts.{answered_report}
use Rattle.fast_tool.proofs.asked.answer_trees.Goals as goal

pub answer_all-requires : goal.answer_all-requires
answer_all-requires g c =
    let same = sym c.in-Ok.ensures.program in
    record {
      at = c.in-Ok.ensures.at;
      limit = c.in-Ok.ensures.limit;
      named = subst (λ k. IsNameOf (items_of k) (kind_asked c.args.asked.question) c.args.name.now) same c.requires.named;
      typed = subst (λ k. AreOfType (input_type (items_of k) (named_x c.args.name.now)) (map plain_placed c.args.placed.now)) same c.requires.typed;
    }

pub returns-in-Ok-clause-report : goal.returns-in-Ok-clause-report
returns-in-Ok-clause-report g c =
    answered_report c.args.asked.file.now c.args.name.now c.args.asked.trees.now (kind_asked c.args.asked.question) None (plain_program c.args.checked.program) (map plain_placed c.args.placed.now) c.in-Ok.session c.answer_all.result _ _
    (ap items_of c.in-Ok.ensures.program) c.answer_all.ensures.report
