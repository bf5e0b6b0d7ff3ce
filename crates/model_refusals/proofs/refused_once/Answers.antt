use Rattle.std.proofs.Common.{List}
use Rattle.model_grammar.specs.Syntax.{Item}
use Rattle.model_grammar.specs.Grammar.{IsProgram}
use Rattle.model_grammar.specs.TreeFiles.{FileTree, IsTreeFile}
use Rattle.model_refusals.proofs.Once.{one_refusal, none_refused}
use Rattle.model_refusals.proofs.refused_once.Goals as goal

pub returns : goal.returns
returns c = record {
  programs = λ bytes a b is_a is_b. one_refusal {A = List Item} IsProgram bytes a b is_a is_b;
  programs_never = λ bytes a items refused text. none_refused {A = List Item} IsProgram bytes items a.code a.place text refused;
  trees = λ bytes a b is_a is_b. one_refusal {A = List FileTree} IsTreeFile bytes a b is_a is_b;
  trees_never = λ bytes a trees refused text. none_refused {A = List FileTree} IsTreeFile bytes trees a.code a.place text refused;
}
