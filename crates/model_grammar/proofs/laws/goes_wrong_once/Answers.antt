use Rattle.model_grammar.specs.Syntax.{Item}
use Rattle.model_grammar.specs.Grammar.{IsProgram}
use Rattle.model_grammar.specs.TreeFiles.{FileTree, IsTreeFile}
use Rattle.model_grammar.proofs.FirstWrong.{one_first_wrong, none_wrong}
use Rattle.std.proofs.Common.{List}
use Rattle.model_grammar.proofs.laws.goes_wrong_once.Goals as goal

pub returns : goal.returns
returns c = record {
  programs = one_first_wrong (List Item) IsProgram;
  programs_never = none_wrong (List Item) IsProgram;
  trees = one_first_wrong (List FileTree) IsTreeFile;
  trees_never = none_wrong (List FileTree) IsTreeFile;
}
