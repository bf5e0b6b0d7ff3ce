-- Trees behind one another.
use Rattle.std.specs.Prelude.{List}
use Rattle.model_program.specs.declared.Word.TheVariants.{RoundClose}
use Rattle.model_program.specs.Lexeme.{Lexeme}
use Rattle.model_program.specs.Joined.{◌⌢◌}
use Rattle.model_program.specs.Grammar.{sign, Many}
use Rattle.model_grammar.specs.TreeFiles.{FileTree, IsTree}

-- children and the closing parenthesis
abbrev pub AreTreesToClose : List FileTree → List Lexeme → Type 0
AreTreesToClose trees = Many IsTree trees ⌢ sign RoundClose
