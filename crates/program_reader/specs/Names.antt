-- Names with a sign beside them.
use Rattle.std.specs.Prelude.{List}
use Rattle.model_program.specs.declared.Word.{Word}
use Rattle.model_program.specs.Lexeme.{Lexeme}
use Rattle.model_program.specs.Syntax.{Name}
use Rattle.model_program.specs.Joined.{◌⌢◌}
use Rattle.model_program.specs.Grammar.{sign, IsName}

-- a name behind a sign
abbrev pub IsNameBehind : Word → Name → List Lexeme → Type 0
IsNameBehind w n = sign w ⌢ IsName n

-- a name, and the sign behind it
abbrev pub IsNameTo : Word → Name → List Lexeme → Type 0
IsNameTo w n = IsName n ⌢ sign w
