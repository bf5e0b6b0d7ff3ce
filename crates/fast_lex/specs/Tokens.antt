-- What `tokens` answers.
use Rattle.std.specs.Prelude.{◌≡◌, ℕ, map, length, List, [], ◌∷◌, ◌++◌}
use Rattle.std.specs.Str.{chars}
use Rattle.fast_lex.specs.declared.Token.{Token}
use Rattle.fast_lex.specs.declared.Lexed.{Lexed}
use Rattle.fast_lex.specs.declared.Lexed.TheVariants.{Tokens, NoToken, Memory}
use Rattle.model_program.specs.Lexeme.{Lexeme}
use Rattle.model_program.specs.Cuts.{AreTokens, StopsAt, mark_of, body_of}
use Rattle.fast_lex.specs.Runs.{IsBehind}

-- a token without where it lies in memory
abbrev pub lexeme : Token → Lexeme
lexeme t = record { word = t.word; text = chars t.text.now; start = t.start; place = t.place }

-- the token's text is the slice of the text at its start
pub record IsSlice (text : List ℕ) (t : Token) : Type 0 where
  pub before : List ℕ
  pub behind : List ℕ
  pub split : text ≡ before ++ (t.text.now ++ behind)
  pub start : t.start ≡ length before

abbrev pub AreSlices : List ℕ → List Token → Type 0
AreSlices text [] = Unit {0}
AreSlices text (t ∷ ts) = IsSlice text t × AreSlices text ts

abbrev pub IsLexed : List ℕ → Lexed → Type 0
IsLexed text (Tokens v) = AreTokens (chars text) (map lexeme v.items) × AreSlices text v.items
IsLexed text (NoToken place) = StopsAt (chars text) place
IsLexed text Memory = Unit {0}

-- what follows the byte order mark
pub record IsBody (text rest : List ℕ) : Type 0 where
  pub behind : IsBehind (mark_of (chars text)) text rest
  pub is : chars rest ≡ body_of (chars text)
