-- What sort of token a word is.
use Rattle.std.specs.Prelude.{◌≡◌, ◌⊎◌, Some}
use Rattle.model_program.specs.declared.Word.{Word}
use Rattle.model_program.specs.declared.Word.TheVariants.{Id, Number, Quoted, RoundOpen, RoundClose, SquareOpen, SquareClose, CurlyOpen, CurlyClose, Comma, Bar, Colon, Assign, Arrow, Same, Equal, NotEqual, AtMost, AtLeast, Less, Greater, Plus, Minus, Star, Percent, Element}
use Rattle.model_program.specs.Spellings.{spelling, spelled, keywords, hyphenated, signs}
use Rattle.fast_lex.specs.declared.Kind.{Kind}
use Rattle.fast_lex.specs.declared.Kind.TheVariants as kind

abbrev pub kind_of : Word → Kind
kind_of Id = kind.Id
kind_of Number = kind.Number
kind_of Quoted = kind.Quoted
kind_of RoundOpen = kind.Sign
kind_of RoundClose = kind.Sign
kind_of SquareOpen = kind.Sign
kind_of SquareClose = kind.Sign
kind_of CurlyOpen = kind.Sign
kind_of CurlyClose = kind.Sign
kind_of Comma = kind.Sign
kind_of Bar = kind.Sign
kind_of Colon = kind.Sign
kind_of Assign = kind.Sign
kind_of Arrow = kind.Sign
kind_of Same = kind.Sign
kind_of Equal = kind.Sign
kind_of NotEqual = kind.Sign
kind_of AtMost = kind.Sign
kind_of AtLeast = kind.Sign
kind_of Less = kind.Sign
kind_of Greater = kind.Sign
kind_of Plus = kind.Sign
kind_of Minus = kind.Sign
kind_of Star = kind.Sign
kind_of Percent = kind.Sign
kind_of Element = kind.Sign
kind_of w = kind.Keyword

-- its spelling is that of no other word of its list
abbrev pub IsSpelledIn : Kind → Word → Type 0
IsSpelledIn kind.Id w = spelling w ≡ spelling Id
IsSpelledIn kind.Number w = spelling w ≡ spelling Id
IsSpelledIn kind.Quoted w = spelling w ≡ spelling Id
IsSpelledIn kind.Sign w = spelled signs (spelling w) ≡ Some w
IsSpelledIn kind.Keyword w = (spelled keywords (spelling w) ≡ Some w) ⊎ (spelled hyphenated (spelling w) ≡ Some w)

abbrev pub IsSpelledAlone : Word → Type 0
IsSpelledAlone w = IsSpelledIn (kind_of w) w
