-- The words by which label expressions begin and go on, level by level.
use Rattle.std.specs.Prelude.{◌≡◌, ℕ, ◌<◌, List, [], ◌∷◌}
use Rattle.model_program.specs.declared.Word.{Word}
use Rattle.model_program.specs.declared.Word.TheVariants.{And, Or, Not, True, False, Id, Number, Quoted, RoundOpen, Equal, NotEqual, AtMost, AtLeast, Less, Greater, Plus, Minus, Star, Percent}
use Rattle.model_program.specs.Lexeme.{Lexeme}
use Rattle.model_grammar.specs.declared.Chain.{Chain}
use Rattle.model_grammar.specs.declared.Rel.{Rel}
use Rattle.model_grammar.specs.declared.Level.{Level}
use Rattle.model_grammar.specs.Operators.{IsSignOf, IsMany, rel_word}
use Rattle.model_grammar.specs.Printed.{rank}

-- how tightly the sign between two operands binds; 0 where the word is none
abbrev pub strength : Word → ℕ
strength Or = 1
strength And = 2
strength Equal = 4
strength NotEqual = 4
strength Less = 4
strength AtMost = 4
strength Greater = 4
strength AtLeast = 4
strength Plus = 5
strength Minus = 5
strength Star = 6
strength Percent = 6
strength _ = 0

-- the words by which an expression of a level goes on
abbrev pub GoesOn : Level → Word → Type 0
GoesOn level w = rank level < strength w

-- one more than the rank of the tightest level whose expressions the word begins; 0 where it begins none
abbrev pub reach : Word → ℕ
reach Id = 8
reach Number = 8
reach Quoted = 8
reach True = 8
reach False = 8
reach RoundOpen = 8
reach Minus = 7
reach Not = 3
reach _ = 0

-- the words by which an expression of a level begins
abbrev pub BeginsAt : Level → Word → Type 0
BeginsAt level w = rank level < reach w

-- the tokens go on by no sign of the chain
abbrev pub NoSign : Chain → List Lexeme → Type 0
NoSign kind [] = Unit {0}
NoSign kind (t ∷ ts) = IsSignOf kind t.word → ⊥

-- the word is no comparison
abbrev pub IsNoRel : Word → Type 0
IsNoRel w = (rel : Rel) → w ≡ rel_word rel → ⊥

-- the next token is no comparison
abbrev pub NoRel : List Lexeme → Type 0
NoRel [] = Unit {0}
NoRel (t ∷ ts) = IsNoRel t.word

-- the word is none of `or`, `and`, `+`, `*`
abbrev pub IsNoMany : Word → Type 0
IsNoMany w = (kind : Chain) → IsMany kind w → w ≡ Minus

-- the next token is none of `or`, `and`, `+`, `*`
abbrev pub NoMany : List Lexeme → Type 0
NoMany [] = Unit {0}
NoMany (t ∷ ts) = IsNoMany t.word
