-- The words of operators.
use Rattle.std.specs.Prelude.{◌≡◌, Bool, true, false, ◌⊎◌}
use Rattle.model_program.specs.declared.Word.{Word}
use Rattle.model_program.specs.declared.Word.TheVariants.{Or, And, Plus, Minus, Star, Percent}
use Rattle.model_program.specs.declared.Word.TheVariants as word
use Rattle.model_grammar.specs.declared.Op1.{Op1}
use Rattle.model_grammar.specs.declared.Op1.TheVariants.{Complement, Minimize, Domain, GetWitness}
use Rattle.model_grammar.specs.declared.Op2.{Op2}
use Rattle.model_grammar.specs.declared.Op2.TheVariants.{Intersect, Union, Difference, PreImage, Compose, Restrict, RestrictOut, Apply}
use Rattle.model_grammar.specs.declared.Rel.{Rel}
use Rattle.model_grammar.specs.declared.Rel.TheVariants.{Equal, NotEqual, Less, AtMost, Greater, AtLeast}
use Rattle.model_grammar.specs.declared.Chain.{Chain}
use Rattle.model_grammar.specs.declared.Chain.TheVariants.{Disjunction, Conjunction, Sum, Product}

-- Op1 ::= complement, minimize, domain, get-witness
abbrev pub op1_word : Op1 → Word
op1_word Complement = word.Complement
op1_word Minimize = word.Minimize
op1_word Domain = word.Domain
op1_word GetWitness = word.GetWitness

-- Op2 ::= intersect, union, difference, pre-image, compose, restrict, restrict-out, apply
abbrev pub op2_word : Op2 → Word
op2_word Intersect = word.Intersect
op2_word Union = word.Union
op2_word Difference = word.Difference
op2_word PreImage = word.PreImage
op2_word Compose = word.Compose
op2_word Restrict = word.Restrict
op2_word RestrictOut = word.RestrictOut
op2_word Apply = word.Apply

-- Rel ::= =, !=, <, <=, >, >=
abbrev pub rel_word : Rel → Word
rel_word Equal = word.Equal
rel_word NotEqual = word.NotEqual
rel_word Less = word.Less
rel_word AtMost = word.AtMost
rel_word Greater = word.Greater
rel_word AtLeast = word.AtLeast

-- The sign between operands of a chain. The mark says that the operand behind it is subtracted, or that the remainder by it is taken.
abbrev pub chain_word : Chain → Bool → Word
chain_word Disjunction marked = Or
chain_word Conjunction marked = And
chain_word Sum false = Plus
chain_word Sum true = Minus
chain_word Product false = Star
chain_word Product true = Percent

-- the mark that a sign gives
abbrev pub is_marking : Word → Bool
is_marking Minus = true
is_marking Percent = true
is_marking _ = false

-- the signs between operands of a chain
abbrev pub IsSignOf : Chain → Word → Type 0
IsSignOf Disjunction w = w ≡ Or
IsSignOf Conjunction w = w ≡ And
IsSignOf Sum w = (w ≡ Plus) ⊎ (w ≡ Minus)
IsSignOf Product w = (w ≡ Star) ⊎ (w ≡ Percent)

-- Many ::= or, and, +, -, *
abbrev pub IsMany : Chain → Word → Type 0
IsMany Disjunction w = w ≡ Or
IsMany Conjunction w = w ≡ And
IsMany Sum w = (w ≡ Plus) ⊎ (w ≡ Minus)
IsMany Product w = w ≡ Star
