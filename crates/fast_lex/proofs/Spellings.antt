-- Each keyword and each sign has a spelling of its own.
use Rattle.std.proofs.Common.{refl, inl, inr}
use Rattle.model_program.specs.declared.Word.{Word}
use Rattle.model_program.specs.declared.Word.TheVariants.{Id, Number, Quoted, TypeWord, Tree, Lang, Trans, Def, Where, Given, To, Intersect, Union, Complement, Difference, Minimize, Domain, Compose, Restrict, Apply, In, And, Or, Not, True, False, AssertTrue, AssertFalse, PreImage, RestrictOut, GetWitness, IsEmpty, TypeCheck, RoundOpen, RoundClose, SquareOpen, SquareClose, CurlyOpen, CurlyClose, Comma, Bar, Colon, Assign, Arrow, Same, Equal, NotEqual, AtMost, AtLeast, Less, Greater, Plus, Minus, Star, Percent, Element}
use Rattle.model_program.specs.Spellings.{spelled, keywords, hyphenated, signs}
use Rattle.fast_lex.specs.Kinds.{IsSpelledAlone}

pub spelled_alone : (w : Word) → IsSpelledAlone w
unfolding spelled keywords hyphenated signs
spelled_alone Id = refl
spelled_alone Number = refl
spelled_alone Quoted = refl
spelled_alone TypeWord = inl refl
spelled_alone Tree = inl refl
spelled_alone Lang = inl refl
spelled_alone Trans = inl refl
spelled_alone Def = inl refl
spelled_alone Where = inl refl
spelled_alone Given = inl refl
spelled_alone To = inl refl
spelled_alone Intersect = inl refl
spelled_alone Union = inl refl
spelled_alone Complement = inl refl
spelled_alone Difference = inl refl
spelled_alone Minimize = inl refl
spelled_alone Domain = inl refl
spelled_alone Compose = inl refl
spelled_alone Restrict = inl refl
spelled_alone Apply = inl refl
spelled_alone In = inl refl
spelled_alone And = inl refl
spelled_alone Or = inl refl
spelled_alone Not = inl refl
spelled_alone True = inl refl
spelled_alone False = inl refl
spelled_alone AssertTrue = inr refl
spelled_alone AssertFalse = inr refl
spelled_alone PreImage = inr refl
spelled_alone RestrictOut = inr refl
spelled_alone GetWitness = inr refl
spelled_alone IsEmpty = inr refl
spelled_alone TypeCheck = inr refl
spelled_alone RoundOpen = refl
spelled_alone RoundClose = refl
spelled_alone SquareOpen = refl
spelled_alone SquareClose = refl
spelled_alone CurlyOpen = refl
spelled_alone CurlyClose = refl
spelled_alone Comma = refl
spelled_alone Bar = refl
spelled_alone Colon = refl
spelled_alone Assign = refl
spelled_alone Arrow = refl
spelled_alone Same = refl
spelled_alone Equal = refl
spelled_alone NotEqual = refl
spelled_alone AtMost = refl
spelled_alone AtLeast = refl
spelled_alone Less = refl
spelled_alone Greater = refl
spelled_alone Plus = refl
spelled_alone Minus = refl
spelled_alone Star = refl
spelled_alone Percent = refl
spelled_alone Element = refl
