-- The number and the name of each code.
use Rattle.std.specs.Prelude.{ℕ, List, codes}
use Rattle.fast_fault.specs.declared.code.Code.{Code}
use Rattle.fast_fault.specs.declared.code.Code.TheVariants.{TooLong, NotUtf8, Token, Syntax, Nested, DuplicateType, NoLeaf, DuplicateName, UnknownName, WrongKind, WrongType, WrongRank, DuplicateVariable, UnknownField, WrongSort, NotLinear, BadModulus, NumberRange, UsedTooEarly, TooMany, Classes, Width, FormRange, LabelRange, NotComposable, EmptyLanguage, OutputCount, Outputs, TreeSize}

abbrev pub number_of : Code → ℕ
number_of TooLong = 1
number_of NotUtf8 = 2
number_of Token = 3
number_of Syntax = 4
number_of Nested = 5
number_of DuplicateType = 10
number_of NoLeaf = 11
number_of DuplicateName = 12
number_of UnknownName = 13
number_of WrongKind = 14
number_of WrongType = 15
number_of WrongRank = 16
number_of DuplicateVariable = 17
number_of UnknownField = 18
number_of WrongSort = 19
number_of NotLinear = 20
number_of BadModulus = 21
number_of NumberRange = 22
number_of UsedTooEarly = 23
number_of TooMany = 24
number_of Classes = 30
number_of Width = 31
number_of FormRange = 32
number_of LabelRange = 33
number_of NotComposable = 34
number_of EmptyLanguage = 35
number_of OutputCount = 36
number_of Outputs = 37
number_of TreeSize = 38

abbrev pub name_of : Code → List ℕ
name_of TooLong = codes "TooLong"
name_of NotUtf8 = codes "NotUtf8"
name_of Token = codes "Token"
name_of Syntax = codes "Syntax"
name_of Nested = codes "Nested"
name_of DuplicateType = codes "DuplicateType"
name_of NoLeaf = codes "NoLeaf"
name_of DuplicateName = codes "DuplicateName"
name_of UnknownName = codes "UnknownName"
name_of WrongKind = codes "WrongKind"
name_of WrongType = codes "WrongType"
name_of WrongRank = codes "WrongRank"
name_of DuplicateVariable = codes "DuplicateVariable"
name_of UnknownField = codes "UnknownField"
name_of WrongSort = codes "WrongSort"
name_of NotLinear = codes "NotLinear"
name_of BadModulus = codes "BadModulus"
name_of NumberRange = codes "NumberRange"
name_of UsedTooEarly = codes "UsedTooEarly"
name_of TooMany = codes "TooMany"
name_of Classes = codes "Classes"
name_of Width = codes "Width"
name_of FormRange = codes "FormRange"
name_of LabelRange = codes "LabelRange"
name_of NotComposable = codes "NotComposable"
name_of EmptyLanguage = codes "EmptyLanguage"
name_of OutputCount = codes "OutputCount"
name_of Outputs = codes "Outputs"
name_of TreeSize = codes "TreeSize"
