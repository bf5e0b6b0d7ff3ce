use Rattle.std.proofs.Common.{ap, sym}
use Rattle.std.specs.Str.{chars}
use Rattle.model_program.specs.Spellings.{spelling}
use Rattle.fast_syntax.proofs.spelling.spelling.Goals as goal

pub returns-in-TypeWord : goal.returns-in-TypeWord
unfolding chars
returns-in-TypeWord c = ap spelling (sym c.in-TypeWord.is)

pub returns-in-Tree : goal.returns-in-Tree
unfolding chars
returns-in-Tree c = ap spelling (sym c.in-Tree.is)

pub returns-in-Lang : goal.returns-in-Lang
unfolding chars
returns-in-Lang c = ap spelling (sym c.in-Lang.is)

pub returns-in-Trans : goal.returns-in-Trans
unfolding chars
returns-in-Trans c = ap spelling (sym c.in-Trans.is)

pub returns-in-Def : goal.returns-in-Def
unfolding chars
returns-in-Def c = ap spelling (sym c.in-Def.is)

pub returns-in-Where : goal.returns-in-Where
unfolding chars
returns-in-Where c = ap spelling (sym c.in-Where.is)

pub returns-in-Given : goal.returns-in-Given
unfolding chars
returns-in-Given c = ap spelling (sym c.in-Given.is)

pub returns-in-To : goal.returns-in-To
unfolding chars
returns-in-To c = ap spelling (sym c.in-To.is)

pub returns-in-Intersect : goal.returns-in-Intersect
unfolding chars
returns-in-Intersect c = ap spelling (sym c.in-Intersect.is)

pub returns-in-Union : goal.returns-in-Union
unfolding chars
returns-in-Union c = ap spelling (sym c.in-Union.is)

pub returns-in-Complement : goal.returns-in-Complement
unfolding chars
returns-in-Complement c = ap spelling (sym c.in-Complement.is)

pub returns-in-Difference : goal.returns-in-Difference
unfolding chars
returns-in-Difference c = ap spelling (sym c.in-Difference.is)

pub returns-in-Minimize : goal.returns-in-Minimize
unfolding chars
returns-in-Minimize c = ap spelling (sym c.in-Minimize.is)

pub returns-in-Domain : goal.returns-in-Domain
unfolding chars
returns-in-Domain c = ap spelling (sym c.in-Domain.is)

pub returns-in-Compose : goal.returns-in-Compose
unfolding chars
returns-in-Compose c = ap spelling (sym c.in-Compose.is)

pub returns-in-Restrict : goal.returns-in-Restrict
unfolding chars
returns-in-Restrict c = ap spelling (sym c.in-Restrict.is)

pub returns-in-Apply : goal.returns-in-Apply
unfolding chars
returns-in-Apply c = ap spelling (sym c.in-Apply.is)

pub returns-in-In : goal.returns-in-In
unfolding chars
returns-in-In c = ap spelling (sym c.in-In.is)

pub returns-in-And : goal.returns-in-And
unfolding chars
returns-in-And c = ap spelling (sym c.in-And.is)

pub returns-in-Or : goal.returns-in-Or
unfolding chars
returns-in-Or c = ap spelling (sym c.in-Or.is)

pub returns-in-Not : goal.returns-in-Not
unfolding chars
returns-in-Not c = ap spelling (sym c.in-Not.is)

pub returns-in-True : goal.returns-in-True
unfolding chars
returns-in-True c = ap spelling (sym c.in-True.is)

pub returns-in-False : goal.returns-in-False
unfolding chars
returns-in-False c = ap spelling (sym c.in-False.is)

pub returns-in-AssertTrue : goal.returns-in-AssertTrue
unfolding chars
returns-in-AssertTrue c = ap spelling (sym c.in-AssertTrue.is)

pub returns-in-AssertFalse : goal.returns-in-AssertFalse
unfolding chars
returns-in-AssertFalse c = ap spelling (sym c.in-AssertFalse.is)

pub returns-in-PreImage : goal.returns-in-PreImage
unfolding chars
returns-in-PreImage c = ap spelling (sym c.in-PreImage.is)

pub returns-in-RestrictOut : goal.returns-in-RestrictOut
unfolding chars
returns-in-RestrictOut c = ap spelling (sym c.in-RestrictOut.is)

pub returns-in-GetWitness : goal.returns-in-GetWitness
unfolding chars
returns-in-GetWitness c = ap spelling (sym c.in-GetWitness.is)

pub returns-in-IsEmpty : goal.returns-in-IsEmpty
unfolding chars
returns-in-IsEmpty c = ap spelling (sym c.in-IsEmpty.is)

pub returns-in-TypeCheck : goal.returns-in-TypeCheck
unfolding chars
returns-in-TypeCheck c = ap spelling (sym c.in-TypeCheck.is)

pub returns-in-Id : goal.returns-in-Id
unfolding chars
returns-in-Id c = ap spelling (sym c.in-Id.is)

pub returns-in-Number : goal.returns-in-Number
unfolding chars
returns-in-Number c = ap spelling (sym c.in-Number.is)

pub returns-in-Quoted : goal.returns-in-Quoted
unfolding chars
returns-in-Quoted c = ap spelling (sym c.in-Quoted.is)

pub returns-in-RoundOpen : goal.returns-in-RoundOpen
unfolding chars
returns-in-RoundOpen c = ap spelling (sym c.in-RoundOpen.is)

pub returns-in-RoundClose : goal.returns-in-RoundClose
unfolding chars
returns-in-RoundClose c = ap spelling (sym c.in-RoundClose.is)

pub returns-in-SquareOpen : goal.returns-in-SquareOpen
unfolding chars
returns-in-SquareOpen c = ap spelling (sym c.in-SquareOpen.is)

pub returns-in-SquareClose : goal.returns-in-SquareClose
unfolding chars
returns-in-SquareClose c = ap spelling (sym c.in-SquareClose.is)

pub returns-in-CurlyOpen : goal.returns-in-CurlyOpen
unfolding chars
returns-in-CurlyOpen c = ap spelling (sym c.in-CurlyOpen.is)

pub returns-in-CurlyClose : goal.returns-in-CurlyClose
unfolding chars
returns-in-CurlyClose c = ap spelling (sym c.in-CurlyClose.is)

pub returns-in-Comma : goal.returns-in-Comma
unfolding chars
returns-in-Comma c = ap spelling (sym c.in-Comma.is)

pub returns-in-Bar : goal.returns-in-Bar
unfolding chars
returns-in-Bar c = ap spelling (sym c.in-Bar.is)

pub returns-in-Colon : goal.returns-in-Colon
unfolding chars
returns-in-Colon c = ap spelling (sym c.in-Colon.is)

pub returns-in-Assign : goal.returns-in-Assign
unfolding chars
returns-in-Assign c = ap spelling (sym c.in-Assign.is)

pub returns-in-Arrow : goal.returns-in-Arrow
unfolding chars
returns-in-Arrow c = ap spelling (sym c.in-Arrow.is)

pub returns-in-Same : goal.returns-in-Same
unfolding chars
returns-in-Same c = ap spelling (sym c.in-Same.is)

pub returns-in-Equal : goal.returns-in-Equal
unfolding chars
returns-in-Equal c = ap spelling (sym c.in-Equal.is)

pub returns-in-NotEqual : goal.returns-in-NotEqual
unfolding chars
returns-in-NotEqual c = ap spelling (sym c.in-NotEqual.is)

pub returns-in-AtMost : goal.returns-in-AtMost
unfolding chars
returns-in-AtMost c = ap spelling (sym c.in-AtMost.is)

pub returns-in-AtLeast : goal.returns-in-AtLeast
unfolding chars
returns-in-AtLeast c = ap spelling (sym c.in-AtLeast.is)

pub returns-in-Less : goal.returns-in-Less
unfolding chars
returns-in-Less c = ap spelling (sym c.in-Less.is)

pub returns-in-Greater : goal.returns-in-Greater
unfolding chars
returns-in-Greater c = ap spelling (sym c.in-Greater.is)

pub returns-in-Plus : goal.returns-in-Plus
unfolding chars
returns-in-Plus c = ap spelling (sym c.in-Plus.is)

pub returns-in-Minus : goal.returns-in-Minus
unfolding chars
returns-in-Minus c = ap spelling (sym c.in-Minus.is)

pub returns-in-Star : goal.returns-in-Star
unfolding chars
returns-in-Star c = ap spelling (sym c.in-Star.is)

pub returns-in-Percent : goal.returns-in-Percent
unfolding chars
returns-in-Percent c = ap spelling (sym c.in-Percent.is)

pub returns-in-Element : goal.returns-in-Element
unfolding chars
returns-in-Element c = ap spelling (sym c.in-Element.is)
