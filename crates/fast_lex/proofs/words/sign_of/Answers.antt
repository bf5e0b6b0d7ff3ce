use Rattle.std.proofs.Common.{refl}
use lib.Utf8.{encode}
use Rattle.std.specs.Str.{chars}
use Rattle.model_program.specs.Spellings.{spelled, signs}
use Rattle.model_program.proofs.Spelled.{spelled_as, spelled_none}
use Rattle.fast_lex.proofs.words.sign_of.Goals as goal

pub returns-in_default : goal.returns-in_default
unfolding signs encode
returns-in_default c = spelled_none signs _ c.utf8.text (c.in_default.not-text, (c.in_default.not-text-2, (c.in_default.not-text-3, (c.in_default.not-text-4, (c.in_default.not-text-5, (c.in_default.not-text-6, (c.in_default.not-text-7, (c.in_default.not-text-8, (c.in_default.not-text-9, (c.in_default.not-text-10, (c.in_default.not-text-11, (c.in_default.not-text-12, (c.in_default.not-text-13, (c.in_default.not-text-14, (c.in_default.not-text-15, (c.in_default.not-text-16, (c.in_default.not-text-17, (c.in_default.not-text-18, (c.in_default.not-text-19, (c.in_default.not-text-20, (c.in_default.not-text-21, (c.in_default.not-text-22, (c.in_default.not-text-23, tt)))))))))))))))))))))))

pub returns-in-text : goal.returns-in-text
unfolding chars spelled signs
returns-in-text c = spelled_as signs _ _ _ c.in-text.is refl

pub returns-in-text-2 : goal.returns-in-text-2
unfolding chars spelled signs
returns-in-text-2 c = spelled_as signs _ _ _ c.in-text-2.is refl

pub returns-in-text-3 : goal.returns-in-text-3
unfolding chars spelled signs
returns-in-text-3 c = spelled_as signs _ _ _ c.in-text-3.is refl

pub returns-in-text-4 : goal.returns-in-text-4
unfolding chars spelled signs
returns-in-text-4 c = spelled_as signs _ _ _ c.in-text-4.is refl

pub returns-in-text-5 : goal.returns-in-text-5
unfolding chars spelled signs
returns-in-text-5 c = spelled_as signs _ _ _ c.in-text-5.is refl

pub returns-in-text-6 : goal.returns-in-text-6
unfolding chars spelled signs
returns-in-text-6 c = spelled_as signs _ _ _ c.in-text-6.is refl

pub returns-in-text-7 : goal.returns-in-text-7
unfolding chars spelled signs
returns-in-text-7 c = spelled_as signs _ _ _ c.in-text-7.is refl

pub returns-in-text-8 : goal.returns-in-text-8
unfolding chars spelled signs
returns-in-text-8 c = spelled_as signs _ _ _ c.in-text-8.is refl

pub returns-in-text-9 : goal.returns-in-text-9
unfolding chars spelled signs
returns-in-text-9 c = spelled_as signs _ _ _ c.in-text-9.is refl

pub returns-in-text-10 : goal.returns-in-text-10
unfolding chars spelled signs
returns-in-text-10 c = spelled_as signs _ _ _ c.in-text-10.is refl

pub returns-in-text-11 : goal.returns-in-text-11
unfolding chars spelled signs
returns-in-text-11 c = spelled_as signs _ _ _ c.in-text-11.is refl

pub returns-in-text-12 : goal.returns-in-text-12
unfolding chars spelled signs
returns-in-text-12 c = spelled_as signs _ _ _ c.in-text-12.is refl

pub returns-in-text-13 : goal.returns-in-text-13
unfolding chars spelled signs
returns-in-text-13 c = spelled_as signs _ _ _ c.in-text-13.is refl

pub returns-in-text-14 : goal.returns-in-text-14
unfolding chars spelled signs
returns-in-text-14 c = spelled_as signs _ _ _ c.in-text-14.is refl

pub returns-in-text-15 : goal.returns-in-text-15
unfolding chars spelled signs
returns-in-text-15 c = spelled_as signs _ _ _ c.in-text-15.is refl

pub returns-in-text-16 : goal.returns-in-text-16
unfolding chars spelled signs
returns-in-text-16 c = spelled_as signs _ _ _ c.in-text-16.is refl

pub returns-in-text-17 : goal.returns-in-text-17
unfolding chars spelled signs
returns-in-text-17 c = spelled_as signs _ _ _ c.in-text-17.is refl

pub returns-in-text-18 : goal.returns-in-text-18
unfolding chars spelled signs
returns-in-text-18 c = spelled_as signs _ _ _ c.in-text-18.is refl

pub returns-in-text-19 : goal.returns-in-text-19
unfolding chars spelled signs
returns-in-text-19 c = spelled_as signs _ _ _ c.in-text-19.is refl

pub returns-in-text-20 : goal.returns-in-text-20
unfolding chars spelled signs
returns-in-text-20 c = spelled_as signs _ _ _ c.in-text-20.is refl

pub returns-in-text-21 : goal.returns-in-text-21
unfolding chars spelled signs
returns-in-text-21 c = spelled_as signs _ _ _ c.in-text-21.is refl

pub returns-in-text-22 : goal.returns-in-text-22
unfolding chars spelled signs
returns-in-text-22 c = spelled_as signs _ _ _ c.in-text-22.is refl

pub returns-in-text-23 : goal.returns-in-text-23
unfolding chars spelled signs
returns-in-text-23 c = spelled_as signs _ _ _ c.in-text-23.is refl
