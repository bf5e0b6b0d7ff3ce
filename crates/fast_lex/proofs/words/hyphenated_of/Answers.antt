use Rattle.std.proofs.Common.{refl}
use lib.Utf8.{encode}
use Rattle.std.specs.Str.{chars}
use Rattle.model_program.specs.Spellings.{spelled, hyphenated}
use Rattle.model_program.proofs.Spelled.{spelled_as, spelled_none}
use Rattle.fast_lex.proofs.words.hyphenated_of.Goals as goal

pub returns-in_default : goal.returns-in_default
unfolding hyphenated encode
returns-in_default c = spelled_none hyphenated _ c.utf8.text (c.in_default.not-text, (c.in_default.not-text-2, (c.in_default.not-text-3, (c.in_default.not-text-4, (c.in_default.not-text-5, (c.in_default.not-text-6, (c.in_default.not-text-7, tt)))))))

pub returns-in-text : goal.returns-in-text
unfolding chars spelled hyphenated
returns-in-text c = spelled_as hyphenated _ _ _ c.in-text.is refl

pub returns-in-text-2 : goal.returns-in-text-2
unfolding chars spelled hyphenated
returns-in-text-2 c = spelled_as hyphenated _ _ _ c.in-text-2.is refl

pub returns-in-text-3 : goal.returns-in-text-3
unfolding chars spelled hyphenated
returns-in-text-3 c = spelled_as hyphenated _ _ _ c.in-text-3.is refl

pub returns-in-text-4 : goal.returns-in-text-4
unfolding chars spelled hyphenated
returns-in-text-4 c = spelled_as hyphenated _ _ _ c.in-text-4.is refl

pub returns-in-text-5 : goal.returns-in-text-5
unfolding chars spelled hyphenated
returns-in-text-5 c = spelled_as hyphenated _ _ _ c.in-text-5.is refl

pub returns-in-text-6 : goal.returns-in-text-6
unfolding chars spelled hyphenated
returns-in-text-6 c = spelled_as hyphenated _ _ _ c.in-text-6.is refl

pub returns-in-text-7 : goal.returns-in-text-7
unfolding chars spelled hyphenated
returns-in-text-7 c = spelled_as hyphenated _ _ _ c.in-text-7.is refl
