use Rattle.read_forms.proofs.Words.{next_of}
use Rattle.label_reader.proofs.Exits.{other_next, none_next}
use Rattle.label_reader.proofs.reader.Reader.is_next.Goals as goal

pub returns-in-Some-clause-yes : goal.returns-in-Some-clause-yes
returns-in-Some-clause-yes c = λ same. next_of c.args.word _ _ _ c.in-Some.ensures (c.is_same.ensures.yes same)

pub returns-in-Some-clause-no : goal.returns-in-Some-clause-no
returns-in-Some-clause-no c = λ other. other_next c.args.word _ c.in-Some.ensures (c.is_same.ensures.no other)

pub returns-in-None-clause-yes : goal.returns-in-None-clause-yes
returns-in-None-clause-yes c = λ same. absurd cc

pub returns-in-None-clause-no : goal.returns-in-None-clause-no
returns-in-None-clause-no c = λ other. none_next c.args.word c.in-None.ensures
