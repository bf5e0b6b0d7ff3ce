use Rattle.program_reader.proofs.Texts.{whole_read, whole_only, read_all, refused_at, first_wrong}
use Rattle.program_reader.proofs.items.read_items.Goals as goal

pub returns-in_default : goal.returns-in_default
returns-in_default c = let read = read_all c.new-reader.ensures c.in_default.ensures.whole c.in_default.ensures.read in record { found = whole_read _ _ read; only = λ other spelled. whole_only _ _ other read spelled; refused = tt }

pub returns-in-Wrong-clause-refused : goal.returns-in-Wrong-clause-refused
returns-in-Wrong-clause-refused c = first_wrong _ _ _ c.count_left.ensures (refused_at _ c.in-Err.stop c.new-reader.ensures c.in-Wrong.is c.in-Err.ensures.read)
