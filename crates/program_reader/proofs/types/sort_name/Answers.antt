use Rattle.program_reader.proofs.Sorts.{int_sort, bool_sort, string_sort, other_sort}
use Rattle.program_reader.proofs.types.sort_name.Goals as goal

pub returns-in-int : goal.returns-in-int
returns-in-int c = int_sort _ c.in-int.is

pub returns-in-bool : goal.returns-in-bool
returns-in-bool c = bool_sort _ c.in-bool.is

pub returns-in-string : goal.returns-in-string
returns-in-string c = string_sort _ c.in-string.is

pub returns-in_default : goal.returns-in_default
returns-in_default c = other_sort _ c.utf8.text c.in_default.not-int c.in_default.not-bool c.in_default.not-string
