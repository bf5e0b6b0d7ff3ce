-- The program tree of the code as plain data.
use Rattle.std.specs.Prelude.{List, map, Option, Some, None}
use Rattle.fast_fault.specs.declared.place.Pos.{Pos}
use Rattle.fast_syntax.specs.declared.Name.{Name}
use Rattle.fast_syntax.specs.declared.TypeItem.{TypeItem}
use Rattle.fast_syntax.specs.declared.FieldItem.{FieldItem}
use Rattle.fast_syntax.specs.declared.CtorItem.{CtorItem}
use Rattle.fast_syntax.specs.declared.Demand.{Demand}
use Rattle.model_program.specs.Syntax as plain

abbrev pub plain_name : Name → plain.Name
plain_name n = record { text = n.text; place = n.place }

abbrev pub plain_field : FieldItem → plain.FieldItem
plain_field f = record { name = plain_name f.name; sort = plain_name f.sort }

abbrev pub plain_ctor : CtorItem → plain.CtorItem
plain_ctor c = record { name = plain_name c.name; rank = c.rank }

abbrev pub plain_type : TypeItem → plain.TypeItem
plain_type t = record { name = plain_name t.name; fields = map plain_field t.fields.items; ctors = map plain_ctor t.ctors.items }

abbrev pub plain_demand : Demand → plain.Demand
plain_demand d = record { language = plain_name d.language; child = plain_name d.child }
