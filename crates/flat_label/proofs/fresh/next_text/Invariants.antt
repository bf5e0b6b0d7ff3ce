use Rattle.std.proofs.Common.{◌≡◌, ◌<◌, ◌-◌, ◌+◌, length, string_bytes}
use Rattle.std.specs.Str.{chars}
use Rattle.flat_label.proofs.Apart.{longest}
use Rattle.flat_label.proofs.fresh.next_text.Given as goal

abbrev pub invariant-longer : goal.invariant-longer
invariant-longer l = record {
  text : l.text ≡ chars (string_bytes l.row);
  longer : length (string_bytes l.fn.row) < length (string_bytes l.row);
}

abbrev pub decreases-longer : goal.decreases-longer
decreases-longer l = longest l.given.keys + 1 - length (string_bytes l.row)
