use Rattle.std.proofs.Common.{length, string_bytes}
use Rattle.flat_label.specs.Fresh.{AreFresh}
use Rattle.flat_label.proofs.Apart.{AreShort}
use Rattle.flat_label.proofs.fresh.fresh_texts.Given as goal

abbrev pub invariant-more : goal.invariant-more
invariant-more l = record {
  fresh : AreFresh l.counter l.given.keys l.texts.items;
  short : AreShort (length (string_bytes l.row)) l.texts.items;
}
