use Rattle.std.proofs.Common.{ℕ, ◌≡◌, ◌<◌, ◌≤◌, length, get_or}
use Rattle.std.specs.Prelude.{bit_and}
use Rattle.sta_classes.proofs.row.meet_words.Given as goal

abbrev pub invariant-words : goal.invariant-words
invariant-words l = record {
  many : length l.words.items ≡ length l.initial.words.items;
  done : (k : ℕ) → k < l.i → get_or l.words.items k 0 ≡ bit_and (get_or l.initial.words.items k 0) (get_or l.others k 0);
  left : (k : ℕ) → l.i ≤ k → get_or l.words.items k 0 ≡ get_or l.initial.words.items k 0;
}
