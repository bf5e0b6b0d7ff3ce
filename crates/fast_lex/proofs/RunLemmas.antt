-- How pieces of a text follow one another.
use Rattle.std.proofs.Common.{◌≡◌, ℕ, ◌-◌, ◌<◌, Bool, true, false, List, [], ◌∷◌, ◌++◌, length, take, refl, sym, ap, ◌∙◌, subst, append_assoc, arith}
use Rattle.std.specs.Prelude.{encode_utf8, encode_utf8_all}
use Rattle.std.specs.Str.{chars, IsCharBoundary, IsUtf8}
use Rattle.std.proofs.lemmas.List.{append-nil, length-append}
use Rattle.std.proofs.lemmas.Str.{encodes-append, length-encode, len_utf8_bounds, IsCharBoundary-at_seam, chars_from_encodes, IsUtf8-past_char, IsUtf8-take}
use Rattle.std.proofs.Math.Seq.{take-append_seam}
use Rattle.model_program.specs.Characters.{AllIn, LeavesOff}
use Rattle.fast_lex.specs.Runs.{IsBehind, IsRun, IsSuffix}

-- the characters of the class that have been passed
pub record IsRunning (class : ℕ → Bool) (text rest : List ℕ) : Type 0 where
  pub front : List ℕ
  pub behind : IsBehind front text rest
  pub all : AllIn class front

pub behind_none : (text : List ℕ) → IsBehind [] text text
behind_none text = record { bytes = refl; characters = refl }

-- one character and what follows it
pub behind_one : (text after : List ℕ) (c : ℕ) → text ≡ encode_utf8 c ++ after → chars text ≡ c ∷ chars after → IsBehind (c ∷ []) text after
behind_one text after c bytes characters = record { bytes = bytes ∙ ap (λ l. l ++ after) (sym (append-nil (encode_utf8 c))); characters = characters }

pub behind_both : (front more text middle rest : List ℕ) → IsBehind front text middle → IsBehind more middle rest → IsBehind (front ++ more) text rest
behind_both front more text middle rest first second = record {
  bytes = first.bytes ∙ ap (λ l. encode_utf8_all front ++ l) second.bytes ∙ sym (append_assoc (encode_utf8_all front) (encode_utf8_all more) rest) ∙ ap (λ l. l ++ rest) (sym (encodes-append front more));
  characters = first.characters ∙ ap (λ l. front ++ l) second.characters ∙ sym (append_assoc front more (chars rest));
}

pub behind_more : (front text rest after : List ℕ) (c : ℕ) → IsBehind front text rest → rest ≡ encode_utf8 c ++ after → chars rest ≡ c ∷ chars after → IsBehind (front ++ c ∷ []) text after
behind_more front text rest after c behind bytes characters = behind_both front (c ∷ []) text rest after behind (behind_one rest after c bytes characters)

all_more : (class : ℕ → Bool) (cs : List ℕ) (c : ℕ) → AllIn class cs → class c ≡ true → AllIn class (cs ++ c ∷ [])
all_more class [] c all is = (is, tt)
all_more class (d ∷ cs) c all is = (all.0, all_more class cs c all.1 is)

pub run_starts : (class : ℕ → Bool) (text : List ℕ) → IsRunning class text text
run_starts class text = record { front = []; behind = behind_none text; all = tt }

pub run_more : (class : ℕ → Bool) (text rest after : List ℕ) (c : ℕ) → IsRunning class text rest → rest ≡ encode_utf8 c ++ after → chars rest ≡ c ∷ chars after → class c ≡ true → IsRunning class text after
run_more class text rest after c so_far bytes characters is = record {
  front = so_far.front ++ c ∷ [];
  behind = behind_more so_far.front text rest after c so_far.behind bytes characters;
  all = all_more class so_far.front c so_far.all is;
}

pub run_ends_at : (class : ℕ → Bool) (text rest after : List ℕ) (c : ℕ) → IsRunning class text rest → chars rest ≡ c ∷ chars after → class c ≡ false → IsRun class text rest
run_ends_at class text rest after c so_far characters is = record { front = so_far.front; behind = so_far.behind; all = so_far.all; ends = subst (LeavesOff class) (sym characters) is }

pub run_ends : (class : ℕ → Bool) (text rest : List ℕ) → IsRunning class text rest → chars rest ≡ [] → IsRun class text rest
run_ends class text rest so_far ended = record { front = so_far.front; behind = so_far.behind; all = so_far.all; ends = subst (LeavesOff class) (sym ended) tt }

pub char_shorter : (rest after : List ℕ) (c : ℕ) → rest ≡ encode_utf8 c ++ after → length after < length rest
char_shorter rest after c bytes = let e = ap length bytes ∙ length-append (encode_utf8 c) after in let f = length-encode c in let g = (len_utf8_bounds c).0 in omega arith

behind_bytes : (text rest front : List ℕ) → IsBehind front text rest → length (encode_utf8_all front) ≡ length text - length rest
behind_bytes text rest front behind = let e = ap length behind.bytes ∙ length-append (encode_utf8_all front) rest in omega arith

-- the text may be cut before what ends it
pub cut_before : (text rest : List ℕ) → IsSuffix text rest → IsUtf8 rest → IsCharBoundary text (length text - length rest)
cut_before text rest suffix utf8 = subst (IsCharBoundary text) (behind_bytes text rest suffix.front suffix.behind) (IsCharBoundary-at_seam text (encode_utf8_all suffix.front) rest suffix.behind.bytes utf8)

-- what stands there has the characters of the front
pub front_chars : (text rest slice front : List ℕ) → IsUtf8 text → IsUtf8 rest → slice ≡ take (length text - length rest) text → IsBehind front text rest → chars slice ≡ front
front_chars text rest slice front utf8 utf8_rest is_slice behind =
    let suffix : IsSuffix text rest = record { front = front; behind = behind } in
    let slice_utf8 = subst IsUtf8 (sym is_slice) (IsUtf8-take text (length text - length rest) utf8 (cut_before text rest suffix utf8_rest)) in
    sym (chars_from_encodes front slice slice_utf8 (sym (is_slice ∙ ap (λ n. take n text) (sym (behind_bytes text rest front behind)) ∙ ap (λ l. take (length (encode_utf8_all front)) l) behind.bytes ∙ take-append_seam (encode_utf8_all front) rest)))

pub utf8_behind : (front rest after : List ℕ) → IsUtf8 rest → rest ≡ encode_utf8_all front ++ after → IsUtf8 after
utf8_behind [] rest after utf8 same = subst IsUtf8 same utf8
utf8_behind (c ∷ front) rest after utf8 same = utf8_behind front (encode_utf8_all front ++ after) after (IsUtf8-past_char rest (encode_utf8_all front ++ after) c utf8 (same ∙ append_assoc (encode_utf8 c) (encode_utf8_all front) after)) refl

pub run_suffix : (class : ℕ → Bool) (text rest : List ℕ) → IsRun class text rest → IsSuffix text rest
run_suffix class text rest run = record { front = run.front; behind = run.behind }
