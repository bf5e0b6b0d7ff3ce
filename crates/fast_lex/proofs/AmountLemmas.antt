-- What digits amount to, read from left to right.
use Rattle.std.proofs.Common.{◌≡◌, ℕ, ◌+◌, ◌*◌, ◌^◌, ◌≤◌, ◌<◌, Bool, true, List, [], ◌∷◌, ◌++◌, length, refl, sym, ap, ◌∙◌, subst, arith, Option, Some, None, suc}
use Rattle.std.specs.Prelude.{encode_utf8_all}
use Rattle.std.specs.Str.{chars}
use Rattle.std.specs.Char.{digit_value}
use Rattle.std.specs.Option.{unwrap_or, SomeIff}
use Rattle.std.proofs.Math.Nat.{pow-le-pow_right, pow-succ', one-le-pow, mul-le-mul_right, mul_assoc, le-mul_of_pos_right}
use Rattle.std.proofs.lemmas.Bool.Decides.{nat_tests}
use Rattle.std.proofs.lemmas.List.{length-append}
use Rattle.std.proofs.lemmas.Str.{encode_ascii}
use Rattle.model_program.specs.Characters.{AllIn, is_digit, is_hexadecimal}
use Rattle.model_program.specs.Quotes.{amount}
use Rattle.fast_lex.specs.Runs.{IsRun}

pub digit_below : (c : ℕ) → is_digit c ≡ true → digit_value c < 10
digit_below c is = grind (arith, nat_tests)

pub hexadecimal_below : (c : ℕ) → is_hexadecimal c ≡ true → digit_value c < 16
hexadecimal_below c is = grind (arith, nat_tests)

pub digit_ascii : (c : ℕ) → is_digit c ≡ true → c < 128
digit_ascii c is = grind (arith, nat_tests)

pub hexadecimal_ascii : (c : ℕ) → is_hexadecimal c ≡ true → c < 128
hexadecimal_ascii c is = grind (arith, nat_tests)

ascii_bytes : (class : ℕ → Bool) → ((c : ℕ) → class c ≡ true → c < 128) → (cs : List ℕ) → AllIn class cs → encode_utf8_all cs ≡ cs
ascii_bytes class ascii [] all = refl
ascii_bytes class ascii (c ∷ cs) all = ap (λ l. l ++ encode_utf8_all cs) (encode_ascii c (ascii c all.0)) ∙ ap (λ l. c ∷ l) (ascii_bytes class ascii cs all.1)

-- a run of ASCII has as many characters as bytes
pub run_count : (class : ℕ → Bool) → ((c : ℕ) → class c ≡ true → c < 128) → (text rest slice : List ℕ) (run : IsRun class text rest) → text ≡ slice ++ rest → length slice ≡ length run.front
run_count class ascii text rest slice run split =
    let e = ap length (run.behind.bytes ∙ ap (λ l. l ++ rest) (ascii_bytes class ascii run.front run.all)) ∙ length-append run.front rest in
    let f = ap length split ∙ length-append slice rest in omega arith

pub unwrap_some : (o : Option ℕ) (limit v d : ℕ) → SomeIff o (v < limit) v → v < limit → unwrap_or o d ≡ v
unwrap_some None limit v d none below = absurd (none below)
unwrap_some (Some x) limit v d some below = some.1

-- The digits that are left, and room for them below the limit.
pub record IsAmounting (class : ℕ → Bool) (base limit : ℕ) (digits rest : List ℕ) (value : ℕ) : Type 0 where
  pub same : amount base 0 (chars digits) ≡ amount base value (chars rest)
  pub all : AllIn class (chars rest)
  pub room : (value + 1) * base ^ length (chars rest) ≤ limit

pub amounting_starts : (class : ℕ → Bool) (base most : ℕ) (digits : List ℕ) → 0 < base → AllIn class (chars digits) → length (chars digits) ≤ most → IsAmounting class base (base ^ most) digits digits 0
amounting_starts class base most digits positive all few = record {
  same = refl;
  all = all;
  room = (let e : base ^ length (chars digits) ≤ base ^ most = pow-le-pow_right positive few in omega arith);
}

room_left : (base value d n limit : ℕ) → d < base → (value + 1) * base ^ suc n ≤ limit → (value * base + d + 1) * base ^ n ≤ limit
room_left base value d n limit below room =
    let e : (value + 1) * base ^ suc n ≡ (value + 1) * base * base ^ n = ap (λ p. (value + 1) * p) (pow-succ' base n) ∙ sym (mul_assoc (value + 1) base (base ^ n)) in
    let f : (value + 1) * base ≡ value * base + base = grind arith in
    let g : value * base + d + 1 ≤ (value + 1) * base = omega arith in
    let h : (value * base + d + 1) * base ^ n ≤ (value + 1) * base * base ^ n = mul-le-mul_right (base ^ n) g in omega arith

pub amounting_more : (class : ℕ → Bool) (base limit : ℕ) (digits rest after : List ℕ) (value c : ℕ) → ((d : ℕ) → class d ≡ true → digit_value d < base) → IsAmounting class base limit digits rest value → chars rest ≡ c ∷ chars after
    → IsAmounting class base limit digits after (value * base + digit_value c)
amounting_more class base limit digits rest after value c below so_far characters =
    let all = subst (AllIn class) characters so_far.all in record {
      same = so_far.same ∙ ap (λ l. amount base value l) characters;
      all = all.1;
      room = room_left base value (digit_value c) (length (chars after)) limit (below c all.0) (subst (λ (l : List ℕ). (value + 1) * base ^ length l ≤ limit) characters so_far.room);
    }

pub next_is : (class : ℕ → Bool) (rest after : List ℕ) (c : ℕ) → AllIn class (chars rest) → chars rest ≡ c ∷ chars after → class c ≡ true
next_is class rest after c all characters = (subst (AllIn class) characters all).0

pub amounting_below : (class : ℕ → Bool) (base limit : ℕ) (digits rest : List ℕ) (value : ℕ) → 0 < base → IsAmounting class base limit digits rest value → value < limit
amounting_below class base limit digits rest value positive so_far =
    let e : value + 1 ≤ (value + 1) * base ^ length (chars rest) = le-mul_of_pos_right (value + 1) (let p = one-le-pow (length (chars rest)) base positive in omega arith) in
    let f = so_far.room in omega arith

pub amounting_ends : (class : ℕ → Bool) (base limit : ℕ) (digits rest : List ℕ) (value : ℕ) → IsAmounting class base limit digits rest value → chars rest ≡ [] → value ≡ amount base 0 (chars digits)
amounting_ends class base limit digits rest value so_far ended = sym (so_far.same ∙ ap (λ l. amount base value l) ended)

-- a digit of the class, as `to_digit` gives it
pub digit_read : (class : ℕ → Bool) (base : ℕ) (rest after : List ℕ) (c d : ℕ) (o : Option ℕ) → ((e : ℕ) → class e ≡ true → digit_value e < base) → AllIn class (chars rest) → chars rest ≡ c ∷ chars after
    → SomeIff o (digit_value c < base) (digit_value c) → d ≡ unwrap_or o 0 → (d ≡ digit_value c) × (d < base)
digit_read class base rest after c d o below all characters some is =
    let small = below c (next_is class rest after c all characters) in
    let same = is ∙ unwrap_some o base (digit_value c) 0 some small in (same, omega arith)

pub amounting_step : (class : ℕ → Bool) (base limit : ℕ) (digits rest after : List ℕ) (value c d : ℕ) → ((e : ℕ) → class e ≡ true → digit_value e < base) → IsAmounting class base limit digits rest value → chars rest ≡ c ∷ chars after
    → d ≡ digit_value c → IsAmounting class base limit digits after (value * base + d)
amounting_step class base limit digits rest after value c d below so_far characters is =
    subst (λ (n : ℕ). IsAmounting class base limit digits after (value * base + n)) (sym is) (amounting_more class base limit digits rest after value c below so_far characters)
