-- Characters and escapes at the front of the inside of a quoted text.
use Rattle.std.proofs.Common.{◌≡◌, ℕ, ◌≤◌, ◌<◌, true, List, [], ◌∷◌, ◌++◌, length, refl, sym, ap, ◌∙◌, subst, append_assoc, arith, inl, inr, ◌⊎◌, Option, Some, None, Bor, is_some, false}
use Rattle.std.specs.Prelude.{encode_utf8_all, MatchOption}
use Rattle.std.specs.Str.{chars}
use Rattle.std.specs.Char.{IsScalar}
use Rattle.std.proofs.lemmas.List.{append-nil, length-append}
use Rattle.std.proofs.lemmas.Str.{length-le-encodes}
use Rattle.std.proofs.lemmas.Bool.Decides.{nat_tests}
use Rattle.model_program.specs.declared.Word.{Word}
use Rattle.model_program.specs.declared.Word.TheVariants.{Quoted}
use Rattle.model_program.specs.Characters.{is_hexadecimal, in_quotes}
use Rattle.model_program.specs.Pieces.{Text}
use Rattle.model_program.specs.Quotes.{IsBraced, IsUnit, plain, short, long, AreUnits, no_units, unit, IsQuoted, escape, amount}
use Rattle.model_program.proofs.Runs.{same_run}
use Rattle.model_program.proofs.QuoteLaws.{not_plain, braces_open, units_front, same_quoted}
use Rattle.fast_lex.specs.Runs.{IsBehind, IsRun, IsNext, HasNone}
use Rattle.fast_lex.specs.Units.{IsNextBraced, HasNoBraced, IsNextUnit, HasNoUnit, IsNextEnd, HasNoEnd, IsQuotedText}
use Rattle.fast_lex.proofs.RunLemmas.{behind_both, behind_none}

-- what a number in braces at the front of a text has to be
braced_at : (text inside end : List ℕ) (c : ℕ) → chars text ≡ c ∷ chars inside → (run : IsRun is_hexadecimal inside end) → (front more : List ℕ) (v : ℕ) → chars text ≡ front ++ more → (is : IsBraced front v)
    → (c ≡ 123) × (run.front ≡ is.digits) × (chars end ≡ 125 ∷ more)
braced_at text inside end c characters run front more v same is =
    let e : c ∷ chars inside ≡ 123 ∷ (is.digits ++ 125 ∷ more) = sym characters ∙ same ∙ braces_open front more v is in
    let f : chars inside ≡ is.digits ++ 125 ∷ more = cc in
    let g = same_run is_hexadecimal run.front (chars end) is.digits (125 ∷ more) run.all run.ends is.hexadecimal refl (sym run.behind.characters ∙ f) in
    (cc, g.0, g.1)

pub braced_none_ended : (text inside end : List ℕ) (c : ℕ) → chars text ≡ c ∷ chars inside → IsRun is_hexadecimal inside end → chars end ≡ [] → HasNoBraced (chars text)
braced_none_ended text inside end c characters run ended = λ front more v same is.
    let e = braced_at text inside end c characters run front more v same is in let f : [] ≡ 125 ∷ more = sym ended ∙ e.2 in cc

-- what is wrong with braces and what they hold
abbrev pub IsWrong : ℕ → ℕ → ℕ → Type 0
IsWrong left right count = (left ≡ 123 → ⊥) ⊎ (right ≡ 125 → ⊥) ⊎ (count ≡ 0) ⊎ (6 < count)

pub braced_none_wrong : (text inside end rest : List ℕ) (c d : ℕ) → chars text ≡ c ∷ chars inside → (run : IsRun is_hexadecimal inside end) → chars end ≡ d ∷ chars rest → IsWrong c d (length run.front) → HasNoBraced (chars text)
braced_none_wrong text inside end rest c d characters run closing wrong = λ front more v same is.
    let e = braced_at text inside end c characters run front more v same is in
    let f : d ∷ chars rest ≡ 125 ∷ more = sym closing ∙ e.2 in let n = ap length e.1 in let some = is.some in let few = is.few in
    elim wrong [ inl a ↦ a e.0 | inr (inl a) ↦ a (cc) | inr (inr (inl a)) ↦ omega arith | inr (inr (inr a)) ↦ omega arith ]

pub braced_none_scalar : (text inside end : List ℕ) (c value : ℕ) → chars text ≡ c ∷ chars inside → (run : IsRun is_hexadecimal inside end) → value ≡ amount 16 0 run.front → (IsScalar value → ⊥) → HasNoBraced (chars text)
braced_none_scalar text inside end c value characters run amounts none = λ front more v same is.
    let e = braced_at text inside end c characters run front more v same is in
    none (subst IsScalar (is.amounts ∙ sym (amounts ∙ ap (λ l. amount 16 0 l) e.1)) is.scalar)

pub braced_next : (text inside end rest : List ℕ) (c d value : ℕ) → IsBehind (c ∷ []) text inside → (run : IsRun is_hexadecimal inside end) → IsBehind (d ∷ []) end rest → c ≡ 123 → d ≡ 125 → 1 ≤ length run.front → length run.front ≤ 6
    → value ≡ amount 16 0 run.front → IsScalar value → IsNextBraced value text rest
braced_next text inside end rest c d value first run last left right some few amounts scalar = record {
  front = c ∷ (run.front ++ d ∷ []);
  behind = behind_both (c ∷ []) (run.front ++ d ∷ []) text inside rest first (behind_both run.front (d ∷ []) inside end rest run.behind last);
  is = record {
    digits = run.front;
    braces = (λ i. left i ∷ (run.front ++ (right i ∷ [])));
    hexadecimal = run.all;
    some = some;
    few = few;
    amounts = amounts;
    scalar = scalar;
  };
}

-- units
pub unit_none_ended : (text : List ℕ) → chars text ≡ [] → HasNoUnit (chars text)
unit_none_ended text ended = λ front more v same is. none front more v (sym ended ∙ same) is
  where
    none : (front more : List ℕ) (v : ℕ) → [] ≡ front ++ more → IsUnit front v → ⊥
    none front more v same (plain c is) = let e : [] ≡ c ∷ more = same in cc
    none front more v same (short c value is) = let e : [] ≡ 92 ∷ c ∷ more = same in cc
    none front more v same (long cs value is) = let e : [] ≡ 92 ∷ 117 ∷ (cs ++ more) = same in cc

pub unit_none_plain : (text after : List ℕ) (c : ℕ) → chars text ≡ c ∷ chars after → (c ≡ 34) ⊎ (c ≡ 10) → HasNoUnit (chars text)
unit_none_plain text after c characters bad = λ front more v same is. none front more v (sym characters ∙ same) is
  where
    none : (front more : List ℕ) (v : ℕ) → c ∷ chars after ≡ front ++ more → IsUnit front v → ⊥
    none front more v same (plain d is) = let e : c ∷ chars after ≡ d ∷ more = same in let f : d ≡ c = cc in
        elim bad [ inl a ↦ not_plain d 34 is (f ∙ a) refl | inr a ↦ not_plain d 10 is (f ∙ a) refl ]
    none front more v same (short d value is) = let e : c ∷ chars after ≡ 92 ∷ d ∷ more = same in let f : c ≡ 92 = cc in elim bad [ inl a ↦ omega arith | inr a ↦ omega arith ]
    none front more v same (long cs value is) = let e : c ∷ chars after ≡ 92 ∷ 117 ∷ (cs ++ more) = same in let f : c ≡ 92 = cc in elim bad [ inl a ↦ omega arith | inr a ↦ omega arith ]

quotes_in : (c : ℕ) → (c ≡ 34 → ⊥) → (c ≡ 10 → ⊥) → (c ≡ 92 → ⊥) → in_quotes c ≡ true
quotes_in c quote line backslash = grind (arith, nat_tests)

pub unit_plain : (text after : List ℕ) (c : ℕ) → IsBehind (c ∷ []) text after → (c ≡ 34 → ⊥) → (c ≡ 10 → ⊥) → (c ≡ 92 → ⊥) → IsNextUnit c text after
unit_plain text after c behind quote line backslash = record { front = c ∷ []; behind = behind; is = plain c (quotes_in c quote line backslash) }

-- what an escape at the front of a text has to be
unit_none_escape : (text after : List ℕ) (c : ℕ) → chars text ≡ c ∷ chars after → c ≡ 92 → ((d v : ℕ) (more : List ℕ) → chars after ≡ d ∷ more → escape d ≡ Some v → ⊥)
    → ((cs more : List ℕ) (v : ℕ) → chars after ≡ 117 ∷ (cs ++ more) → IsBraced cs v → ⊥) → HasNoUnit (chars text)
unit_none_escape text after c characters backslash no_short no_long = λ front more v same is. none front more v (sym characters ∙ same) is
  where
    none : (front more : List ℕ) (v : ℕ) → c ∷ chars after ≡ front ++ more → IsUnit front v → ⊥
    none front more v same (plain d is) = let e : c ∷ chars after ≡ d ∷ more = same in let f : d ≡ c = cc in not_plain d 92 is (f ∙ backslash) refl
    none front more v same (short d value is) = let e : c ∷ chars after ≡ 92 ∷ d ∷ more = same in no_short d value more (cc) is
    none front more v same (long cs value is) = let e : c ∷ chars after ≡ 92 ∷ 117 ∷ (cs ++ more) = same in no_long cs more value (cc) is

pub unit_none_short : (text after : List ℕ) (c : ℕ) → chars text ≡ c ∷ chars after → c ≡ 92 → chars after ≡ [] → HasNoUnit (chars text)
unit_none_short text after c characters backslash ended = unit_none_escape text after c characters backslash
    (λ d v more e is. let f : [] ≡ d ∷ more = sym ended ∙ e in cc) (λ cs more v e is. let f : [] ≡ 117 ∷ (cs ++ more) = sym ended ∙ e in cc)

pub unit_none_unknown : (text after end : List ℕ) (c d : ℕ) → chars text ≡ c ∷ chars after → c ≡ 92 → chars after ≡ d ∷ chars end → (d ≡ 117 → ⊥) → None ≡ escape d → HasNoUnit (chars text)
unit_none_unknown text after end c d characters backslash second no_long none = unit_none_escape text after c characters backslash
    (λ e v more same is. let f : d ∷ chars end ≡ e ∷ more = sym second ∙ same in let g : d ≡ e = cc in let h : None ≡ Some v = none ∙ ap escape g ∙ is in cc)
    (λ cs more v same is. let f : d ∷ chars end ≡ 117 ∷ (cs ++ more) = sym second ∙ same in no_long (cc))

pub unit_short : (text after end : List ℕ) (c d value : ℕ) → IsBehind (c ∷ []) text after → c ≡ 92 → IsBehind (d ∷ []) after end → Some value ≡ escape d → IsNextUnit value text end
unit_short text after end c d value first backslash second found = record {
  front = c ∷ d ∷ [];
  behind = behind_both (c ∷ []) (d ∷ []) text after end first second;
  is = subst (λ (n : ℕ). IsUnit (n ∷ d ∷ []) value) (sym backslash) (short d value (sym found));
}

pub unit_long : (text after end : List ℕ) (c d : ℕ) → IsBehind (c ∷ []) text after → c ≡ 92 → IsBehind (d ∷ []) after end → d ≡ 117 → (r : Option (ℕ × Bor (List ℕ)))
    → MatchOption r (HasNoBraced (chars end)) (λ x. IsNextBraced x.0 end x.1.now) → MatchOption r (HasNoUnit (chars text)) (λ x. IsNextUnit x.0 text x.1.now)
unit_long text after end c d first backslash second u None none = unit_none_escape text after c first.characters backslash
    (λ e v more same is. let f : d ∷ chars end ≡ e ∷ more = sym second.characters ∙ same in let g : e ≡ 117 = (let h : d ≡ e = cc in sym h ∙ u) in let i : None ≡ Some v = sym (ap escape g) ∙ is in cc)
    (λ cs more v same is. let f : d ∷ chars end ≡ 117 ∷ (cs ++ more) = sym second.characters ∙ same in none cs more v (cc) is)
unit_long text after end c d first backslash second u (Some x) next = record {
  front = c ∷ d ∷ next.front;
  behind = behind_both (c ∷ []) (d ∷ next.front) text after x.1.now first (behind_both (d ∷ []) next.front after end x.1.now second next.behind);
  is = subst (λ (l : List ℕ). IsUnit l x.0) (λ i. (sym backslash i) ∷ (sym u i) ∷ next.front) (long next.front x.0 next.is);
}

pub unit_shorter : (text rest : List ℕ) (v : ℕ) → IsNextUnit v text rest → length rest < length text
unit_shorter text rest v next = let e = ap length next.behind.bytes ∙ length-append (encode_utf8_all next.front) rest in let f = length-le-encodes next.front in let g = some next.front v next.is in omega arith
  where
    some : (front : List ℕ) (v : ℕ) → IsUnit front v → 1 ≤ length front
    some front v (plain c is) = omega arith
    some front v (short c value is) = omega arith
    some front v (long cs value is) = omega arith

-- the units that have been passed
pub record IsInside (text rest : List ℕ) : Type 0 where
  pub passed : List ℕ
  pub values : List ℕ
  pub behind : IsBehind passed text rest
  pub units : AreUnits passed values

pub inside_starts : (text : List ℕ) → IsInside text text
inside_starts text = record { passed = []; values = []; behind = behind_none text; units = no_units }

one_unit : (front : List ℕ) (v : ℕ) → IsUnit front v → AreUnits front (v ∷ [])
one_unit front v is = subst (λ (l : List ℕ). AreUnits l (v ∷ [])) (append-nil front) (unit front [] v [] is no_units)

units_more : (passed values front : List ℕ) (v : ℕ) → AreUnits passed values → IsUnit front v → AreUnits (passed ++ front) (values ++ v ∷ [])
units_more passed values front v no_units is = one_unit front v is
units_more passed values front v (unit f b w ws is are) is2 = subst (λ (l : List ℕ). AreUnits l (w ∷ (ws ++ v ∷ []))) (sym (append_assoc f b front)) (unit f (b ++ front) w (ws ++ v ∷ []) is (units_more b ws front v are is2))

pub inside_more : (text rest after : List ℕ) (v : ℕ) → IsInside text rest → IsNextUnit v rest after → IsInside text after
inside_more text rest after v so_far next = record {
  passed = so_far.passed ++ next.front;
  values = so_far.values ++ v ∷ [];
  behind = behind_both so_far.passed next.front text rest after so_far.behind next.behind;
  units = units_more so_far.passed so_far.values next.front v so_far.units next.is;
}

pub inside_ends : (text rest after : List ℕ) (c : ℕ) → IsInside text rest → IsBehind (c ∷ []) rest after → c ≡ 34 → IsNextEnd text after
inside_ends text rest after c so_far behind quote = record {
  inside = so_far.passed;
  values = so_far.values;
  behind = behind_both so_far.passed (34 ∷ []) text rest after so_far.behind (subst (λ (n : ℕ). IsBehind (n ∷ []) rest after) quote behind);
  units = so_far.units;
}

-- where no unit and no quote stands, the quoted text has no end
inside_none : (text rest : List ℕ) → IsInside text rest → ((more : List ℕ) → chars rest ≡ 34 ∷ more → ⊥) → HasNoUnit (chars rest) → HasNoEnd (chars text)
inside_none text rest so_far no_quote none = λ inside more values same are.
    let left = units_front so_far.passed (chars rest) inside more so_far.values values so_far.units are (sym so_far.behind.characters ∙ same) in
    stuck left.inside left.values_left more left.split left.units
  where
    stuck : (inside values more : List ℕ) → chars rest ≡ inside ++ 34 ∷ more → AreUnits inside values → ⊥
    stuck inside values more same no_units = no_quote more same
    stuck inside values more same (unit f b v vs is are) = none f (b ++ 34 ∷ more) v (same ∙ append_assoc f b (34 ∷ more)) is

pub inside_none_unit : (text rest after : List ℕ) (c : ℕ) → IsInside text rest → chars rest ≡ c ∷ chars after → (c ≡ 34 → ⊥) → HasNoUnit (chars rest) → HasNoEnd (chars text)
inside_none_unit text rest after c so_far characters no_quote none = inside_none text rest so_far (λ more same. let e : c ∷ chars after ≡ 34 ∷ more = sym characters ∙ same in no_quote (cc)) none

pub inside_none_ended : (text rest : List ℕ) → IsInside text rest → chars rest ≡ [] → HasNoEnd (chars text)
inside_none_ended text rest so_far ended = inside_none text rest so_far (λ more same. let e : [] ≡ 34 ∷ more = sym ended ∙ same in cc) (unit_none_ended rest ended)

-- quoted texts
quoted_begins : (cs front more values : List ℕ) → cs ≡ front ++ more → (is : IsQuoted front values) → cs ≡ 34 ∷ (is.inside ++ (34 ∷ more))
quoted_begins cs front more values same is = same ∙ ap (λ l. l ++ more) is.quotes ∙ ap (λ l. 34 ∷ l) (append_assoc is.inside (34 ∷ []) more)

pub quoted_none_ended : (text : List ℕ) → chars text ≡ [] → HasNone Text (chars text)
quoted_none_ended text ended = λ front more same is. let e : [] ≡ 34 ∷ (is.1.inside ++ (34 ∷ more)) = sym ended ∙ quoted_begins (chars text) front more is.0 same is.1 in cc

pub quoted_none_other : (text inside : List ℕ) (c : ℕ) → chars text ≡ c ∷ chars inside → (c ≡ 34 → ⊥) → HasNone Text (chars text)
quoted_none_other text inside c characters other = λ front more same is.
    let e : c ∷ chars inside ≡ 34 ∷ (is.1.inside ++ (34 ∷ more)) = sym characters ∙ quoted_begins (chars text) front more is.0 same is.1 in other (cc)

pub quoted_none : (text inside : List ℕ) (c : ℕ) → chars text ≡ c ∷ chars inside → HasNoEnd (chars inside) → HasNone Text (chars text)
quoted_none text inside c characters none = λ front more same is.
    let e : c ∷ chars inside ≡ 34 ∷ (is.1.inside ++ (34 ∷ more)) = sym characters ∙ quoted_begins (chars text) front more is.0 same is.1 in
    none is.1.inside more is.0 (cc) is.1.units

pub quoted_next : (text inside rest : List ℕ) (c : ℕ) → IsBehind (c ∷ []) text inside → c ≡ 34 → IsNextEnd inside rest → IsNext Text (Some Quoted) text rest
quoted_next text inside rest c first quote end =
    let is : IsQuoted (c ∷ (end.inside ++ 34 ∷ [])) end.values = record { inside = end.inside; quotes = (λ i. quote i ∷ (end.inside ++ 34 ∷ [])); units = end.units } in record {
      front = c ∷ (end.inside ++ 34 ∷ []);
      behind = behind_both (c ∷ []) (end.inside ++ 34 ∷ []) text inside rest first end.behind;
      is = (end.values, is);
      longest = λ other more same is2. let e = same_quoted (c ∷ (end.inside ++ 34 ∷ [])) other (chars rest) more end.values is2.0 is is2.1 same in omega arith;
      named = refl;
    }

-- a quoted text behind which more follows isn't the whole text
pub quoted_no_more : (text rest after : List ℕ) (word : Option Word) (c : ℕ) → IsNext Text word text rest → chars rest ≡ c ∷ after → IsQuotedText (chars text) → ⊥
quoted_no_more text rest after word c next more quoted =
    let e = next.longest (chars text) [] (sym next.behind.characters ∙ sym (append-nil (chars text))) (quoted.values, quoted.is) in
    let f = ap (λ (l : List ℕ). length l) next.behind.characters in
    let g = length-append next.front (chars rest) in
    let h = ap (λ (l : List ℕ). length l) more in
    omega (arith, e, f, g, h)

pub quoted_goes_on : {T : Type 0} (text rest : List ℕ) (word : Option Word) (first : T → ℕ) (after : T → List ℕ) (next : Option T) → IsNext Text word text rest → MatchOption next (chars rest ≡ []) (λ x. chars rest ≡ first x ∷ after x) → is_some next ≡ true → IsQuotedText (chars text) → ⊥
quoted_goes_on text rest word first after None found is some quoted = let e : false ≡ true = some in cc
quoted_goes_on text rest word first after (Some x) found is some quoted = quoted_no_more text rest (after x) word (first x) found is quoted
