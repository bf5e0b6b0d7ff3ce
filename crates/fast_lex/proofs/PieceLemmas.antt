-- Which piece stands at the front of a text.
use Rattle.std.proofs.Common.{◌≡◌, ℕ, ◌≤◌, ◌<◌, true, false, List, [], ◌∷◌, ◌++◌, length, refl, sym, ap, ◌∙◌, subst, append_assoc, arith, inl, inr, ◌⊎◌, Option, Some, None}
use Rattle.std.specs.Prelude.{MatchOption}
use Rattle.std.specs.Str.{chars}
use Rattle.std.specs.Option.{unwrap_or}
use Rattle.std.proofs.lemmas.List.{length-append}
use Rattle.model_program.specs.declared.Word.{Word}
use Rattle.model_program.specs.declared.Word.TheVariants.{Id, Number}
use Rattle.model_program.specs.Characters.{AllIn, LeavesOff, begins_name, in_name, is_digit, is_blank, in_line}
use Rattle.model_program.specs.Spellings.{spelling, spelled, keywords, hyphenated, signs}
use Rattle.model_program.specs.Pieces.{PieceKind, Name, Hyphenated, Digits, Text, Sign, Blank, Comment, IsPiece, IsName, IsComment, IsOneOf, IsLongest, HasNoPiece}
use Rattle.model_program.proofs.Spelled.{AllWords, spelled_among}
use Rattle.model_program.proofs.Runs.{same_front, same_run, run_longest}
use Rattle.model_program.proofs.Families.{Begins, family, Words, IsAlone, longest_alone, none_alone, same_family}
use Rattle.model_program.proofs.Unique.{halves_of, same_hyphenated, name_all}
use Rattle.fast_lex.specs.declared.piece.Found.{Found}
use Rattle.fast_lex.specs.Runs.{IsBehind, IsRun, IsNext, HasNone, IsNextPiece, HasNoDouble, NextIn, ends_double}
use Rattle.fast_lex.proofs.AmountLemmas.{run_count, digit_ascii}
use Rattle.fast_lex.proofs.RunLemmas.{behind_both}

-- A kind that is alone in its family.
pub piece_of : (kind : PieceKind) → IsAlone kind → (word : Option Word) (text rest : List ℕ) → IsNext kind word text rest → IsNextPiece word text rest
piece_of kind alone word text rest next = record {
  kind = kind;
  front = next.front;
  behind = next.behind;
  longest = longest_alone kind alone next.front (chars rest) next.is next.longest;
  named = next.named;
}

pub begins_at : (text after : List ℕ) (c : ℕ) (kind : PieceKind) → chars text ≡ c ∷ chars after → Begins (family kind) (c ∷ []) → Begins (family kind) (chars text)
begins_at text after c kind characters begins = subst (Begins (family kind)) (sym characters) begins

pub alone_found : (kind : PieceKind) → IsAlone kind → (text : List ℕ) → Begins (family kind) (chars text) → (r : Option Found) → MatchOption r (HasNone kind (chars text)) (λ x. IsNext kind x.word text x.rest.now)
    → MatchOption r (HasNoPiece (chars text)) (λ x. IsNextPiece x.word text x.rest.now)
alone_found kind alone text begins None none = none_alone kind alone (chars text) begins none
alone_found kind alone text begins (Some x) next = piece_of kind alone x.word text x.rest.now next

pub blank_found : (text after : List ℕ) (c : ℕ) → IsBehind (c ∷ []) text after → is_blank c ≡ true → IsNextPiece None text after
blank_found text after c behind blank = piece_of Blank tt None text after (record {
  front = c ∷ [];
  behind = behind;
  is = (c, refl, blank);
  longest = λ other more same is. let e = ap length is.1 in omega arith;
  named = refl;
})

-- comments
pub comment_next : (text after inside rest : List ℕ) (c d : ℕ) → IsBehind (c ∷ []) text after → IsBehind (d ∷ []) after inside → c ≡ 47 → d ≡ 47 → IsRun in_line inside rest → IsNext Comment None text rest
comment_next text after inside rest c d first second one two run = record {
  front = c ∷ d ∷ run.front;
  behind = behind_both (c ∷ []) (d ∷ run.front) text after rest first (behind_both (d ∷ []) run.front after inside rest second run.behind);
  is = record { inside = run.front; strokes = (λ i. one i ∷ two i ∷ run.front); line = run.all; whole = run.ends };
  longest = λ other more same is. longest other more same is;
  named = refl;
}
  where
    longest : (other more : List ℕ) → c ∷ d ∷ (run.front ++ chars rest) ≡ other ++ more → IsComment other more → length other ≤ length (c ∷ d ∷ run.front)
    longest other more same is =
        let e : c ∷ d ∷ (run.front ++ chars rest) ≡ 47 ∷ 47 ∷ (is.inside ++ more) = same ∙ ap (λ l. l ++ more) is.strokes in
        let f : run.front ++ chars rest ≡ is.inside ++ more = cc in
        let g = run_longest in_line run.front (chars rest) is.inside more is.line run.ends f in let h = ap length is.strokes in omega arith

-- numbers
pub number_next : (text rest slice : List ℕ) → IsRun is_digit text rest → text ≡ slice ++ rest → (length slice ≡ 0 → ⊥) → length slice ≤ 38 → IsNext Digits (Some Number) text rest
number_next text rest slice run split some few = let n = run_count is_digit digit_ascii text rest slice run split in record {
  front = run.front;
  behind = run.behind;
  is = record { digits = run.all; some = (omega arith); few = (omega arith); whole = run.ends };
  longest = λ other more same is. run_longest is_digit run.front (chars rest) other more is.digits run.ends same;
  named = refl;
}

pub number_none : (text rest slice : List ℕ) → IsRun is_digit text rest → text ≡ slice ++ rest → (length slice ≡ 0) ⊎ (38 < length slice) → HasNone Digits (chars text)
number_none text rest slice run split bad = λ front more same is.
    let n = run_count is_digit digit_ascii text rest slice run split in
    let e = same_run is_digit run.front (chars rest) front more run.all run.ends is.digits is.whole (sym run.behind.characters ∙ same) in
    let f = ap length e.0 in let g = is.some in let h = is.few in elim bad [ inl a ↦ omega arith | inr a ↦ omega arith ]

-- signs
sign_length : (cs : List ℕ) → IsOneOf signs cs → (length cs ≡ 1) ⊎ (length cs ≡ 2)
unfolding signs
sign_length cs one = let e = spelled_among (λ v. (length (spelling v) ≡ 1) ⊎ (length (spelling v) ≡ 2)) signs every cs one.0 one.1 in subst (λ (l : List ℕ). (length l ≡ 1) ⊎ (length l ≡ 2)) e.0 e.1
  where
    every : AllWords (λ v. (length (spelling v) ≡ 1) ⊎ (length (spelling v) ≡ 2)) signs
    every = (inl refl, (inl refl, (inl refl, (inl refl, (inl refl, (inl refl, (inl refl, (inl refl, (inl refl, (inr refl, (inr refl, (inr refl, (inl refl, (inr refl, (inr refl, (inr refl, (inl refl, (inl refl, (inl refl, (inl refl, (inl refl, (inl refl, (inl refl, tt)))))))))))))))))))))))

-- a sign has one character, or ends as a sign of two does
EndsSign : List ℕ → Type 0
EndsSign [] = ⊥
EndsSign (c ∷ []) = Unit {0}
EndsSign (c ∷ d ∷ []) = ends_double d ≡ true
EndsSign (c ∷ d ∷ e ∷ cs) = ⊥

signs_end : AllWords (λ v. EndsSign (spelling v)) signs
unfolding signs EndsSign
signs_end = (tt, (tt, (tt, (tt, (tt, (tt, (tt, (tt, (tt, (refl, (refl, (refl, (tt, (refl, (refl, (refl, (tt, (tt, (tt, (tt, (tt, (tt, (tt, tt)))))))))))))))))))))))

-- two characters that don't end so are none
pub other_end : (c d : ℕ) → ends_double d ≡ false → None ≡ spelled signs (c ∷ d ∷ [])
unfolding EndsSign
other_end c d other = by (spelled signs (c ∷ d ∷ [])) refl
  where
    by : (found : Option Word) → spelled signs (c ∷ d ∷ []) ≡ found → None ≡ found
    by None is = refl
    by (Some w) is =
        let e = spelled_among (λ v. EndsSign (spelling v)) signs signs_end (c ∷ d ∷ []) w is in
        let ends : ends_double d ≡ true = subst EndsSign e.0 e.1 in
        let no : true ≡ false = sym ends ∙ other in cc

pub double_none_short : (text after : List ℕ) (c : ℕ) → chars text ≡ c ∷ chars after → chars after ≡ [] → HasNoDouble (chars text)
double_none_short text after c characters ended = λ front rest same is two.
    let e = ap length (sym same ∙ characters ∙ ap (λ l. c ∷ l) ended) in let f = length-append front rest in omega arith

pub double_none : (text after rest : List ℕ) (c d : ℕ) → chars text ≡ c ∷ chars after → chars after ≡ d ∷ chars rest → None ≡ spelled signs (c ∷ d ∷ []) → HasNoDouble (chars text)
double_none text after rest c d first second none = λ front more same is two.
    let e : c ∷ d ∷ chars rest ≡ front ++ more = sym (characters_two text after rest c d first second) ∙ same in
    let f = (same_front (c ∷ d ∷ []) (chars rest) front more e (sym two)).0 in
    let g : None ≡ Some is.0 = none ∙ ap (λ l. spelled signs l) f ∙ is.1 in cc
  where
    characters_two : (text after rest : List ℕ) (c d : ℕ) → chars text ≡ c ∷ chars after → chars after ≡ d ∷ chars rest → chars text ≡ c ∷ d ∷ chars rest
    characters_two text after rest c d first second = first ∙ ap (λ l. c ∷ l) second

sign_at_most : (other more : List ℕ) → IsPiece Sign other more → length other ≤ 2
sign_at_most other more is = elim (sign_length other is) [ inl e ↦ omega arith | inr e ↦ omega arith ]

pub double_next : (text after rest : List ℕ) (c d : ℕ) (w : Word) → IsBehind (c ∷ []) text after → IsBehind (d ∷ []) after rest → Some w ≡ spelled signs (c ∷ d ∷ []) → IsNext Sign (Some w) text rest
double_next text after rest c d w first second found = record {
  front = c ∷ d ∷ [];
  behind = behind_both (c ∷ []) (d ∷ []) text after rest first second;
  is = (w, sym found);
  longest = λ other more same is. sign_at_most other more is;
  named = found;
}

pub single_next : (text rest : List ℕ) (c : ℕ) (w : Word) → IsBehind (c ∷ []) text rest → HasNoDouble (chars text) → Some w ≡ spelled signs (c ∷ []) → IsNext Sign (Some w) text rest
single_next text rest c w behind none found = record {
  front = c ∷ [];
  behind = behind;
  is = (w, sym found);
  longest = λ other more same is. elim (sign_length other is) [ inl e ↦ omega arith | inr e ↦ absurd (none other more (behind.characters ∙ same) is e) ];
  named = found;
}

pub single_none : (text rest : List ℕ) (c : ℕ) → chars text ≡ c ∷ chars rest → HasNoDouble (chars text) → None ≡ spelled signs (c ∷ []) → HasNone Sign (chars text)
single_none text rest c characters none missing = λ front more same is. elim (sign_length front is) [
  | inl e ↦ (let f = (same_front (c ∷ []) (chars rest) front more (sym characters ∙ same) (sym e)).0 in let g : None ≡ Some is.0 = missing ∙ ap (λ l. spelled signs l) f ∙ is.1 in cc)
  | inr e ↦ none front more same is e
]

pub sign_none_ended : (text : List ℕ) → chars text ≡ [] → HasNone Sign (chars text)
sign_none_ended text ended = λ front more same is. let e = ap length (sym ended ∙ same) ∙ length-append front more in elim (sign_length front is) [ inl f ↦ omega arith | inr f ↦ omega arith ]

-- keywords with a hyphen, and names
abbrev pub HasNoHyphen : List ℕ → Type 0
HasNoHyphen [] = Unit {0}
HasNoHyphen (c ∷ cs) = c ≡ 45 → ⊥

hyphen_at : (text end : List ℕ) (run : IsRun in_name text end) (front more : List ℕ) → chars text ≡ front ++ more → (one : IsOneOf hyphenated front)
    → (run.front ≡ (halves_of front one.0 one.1).left) × (chars end ≡ 45 ∷ ((halves_of front one.0 one.1).right ++ more))
hyphen_at text end run front more same one =
    let h = halves_of front one.0 one.1 in
    let e : run.front ++ chars end ≡ h.left ++ (45 ∷ (h.right ++ more)) = sym run.behind.characters ∙ same ∙ ap (λ l. l ++ more) h.split ∙ append_assoc h.left (45 ∷ h.right) more in
    same_run in_name run.front (chars end) h.left (45 ∷ (h.right ++ more)) run.all run.ends h.before refl e

pub hyphenated_none_end : (text end : List ℕ) → IsRun in_name text end → HasNoHyphen (chars end) → HasNone Hyphenated (chars text)
hyphenated_none_end text end run none = λ front more same is. let e = (hyphen_at text end run front more same is.0).1 in subst HasNoHyphen e none refl

abbrev pub joined : List ℕ → List ℕ → List ℕ
joined left right = left ++ (45 ∷ right)

pub joined_behind : (text end after rest : List ℕ) (c : ℕ) (run : IsRun in_name text end) (more : IsRun in_name after rest) → IsBehind (c ∷ []) end after → c ≡ 45 → IsBehind (joined run.front more.front) text rest
joined_behind text end after rest c run more behind hyphen =
    subst (λ (n : ℕ). IsBehind (run.front ++ (n ∷ more.front)) text rest) hyphen (behind_both run.front (c ∷ more.front) text end rest run.behind (behind_both (c ∷ []) more.front end after rest behind more.behind))

pub hyphenated_none : (text end after rest : List ℕ) (c : ℕ) (run : IsRun in_name text end) (later : IsRun in_name after rest) → chars end ≡ c ∷ chars after → None ≡ spelled hyphenated (joined run.front later.front) → HasNone Hyphenated (chars text)
hyphenated_none text end after rest c run later characters none = λ front more same is.
    let h = halves_of front is.0.0 is.0.1 in
    let e = hyphen_at text end run front more same is.0 in
    let f : c ∷ chars after ≡ 45 ∷ (h.right ++ more) = sym characters ∙ e.1 in
    let g : later.front ++ chars rest ≡ h.right ++ more = sym later.behind.characters ∙ (let k : chars after ≡ h.right ++ more = cc in k) in
    let j = same_run in_name later.front (chars rest) h.right more later.all later.ends h.after is.1 g in
    let m : joined run.front later.front ≡ front = (λ i. e.0 i ++ (45 ∷ j.0 i)) ∙ sym h.split in
    let n : None ≡ Some is.0.0 = none ∙ ap (λ l. spelled hyphenated l) m ∙ is.0.1 in cc

pub hyphenated_next : (text end after rest : List ℕ) (c : ℕ) (w : Word) (run : IsRun in_name text end) (later : IsRun in_name after rest) → IsBehind (c ∷ []) end after → c ≡ 45 → Some w ≡ spelled hyphenated (joined run.front later.front) → IsNext Hyphenated (Some w) text rest
hyphenated_next text end after rest c w run later behind hyphen found = record {
  front = joined run.front later.front;
  behind = joined_behind text end after rest c run later behind hyphen;
  is = ((w, sym found), later.ends);
  longest = λ other more same is. let e = same_hyphenated (joined run.front later.front) (chars rest) other more ((w, sym found), later.ends) is same in omega arith;
  named = found;
}

-- what is in the family of names
names_only : (other : PieceKind) → Words ≡ family other → (other ≡ Name) ⊎ (other ≡ Hyphenated)
names_only Name same = inl refl
names_only Hyphenated same = inr refl
names_only Digits same = absurd (cc)
names_only Text same = absurd (cc)
names_only Sign same = absurd (cc)
names_only Blank same = absurd (cc)
names_only Comment same = absurd (cc)

-- the longest of the names and of the keywords with a hyphen is the longest of all
longest_word : (kind : PieceKind) → family kind ≡ Words → (cs behind : List ℕ) → IsPiece kind cs behind
    → ((front rest : List ℕ) → cs ++ behind ≡ front ++ rest → IsName front → length front ≤ length cs)
    → ((front rest : List ℕ) → cs ++ behind ≡ front ++ rest → IsPiece Hyphenated front rest → length front ≤ length cs) → IsLongest kind cs behind
longest_word kind words cs behind is names hyphens = record { is = is; longest = λ other front rest same is2. longest other front rest same is2 }
  where
    longest : (other : PieceKind) (front rest : List ℕ) → cs ++ behind ≡ front ++ rest → IsPiece other front rest → length front ≤ length cs
    longest other front rest same is2 = elim (names_only other (sym words ∙ same_family kind other cs behind front rest is same is2)) [
      | inl e ↦ names front rest same (subst (λ (k : PieceKind). IsPiece k front rest) e is2)
      | inr e ↦ hyphens front rest same (subst (λ (k : PieceKind). IsPiece k front rest) e is2)
    ]

pub hyphenated_found : (word : Option Word) (text rest : List ℕ) → IsNext Hyphenated word text rest → IsNextPiece word text rest
hyphenated_found word text rest next = record {
  kind = Hyphenated;
  front = next.front;
  behind = next.behind;
  longest = longest_word Hyphenated refl next.front (chars rest) next.is (λ front more same is. shorter front more same is) next.longest;
  named = next.named;
}
  where
    shorter : (front more : List ℕ) → next.front ++ chars rest ≡ front ++ more → IsName front → length front ≤ length next.front
    shorter front more same is =
        let h = halves_of next.front next.is.0.0 next.is.0.1 in
        let e : h.left ++ (45 ∷ (h.right ++ chars rest)) ≡ front ++ more = sym (append_assoc h.left (45 ∷ h.right) (chars rest)) ∙ ap (λ l. l ++ chars rest) (sym h.split) ∙ same in
        let f = run_longest in_name h.left (45 ∷ (h.right ++ chars rest)) front more (name_all front is) refl e in
        let g = ap length h.split ∙ length-append h.left (45 ∷ h.right) in omega arith

name_of_run : (cs front rest : List ℕ) → NextIn begins_name cs → cs ≡ front ++ rest → AllIn in_name front → LeavesOff in_name rest → IsName front
name_of_run [] front rest next same all ends = absurd next
name_of_run (c ∷ cs) [] [] next same all ends = let e : c ∷ cs ≡ [] = same in cc
name_of_run (c ∷ cs) [] (d ∷ rest) next same all ends =
    let e : c ∷ cs ≡ d ∷ rest = same in let f : c ≡ d = cc in let g : true ≡ false = sym (goes_on c next) ∙ ap in_name f ∙ ends in absurd (cc)
  where
    goes_on : (c : ℕ) → begins_name c ≡ true → in_name c ≡ true
    goes_on c is = (name_all (c ∷ []) (is, tt)).0
name_of_run (c ∷ cs) (d ∷ front) rest next same all ends =
    let e : c ∷ cs ≡ d ∷ (front ++ rest) = same in let f : c ≡ d = cc in (ap begins_name (sym f) ∙ next, all.1)

pub name_found : (text rest : List ℕ) (word : Option Word) → NextIn begins_name (chars text) → (run : IsRun in_name text rest) → HasNone Hyphenated (chars text) → word ≡ Some (unwrap_or (spelled keywords run.front) Id) → IsNextPiece word text rest
name_found text rest word next run none named = record {
  kind = Name;
  front = run.front;
  behind = run.behind;
  longest = longest_word Name refl run.front (chars rest) (name_of_run (chars text) run.front (chars rest) next run.behind.characters run.all run.ends)
      (λ front more same is. run_longest in_name run.front (chars rest) front more (name_all front is) run.ends same)
      (λ front more same is. absurd (none front more (run.behind.characters ∙ same) is));
  named = named;
}
