-- Each place of a text has one longest piece, so that a text has one cut.
use Rattle.std.proofs.Common.{◌≡◌, ℕ, ◌≤◌, true, false, List, [], ◌∷◌, ◌++◌, length, refl, sym, ap, ◌∙◌, subst, append_assoc, arith, Some}
use Rattle.std.specs.Prelude.{codes}
use Rattle.std.proofs.lemmas.List.{length-append}
use Rattle.std.proofs.lemmas.Bool.Decides.{nat_tests}
use Rattle.fast_fault.specs.declared.place.Pos.{Pos}
use Rattle.model_program.specs.declared.Word.{Word}
use Rattle.model_program.specs.Characters.{AllIn, begins_name, in_name}
use Rattle.model_program.specs.Lexeme.{Lexeme}
use Rattle.model_program.specs.Spellings.{spelling, spelled, hyphenated}
use Rattle.model_program.specs.Pieces.{PieceKind, Name, Hyphenated, Digits, Text, Sign, Blank, Comment, IsPiece, IsName, IsOneOf, IsLongest, HasNoPiece}
use Rattle.model_program.specs.Cuts.{Piece, IsCut, AreTokens, StopsAt, body_of, mark_of, lexemes_after, place_after, texts_of}
use Rattle.model_program.proofs.Spelled.{AllWords, spelled_among}
use Rattle.model_program.proofs.Runs.{same_front, same_run}
use Rattle.model_program.proofs.Families.{Begins, piece_begins, same_family, only_kind, family, Family}

-- a hyphen between characters of names
pub record Halves (cs : List ℕ) : Type 0 where
  pub left : List ℕ
  pub right : List ℕ
  pub split : cs ≡ left ++ 45 ∷ right
  pub before : AllIn in_name left
  pub after : AllIn in_name right

pub halves_of : (cs : List ℕ) (w : Word) → spelled hyphenated cs ≡ Some w → Halves cs
unfolding hyphenated
halves_of cs w same = let e = spelled_among (λ v. Halves (spelling v)) hyphenated every cs w same in subst Halves e.0 e.1
  where
    every : AllWords (λ v. Halves (spelling v)) hyphenated
    every = (
      record { left = codes "assert"; right = codes "true"; split = refl; before = (refl, (refl, (refl, (refl, (refl, (refl, tt)))))); after = (refl, (refl, (refl, (refl, tt)))) },
      (
        record { left = codes "assert"; right = codes "false"; split = refl; before = (refl, (refl, (refl, (refl, (refl, (refl, tt)))))); after = (refl, (refl, (refl, (refl, (refl, tt))))) },
        (
          record { left = codes "pre"; right = codes "image"; split = refl; before = (refl, (refl, (refl, tt))); after = (refl, (refl, (refl, (refl, (refl, tt))))) },
          (
            record { left = codes "restrict"; right = codes "out"; split = refl; before = (refl, (refl, (refl, (refl, (refl, (refl, (refl, (refl, tt)))))))); after = (refl, (refl, (refl, tt))) },
            (
              record { left = codes "get"; right = codes "witness"; split = refl; before = (refl, (refl, (refl, tt))); after = (refl, (refl, (refl, (refl, (refl, (refl, (refl, tt))))))) },
              (
                record { left = codes "is"; right = codes "empty"; split = refl; before = (refl, (refl, tt)); after = (refl, (refl, (refl, (refl, (refl, tt))))) },
                (
                  record { left = codes "type"; right = codes "check"; split = refl; before = (refl, (refl, (refl, (refl, tt)))); after = (refl, (refl, (refl, (refl, (refl, tt))))) },
                  tt,
                ),
              ),
            ),
          ),
        ),
      ),
    )

-- keywords with a hyphen at the front of one text are one
pub same_hyphenated : (a rest b more : List ℕ) → IsPiece Hyphenated a rest → IsPiece Hyphenated b more → a ++ rest ≡ b ++ more → length a ≡ length b
same_hyphenated a rest b more one two same =
    let h = halves_of a one.0.0 one.0.1 in let g = halves_of b two.0.0 two.0.1 in
    let e : h.left ++ (45 ∷ (h.right ++ rest)) ≡ g.left ++ (45 ∷ (g.right ++ more)) =
    sym (append_assoc h.left (45 ∷ h.right) rest) ∙ ap (λ l. l ++ rest) (sym h.split) ∙ same ∙ ap (λ l. l ++ more) g.split ∙ append_assoc g.left (45 ∷ g.right) more in
    let f = same_run in_name h.left (45 ∷ (h.right ++ rest)) g.left (45 ∷ (g.right ++ more)) h.before refl g.before refl e in
    let i : h.right ++ rest ≡ g.right ++ more = (let k = f.1 in cc) in
    let j = same_run in_name h.right rest g.right more h.after one.1 g.after two.1 i in
    let k = ap length same in let l = length-append a rest in let m = length-append b more in let n = ap length j.1 in
    omega arith

all_middle : (left right : List ℕ) → AllIn in_name (left ++ 45 ∷ right) → ⊥
all_middle [] right all = let e : false ≡ true = all.0 in cc
all_middle (c ∷ left) right all = all_middle left right all.1

pub name_all : (cs : List ℕ) → IsName cs → AllIn in_name cs
name_all [] is = absurd is
name_all (c ∷ cs) is = (begins_goes_on c is.0, is.1)
  where
    begins_goes_on : (c : ℕ) → begins_name c ≡ true → in_name c ≡ true
    begins_goes_on c is = grind (arith, nat_tests)

pub no_name_hyphenated : (cs : List ℕ) → IsName cs → IsOneOf hyphenated cs → ⊥
no_name_hyphenated cs name one = let h = halves_of cs one.0 one.1 in all_middle h.left h.right (subst (AllIn in_name) h.split (name_all cs name))

-- the longest piece at a place is one
pub same_longest : (kind other : PieceKind) (front behind more rest : List ℕ) → IsLongest kind front behind → IsLongest other more rest → front ++ behind ≡ more ++ rest → (front ≡ more) × (behind ≡ rest)
same_longest kind other front behind more rest one two same =
    let a = one.longest other more rest same two.is in let b = two.longest kind front behind (sym same) one.is in
    same_front front behind more rest same (let e : length front ≡ length more = omega arith in e)

-- and of one kind
pub same_kind : (kind other : PieceKind) (cs behind rest : List ℕ) → IsPiece kind cs behind → IsPiece other cs rest → cs ++ behind ≡ cs ++ rest → kind ≡ other
same_kind Name Name cs behind rest is is2 same = refl
same_kind Name Hyphenated cs behind rest is is2 same = absurd (no_name_hyphenated cs is is2.0)
same_kind Hyphenated Name cs behind rest is is2 same = absurd (no_name_hyphenated cs is2 is.0)
same_kind Hyphenated Hyphenated cs behind rest is is2 same = refl
same_kind kind Digits cs behind rest is is2 same = sym (only_kind Digits kind tt (sym (same_family kind Digits cs behind cs rest is same is2)))
same_kind kind Text cs behind rest is is2 same = sym (only_kind Text kind tt (sym (same_family kind Text cs behind cs rest is same is2)))
same_kind kind Sign cs behind rest is is2 same = sym (only_kind Sign kind tt (sym (same_family kind Sign cs behind cs rest is same is2)))
same_kind kind Blank cs behind rest is is2 same = sym (only_kind Blank kind tt (sym (same_family kind Blank cs behind cs rest is same is2)))
same_kind kind Comment cs behind rest is is2 same = sym (only_kind Comment kind tt (sym (same_family kind Comment cs behind cs rest is same is2)))
same_kind Digits other cs behind rest is is2 same = only_kind Digits other tt (same_family Digits other cs behind cs rest is same is2)
same_kind Text other cs behind rest is is2 same = only_kind Text other tt (same_family Text other cs behind cs rest is same is2)
same_kind Sign other cs behind rest is is2 same = only_kind Sign other tt (same_family Sign other cs behind cs rest is same is2)
same_kind Blank other cs behind rest is is2 same = only_kind Blank other tt (same_family Blank other cs behind cs rest is same is2)
same_kind Comment other cs behind rest is is2 same = only_kind Comment other tt (same_family Comment other cs behind cs rest is same is2)

nonempty : (kinds : Family) (front : List ℕ) → Begins kinds front → 1 ≤ length front
nonempty kinds [] begins = absurd begins
nonempty kinds (c ∷ cs) begins = omega arith

pub piece_nonempty : (kind : PieceKind) (front rest : List ℕ) → IsPiece kind front rest → 1 ≤ length front
piece_nonempty kind front rest is = nonempty (family kind) front (piece_begins kind front rest is)

pub nothing_ends : HasNoPiece []
nothing_ends = λ kind front rest same is. let e = piece_nonempty kind front rest is in let f = ap length same ∙ length-append front rest in omega arith

-- a text has one cut into longest pieces up to where none starts
pub same_cut : (text : List ℕ) (ps : List Piece) (rest : List ℕ) (qs : List Piece) (more : List ℕ) → IsCut text ps rest → HasNoPiece rest → IsCut text qs more → HasNoPiece more → (ps ≡ qs) × (rest ≡ more)
same_cut text [] rest [] more cut none cut2 none2 = (refl, sym cut ∙ cut2)
same_cut text [] rest (q ∷ qs) more cut none cut2 none2 = absurd (none q.kind q.text cut2.0 (sym cut ∙ cut2.1) cut2.2.is)
same_cut text (p ∷ ps) rest [] more cut none cut2 none2 = absurd (none2 p.kind p.text cut.0 (sym cut2 ∙ cut.1) cut.2.is)
same_cut text (p ∷ ps) rest (q ∷ qs) more cut none cut2 none2 =
    let e = same_longest p.kind q.kind p.text cut.0 q.text cut2.0 cut.2 cut2.2 (sym cut.1 ∙ cut2.1) in
    let is2 : IsPiece q.kind p.text cut2.0 = subst (λ (t : List ℕ). IsPiece q.kind t cut2.0) (sym e.0) cut2.2.is in
    let k = same_kind p.kind q.kind p.text cut.0 cut2.0 cut.2.is is2 (ap (λ b. p.text ++ b) e.1) in
    let later = same_cut cut.0 ps rest qs more cut.3 none (subst (λ (l : List ℕ). IsCut l qs more) (sym e.1) cut2.3) none2 in
    (λ i. (record { kind = k i; text = e.0 i }) ∷ later.0 i, later.1)

-- the tokens of a text are one list
pub same_tokens : (text : List ℕ) (a b : List Lexeme) → AreTokens text a → AreTokens text b → a ≡ b
same_tokens text a b one two =
    let e = same_cut (body_of text) one.pieces [] two.pieces [] one.cut nothing_ends two.cut nothing_ends in
    one.are ∙ ap (λ ps. lexemes_after (mark_of text) ps) e.0 ∙ sym two.are

-- a text stops at one place
pub same_stop : (text : List ℕ) (a b : Pos) → StopsAt text a → StopsAt text b → a ≡ b
same_stop text a b one two =
    let e = same_cut (body_of text) one.pieces one.rest two.pieces two.rest one.cut one.none two.cut two.none in
    one.is ∙ ap (λ ps. place_after (mark_of text ++ texts_of ps)) e.0 ∙ sym two.is

-- and isn't made of tokens then
pub stops_or_whole : (text : List ℕ) (place : Pos) (found : List Lexeme) → StopsAt text place → AreTokens text found → ⊥
stops_or_whole text place found stops whole =
    let e = same_cut (body_of text) stops.pieces stops.rest whole.pieces [] stops.cut stops.none whole.cut nothing_ends in
    stops.goes_on e.1
