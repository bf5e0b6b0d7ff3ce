-- Which kinds of pieces a character begins.
use Rattle.std.proofs.Common.{◌≡◌, ℕ, ◌≤◌, Bool, true, false, List, [], ◌∷◌, ◌++◌, length, refl, sym, ap, ◌∙◌, subst, arith, Some, if◌then◌else◌, ◌==◌}
use Rattle.std.proofs.lemmas.Bool.Decides.{nat_tests}
use Rattle.std.proofs.lemmas.Bool.{eqb-true}
use Rattle.model_program.specs.declared.Word.{Word}
use Rattle.model_program.specs.Characters.{begins_name, is_digit, is_blank}
use Rattle.model_program.specs.Spellings.{spelling, spelled, hyphenated, signs}
use Rattle.model_program.specs.Pieces.{PieceKind, Name, Hyphenated, Digits, Text, Sign, Blank, Comment, IsPiece, IsLongest, HasNoPiece}
use Rattle.model_program.proofs.Spelled.{AllWords, spelled_among}

-- kinds that begin with the same characters
pub data Family : Type 0 where
  Words : Family
  Numbers : Family
  Quotes : Family
  Gaps : Family
  Strokes : Family
  Others : Family

abbrev pub family : PieceKind → Family
family Name = Words
family Hyphenated = Words
family Digits = Numbers
family Text = Quotes
family Sign = Others
family Blank = Gaps
family Comment = Strokes

abbrev pub family_by : Bool → Bool → Bool → Bool → Bool → Family
family_by blank name digit quote stroke = if blank then Gaps else if name then Words else if digit then Numbers else if quote then Quotes else if stroke then Strokes else Others

-- the kinds that a character begins
abbrev pub family_of : ℕ → Family
family_of c = family_by (is_blank c) (begins_name c) (is_digit c) (c == 34) (c == 47)

abbrev pub Begins : Family → List ℕ → Type 0
Begins kinds [] = ⊥
Begins kinds (c ∷ cs) = family_of c ≡ kinds

pub name_no_blank : (c : ℕ) → begins_name c ≡ true → is_blank c ≡ false
name_no_blank c is = grind (arith, nat_tests)

pub digit_no_blank : (c : ℕ) → is_digit c ≡ true → is_blank c ≡ false
digit_no_blank c is = grind (arith, nat_tests)

pub digit_no_name : (c : ℕ) → is_digit c ≡ true → begins_name c ≡ false
digit_no_name c is = grind (arith, nat_tests)

pub no_number_test : (c d : ℕ) → (c ≡ d → ⊥) → (c == d) ≡ false
no_number_test c d other = by (c == d) refl
  where
    by : (b : Bool) → (c == d) ≡ b → b ≡ false
    by false e = refl
    by true e = absurd (other (eqb-true c d e))

pub blank_begins : (c : ℕ) → is_blank c ≡ true → family_of c ≡ Gaps
blank_begins c is = λ i. family_by (is i) (begins_name c) (is_digit c) (c == 34) (c == 47)

pub name_begins : (c : ℕ) → begins_name c ≡ true → family_of c ≡ Words
name_begins c is = λ i. family_by (name_no_blank c is i) (is i) (is_digit c) (c == 34) (c == 47)

pub digit_begins : (c : ℕ) → is_digit c ≡ true → family_of c ≡ Numbers
digit_begins c is = λ i. family_by (digit_no_blank c is i) (digit_no_name c is i) (is i) (c == 34) (c == 47)

pub other_begins : (c : ℕ) → is_blank c ≡ false → begins_name c ≡ false → is_digit c ≡ false → (c ≡ 34 → ⊥) → (c ≡ 47 → ⊥) → family_of c ≡ Others
other_begins c blank name digit quote stroke = λ i. family_by (blank i) (name i) (digit i) (no_number_test c 34 quote i) (no_number_test c 47 stroke i)

sign_begins : (cs : List ℕ) (w : Word) → spelled signs cs ≡ Some w → Begins Others cs
unfolding signs
sign_begins cs w same = let e = spelled_among (λ v. Begins Others (spelling v)) signs every cs w same in subst (Begins Others) e.0 e.1
  where
    every : AllWords (λ v. Begins Others (spelling v)) signs
    every = (refl, (refl, (refl, (refl, (refl, (refl, (refl, (refl, (refl, (refl, (refl, (refl, (refl, (refl, (refl, (refl, (refl, (refl, (refl, (refl, (refl, (refl, (refl, tt)))))))))))))))))))))))

hyphenated_begins : (cs : List ℕ) (w : Word) → spelled hyphenated cs ≡ Some w → Begins Words cs
unfolding hyphenated
hyphenated_begins cs w same = let e = spelled_among (λ v. Begins Words (spelling v)) hyphenated every cs w same in subst (Begins Words) e.0 e.1
  where
    every : AllWords (λ v. Begins Words (spelling v)) hyphenated
    every = (refl, (refl, (refl, (refl, (refl, (refl, (refl, tt)))))))

-- a piece begins with a character of its family
pub piece_begins : (kind : PieceKind) (front rest : List ℕ) → IsPiece kind front rest → Begins (family kind) front
piece_begins Name [] rest is = is
piece_begins Name (c ∷ cs) rest is = name_begins c is.0
piece_begins Hyphenated front rest is = hyphenated_begins front is.0.0 is.0.1
piece_begins Digits [] rest is = let e = is.some in omega arith
piece_begins Digits (c ∷ cs) rest is = digit_begins c is.digits.0
piece_begins Text front rest is = subst (Begins Quotes) (sym is.1.quotes) refl
piece_begins Sign front rest is = sign_begins front is.0 is.1
piece_begins Blank front rest is = subst (Begins Gaps) (sym is.1) (blank_begins is.0 is.2)
piece_begins Comment front rest is = subst (Begins Strokes) (sym is.strokes) refl

begins_longer : (kinds : Family) (front rest : List ℕ) → Begins kinds front → Begins kinds (front ++ rest)
begins_longer kinds [] rest is = absurd is
begins_longer kinds (c ∷ cs) rest is = is

begins_one : (a b : Family) (text : List ℕ) → Begins a text → Begins b text → a ≡ b
begins_one a b [] one two = absurd one
begins_one a b (c ∷ cs) one two = sym one ∙ two

-- what a text begins with tells the family of each piece at its front
pub family_at : (kinds : Family) (text : List ℕ) → Begins kinds text → (other : PieceKind) (front rest : List ℕ) → text ≡ front ++ rest → IsPiece other front rest → kinds ≡ family other
family_at kinds text begins other front rest same is = begins_one kinds (family other) text begins (subst (Begins (family other)) (sym same) (begins_longer (family other) front rest (piece_begins other front rest is)))

pub same_family : (kind other : PieceKind) (cs behind front rest : List ℕ) → IsPiece kind cs behind → cs ++ behind ≡ front ++ rest → IsPiece other front rest → family kind ≡ family other
same_family kind other cs behind front rest is same is2 = family_at (family kind) (cs ++ behind) (begins_longer (family kind) cs behind (piece_begins kind cs behind is)) other front rest same is2

-- the kinds that are alone in their family
abbrev pub IsAlone : PieceKind → Type 0
IsAlone Name = ⊥
IsAlone Hyphenated = ⊥
IsAlone Digits = Unit {0}
IsAlone Text = Unit {0}
IsAlone Sign = Unit {0}
IsAlone Blank = Unit {0}
IsAlone Comment = Unit {0}

abbrev kind_in : Family → PieceKind
kind_in Words = Name
kind_in Numbers = Digits
kind_in Quotes = Text
kind_in Gaps = Blank
kind_in Strokes = Comment
kind_in Others = Sign

alone_is : (kind : PieceKind) → IsAlone kind → kind_in (family kind) ≡ kind
alone_is Name alone = absurd alone
alone_is Hyphenated alone = absurd alone
alone_is Digits alone = refl
alone_is Text alone = refl
alone_is Sign alone = refl
alone_is Blank alone = refl
alone_is Comment alone = refl

pub only_kind : (kind other : PieceKind) → IsAlone kind → family kind ≡ family other → kind ≡ other
only_kind kind Name alone same = sym (alone_is kind alone) ∙ ap kind_in same
only_kind kind Hyphenated alone same = absurd (subst IsAlone (sym (alone_is kind alone) ∙ ap kind_in same) alone)
only_kind kind Digits alone same = sym (alone_is kind alone) ∙ ap kind_in same
only_kind kind Text alone same = sym (alone_is kind alone) ∙ ap kind_in same
only_kind kind Sign alone same = sym (alone_is kind alone) ∙ ap kind_in same
only_kind kind Blank alone same = sym (alone_is kind alone) ∙ ap kind_in same
only_kind kind Comment alone same = sym (alone_is kind alone) ∙ ap kind_in same

-- of a kind that is alone the longest piece of the kind is the longest of all
pub longest_alone : (kind : PieceKind) → IsAlone kind → (cs behind : List ℕ) → IsPiece kind cs behind → ((front rest : List ℕ) → cs ++ behind ≡ front ++ rest → IsPiece kind front rest → length front ≤ length cs) → IsLongest kind cs behind
longest_alone kind alone cs behind is among = record {
  is = is;
  longest = λ other front rest same is2. among front rest same (subst (λ (k : PieceKind). IsPiece k front rest) (sym (only_kind kind other alone (same_family kind other cs behind front rest is same is2))) is2);
}

pub none_alone : (kind : PieceKind) → IsAlone kind → (text : List ℕ) → Begins (family kind) text → ((front rest : List ℕ) → text ≡ front ++ rest → IsPiece kind front rest → ⊥) → HasNoPiece text
none_alone kind alone text begins none = λ other front rest same is. none front rest same (subst (λ (k : PieceKind). IsPiece k front rest) (sym (only_kind kind other alone (family_at (family kind) text begins other front rest same is))) is)
