-- Single tokens are written.
use Rattle.std.specs.Prelude.{encode_utf8_all}
use Rattle.std.proofs.Common.{◌≡◌, ℕ, List, [], ◌∷◌, ◌++◌, length, refl, sym, ap, ◌∙◌, subst, Some, inl, inr}
use Rattle.std.specs.Option.{unwrap_or}
use Rattle.fast_fault.specs.declared.place.Pos.{Pos}
use Rattle.model_program.specs.declared.Word.{Word}
use Rattle.model_program.specs.declared.Word.TheVariants.{TypeWord, Tree, Lang, Trans, Def, Where, Given, To, Intersect, Union, Complement, Difference, Minimize, Domain, Compose, Restrict, Apply, In, And, Or, Not, True, False, AssertTrue, AssertFalse, PreImage, RestrictOut, GetWitness, IsEmpty, TypeCheck, Id, Number, Quoted, RoundOpen, RoundClose, SquareOpen, SquareClose, CurlyOpen, CurlyClose, Comma, Bar, Colon, Assign, Arrow, Same, Equal, NotEqual, AtMost, AtLeast, Less, Greater, Plus, Minus, Star, Percent, Element}
use Rattle.model_program.specs.Lexeme.{Lexeme}
use Rattle.model_program.specs.Spellings.{spelling, spelled, keywords, hyphenated, signs}
use Rattle.model_program.specs.Pieces.{PieceKind, Name, Sign, IsLongest, word_of}
use Rattle.model_program.specs.Cuts.{Piece, texts_of, lexeme_at, lexemes_after, place_after}
use Rattle.model_program.specs.Grammar as grammar
use Rattle.model_program.specs.Syntax as names
use Rattle.model_program.specs.TokenTexts.{IsTextOf}
use Rattle.model_grammar.specs.Places.{nowhere, bare_name}
use Rattle.model_grammar.specs.Printed.{kind_of, token, name, piece, bracketed}
use Rattle.model_grammar.proofs.Laid.{IsParted, AreLaid}
use Rattle.model_grammar.proofs.Standing.{name_longest, hyphenated_longest, sign_longest, parted_alone, NoSecond}
use Rattle.model_grammar.proofs.Written.{Again, Written, anything, lexemes_after-append, laid-append}

-- a keyword or a sign, which has a spelling
abbrev pub IsSpelled : Word → Type 0
IsSpelled Id = ⊥
IsSpelled Number = ⊥
IsSpelled Quoted = ⊥
IsSpelled _ = Unit {0}

-- the spelling is the token
pub spelled_word : (w : Word) → IsSpelled w → word_of (kind_of w) (spelling w) ≡ Some w
unfolding spelled keywords hyphenated signs
spelled_word TypeWord is = refl
spelled_word Tree is = refl
spelled_word Lang is = refl
spelled_word Trans is = refl
spelled_word Def is = refl
spelled_word Where is = refl
spelled_word Given is = refl
spelled_word To is = refl
spelled_word Intersect is = refl
spelled_word Union is = refl
spelled_word Complement is = refl
spelled_word Difference is = refl
spelled_word Minimize is = refl
spelled_word Domain is = refl
spelled_word Compose is = refl
spelled_word Restrict is = refl
spelled_word Apply is = refl
spelled_word In is = refl
spelled_word And is = refl
spelled_word Or is = refl
spelled_word Not is = refl
spelled_word True is = refl
spelled_word False is = refl
spelled_word AssertTrue is = refl
spelled_word AssertFalse is = refl
spelled_word PreImage is = refl
spelled_word RestrictOut is = refl
spelled_word GetWitness is = refl
spelled_word IsEmpty is = refl
spelled_word TypeCheck is = refl
spelled_word Id is = absurd is
spelled_word Number is = absurd is
spelled_word Quoted is = absurd is
spelled_word RoundOpen is = refl
spelled_word RoundClose is = refl
spelled_word SquareOpen is = refl
spelled_word SquareClose is = refl
spelled_word CurlyOpen is = refl
spelled_word CurlyClose is = refl
spelled_word Comma is = refl
spelled_word Bar is = refl
spelled_word Colon is = refl
spelled_word Assign is = refl
spelled_word Arrow is = refl
spelled_word Same is = refl
spelled_word Equal is = refl
spelled_word NotEqual is = refl
spelled_word AtMost is = refl
spelled_word AtLeast is = refl
spelled_word Less is = refl
spelled_word Greater is = refl
spelled_word Plus is = refl
spelled_word Minus is = refl
spelled_word Star is = refl
spelled_word Percent is = refl
spelled_word Element is = refl

-- and the longest piece before what parts tokens
pub word_longest : (w : Word) → IsSpelled w → (after : List ℕ) → IsParted after → IsLongest (kind_of w) (spelling w) after
unfolding spelled keywords hyphenated signs
word_longest TypeWord is after parted = name_longest (spelling TypeWord) after (refl, (refl, (refl, (refl, tt)))) parted
word_longest Tree is after parted = name_longest (spelling Tree) after (refl, (refl, (refl, (refl, tt)))) parted
word_longest Lang is after parted = name_longest (spelling Lang) after (refl, (refl, (refl, (refl, tt)))) parted
word_longest Trans is after parted = name_longest (spelling Trans) after (refl, (refl, (refl, (refl, (refl, tt))))) parted
word_longest Def is after parted = name_longest (spelling Def) after (refl, (refl, (refl, tt))) parted
word_longest Where is after parted = name_longest (spelling Where) after (refl, (refl, (refl, (refl, (refl, tt))))) parted
word_longest Given is after parted = name_longest (spelling Given) after (refl, (refl, (refl, (refl, (refl, tt))))) parted
word_longest To is after parted = name_longest (spelling To) after (refl, (refl, tt)) parted
word_longest Intersect is after parted = name_longest (spelling Intersect) after (refl, (refl, (refl, (refl, (refl, (refl, (refl, (refl, (refl, tt))))))))) parted
word_longest Union is after parted = name_longest (spelling Union) after (refl, (refl, (refl, (refl, (refl, tt))))) parted
word_longest Complement is after parted = name_longest (spelling Complement) after (refl, (refl, (refl, (refl, (refl, (refl, (refl, (refl, (refl, (refl, tt)))))))))) parted
word_longest Difference is after parted = name_longest (spelling Difference) after (refl, (refl, (refl, (refl, (refl, (refl, (refl, (refl, (refl, (refl, tt)))))))))) parted
word_longest Minimize is after parted = name_longest (spelling Minimize) after (refl, (refl, (refl, (refl, (refl, (refl, (refl, (refl, tt)))))))) parted
word_longest Domain is after parted = name_longest (spelling Domain) after (refl, (refl, (refl, (refl, (refl, (refl, tt)))))) parted
word_longest Compose is after parted = name_longest (spelling Compose) after (refl, (refl, (refl, (refl, (refl, (refl, (refl, tt))))))) parted
word_longest Restrict is after parted = name_longest (spelling Restrict) after (refl, (refl, (refl, (refl, (refl, (refl, (refl, (refl, tt)))))))) parted
word_longest Apply is after parted = name_longest (spelling Apply) after (refl, (refl, (refl, (refl, (refl, tt))))) parted
word_longest In is after parted = name_longest (spelling In) after (refl, (refl, tt)) parted
word_longest And is after parted = name_longest (spelling And) after (refl, (refl, (refl, tt))) parted
word_longest Or is after parted = name_longest (spelling Or) after (refl, (refl, tt)) parted
word_longest Not is after parted = name_longest (spelling Not) after (refl, (refl, (refl, tt))) parted
word_longest True is after parted = name_longest (spelling True) after (refl, (refl, (refl, (refl, tt)))) parted
word_longest False is after parted = name_longest (spelling False) after (refl, (refl, (refl, (refl, (refl, tt))))) parted
word_longest AssertTrue is after parted = hyphenated_longest (spelling AssertTrue) after (AssertTrue, refl) parted
word_longest AssertFalse is after parted = hyphenated_longest (spelling AssertFalse) after (AssertFalse, refl) parted
word_longest PreImage is after parted = hyphenated_longest (spelling PreImage) after (PreImage, refl) parted
word_longest RestrictOut is after parted = hyphenated_longest (spelling RestrictOut) after (RestrictOut, refl) parted
word_longest GetWitness is after parted = hyphenated_longest (spelling GetWitness) after (GetWitness, refl) parted
word_longest IsEmpty is after parted = hyphenated_longest (spelling IsEmpty) after (IsEmpty, refl) parted
word_longest TypeCheck is after parted = hyphenated_longest (spelling TypeCheck) after (TypeCheck, refl) parted
word_longest Id is after parted = absurd is
word_longest Number is after parted = absurd is
word_longest Quoted is after parted = absurd is
word_longest RoundOpen is after parted = sign_longest (spelling RoundOpen) after (RoundOpen, refl) (parted_alone (spelling RoundOpen) after parted)
word_longest RoundClose is after parted = sign_longest (spelling RoundClose) after (RoundClose, refl) (parted_alone (spelling RoundClose) after parted)
word_longest SquareOpen is after parted = sign_longest (spelling SquareOpen) after (SquareOpen, refl) (parted_alone (spelling SquareOpen) after parted)
word_longest SquareClose is after parted = sign_longest (spelling SquareClose) after (SquareClose, refl) (parted_alone (spelling SquareClose) after parted)
word_longest CurlyOpen is after parted = sign_longest (spelling CurlyOpen) after (CurlyOpen, refl) (parted_alone (spelling CurlyOpen) after parted)
word_longest CurlyClose is after parted = sign_longest (spelling CurlyClose) after (CurlyClose, refl) (parted_alone (spelling CurlyClose) after parted)
word_longest Comma is after parted = sign_longest (spelling Comma) after (Comma, refl) (parted_alone (spelling Comma) after parted)
word_longest Bar is after parted = sign_longest (spelling Bar) after (Bar, refl) (parted_alone (spelling Bar) after parted)
word_longest Colon is after parted = sign_longest (spelling Colon) after (Colon, refl) (parted_alone (spelling Colon) after parted)
word_longest Assign is after parted = sign_longest (spelling Assign) after (Assign, refl) (parted_alone (spelling Assign) after parted)
word_longest Arrow is after parted = sign_longest (spelling Arrow) after (Arrow, refl) (parted_alone (spelling Arrow) after parted)
word_longest Same is after parted = sign_longest (spelling Same) after (Same, refl) (parted_alone (spelling Same) after parted)
word_longest Equal is after parted = sign_longest (spelling Equal) after (Equal, refl) (parted_alone (spelling Equal) after parted)
word_longest NotEqual is after parted = sign_longest (spelling NotEqual) after (NotEqual, refl) (parted_alone (spelling NotEqual) after parted)
word_longest AtMost is after parted = sign_longest (spelling AtMost) after (AtMost, refl) (parted_alone (spelling AtMost) after parted)
word_longest AtLeast is after parted = sign_longest (spelling AtLeast) after (AtLeast, refl) (parted_alone (spelling AtLeast) after parted)
word_longest Less is after parted = sign_longest (spelling Less) after (Less, refl) (parted_alone (spelling Less) after parted)
word_longest Greater is after parted = sign_longest (spelling Greater) after (Greater, refl) (parted_alone (spelling Greater) after parted)
word_longest Plus is after parted = sign_longest (spelling Plus) after (Plus, refl) (parted_alone (spelling Plus) after parted)
word_longest Minus is after parted = sign_longest (spelling Minus) after (Minus, refl) (parted_alone (spelling Minus) after parted)
word_longest Star is after parted = sign_longest (spelling Star) after (Star, refl) (parted_alone (spelling Star) after parted)
word_longest Percent is after parted = sign_longest (spelling Percent) after (Percent, refl) (parted_alone (spelling Percent) after parted)
word_longest Element is after parted = sign_longest (spelling Element) after (Element, refl) (parted_alone (spelling Element) after parted)

-- `(` and `[` stand before anything
pub opening_longest : (after : List ℕ) → IsLongest Sign (spelling RoundOpen) after × IsLongest Sign (spelling SquareOpen) after
unfolding spelled signs
opening_longest after = (sign_longest (spelling RoundOpen) after (RoundOpen, refl) (inl refl), sign_longest (spelling SquareOpen) after (SquareOpen, refl) (inl refl))

-- the token of a word
abbrev pub token_at : Word → List ℕ → List ℕ → Lexeme
token_at w before text = record { word = w; text = text; start = length (encode_utf8_all before); place = place_after before }

-- the token that a piece is
pub one_token : (w : Word) (k : PieceKind) (text before : List ℕ) → word_of k text ≡ Some w → lexemes_after before (piece k text ∷ []) ≡ token_at w before text ∷ []
one_token w k text before same = ap (λ o. lexeme_at before o text ++ []) same

-- a form of one token is written by a piece
pub token_written : {A C : Type 0} {may : List ℕ → Type 0} (f : A → C) (form : A → List Lexeme → Type 0) (a : A) (w : Word) (k : PieceKind) (text : List ℕ) → word_of k text ≡ Some w
    → ((before : List ℕ) → Again f form a (token_at w before text ∷ [])) → ((after : List ℕ) → may after → IsLongest k text after) → Written may f form a (piece k text ∷ [])
token_written f form a w k text same one longest = record {
  again = λ before. subst (Again f form a) (sym (one_token w k text before same)) (one before);
  laid = λ after fine. (longest after fine, tt);
}

abbrev pub alike : Unit {0} → Unit {0}
alike u = u

pub sign_written : (w : Word) → IsSpelled w → Written IsParted alike (grammar.IsSign w) tt (token w ∷ [])
sign_written w is = token_written alike (grammar.IsSign w) tt w (kind_of w) (spelling w) (spelled_word w is) (λ before. record { value = tt; spelled = (token_at w before (spelling w), (refl, refl)); same = refl }) (word_longest w is)

-- `(` and `[`
pub round_written : Written anything alike (grammar.IsSign RoundOpen) tt (token RoundOpen ∷ [])
round_written = token_written alike (grammar.IsSign RoundOpen) tt RoundOpen Sign (spelling RoundOpen) (spelled_word RoundOpen tt) (λ before. record { value = tt; spelled = (token_at RoundOpen before (spelling RoundOpen), (refl, refl)); same = refl }) (λ after fine. (opening_longest after).0)

pub square_written : Written anything alike (grammar.IsSign SquareOpen) tt (token SquareOpen ∷ [])
square_written = token_written alike (grammar.IsSign SquareOpen) tt SquareOpen Sign (spelling SquareOpen) (spelled_word SquareOpen tt) (λ before. record { value = tt; spelled = (token_at SquareOpen before (spelling SquareOpen), (refl, refl)); same = refl }) (λ after fine. (opening_longest after).1)

-- a keyword at a place
abbrev pub placed : Pos → Pos
placed p = nowhere

pub at_written : (w : Word) (p : Pos) → IsSpelled w → Written IsParted placed (grammar.IsAt w) p (token w ∷ [])
at_written w p is = token_written placed (grammar.IsAt w) p w (kind_of w) (spelling w) (spelled_word w is) (λ before. record { value = place_after before; spelled = (token_at w before (spelling w), (refl, refl), refl); same = refl }) (word_longest w is)

-- the word of a name
pub word_of_name : (text : List ℕ) → IsTextOf Id text → word_of Name text ≡ Some Id
word_of_name text is = ap (λ o. Some (unwrap_or o Id)) is.1

pub name_written : (n : names.Name) → IsTextOf Id n.text → Written IsParted bare_name grammar.IsName n (name n)
name_written n is = token_written bare_name grammar.IsName n Id Name n.text (word_of_name n.text is)
    (λ before. record { value = record { text = n.text; place = place_after before }; spelled = (token_at Id before n.text, (refl, refl), refl); same = refl })
    (λ after parted. name_longest n.text after is.0 parted)

-- a keyword or a sign, and the tokens behind it
pub token_then : (w : Word) → IsSpelled w → (before : List ℕ) (ps : List Piece) → lexemes_after before (token w ∷ ps) ≡ token_at w before (spelling w) ∷ lexemes_after (before ++ spelling w) ps
token_then w is before ps = ap (λ o. lexeme_at before o (spelling w) ++ lexemes_after (before ++ spelling w) ps) (spelled_word w is)

-- `-` stands before what isn't `>` or `=`
pub minus_longest : (after : List ℕ) → NoSecond after → IsLongest Sign (spelling Minus) after
unfolding spelled signs
minus_longest after none = sign_longest (spelling Minus) after (Minus, refl) (inr none)

-- parentheses round tokens
pub bracket_tokens : (before : List ℕ) (ps : List Piece) → lexemes_after before (bracketed ps) ≡ token_at RoundOpen before (spelling RoundOpen) ∷ lexemes_after (before ++ spelling RoundOpen) ps ++ token_at RoundClose ((before ++ spelling RoundOpen) ++ texts_of ps) (spelling RoundClose) ∷ []
bracket_tokens before ps =
    token_then RoundOpen tt before (ps ++ token RoundClose ∷ [])
    ∙ ap (λ l. token_at RoundOpen before (spelling RoundOpen) ∷ l) (lexemes_after-append (before ++ spelling RoundOpen) ps (token RoundClose ∷ []) ∙ ap (λ l. lexemes_after (before ++ spelling RoundOpen) ps ++ l) (token_then RoundClose tt ((before ++ spelling RoundOpen) ++ texts_of ps) []))

pub bracket_laid : (ps : List Piece) → ((after : List ℕ) → IsParted after → AreLaid ps after) → (after : List ℕ) → IsParted after → AreLaid (bracketed ps) after
bracket_laid ps laid after parted = ((opening_longest (texts_of (ps ++ token RoundClose ∷ []) ++ after)).0, laid-append ps (token RoundClose ∷ []) after (laid (texts_of (token RoundClose ∷ []) ++ after) refl) (word_longest RoundClose tt after parted, tt))
