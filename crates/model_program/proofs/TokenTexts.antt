-- Each token has a text of its word.
use Rattle.std.proofs.Common.{◌≡◌, ℕ, List, [], ◌∷◌, ◌++◌, refl, sym, subst, Option, Some, None}
use Rattle.std.specs.Option.{unwrap_or}
use Rattle.model_program.specs.declared.Word.{Word}
use Rattle.model_program.specs.declared.Word.TheVariants.{Id, Number, Quoted}
use Rattle.model_program.specs.Lexeme.{Lexeme}
use Rattle.model_program.specs.Spellings.{spelling, spelled, keywords, hyphenated, signs}
use Rattle.model_program.specs.Pieces.{PieceKind, Name, Hyphenated, Digits, Text, Sign, Blank, Comment, IsPiece, IsName, word_of}
use Rattle.model_program.specs.Cuts.{Piece, IsCut, AreTokens, body_of, mark_of, lexeme_at, lexemes_after}
use Rattle.model_program.specs.TokenTexts.{IsTextOf, HaveTexts}
use Rattle.model_program.proofs.Spelled.{AllWords, spelled_among}

abbrev IsSpelling : List ℕ → Word → Type 0
IsSpelling cs w = cs ≡ spelling w → IsTextOf w cs

spelled_text : (ws : List Word) (cs : List ℕ) (w : Word) → AllWords (IsSpelling cs) ws → spelled ws cs ≡ Some w → IsTextOf w cs
spelled_text ws cs w every found = let e = spelled_among (IsSpelling cs) ws every cs w found in e.1 (sym e.0)

keyword_text : (cs : List ℕ) (w : Word) → spelled keywords cs ≡ Some w → IsTextOf w cs
unfolding keywords
keyword_text cs w found = spelled_text keywords cs w ((λ e. e), ((λ e. e), ((λ e. e), ((λ e. e), ((λ e. e), ((λ e. e), ((λ e. e), ((λ e. e), ((λ e. e), ((λ e. e), ((λ e. e), ((λ e. e), ((λ e. e), ((λ e. e), ((λ e. e), ((λ e. e), ((λ e. e), ((λ e. e), ((λ e. e), ((λ e. e), ((λ e. e), ((λ e. e), ((λ e. e), tt))))))))))))))))))))))) found

hyphenated_text : (cs : List ℕ) (w : Word) → spelled hyphenated cs ≡ Some w → IsTextOf w cs
unfolding hyphenated
hyphenated_text cs w found = spelled_text hyphenated cs w ((λ e. e), ((λ e. e), ((λ e. e), ((λ e. e), ((λ e. e), ((λ e. e), ((λ e. e), tt))))))) found

sign_text : (cs : List ℕ) (w : Word) → spelled signs cs ≡ Some w → IsTextOf w cs
unfolding signs
sign_text cs w found = spelled_text signs cs w ((λ e. e), ((λ e. e), ((λ e. e), ((λ e. e), ((λ e. e), ((λ e. e), ((λ e. e), ((λ e. e), ((λ e. e), ((λ e. e), ((λ e. e), ((λ e. e), ((λ e. e), ((λ e. e), ((λ e. e), ((λ e. e), ((λ e. e), ((λ e. e), ((λ e. e), ((λ e. e), ((λ e. e), ((λ e. e), ((λ e. e), tt))))))))))))))))))))))) found

name_text : (cs : List ℕ) (o : Option Word) → spelled keywords cs ≡ o → IsName cs → IsTextOf (unwrap_or o Id) cs
name_text cs None none name = (name, none)
name_text cs (Some v) found name = keyword_text cs v found

-- a piece that is a token has a text of its word
pub piece_text : (kind : PieceKind) (cs behind : List ℕ) (w : Word) → IsPiece kind cs behind → word_of kind cs ≡ Some w → IsTextOf w cs
piece_text Name cs behind w is same = let e : unwrap_or (spelled keywords cs) Id ≡ w = cc in subst (λ (v : Word). IsTextOf v cs) e (name_text cs (spelled keywords cs) refl is)
piece_text Hyphenated cs behind w is same = hyphenated_text cs w same
piece_text Digits cs behind w is same = let e : Number ≡ w = cc in subst (λ (v : Word). IsTextOf v cs) e (is.digits, is.some, is.few)
piece_text Text cs behind w is same = let e : Quoted ≡ w = cc in subst (λ (v : Word). IsTextOf v cs) e is
piece_text Sign cs behind w is same = sign_text cs w same
piece_text Blank cs behind w is same = absurd (cc)
piece_text Comment cs behind w is same = absurd (cc)

one_text : (before cs : List ℕ) (kind : PieceKind) (behind : List ℕ) (o : Option Word) → word_of kind cs ≡ o → IsPiece kind cs behind → HaveTexts (lexeme_at before o cs)
one_text before cs kind behind None same is = tt
one_text before cs kind behind (Some w) same is = (piece_text kind cs behind w is same, tt)

both_texts : (a b : List Lexeme) → HaveTexts a → HaveTexts b → HaveTexts (a ++ b)
both_texts [] b one two = two
both_texts (t ∷ a) b one two = (one.0, both_texts a b one.1 two)

cut_texts : (text before : List ℕ) (ps : List Piece) (rest : List ℕ) → IsCut text ps rest → HaveTexts (lexemes_after before ps)
cut_texts text before [] rest cut = tt
cut_texts text before (p ∷ ps) rest cut =
    both_texts (lexeme_at before (word_of p.kind p.text) p.text) (lexemes_after (before ++ p.text) ps) (one_text before p.text p.kind cut.0 (word_of p.kind p.text) refl cut.2.is) (cut_texts cut.0 (before ++ p.text) ps rest cut.3)

pub tokens_texts : (text : List ℕ) (found : List Lexeme) → AreTokens text found → HaveTexts found
tokens_texts text found are = subst HaveTexts (sym are.are) (cut_texts (body_of text) (mark_of text) are.pieces [] are.cut)
