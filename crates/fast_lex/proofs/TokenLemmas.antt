-- How the tokens of a text are found from its front.
use Rattle.std.proofs.Common.{◌≡◌, ℕ, ◌+◌, ◌-◌, ◌≤◌, ◌<◌, List, [], ◌∷◌, ◌++◌, length, refl, sym, ap, ◌∙◌, subst, append_assoc, arith, Option, Some, None}
use Rattle.std.specs.Prelude.{encode_utf8_all}
use Rattle.std.specs.Str.{chars, IsUtf8}
use Rattle.std.proofs.lemmas.List.{append-nil, length-append}
use Rattle.std.proofs.lemmas.Str.{length-le-encodes, encodes-chars, chars-nil}
use Rattle.fast_fault.specs.declared.place.Pos.{Pos}
use Rattle.model_program.specs.declared.Word.{Word}
use Rattle.model_program.specs.Lexeme.{Lexeme}
use Rattle.model_program.specs.Pieces.{IsLongest, HasNoPiece, word_of}
use Rattle.model_program.specs.Cuts.{Piece, IsCut, AreTokens, StopsAt, body_of, mark_of, place_next, place_behind, place_after, lexeme_at, lexemes_after, texts_of}
use Rattle.model_program.proofs.Unique.{piece_nonempty}
use Rattle.fast_lex.specs.declared.Token.{Token}
use Rattle.fast_lex.specs.Runs.{IsBehind, IsSuffix, IsNextPiece}
use Rattle.fast_lex.specs.Tokens.{IsSlice, AreSlices, IsBody}
use Rattle.fast_lex.proofs.RunLemmas.{behind_both}
use Rattle.fast_lex.proofs.PlaceLemmas.{behind_line, behind_column}

-- The tokens before the rest have been found, and this is the place behind them.
pub record IsLexing (text rest : List ℕ) (place : Pos) (found : List Lexeme) : Type 0 where
  pub pieces : List Piece
  pub cut : IsCut (body_of (chars text)) pieces (chars rest)
  pub are : found ≡ lexemes_after (mark_of (chars text)) pieces
  pub behind : IsBehind (mark_of (chars text) ++ texts_of pieces) text rest
  pub is : place ≡ place_after (mark_of (chars text) ++ texts_of pieces)

pub lexing_starts : (text rest front : List ℕ) (place : Pos) → IsBody text rest → (mark_of (chars text) ≡ front) → place ≡ place_after front → IsLexing text rest place []
lexing_starts text rest front place body is_front is_place = record {
  pieces = [];
  cut = sym body.is;
  are = refl;
  behind = subst (λ (l : List ℕ). IsBehind l text rest) (sym (append-nil (mark_of (chars text)))) body.behind;
  is = is_place ∙ ap place_after (sym is_front ∙ sym (append-nil (mark_of (chars text))));
}

cut_more : (text : List ℕ) (ps : List Piece) (middle behind : List ℕ) (p : Piece) → IsCut text ps middle → middle ≡ p.text ++ behind → IsLongest p.kind p.text behind → IsCut text (ps ++ p ∷ []) behind
cut_more text [] middle behind p cut same longest = (behind, cut ∙ same, longest, refl)
cut_more text (q ∷ ps) middle behind p cut same longest = (cut.0, cut.1, cut.2, cut_more cut.0 ps middle behind p cut.3 same longest)

texts_more : (ps : List Piece) (p : Piece) → texts_of (ps ++ p ∷ []) ≡ texts_of ps ++ p.text
texts_more [] p = append-nil p.text
texts_more (q ∷ ps) p = ap (λ l. q.text ++ l) (texts_more ps p) ∙ sym (append_assoc q.text (texts_of ps) p.text)

tokens_more : (before : List ℕ) (ps : List Piece) (p : Piece) → lexemes_after before (ps ++ p ∷ []) ≡ lexemes_after before ps ++ lexeme_at (before ++ texts_of ps) (word_of p.kind p.text) p.text
tokens_more before [] p = append-nil (lexeme_at before (word_of p.kind p.text) p.text) ∙ ap (λ l. lexeme_at l (word_of p.kind p.text) p.text) (sym (append-nil before))
tokens_more before (q ∷ ps) p =
    ap (λ l. lexeme_at before (word_of q.kind q.text) q.text ++ l) (tokens_more (before ++ q.text) ps p)
    ∙ sym (append_assoc (lexeme_at before (word_of q.kind q.text) q.text) (lexemes_after (before ++ q.text) ps) (lexeme_at (before ++ q.text ++ texts_of ps) (word_of p.kind p.text) p.text))
    ∙ ap (λ l. (lexeme_at before (word_of q.kind q.text) q.text ++ lexemes_after (before ++ q.text) ps) ++ lexeme_at l (word_of p.kind p.text) p.text) (append_assoc before q.text (texts_of ps))

place_both : (p : Pos) (cs ds : List ℕ) → place_behind p (cs ++ ds) ≡ place_behind (place_behind p cs) ds
place_both p [] ds = refl
place_both p (c ∷ cs) ds = place_both (place_next p c) cs ds

-- one more piece
pub lexing_more : (text rest after : List ℕ) (place behind : Pos) (found new : List Lexeme) (word : Option Word) (so_far : IsLexing text rest place found) (next : IsNextPiece word rest after)
    → new ≡ found ++ lexeme_at (mark_of (chars text) ++ texts_of so_far.pieces) word next.front → behind ≡ place_behind place next.front → IsLexing text after behind new
lexing_more text rest after place behind found new word so_far next is_new is_behind =
    let p : Piece = record { kind = next.kind; text = next.front } in
    let before = mark_of (chars text) ++ texts_of so_far.pieces in
    let all : before ++ next.front ≡ mark_of (chars text) ++ texts_of (so_far.pieces ++ p ∷ []) = append_assoc (mark_of (chars text)) (texts_of so_far.pieces) next.front ∙ ap (λ l. mark_of (chars text) ++ l) (sym (texts_more so_far.pieces p)) in
    record {
      pieces = so_far.pieces ++ p ∷ [];
      cut = cut_more (body_of (chars text)) so_far.pieces (chars rest) (chars after) p so_far.cut next.behind.characters next.longest;
      are = is_new ∙ (λ i. so_far.are i ++ lexeme_at before (next.named i) next.front) ∙ sym (tokens_more (mark_of (chars text)) so_far.pieces p);
      behind = subst (λ (l : List ℕ). IsBehind l text after) all (behind_both before next.front text rest after so_far.behind next.behind);
      is = is_behind ∙ ap (λ q. place_behind q next.front) so_far.is ∙ sym (place_both (record { line = 1; column = 1 }) before next.front) ∙ ap place_after all;
    }

-- how many bytes stand before the rest
bytes_before : (text rest front : List ℕ) → IsBehind front text rest → length (encode_utf8_all front) + length rest ≡ length text
bytes_before text rest front behind = let e = ap length behind.bytes ∙ length-append (encode_utf8_all front) rest in omega arith

pub lexing_start : (text rest : List ℕ) (place : Pos) (found : List Lexeme) (so_far : IsLexing text rest place found) → length text - length rest ≡ length (encode_utf8_all (mark_of (chars text) ++ texts_of so_far.pieces))
lexing_start text rest place found so_far = let e = bytes_before text rest (mark_of (chars text) ++ texts_of so_far.pieces) so_far.behind in omega arith

-- a blank or a comment was passed
pub gap_passed : (text rest after passed : List ℕ) (place behind : Pos) (found : List Lexeme) (word : Option Word) → IsLexing text rest place found → (next : IsNextPiece word rest after) → word ≡ None → chars passed ≡ next.front → behind ≡ place_behind place (chars passed) → IsLexing text after behind found
gap_passed text rest after passed place behind found word so_far next none is_front is_behind =
    lexing_more text rest after place behind found found word so_far next
    (sym (ap (λ w. found ++ lexeme_at (mark_of (chars text) ++ texts_of so_far.pieces) w next.front) none ∙ append-nil found))
    (is_behind ∙ ap (λ l. place_behind place l) is_front)

-- a token was added
pub token_found : (text rest after passed : List ℕ) (place behind : Pos) (found new : List Lexeme) (w : Word) (word : Option Word) (start : ℕ) → (so_far : IsLexing text rest place found) → (next : IsNextPiece word rest after) → word ≡ Some w → chars passed ≡ next.front
    → behind ≡ place_behind place (chars passed) → start ≡ length text - length rest → new ≡ found ++ record { word = w; text = chars passed; start = start; place = place } ∷ [] → IsLexing text after behind new
token_found text rest after passed place behind found new w word start so_far next some is_front is_behind is_start is_new =
    let before = mark_of (chars text) ++ texts_of so_far.pieces in
    lexing_more text rest after place behind found new word so_far next
    (is_new ∙ (λ i. found ++ (record { word = w; text = is_front i; start = (is_start ∙ lexing_start text rest place found so_far) i; place = so_far.is i }) ∷ []) ∙ ap (λ v. found ++ lexeme_at before v next.front) (sym some))
    (is_behind ∙ ap (λ l. place_behind place l) is_front)

nonempty_chars : (rest : List ℕ) → IsUtf8 rest → chars rest ≡ [] → rest ≡ []
nonempty_chars rest utf8 none = sym (encodes-chars rest utf8) ∙ ap encode_utf8_all none

pub not_ended : (rest : List ℕ) → IsUtf8 rest → (length rest ≡ 0 → ⊥) → chars rest ≡ [] → ⊥
not_ended rest utf8 some none = some (ap length (nonempty_chars rest utf8 none))

pub lexing_stops : (text rest : List ℕ) (place : Pos) (found : List Lexeme) → IsLexing text rest place found → (chars rest ≡ [] → ⊥) → HasNoPiece (chars rest) → StopsAt (chars text) place
lexing_stops text rest place found so_far goes_on none = record {
  pieces = so_far.pieces;
  rest = chars rest;
  cut = so_far.cut;
  goes_on = goes_on;
  none = none;
  is = so_far.is;
}

empty_of : (rest : List ℕ) → length rest ≡ 0 → rest ≡ []
empty_of [] e = refl
empty_of (c ∷ rest) e = absurd (omega arith)

pub lexing_ends : (text rest : List ℕ) (place : Pos) (found : List Lexeme) → IsLexing text rest place found → length rest ≡ 0 → AreTokens (chars text) found
lexing_ends text rest place found so_far ended = record {
  pieces = so_far.pieces;
  cut = subst (λ (l : List ℕ). IsCut (body_of (chars text)) so_far.pieces l) (ap chars (empty_of rest ended) ∙ chars-nil) so_far.cut;
  are = so_far.are;
}

-- lines and columns stay below what a text of this length has
pub lexing_room : (text rest : List ℕ) (place : Pos) (found : List Lexeme) → IsLexing text rest place found → (place.line + length rest ≤ 1 + length text) × (place.column + length rest ≤ 1 + length text)
lexing_room text rest place found so_far =
    let before = mark_of (chars text) ++ texts_of so_far.pieces in
    let bytes = bytes_before text rest before so_far.behind in let few = length-le-encodes before in
    let first : Pos = record { line = 1; column = 1 } in
    let line = behind_line first before in let column = behind_column first before in
    let a = ap (λ p. p.line) so_far.is in let b = ap (λ p. p.column) so_far.is in (omega arith, omega arith)

pub piece_suffix : (rest after : List ℕ) (word : Option Word) → IsNextPiece word rest after → IsSuffix rest after
piece_suffix rest after word next = record { front = next.front; behind = next.behind }

pub piece_shorter : (rest after : List ℕ) (word : Option Word) → IsNextPiece word rest after → length after < length rest
piece_shorter rest after word next =
    let e = bytes_before rest after next.front next.behind in let f = length-le-encodes next.front in
    let g = piece_nonempty next.kind next.front (chars after) next.longest.is in omega arith

pub front_shorter : (rest passed after : List ℕ) → rest ≡ passed ++ after → length passed ≤ length rest
front_shorter rest passed after split = let e = ap length split ∙ length-append passed after in omega arith

-- slices
pub slice_of : (text rest after passed : List ℕ) (place : Pos) (found : List Lexeme) (t : Token) → IsLexing text rest place found → rest ≡ passed ++ after → t.text.now ≡ passed → t.start ≡ length text - length rest → IsSlice text t
slice_of text rest after passed place found t so_far split is_text is_start = record {
  before = encode_utf8_all (mark_of (chars text) ++ texts_of so_far.pieces);
  behind = after;
  split = so_far.behind.bytes ∙ (λ i. encode_utf8_all (mark_of (chars text) ++ texts_of so_far.pieces) ++ (split ∙ ap (λ l. l ++ after) (sym is_text)) i);
  start = is_start ∙ lexing_start text rest place found so_far;
}

pub slices_more : (text : List ℕ) (found : List Token) (t : Token) → AreSlices text found → IsSlice text t → AreSlices text (found ++ t ∷ [])
slices_more text [] t all is = (is, tt)
slices_more text (u ∷ found) t all is = (all.0, slices_more text found t all.1 is)
