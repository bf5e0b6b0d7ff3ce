-- A printed program is made of its tokens and spells its items again.
use Rattle.std.proofs.Common.{◌≡◌, ℕ, Bool, true, false, List, [], ◌∷◌, ◌++◌, refl, sym, ap, ◌∙◌, subst, append_assoc, append-nil, arith, length, None}
use Rattle.std.specs.Prelude.{encode_utf8_all, encode_utf8}
use Rattle.std.specs.Str.{chars, IsUtf8}
use Rattle.std.proofs.lemmas.Str.{chars-encodes, encode_same, length-encode, len_utf8_bounds}
use Rattle.std.proofs.lemmas.List.{length-append}
use Rattle.fast_fault.specs.declared.place.Pos.{Pos}
use Rattle.model_program.specs.Lexeme.{Lexeme}
use Rattle.model_program.specs.Cuts.{Piece, IsCut, AreTokens, body_of, mark_of, lexemes_after, texts_of}
use Rattle.model_program.specs.TokenTexts.{HaveTexts}
use Rattle.model_grammar.specs.Syntax.{Item, Claim, Body, sorts, tree, lang, trans, def, assertion}
use Rattle.model_grammar.specs.Grammar.{IsProgram}
use Rattle.model_grammar.specs.Printed.{lines, printed_program}
use Rattle.model_grammar.specs.Nesting.{nested_at}
use Rattle.model_grammar.proofs.Laid.{AreLaid}
use Rattle.model_grammar.specs.ReadsBack.{SpellsAgain}
use Rattle.model_grammar.proofs.WrittenItems.{program_written}

-- pieces that are laid are the cut of their text
pub laid_cut : (ps : List Piece) (after : List ℕ) → AreLaid ps after → IsCut (texts_of ps ++ after) ps after
laid_cut [] after laid = refl
laid_cut (p ∷ ps) after laid = (texts_of ps ++ after, append_assoc p.text (texts_of ps) after, laid.0, laid_cut ps after laid.1)

-- a printed program doesn't begin with a byte order mark
abbrev HasNoMark : List ℕ → Type 0
HasNoMark text = (body_of text ≡ text) × (mark_of text ≡ [])

no_mark_claim : (wanted : Bool) (p : Pos) (c : Claim) (items : List Item) → HasNoMark (printed_program (record { place = p; body = assertion (record { wanted = wanted; claim = c }) } ∷ items))
no_mark_claim true p c items = (refl, refl)
no_mark_claim false p c items = (refl, refl)

no_mark_body : (b : Body) (p : Pos) (items : List Item) → HasNoMark (printed_program (record { place = p; body = b } ∷ items))
no_mark_body (sorts t) p items = (refl, refl)
no_mark_body (tree t) p items = (refl, refl)
no_mark_body (lang t) p items = (refl, refl)
no_mark_body (trans t) p items = (refl, refl)
no_mark_body (def t) p items = (refl, refl)
no_mark_body (assertion a) p items = no_mark_claim a.wanted p a.claim items

no_mark : (items : List Item) → HasNoMark (printed_program items)
no_mark [] = (refl, refl)
no_mark (i ∷ items) = no_mark_body i.body i.place items

-- a character has bytes
no_bytes : (c : ℕ) (more : List ℕ) → [] ≡ encode_utf8 c ++ more → ⊥
no_bytes c more same = let k = ap length same in let l = length-append (encode_utf8 c) more in let m = length-encode c in let n = (len_utf8_bounds c).0 in omega arith

-- texts of the same bytes are the same
pub encodes_one : (cs ds : List ℕ) → encode_utf8_all cs ≡ encode_utf8_all ds → cs ≡ ds
encodes_one [] [] same = refl
encodes_one [] (d ∷ ds) same = absurd (no_bytes d (encode_utf8_all ds) same)
encodes_one (c ∷ cs) [] same = absurd (no_bytes c (encode_utf8_all cs) (sym same))
encodes_one (c ∷ cs) (d ∷ ds) same = let e = encode_same c d (encode_utf8_all cs) (encode_utf8_all ds) same in λ i. e.0 i ∷ encodes_one cs ds e.1 i

pub characters : (bytes cs : List ℕ) → IsUtf8 bytes → bytes ≡ encode_utf8_all cs → chars bytes ≡ cs
characters bytes cs utf8 same = sym (ap chars utf8.1.1) ∙ chars-encodes utf8.0 utf8.1.0 ∙ encodes_one utf8.0 cs (utf8.1.1 ∙ same)

pub spells_again : (items : List Item) (tokens : List Lexeme) (bytes : List ℕ) → IsProgram items tokens → HaveTexts tokens → IsUtf8 bytes → bytes ≡ encode_utf8_all (printed_program items) → nested_at (lexemes_after [] (lines items)) ≡ None → SpellsAgain bytes items
spells_again items tokens bytes is have utf8 same shallow =
    let written = program_written items tokens is have in
    let once = written.again [] in
    let cut : IsCut (printed_program items) (lines items) [] = subst (λ (l : List ℕ). IsCut l (lines items) []) (append-nil (printed_program items)) (laid_cut (lines items) [] (written.laid [] tt)) in
    let none = no_mark items in
    let are : AreTokens (printed_program items) (lexemes_after [] (lines items)) = record { pieces = lines items; cut = subst (λ (l : List ℕ). IsCut l (lines items) []) (sym none.0) cut; are = ap (λ l. lexemes_after l (lines items)) (sym none.1) } in
    record {
      encoded = utf8;
      tokens = lexemes_after [] (lines items);
      are = subst (λ (l : List ℕ). AreTokens l (lexemes_after [] (lines items))) (sym (characters bytes (printed_program items) utf8 same)) are;
      shallow = shallow;
      again = once.value;
      spelled = once.spelled;
      same = once.same;
    }
