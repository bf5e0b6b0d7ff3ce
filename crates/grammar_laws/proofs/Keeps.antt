-- What is printed runs where the tokens that were read do.
use Rattle.std.proofs.Common.{◌≡◌, ℕ, List, [], ◌∷◌, ◌++◌, sym, subst, Some}
use Rattle.model_program.specs.declared.Word.{Word}
use Rattle.model_program.specs.declared.Word.TheVariants.{Id, RoundOpen, RoundClose}
use Rattle.model_program.specs.Lexeme.{Lexeme}
use Rattle.model_program.specs.Pieces.{PieceKind, Name, word_of}
use Rattle.model_program.specs.Cuts.{Piece, texts_of, lexemes_after}
use Rattle.model_program.specs.Spellings.{spelling}
use Rattle.model_program.specs.TokenTexts.{IsTextOf}
use Rattle.model_grammar.specs.Printed.{piece, blank, token, bracketed}
use Rattle.model_grammar.proofs.Written.{lexemes_after-append}
use Rattle.model_grammar.proofs.Tokens.{IsSpelled, token_at, token_then, one_token, word_of_name}
use Rattle.grammar_laws.specs.Nests.{NoDeeper}
use Rattle.grammar_laws.proofs.Runs.{no_deeper-append, no_deeper_nothing, same_word, added, dropped, IsPlain, IsBalanced, parens_dropped}

-- wherever the pieces stand, their tokens nest no deeper than these
pub record Keeps (ps : List Piece) (tokens : List Lexeme) : Type 0 where
  pub keeps : (before : List ℕ) → NoDeeper (lexemes_after before ps) tokens

pub keeps-append : {ps qs : List Piece} {a b : List Lexeme} → Keeps ps a → Keeps qs b → Keeps (ps ++ qs) (a ++ b)
keeps-append {ps} {qs} {a} {b} one two = record { keeps = λ before. subst (λ (l : List Lexeme). NoDeeper l (a ++ b)) (sym (lexemes_after-append before ps qs)) (no_deeper-append (one.keeps before) (two.keeps (before ++ texts_of ps))) }

pub keeps_nothing : Keeps [] []
keeps_nothing = record { keeps = λ before. no_deeper_nothing }

pub keeps_blank : {ps : List Piece} {a : List Lexeme} → Keeps ps a → Keeps (blank ∷ ps) a
keeps_blank one = record { keeps = λ before. one.keeps (before ++ 32 ∷ []) }

-- the same keyword or sign
pub keeps_word : {ps : List Piece} {a : List Lexeme} (w : Word) (t : Lexeme) → IsSpelled w → t.word ≡ w → Keeps ps a → Keeps (token w ∷ ps) (t ∷ a)
keeps_word {ps} {a} w t is same one = record { keeps = λ before. subst (λ (l : List Lexeme). NoDeeper l (t ∷ a)) (sym (token_then w is before ps)) (same_word (token_at w before (spelling w)) t (sym same) (one.keeps (before ++ spelling w))) }

-- a keyword or a sign that was not there
pub keeps_added : {ps : List Piece} {a : List Lexeme} (w : Word) → IsSpelled w → IsPlain w → Keeps ps a → Keeps (token w ∷ ps) a
keeps_added {ps} {a} w is plain one = record { keeps = λ before. subst (λ (l : List Lexeme). NoDeeper l a) (sym (token_then w is before ps)) (added (token_at w before (spelling w)) plain (one.keeps (before ++ spelling w))) }

-- a token that is left out
pub keeps_dropped : {ps : List Piece} {a : List Lexeme} (t : Lexeme) → IsPlain t.word → Keeps ps a → Keeps ps (t ∷ a)
keeps_dropped t plain one = record { keeps = λ before. dropped t plain (one.keeps before) }

-- a token by its kind and text
pub keeps_one : (t : Lexeme) (w : Word) (k : PieceKind) (text : List ℕ) → word_of k text ≡ Some w → t.word ≡ w → Keeps (piece k text ∷ []) (t ∷ [])
keeps_one t w k text is same = record { keeps = λ before. subst (λ (l : List Lexeme). NoDeeper l (t ∷ [])) (sym (one_token w k text before is)) (same_word (token_at w before text) t (sym same) no_deeper_nothing) }

pub keeps_name : (t : Lexeme) (text : List ℕ) → IsTextOf Id text → t.word ≡ Id → Keeps (piece Name text ∷ []) (t ∷ [])
keeps_name t text is same = keeps_one t Id Name text (word_of_name text is) same

-- parentheses that stay
pub keeps_bracketed : {ps : List Piece} {a : List Lexeme} (l r : Lexeme) → l.word ≡ RoundOpen → r.word ≡ RoundClose → Keeps ps a → Keeps (bracketed ps) (l ∷ a ++ r ∷ [])
keeps_bracketed l r opens closes one = keeps_word RoundOpen l tt opens (keeps-append one (keeps_word RoundClose r tt closes keeps_nothing))

-- parentheses that are left out
pub keeps_unbracketed : {ps : List Piece} {a : List Lexeme} (l r : Lexeme) → l.word ≡ RoundOpen → r.word ≡ RoundClose → IsBalanced a → Keeps ps a → Keeps ps (l ∷ a ++ r ∷ [])
keeps_unbracketed l r opens closes balanced one = record { keeps = λ before. parens_dropped l r opens closes balanced (one.keeps before) }
