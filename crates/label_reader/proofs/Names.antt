-- Names.
use Rattle.std.proofs.Common.{◌≡◌, List, refl}
use Rattle.model_program.specs.declared.Word.{Word}
use Rattle.model_program.specs.declared.Word.TheVariants.{Id}
use Rattle.model_program.specs.Lexeme.{Lexeme}
use Rattle.model_program.specs.Grammar.{IsWord, name_of, IsName}
use Rattle.read_forms.specs.Parts.{HasSample, AllStartIn}
use Rattle.read_forms.proofs.Forms.{Makes, remade, sample_as}
use Rattle.read_forms.proofs.Words.{sample_word, word_starts}

pub name_makes : (goes_on : Word → Type 0) (tokens : List Lexeme) → Makes (IsWord Id) IsName name_of goes_on tokens
name_makes goes_on tokens = remade (λ t ts is_word. (t, is_word, refl)) (λ n ts is_name. (is_name.0, is_name.1, is_name.2))

pub sample_name : HasSample IsName
sample_name = sample_as name_of (λ t ts is_word. (t, is_word, refl)) (sample_word Id)

pub name_starts : AllStartIn (λ w. w ≡ Id) IsName
name_starts = record { starts = λ n ts is_name. (word_starts Id).starts is_name.0 ts is_name.1 }
