-- Names with a sign beside them.
use Rattle.std.proofs.Common.{◌≡◌, List, refl}
use Rattle.model_program.specs.declared.Word.{Word}
use Rattle.model_program.specs.Lexeme.{Lexeme}
use Rattle.model_program.specs.Syntax.{Name}
use Rattle.model_program.specs.Joined.{◌⊗◌}
use Rattle.model_program.specs.Grammar.{IsSign, IsName}
use Rattle.read_forms.specs.Reads.{closed}
use Rattle.read_forms.specs.Parts.{HasSample, AllStartIn}
use Rattle.read_forms.proofs.Forms.{Makes, remade, sample_as, sample_pair, starts_joined}
use Rattle.read_forms.proofs.Words.{sample_sign, sign_starts}
use Rattle.label_reader.proofs.Names.{sample_name}
use Rattle.program_reader.specs.Names.{IsNameBehind, IsNameTo}

pub sample_behind : (w : Word) → HasSample (IsNameBehind w)
sample_behind w = sample_as (λ (v : Unit {0} × Name). v.1) (λ v ts spelled. spelled) (sample_pair (sample_sign w) sample_name)

pub behind_starts : (w : Word) → AllStartIn (λ v. v ≡ w) (IsNameBehind w)
behind_starts w = record { starts = λ n ts spelled. starts_joined (λ v. v ≡ w) _ _ ts ((sign_starts w).starts tt) spelled }

pub name_to_makes : (w : Word) (tokens : List Lexeme) → Makes (IsName ⊗ IsSign w) (IsNameTo w) (λ v. v.0) closed tokens
name_to_makes w tokens = remade (λ v ts spelled. spelled) (λ n ts spelled. ((n, tt), spelled, refl))

pub sample_name_to : (w : Word) → HasSample (IsNameTo w)
sample_name_to w = sample_as (λ (v : Name × Unit {0}). v.0) (λ v ts spelled. spelled) (sample_pair sample_name (sample_sign w))
