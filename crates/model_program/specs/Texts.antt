-- Bytes that are no characters.
use Rattle.std.specs.Prelude.{◌≡◌, ◌≢◌, ℕ, List, [], ◌++◌, encode_utf8}
use Rattle.std.specs.Char.{IsScalar}
use Rattle.std.specs.Str.{chars, IsUtf8}
use Rattle.fast_fault.specs.declared.place.Pos.{Pos}
use Rattle.model_program.specs.Cuts.{place_after}

-- Behind the longest front that is characters the bytes go on: no character begins there.
pub record IsBadUtf8At (bytes : List ℕ) (place : Pos) : Type 0 where
  pub front : List ℕ
  pub rest : List ℕ
  pub split : bytes ≡ front ++ rest
  pub encoded : IsUtf8 front
  pub goes_on : rest ≢ []
  pub none : (c : ℕ) (more : List ℕ) → IsScalar c → rest ≡ encode_utf8 c ++ more → ⊥
  pub is : place ≡ place_after (chars front)
