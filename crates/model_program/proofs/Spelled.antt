-- Words by their spelling.
use Rattle.std.proofs.Common.{◌≡◌, ℕ, Bool, true, false, List, [], ◌∷◌, refl, sym, ap, ◌∙◌, subst, if◌then◌else◌, Some, None}
use Rattle.std.specs.Prelude.{encode_utf8_all}
use Rattle.std.specs.Str.{chars, bytes_eq, IsUtf8}
use Rattle.std.proofs.lemmas.Slice.Eq.{bytes_eq-Decides}
use Rattle.std.proofs.lemmas.Str.{encodes-chars}
use Rattle.model_program.specs.declared.Word.{Word}
use Rattle.model_program.specs.Spellings.{spelling, spelled}

abbrev pub AllWords : (Word → Type 0) → List Word → Type 0
AllWords holds [] = Unit {0}
AllWords holds (w ∷ ws) = holds w × AllWords holds ws

-- a word that is found among others is spelled so, and has what all of them have
pub spelled_among : (holds : Word → Type 0) (ws : List Word) → AllWords holds ws → (cs : List ℕ) (w : Word) → spelled ws cs ≡ Some w → (spelling w ≡ cs) × holds w
unfolding spelled
spelled_among holds [] all cs w same = absurd (cc)
spelled_among holds (v ∷ ws) all cs w same = by (λ found. spelled_among holds ws all.1 cs w found) (bytes_eq (spelling v) cs) refl same
  where
    by : (spelled ws cs ≡ Some w → (spelling w ≡ cs) × holds w) → (b : Bool) → bytes_eq (spelling v) cs ≡ b → (if b then Some v else spelled ws cs) ≡ Some w → (spelling w ≡ cs) × holds w
    by later true e found = let f : v ≡ w = cc in (subst (λ (u : Word). spelling u ≡ cs) f ((bytes_eq-Decides (spelling v) cs).0 e), subst holds f all.0)
    by later false e found = later found

pub spelled_is : (ws : List Word) (cs : List ℕ) (w : Word) → spelled ws cs ≡ Some w → spelling w ≡ cs
spelled_is ws cs w same = (spelled_among (λ v. Unit {0}) ws (every ws) cs w same).0
  where
    every : (ws : List Word) → AllWords (λ v. Unit {0}) ws
    every [] = tt
    every (v ∷ ws) = (tt, every ws)

-- a text that is the spelling of none of the words
abbrev pub IsOther : List ℕ → Word → Type 0
IsOther text w = text ≡ encode_utf8_all (spelling w) → ⊥

pub spelled_none : (ws : List Word) (text : List ℕ) → IsUtf8 text → AllWords (IsOther text) ws → None ≡ spelled ws (chars text)
unfolding spelled
spelled_none [] text utf8 all = refl
spelled_none (w ∷ ws) text utf8 all = by (spelled_none ws text utf8 all.1) (bytes_eq (spelling w) (chars text)) refl
  where
    by : None ≡ spelled ws (chars text) → (b : Bool) → bytes_eq (spelling w) (chars text) ≡ b → None ≡ (if b then Some w else spelled ws (chars text))
    by later true e = absurd (all.0 (sym (encodes-chars text utf8) ∙ ap encode_utf8_all (sym ((bytes_eq-Decides (spelling w) (chars text)).0 e))))
    by later false e = later

pub spelled_as : (ws : List Word) (text same : List ℕ) (w : Word) → text ≡ same → spelled ws (chars same) ≡ Some w → Some w ≡ spelled ws (chars text)
spelled_as ws text same w e found = sym (ap (λ t. spelled ws (chars t)) e ∙ found)
