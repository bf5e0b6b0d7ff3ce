-- Lists of states as sets.
use Rattle.std.specs.List.{list_any}
use Rattle.std.proofs.Common.{ℕ, ◌≡◌, ◌==◌, Bool, true, false, cond, List, [], ◌∷◌, Contains, refl, sym, subst, ◌∙◌, arith}
use Rattle.model_sta.specs.Sets.{Each}
use Rattle.sttr_theory.specs.Lists.{once, SameStates, IsOnce}
use Rattle.sttr_theory.proofs.Members.{here}
use Rattle.sttr_theory.proofs.Each.{each_at, each_all}
use Rattle.sttr_theory.proofs.Accept.{any_out, any_in, same_number, number_same}

module _ (P : ℕ → Type 0) where
  in_case : (s : ℕ) (Z : List ℕ) (b : Bool) → P s → Each P (once Z) → Each P (cond b (once Z) (s ∷ once Z))
  in_case s Z true p e = e
  in_case s Z false p e = (p, e)

  pub each_once_in : (Z : List ℕ) → Each P Z → Each P (once Z)
  each_once_in [] e = tt
  each_once_in (s ∷ Z) e = in_case s Z (list_any (λ t. t == s) Z) e.0 (each_once_in Z e.1)

  out_case : (s : ℕ) (Z : List ℕ) → (Each P (once Z) → Each P Z) → (b : Bool) → list_any (λ t. t == s) Z ≡ b → Each P (cond b (once Z) (s ∷ once Z)) → Each P (s ∷ Z)
  out_case s Z later true h e =
      let rest = later e in
      let (t, at, same) = any_out (λ t. t == s) Z h in
      (subst P (same_number t s same) (each_at P Z t rest at), rest)
  out_case s Z later false h e = (e.0, later e.1)

  pub each_once_out : (Z : List ℕ) → Each P (once Z) → Each P Z
  each_once_out [] e = tt
  each_once_out (s ∷ Z) e = out_case s Z (λ x. each_once_out Z x) (list_any (λ t. t == s) Z) refl e

pub once_states : (Z : List ℕ) → SameStates (once Z) Z
once_states Z = (
  λ s c. each_at (Contains Z) (once Z) s (each_once_in (Contains Z) Z (each_all (Contains Z) Z (λ t c. c))) c,
  λ s c. each_at (Contains (once Z)) Z s (each_once_out (Contains (once Z)) Z (each_all (Contains (once Z)) (once Z) (λ t c. c))) c,
)

once_case : (s : ℕ) (Z : List ℕ) → IsOnce (once Z) → (b : Bool) → list_any (λ t. t == s) Z ≡ b → IsOnce (cond b (once Z) (s ∷ once Z))
once_case s Z rest true h = rest
once_case s Z rest false h = (none h, rest)
  where
    none : list_any (λ t. t == s) Z ≡ false → Contains (once Z) s → ⊥
    none h c = let e : true ≡ false = sym (any_in (λ t. t == s) Z s ((once_states Z).0 s c) (number_same s s refl)) ∙ h in cc

pub once_is : (Z : List ℕ) → IsOnce (once Z)
once_is [] = tt
once_is (s ∷ Z) = once_case s Z (once_is Z) (list_any (λ t. t == s) Z) refl

-- ---- the same states

pub same_self : (Z : List ℕ) → SameStates Z Z
same_self Z = (λ s c. c, λ s c. c)

pub same_turned : (Z W : List ℕ) → SameStates Z W → SameStates W Z
same_turned Z W same = (same.1, same.0)

pub same_twice : (Y Z W : List ℕ) → SameStates Y Z → SameStates Z W → SameStates Y W
same_twice Y Z W a b = (λ s c. b.0 s (a.0 s c), λ s c. a.1 s (b.1 s c))

-- what holds of each state holds of each of the same states
pub each_same : (P : ℕ → Type 0) (Z W : List ℕ) → SameStates Z W → Each P Z → Each P W
each_same P Z W same e = each_all P W (λ s c. each_at P Z s e (same.1 s c))

pub same_empty : (Z : List ℕ) → SameStates Z [] → Z ≡ []
same_empty [] same = refl
same_empty (s ∷ Z) same = let (k, lt, e) = same.0 s (here s Z) in absurd (omega (arith, lt))
