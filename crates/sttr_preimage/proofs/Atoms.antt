-- What holds of each atom of a formula, and of each map of a term.
use Rattle.std.proofs.Common.{ℕ, zero, suc, ◌≡◌, ◌<◌, List, [], ◌∷◌, get_or, length, All, Contains, Result, Ok, Err, subst, arith, refl}
use Rattle.std.specs.Result.{IfOk, IfErr, OnOk}
use Rattle.model_tree.specs.Formula.{Formula, yes, no, atom, negation, all_of, some_of, Formulas, no_formulas, formula, EveryAtom, EveryAtomOfAll}
use Rattle.label_core.specs.Formula.{atoms_in, atoms_in_all}
use Rattle.sttr_theory.proofs.Members.{here, there, in_left, in_right}

pub err_map : {X Y : Type 0} (P Q : Y → Type 0) (r : Result X Y) → ((y : Y) → P y → Q y) → IfErr r P → IfErr r Q
err_map P Q (Ok x) f h = h
err_map P Q (Err e) f h = f e h

module _ {X : Type 0} where
  pub row_in : (xss : List (List X)) (q : ℕ) → q < length xss → Contains xss (get_or xss q [])
  row_in [] q low = absurd (omega (arith, low))
  row_in (xs ∷ xss) zero low = here xs xss
  row_in (xs ∷ xss) (suc q) low = there xs xss (get_or xss q []) (row_in xss q (omega (arith, low)))

  pub all_in : (P : X → Type 0) (xs : List X) → All P xs → (x : X) → Contains xs x → P x
  all_in P xs h x at = subst P at.2 (h at.0 x at.1)

  pub get_same : (xs : List X) (k : ℕ) (d e : X) → k < length xs → get_or xs k d ≡ get_or xs k e
  get_same [] k d e low = absurd (omega (arith, low))
  get_same (x ∷ xs) zero d e low = refl
  get_same (x ∷ xs) (suc k) d e low = get_same xs k d e (omega (arith, low))

  pub in_all : (P : X → Type 0) (xs : List X) → ((x : X) → Contains xs x → P x) → All P xs
  in_all P xs h k d low = h (get_or xs k d) (k, low, get_same xs k (get_or xs k d) d low)

  pub all_map : (P Q : X → Type 0) (xs : List X) → ((x : X) → P x → Q x) → All P xs → All Q xs
  all_map P Q xs f h k d low = f (get_or xs k d) (h k d low)

module _ {A : Type 0} (P Q : A → Type 0) (f : (a : A) → P a → Q a) where
  mutual
    pub every_map : (g : Formula A) → EveryAtom P g → EveryAtom Q g
    every_map yes h = h
    every_map no h = h
    every_map (atom a) h = f a h
    every_map (negation g) h = every_map g h
    every_map (all_of gs) h = every_map_all gs h
    every_map (some_of gs) h = every_map_all gs h

    pub every_map_all : (gs : Formulas A) → EveryAtomOfAll P gs → EveryAtomOfAll Q gs
    every_map_all no_formulas h = h
    every_map_all (formula g gs) h = (every_map g h.0, every_map_all gs h.1)

module _ {A : Type 0} (P : A → Type 0) where
  mutual
    -- what holds of what stands in it
    pub every_own : (g : Formula A) → ((a : A) → Contains (atoms_in g) a → P a) → EveryAtom P g
    every_own yes h = tt
    every_own no h = tt
    every_own (atom a) h = h a (here a [])
    every_own (negation g) h = every_own g h
    every_own (all_of gs) h = every_own_all gs h
    every_own (some_of gs) h = every_own_all gs h

    every_own_all : (gs : Formulas A) → ((a : A) → Contains (atoms_in_all gs) a → P a) → EveryAtomOfAll P gs
    every_own_all no_formulas h = tt
    every_own_all (formula g gs) h = (every_own g (λ a c. h a (in_left (atoms_in g) (atoms_in_all gs) a c)), every_own_all gs (λ a c. h a (in_right (atoms_in g) (atoms_in_all gs) a c)))

pub ok_both : {X Y : Type 0} (P R : X → Type 0) (Q : Type 0) (r : Result X Y) → ((x : X) → P x → Q → R x) → IfOk r P → OnOk r Q → IfOk r R
ok_both P R Q (Ok x) f h q = f x h q
ok_both P R Q (Err e) f h q = h
