-- The steps of the search over sides.
use Rattle.std.proofs.Common.{◌≡◌, ℕ, suc, List, [], ◌∷◌, ◌++◌, length, Bool, true, false, refl, ap, sym, ◌∙◌, subst, arith, append_assoc, append-nil}
use Rattle.math_cooper.specs.System.{Condition, IsSolvable}
use Rattle.math_cooper.specs.Puts.{Passes128}
use Rattle.model_chain.specs.Literals.{Literal}
use Rattle.model_chain.specs.Chains.{first_system, count_variables}
use Rattle.model_chain.specs.Laws.{AreDivisorsPositive}
use Rattle.cooper_solve.specs.Told.{IsSolved, IsFarOff, Tells, puts_of}
use Rattle.cooper_solve.specs.Views.{IsSystem}
use Rattle.cooper_solve.specs.declared.found.Found.{Found}
use Rattle.lin_solve.specs.Tried.{TellsSides}
use Rattle.lin_solve.specs.declared.tried.Tried.{Tried}
use Rattle.lin_solve.specs.declared.tried.Tried.TheVariants.{Solved, Far, Wide, Unsat}
use Rattle.lin_solve.proofs.Ready.{first_ready}

pub ready_for : (ls : List Literal) (bounded : Bool) (sides : List Bool) (S : List Condition) (n : ℕ) → S ≡ first_system ls bounded sides → n ≡ count_variables ls → AreDivisorsPositive ls → IsSystem n S
ready_for ls bounded sides S n e d some = subst (λ m. IsSystem m S) (sym d) (subst (IsSystem (count_variables ls)) (sym e) (first_ready ls bounded sides some))

pub told_for : (ls : List Literal) (bounded : Bool) (sides : List Bool) (S : List Condition) (n : ℕ) (f : Found) → S ≡ first_system ls bounded sides → n ≡ count_variables ls → Tells n S f → Tells (count_variables ls) (first_system ls bounded sides) f
told_for ls bounded sides S n f e d h = subst (λ T. Tells (count_variables ls) T f) e (subst (λ m. Tells m S f) d h)

module _ (P : List Bool → Type 0) where
  -- so many sides more
  abbrev pub Some : List Bool → ℕ → Type 0
  Some ss n = (more : List Bool) × (length more ≡ n) × P (ss ++ more)

  abbrev pub SomeNamed : List Bool → ℕ → List Bool → Type 0
  SomeNamed ss n all = (more : List Bool) × (length more ≡ n) × (all ≡ ss ++ more) × P (ss ++ more)

  pub none_more : (ss : List Bool) → P ss → P (ss ++ [])
  none_more ss h = subst P (sym (append-nil ss)) h

  pub one_more : (ss : List Bool) (s : Bool) (xs more : List Bool) → xs ≡ ss ++ s ∷ [] → P (xs ++ more) → P (ss ++ s ∷ more)
  one_more ss s xs more e h = subst P (ap (λ l. l ++ more) e ∙ append_assoc ss (s ∷ []) more) h

  pub named_here : (ss all : List Bool) → all ≡ ss → P ss → SomeNamed ss 0 all
  named_here ss all e h = ([], refl, e ∙ sym (append-nil ss), none_more ss h)

  pub named_more : (ss : List Bool) (s : Bool) (xs all : List Bool) (m n : ℕ) → xs ≡ ss ++ s ∷ [] → suc m ≡ n → SomeNamed xs m all → SomeNamed ss n all
  named_more ss s xs all m n e l (more, k, a, h) = (s ∷ more, ap suc k ∙ l, a ∙ ap (λ x. x ++ more) e ∙ append_assoc ss (s ∷ []) more, one_more ss s xs more e h)

  pub never_here : (ss : List Bool) → (P ss → ⊥) → (more : List Bool) → length more ≡ 0 → P (ss ++ more) → ⊥
  never_here ss none [] k h = none (subst P (append-nil ss) h)
  never_here ss none (s ∷ more) k h = absurd (omega arith)

  pub never : (ss xs ys : List Bool) (m n : ℕ) → xs ≡ ss ++ true ∷ [] → ys ≡ ss ++ false ∷ [] → suc m ≡ n → ((more : List Bool) → length more ≡ m → P (xs ++ more) → ⊥) → ((more : List Bool) → length more ≡ m → P (ys ++ more) → ⊥) → (more : List Bool) → length more ≡ n → P (ss ++ more) → ⊥
  never ss xs ys m n e d l f g [] k h = absurd (omega arith)
  never ss xs ys m n e d l f g (true ∷ more) k h = f more (omega arith) (subst P (sym (ap (λ x. x ++ more) e ∙ append_assoc ss (true ∷ []) more)) h)
  never ss xs ys m n e d l f g (false ∷ more) k h = g more (omega arith) (subst P (sym (ap (λ x. x ++ more) d ∙ append_assoc ss (false ∷ []) more)) h)

-- after the first side has no solution, what the second one has
pub second : (ls : List Literal) (b : Bool) (ss xs ys : List Bool) (m n : ℕ) → xs ≡ ss ++ true ∷ [] → ys ≡ ss ++ false ∷ [] → suc m ≡ n → TellsSides ls b xs m Unsat → (t : Tried) → TellsSides ls b ys m t → TellsSides ls b ss n t
second ls b ss xs ys m n e d l none (Solved vs) (more, k, ps, h) = (false ∷ more, ap suc k ∙ l, ps, one_more (λ x. IsSolved (count_variables ls) (first_system ls b x) ps vs.items) ss false ys more d h)
second ls b ss xs ys m n e d l none (Far s) h = named_more (λ x. IsFarOff (count_variables ls) (first_system ls b x) (puts_of s.puts.items)) ss false ys s.sides.items m n d l h
second ls b ss xs ys m n e d l none (Wide s) h = named_more (λ x. Passes128 (count_variables ls) (first_system ls b x) (puts_of s.puts.items)) ss false ys s.sides.items m n d l h
second ls b ss xs ys m n e d l none Unsat h = never (λ x. IsSolvable (count_variables ls) (first_system ls b x)) ss xs ys m n e d l none h
