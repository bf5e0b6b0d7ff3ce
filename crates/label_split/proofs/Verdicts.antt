-- How a verdict on one question answers another.
use Rattle.std.proofs.Common.{◌≡◌, Bool, Result, Ok, Err, IfOk, subst}
use Rattle.model_tree.specs.Label.{Label}
use Rattle.label_core.specs.declared.theory.Verdict.{Verdict}
use Rattle.label_core.specs.declared.theory.Verdict.TheVariants.{Sat, Unsat, Wide}
use Rattle.label_core.specs.Meaning.{Meaning}
use Rattle.label_core.specs.Verdict.{Decides}

module _ {A V W : Type 0} {label_of : V → Label} {holds : A → Label → Bool} (M : Meaning label_of holds W) (kept : (l : Label) → M.keeps l → M.has l) where
  -- of two questions that the same labels of the meaning answer
  pub decides_as : (P Q : Label → Type 0) (over more : W → Type 0) → ((l : Label) → P l → Q l) → ((l : Label) → M.has l → Q l → P l) → ((w : W) → over w → more w)
      → (v : Verdict V W) → Decides M P over v → Decides M Q more v
  decides_as P Q over more to from grows (Sat v) d = (d.0, to (label_of v) d.1)
  decides_as P Q over more to from grows Unsat d = λ l h q. d l h (from l h q)
  decides_as P Q over more to from grows (Wide w) d =
      ((grows w d.0.0, d.0.1), λ f. let both = d.1 f in ((both.0.0, both.0.1, to both.0.0 both.0.2), λ l k q. both.1 l k (from l (kept l k) q)))

-- a call that gives what another would
pub ok_as : {X E : Type 0} (P Q : X → Type 0) → ((x : X) → P x → Q x) → (r : Result X E) → IfOk r P → IfOk r Q
ok_as P Q f (Ok x) h = f x h
ok_as P Q f (Err e) h = h

-- what is so of the verdict that there is
pub found_is : {V W E : Type 0} (P : Verdict V W → Type 0) (r : Result (Verdict V W) E) (found is : Verdict V W) → r ≡ Ok found → found ≡ is → IfOk r P → P is
found_is P r found is was same h = subst P same (subst (λ x. IfOk x P) was h)
