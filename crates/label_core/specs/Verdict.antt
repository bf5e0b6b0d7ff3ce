-- What a verdict says.
use Rattle.std.specs.Prelude.{Bool, List}
use Rattle.model_tree.specs.Label.{Label}
use Rattle.label_core.specs.Lit.{SatisfiesAll}
use Rattle.label_core.specs.Meaning.{Meaning}
use Rattle.label_core.specs.declared.theory.Lit.{Lit}
use Rattle.label_core.specs.declared.theory.Verdict.{Verdict}
use Rattle.label_core.specs.declared.theory.Verdict.TheVariants.{Sat, Unsat, Wide}

module _ {A V W : Type 0} {label_of : V → Label} {holds : A → Label → Bool} (M : Meaning label_of holds W) where
  -- some label of the meaning is as asked, and no kept one
  abbrev pub OnlyFar : (Label → Type 0) → Type 0
  OnlyFar asked = ((l : Label) × M.has l × asked l) × ((l : Label) → M.keeps l → ¬ asked l)

  -- a value of a kept label that is as asked, that no label of the meaning is, or a chain of this kind that passes its
  -- width, which is far only where no kept label is as asked and another one is
  abbrev pub Decides : (Label → Type 0) → (W → Type 0) → Verdict V W → Type 0
  Decides asked of_kind (Sat v) = M.keeps (label_of v) × asked (label_of v)
  Decides asked of_kind Unsat = (l : Label) → M.has l → ¬ asked l
  Decides asked of_kind (Wide w) = (of_kind w × M.passes w) × (M.is_far w → OnlyFar asked)

  -- the verdict on the conjunction of the literals
  abbrev pub DecidesAll : List (Lit A) → Verdict V W → Type 0
  DecidesAll literals = Decides (SatisfiesAll holds literals) (M.chain_of literals)
