-- What the labels, the atoms and the chains of a theory mean.
use Rattle.std.specs.Prelude.{Bool, List}
use Rattle.model_tree.specs.Label.{Label}
use Rattle.label_core.specs.Atoms.{EachHasEqual}
use Rattle.label_core.specs.Lit.{atoms_of}
use Rattle.label_core.specs.declared.theory.Lit.{Lit}

-- of values that stand for these labels, and of atoms that hold of these
module _ {A V : Type 0} (label_of : V → Label) (holds : A → Label → Bool) where
  pub record Meaning (W : Type 0) : Type 1 where
    -- the labels that there are, and those that a value may stand for
    pub has : Label → Type 0
    pub keeps : Label → Type 0
    -- two atoms are equal
    pub equal : A → A → Bool
    -- the chain has literals of these alone, with their signs, and none twice
    pub chain_of : List (Lit A) → W → Type 0
    -- the chain passes its width; it is far: it has a solution, and only outside the kept labels
    pub passes : W → Type 0
    pub is_far : W → Type 0

module _ {A V W : Type 0} {label_of : V → Label} {holds : A → Label → Bool} (M : Meaning label_of holds W) where
  -- the value stands for a kept label
  abbrev pub KeepsValue : V → Type 0
  KeepsValue v = M.keeps (label_of v)

  -- a chain of literals whose atoms, up to their equality, are among these
  abbrev pub IsChainOver : List A → W → Type 0
  IsChainOver atoms w = (literals : List (Lit A)) × EachHasEqual M.equal (atoms_of literals) atoms × M.chain_of literals w
