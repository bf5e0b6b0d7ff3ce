-- Transducers that give at most one tree, and the types of what they give.
use Rattle.std.specs.Prelude.{◌≡◌, ℕ, Bool, true, List}
use Rattle.model_tree.specs.Tree.{Tree}
use Rattle.model_sta.specs.Sets.{Fits}
use Rattle.model_sta.specs.Operations.{Auto}
use Rattle.model_sttr.specs.Transducer.{run, Sttr, Trans, Gives, GivesSame, IsFunctionalOn, IsPlainOn, MakesTyped}
use Rattle.model_sttr.specs.Operations.{IsRestriction, IsOutRestriction, IsComposition}

-- labels that a test tells
abbrev Tested : {L : Type 0} → (L → Bool) → L → Type 0
Tested d l = d l ≡ true

-- where the terms of rules that meet are the same, each state gives at most one tree
abbrev pub PlainIsFunctional : Type 0 → Type 0
PlainIsFunctional L = (ranks : List ℕ) (d : L → Bool) (f : Sttr L) → IsPlainOn f (Tested d) (Fits ranks (Tested d)) → IsFunctionalOn f (Fits ranks (Tested d))

-- a child is given unchanged only where its type is that of the outputs too
abbrev pub KeepsTypes : {L : Type 0} → List ℕ → List ℕ → (L → Bool) → (L → Bool) → Sttr L → Type 0
KeepsTypes {L} ranks into d e f = GivesSame f → (t : Tree L) → Fits ranks (Tested d) t → Fits into (Tested e) t

abbrev pub OutputsAreTyped : Type 0 → Type 0
OutputsAreTyped L = (ranks into : List ℕ) (d e : L → Bool) (f : Sttr L) → MakesTyped f into (Tested d) (Tested e) → KeepsTypes ranks into d e f
    → (q : ℕ) (t u : Tree L) → Fits ranks (Tested d) t → Gives f (run q) t u → Fits into (Tested e) u

-- each state of a result gives at most one tree where those of the arguments do
abbrev pub CompositionIsFunctional : Type 0 → Type 0
CompositionIsFunctional L = (ranks into : List ℕ) (d e : L → Bool) (f g c : Trans L) → MakesTyped f.sttr into (Tested d) (Tested e) → KeepsTypes ranks into d e f.sttr
    → IsComposition (Fits ranks (Tested d)) f g c → IsFunctionalOn f.sttr (Fits ranks (Tested d)) → IsFunctionalOn g.sttr (Fits into (Tested e)) → IsFunctionalOn c.sttr (Fits ranks (Tested d))

abbrev pub OutRestrictionIsFunctional : Type 0 → Type 0
OutRestrictionIsFunctional L = (ranks : List ℕ) (d : L → Bool) (f : Trans L) (a : Auto L) (c : Trans L) → IsOutRestriction (Fits ranks (Tested d)) f a c → IsFunctionalOn f.sttr (Fits ranks (Tested d)) → IsFunctionalOn c.sttr (Fits ranks (Tested d))

abbrev pub RestrictionIsFunctional : Type 0 → Type 0
RestrictionIsFunctional L = (ranks : List ℕ) (d : L → Bool) (f : Trans L) (a : Auto L) (c : Trans L) → IsRestriction (Fits ranks (Tested d)) f a c → IsFunctionalOn f.sttr (Fits ranks (Tested d)) → IsFunctionalOn c.sttr (Fits ranks (Tested d))
