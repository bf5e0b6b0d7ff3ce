-- What is found of terms at a node, over what is found of the calls on its children.
use Rattle.std.specs.Prelude.{ℕ, Bool, List}
use Rattle.std.specs.declared.cmp.Ordering.{Ordering}
use Rattle.model_tree.specs.Tree.{Tree, Trees, relabel, relabel_all}
use Rattle.model_sttr.specs.Terms.{Term, Parts, IsInstance, AreInstances}
use Rattle.model_sttr.specs.Transducer.{Head, run, Sttr, Gives, GivesAt}
use Rattle.model_sttr.specs.Cuts.{Cut, Cuts, IsCutAt}
use Rattle.apply_laws.specs.Lists.{OneOf}
use Rattle.apply_laws.specs.Meant.{IsCutOf, AreCutsOf, GivesCut, GivesCutAt}
use Rattle.apply_laws.specs.Found.{Found, IsFound, AreFound}

module _ {V L N : Type 0} (label : V → L) (order : V → V → Ordering) (keeps : L → Bool) (Outside : L → N → Type 0) (f : Sttr L) where
  module _ (ts : Trees V) (l : L) where
    abbrev pub IsTermFound : Term Head (L → L) → Found (Cut V) N → Type 0
    IsTermFound p found = IsFound label order keeps Outside (IsCutOf label (λ h j k. IsCutAt f h j (relabel_all label ts) k) l p) (IsInstance (λ h j u. GivesAt f h j (relabel_all label ts) u) l p) found

    abbrev pub ArePartsFound : Parts Head (L → L) → Found (Cuts V) N → Type 0
    ArePartsFound ps found = AreFound label order keeps Outside (AreCutsOf label (λ h j k. IsCutAt f h j (relabel_all label ts) k) l ps) (AreInstances (λ h j u. GivesAt f h j (relabel_all label ts) u) l ps) found

    -- of some terms together
    abbrev pub AreTermsFound : List (Term Head (L → L)) → Found (Cut V) N → Type 0
    AreTermsFound ps found = IsFound label order keeps Outside (λ x. OneOf (λ p. IsCutOf label (λ h j k. IsCutAt f h j (relabel_all label ts) k) l p x) ps) (λ u. OneOf (λ p. IsInstance (λ h j u. GivesAt f h j (relabel_all label ts) u) l p u) ps) found

  -- of the call of a state on the tree, and on child k
  abbrev pub IsCallFound : ℕ → Tree V → Found (Cut V) N → Type 0
  IsCallFound q t found = IsFound label order keeps Outside (GivesCut label f (run q) t) (Gives f (run q) (relabel label t)) found

  abbrev pub IsCallFoundAt : ℕ → ℕ → Trees V → Found (Cut V) N → Type 0
  IsCallFoundAt q k ts found = IsFound label order keeps Outside (GivesCutAt label f (run q) k ts) (GivesAt f (run q) k (relabel_all label ts)) found
