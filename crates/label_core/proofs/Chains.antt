-- Chains over atoms that are among others.
use Rattle.std.proofs.Common.{◌≡◌, ◌||◌, List, [], ◌∷◌, Bool, true, false, get_or, IsTrue, refl, sym, ◌∙◌, subst}
use Rattle.std.specs.List.{list_any}
use Rattle.std.specs.Cmp.{IsEquivalence}
use Rattle.std.proofs.lemmas.List.Elements.{All-head, All-tail}
use Rattle.std.proofs.lemmas.Map.Steps.{list_any_congr}
use Rattle.model_tree.specs.Label.{Label}
use Rattle.label_core.specs.Atoms.{has_equal, EachHasEqual}
use Rattle.label_core.specs.Lit.{atoms_of}
use Rattle.label_core.specs.Meaning.{Meaning, IsChainOver}
use Rattle.label_core.specs.declared.theory.Lit.{Lit}

module _ {A : Type 0} (E : A → A → Bool) (laws : IsEquivalence E) where
  module _ (a : A) (more : List A) where
    by : (b : A) (bs : List A) (t : Bool) → E a b ≡ t → (list_any (E a) bs ≡ true → list_any (E a) more ≡ true) → list_any (E b) more ≡ true → (t || list_any (E a) bs) ≡ true → list_any (E a) more ≡ true
    by b bs true e later here h = list_any_congr laws a b more e ∙ here
    by b bs false e later here h = later h

    among : (atoms : List A) → EachHasEqual E atoms more → list_any (E a) atoms ≡ true → list_any (E a) more ≡ true
    among [] each h = cc
    among (b ∷ bs) each h = by b bs (E a b) refl (among bs (All-tail (λ c. IsTrue (has_equal E more c)) b bs each)) (All-head (λ c. IsTrue (has_equal E more c)) b bs each) h

  -- what is among some is among all that have an equal one of each of them
  pub among_grows : (own atoms more : List A) → EachHasEqual E atoms more → EachHasEqual E own atoms → EachHasEqual E own more
  among_grows own atoms more each h = λ k d l. among (get_or own k d) more atoms each (h k d l)

module _ {A V W : Type 0} {label_of : V → Label} {holds : A → Label → Bool} (M : Meaning label_of holds W) (E : A → A → Bool) (own : M.equal ≡ E) where
  -- a chain of literals is over atoms that have an equal one of each of theirs
  pub chain_among : (literals : List (Lit A)) (atoms : List A) (w : W) → EachHasEqual E (atoms_of literals) atoms → M.chain_of literals w → IsChainOver M atoms w
  chain_among literals atoms w each of = (literals, subst (λ F. EachHasEqual F (atoms_of literals) atoms) (sym own) each, of)

  -- a chain over some atoms is over each list that has an equal one of each of them
  pub chain_grows : IsEquivalence E → (atoms more : List A) (w : W) → EachHasEqual E atoms more → IsChainOver M atoms w → IsChainOver M more w
  chain_grows laws atoms more w each (literals, among, of) =
      chain_among literals more w (among_grows E laws (atoms_of literals) atoms more each (subst (λ F. EachHasEqual F (atoms_of literals) atoms) own among)) of
