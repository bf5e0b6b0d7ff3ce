-- The atoms of guards.
use Rattle.std.proofs.Common.{◌≡◌, ◌||◌, Bool, true, false, IsTrue, List, [], ◌∷◌, get_or, refl}
use Rattle.std.specs.Cmp.{IsEquivalence}
use Rattle.std.proofs.lemmas.List.Elements.{All-nil, All-cons}
use Rattle.model_tree.specs.Formula.{Formula, all_of, formulas_of, EveryAtom, EveryAtomOfAll}
use Rattle.model_sta.specs.Sets.{Each}
use Rattle.label_core.specs.Atoms.{has_equal, EachHasEqual}
use Rattle.label_split.proofs.SameAtoms.{every_atom}
use Rattle.sta_classes.specs.Guards.{atoms_of_all}

first_true : (a b : Bool) → a ≡ true → IsTrue (a || b)
first_true true b h = refl
first_true false b h = cc

second_true : (a b : Bool) → IsTrue b → IsTrue (a || b)
second_true true b h = refl
second_true false b h = h

module _ {A : Type 0} (P : A → Type 0) where
  pub each_formula : (gs : List (Formula A)) → EveryAtomOfAll P (formulas_of gs) → Each (EveryAtom P) gs
  each_formula [] h = tt
  each_formula (g ∷ gs) h = (h.0, each_formula gs h.1)

  pub of_each_formula : (gs : List (Formula A)) → Each (EveryAtom P) gs → EveryAtomOfAll P (formulas_of gs)
  of_each_formula [] h = tt
  of_each_formula (g ∷ gs) h = (h.0, of_each_formula gs h.1)

module _ {A : Type 0} (eq : A → A → Bool) (laws : IsEquivalence eq) where
  own : (bs : List A) → EachHasEqual eq bs bs
  own [] = All-nil (λ a. IsTrue (has_equal eq [] a))
  own (b ∷ bs) = All-cons (λ a. IsTrue (has_equal eq (b ∷ bs) a)) b bs (first_true (eq b b) (has_equal eq bs b) (laws.refl b)) (λ k d l. second_true (eq (get_or bs k d) b) (has_equal eq bs (get_or bs k d)) (own bs k d l))

  -- the atoms of each guard have equal ones among those of all
  pub guards_among : (gs : List (Formula A)) → Each (EveryAtom (λ a. IsTrue (has_equal eq (atoms_of_all gs) a))) gs
  guards_among gs = each_formula (λ a. IsTrue (has_equal eq (atoms_of_all gs) a)) gs (every_atom (λ a. IsTrue (has_equal eq (atoms_of_all gs) a)) (all_of (formulas_of gs)) (own (atoms_of_all gs)))
