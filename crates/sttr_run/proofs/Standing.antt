-- Where guards and maps come from.
use Rattle.std.proofs.Common.{◌≡◌, inl, inr, Bool, true, false, List, [], ◌∷◌, map, All, Contains, refl, sym, subst, arith}
use Rattle.std.proofs.lemmas.Bool.{and_parts}
use Rattle.std.specs.Prelude.{IsTrue}
use Rattle.std.proofs.lemmas.List.Elements.{All-nil, All-cons}
use Rattle.model_tree.specs.Label.{Label}
use Rattle.model_tree.specs.Formula.{Formula, Formulas, no_formulas, formula, yes, no, atom, negation, all_of, some_of, formula_holds, EveryAtom, EveryAtomOfAll}
use Rattle.label_core.specs.Formula.{plain_formula, atoms_in, atoms_in_all}
use Rattle.label_core.specs.declared.formula.Formula.{Formula as Written}
use Rattle.sta_core.proofs.Meaning.{All_from_map}
use Rattle.sttr_core.specs.Machine.{OutMachine}
use Rattle.sttr_core.specs.Fits.{LabelsFit}
use Rattle.sttr_theory.proofs.Members.{in_left, in_right}
use Rattle.sttr_run.specs.Drafts.{all_say}
use Rattle.sttr_run.specs.Found.{IsGuardOf}
use Rattle.sttr_run.specs.Sources.{HasAtomIn}
use Rattle.sttr_run.proofs.Members.{all_at}

module _ {A : Type 0} (P Q : A → Type 0) where
  mutual
    -- what follows from what holds of each atom, where it stands
    pub every_from : (f : Formula A) → ((a : A) → Contains (atoms_in f) a → P a → Q a) → EveryAtom P f → EveryAtom Q f
    every_from yes g e = tt
    every_from no g e = tt
    every_from (atom a) g e = g a (0, omega arith, refl) e
    every_from (negation f) g e = every_from f g e
    every_from (all_of fs) g e = every_all fs g e
    every_from (some_of fs) g e = every_all fs g e

    pub every_all : (fs : Formulas A) → ((a : A) → Contains (atoms_in_all fs) a → P a → Q a) → EveryAtomOfAll P fs → EveryAtomOfAll Q fs
    every_all no_formulas g e = tt
    every_all (formula f fs) g e = (every_from f (λ a at. g a (in_left (atoms_in f) (atoms_in_all fs) a at)) e.0, every_all fs (λ a at. g a (in_right (atoms_in f) (atoms_in_all fs) a at)) e.1)

module _ {A M : Type 0} (second : OutMachine A M) where
  -- an atom of a guard is one of the second
  pub atom_in : (g : Formula A) (a : A) → IsGuardOf second g → Contains (atoms_in g) a → HasAtomIn second a
  atom_in g a (inl (those, in_rules, r, in_those, is)) at = inl (those, in_rules, r, in_those, subst (λ g. Contains (atoms_in g) a) (sym is) at)
  atom_in g a (inr (those, in_rules, r, in_those, is)) at = inr (those, in_rules, r, in_those, subst (λ g. Contains (atoms_in g) a) (sym is) at)

  -- and speaks of the labels of which the second does
  pub guard_fits : (fits : A → Type 0) (map_fits : M → Type 0) (g : Formula A) → LabelsFit fits map_fits second → IsGuardOf second g → EveryAtom fits g
  guard_fits fits map_fits g ok (inl (those, in_rules, r, in_those, is)) = subst (EveryAtom fits) is (all_at (λ r. EveryAtom fits r.guard) those r (all_at (All (λ r. EveryAtom fits r.guard)) second.looks.rules those ok.looks in_rules) in_those)
  guard_fits fits map_fits g ok (inr (those, in_rules, r, in_those, is)) = subst (EveryAtom fits) is (all_at (λ r. EveryAtom fits r.rule.guard) those r (all_at (All (λ r. EveryAtom fits r.rule.guard)) second.rules those ok.guards in_rules) in_those)

module _ {A : Type 0} (holds : A → Label → Bool) (l : Label) where
  each_says : (gs : List (Written A)) → all_say holds (map plain_formula gs) l ≡ true → All (λ f. IsTrue (formula_holds (λ a. holds a l) (plain_formula f))) gs
  each_says [] h = All-nil (λ f. IsTrue (formula_holds (λ a. holds a l) (plain_formula f)))
  each_says (g ∷ gs) h =
      let both = and_parts (formula_holds (λ a. holds a l) (plain_formula g)) (all_say holds (map plain_formula gs) l) h in
      All-cons (λ f. IsTrue (formula_holds (λ a. holds a l) (plain_formula f))) g gs both.0 (each_says gs both.1)

  not_true : (b : Bool) → (b ≡ true → ⊥) → b ≡ false
  not_true true f = absurd (f refl)
  not_true false f = refl

  -- where not all hold together, one doesn't
  pub none_together : (gs : List (Written A)) → ¬ (All (λ f. IsTrue (formula_holds (λ a. holds a l) (plain_formula f))) gs) → all_say holds (map plain_formula gs) l ≡ false
  none_together gs no_label = not_true (all_say holds (map plain_formula gs) l) (λ h. no_label (each_says gs h))

-- guards that stand fit
pub guards_fit : {A : Type 0} (P Q : Formula A → Type 0) (gs : List (Written A)) → All (λ g. P g × Q g) (map plain_formula gs) → All (λ f. P (plain_formula f)) gs
guards_fit P Q gs all = λ k d low. (All_from_map (λ g. P g × Q g) plain_formula gs all k d low).0
