-- The laws of the equality of formulas, and what equal formulas say.
use Rattle.std.proofs.Common.{◌≡◌, Bool, true, false, ◌&&◌, ◌||◌, not, refl, ap}
use Rattle.std.specs.Cmp.{IsEquivalence}
use Rattle.model_tree.specs.Formula.{Formula, yes, no, atom, negation, all_of, some_of, Formulas, no_formulas, formula, formula_holds, all_hold, some_hold, EveryAtom, EveryAtomOfAll}
use Rattle.label_core.specs.Formula.{plain_formula}
use Rattle.label_core.specs.declared.formula.Formula.{Formula as Written}
use Rattle.label_core.specs.SameFormula.{same_formula, same_formulas}

both_true : (a b : Bool) → (a && b) ≡ true → (a ≡ true) × (b ≡ true)
both_true true b e = (refl, e)
both_true false b e = cc

module _ {A : Type 0} (eq : A → A → Bool) where
  module _ (laws : IsEquivalence eq) where
    mutual
      itself : (f : Formula A) → same_formula eq f f ≡ true
      itself yes = refl
      itself no = refl
      itself (atom a) = laws.refl a
      itself (negation f) = itself f
      itself (all_of fs) = themselves fs
      itself (some_of fs) = themselves fs

      themselves : (fs : Formulas A) → same_formulas eq fs fs ≡ true
      themselves no_formulas = refl
      themselves (formula f fs) = λ i. itself f i && themselves fs i

    mutual
      either : (f g : Formula A) → same_formula eq f g ≡ same_formula eq g f
      either yes yes = refl
      either no no = refl
      either (atom a) (atom b) = laws.symm a b
      either (negation f) (negation g) = either f g
      either (all_of fs) (all_of gs) = eithers fs gs
      either (some_of fs) (some_of gs) = eithers fs gs
      either f g = refl

      eithers : (fs gs : Formulas A) → same_formulas eq fs gs ≡ same_formulas eq gs fs
      eithers no_formulas no_formulas = refl
      eithers (formula f fs) (formula g gs) = λ i. either f g i && eithers fs gs i
      eithers fs gs = refl

    mutual
      alike : (f g h : Formula A) → same_formula eq f g ≡ true → same_formula eq f h ≡ same_formula eq g h
      alike yes yes h e = refl
      alike no no h e = refl
      alike (atom a) (atom b) (atom c) e = laws.congr a b c e
      alike (atom a) (atom b) h e = refl
      alike (negation f) (negation g) (negation h) e = alike f g h e
      alike (negation f) (negation g) h e = refl
      alike (all_of fs) (all_of gs) (all_of hs) e = alikes fs gs hs e
      alike (all_of fs) (all_of gs) h e = refl
      alike (some_of fs) (some_of gs) (some_of hs) e = alikes fs gs hs e
      alike (some_of fs) (some_of gs) h e = refl
      alike f g h e = cc

      alikes : (fs gs hs : Formulas A) → same_formulas eq fs gs ≡ true → same_formulas eq fs hs ≡ same_formulas eq gs hs
      alikes no_formulas no_formulas hs e = refl
      alikes (formula f fs) (formula g gs) no_formulas e = refl
      alikes (formula f fs) (formula g gs) (formula h hs) e = let both = both_true (same_formula eq f g) (same_formulas eq fs gs) e in λ i. alike f g h both.0 i && alikes fs gs hs both.1 i
      alikes fs gs hs e = cc

    pub same_formula_laws : IsEquivalence (λ (f g : Written A). same_formula eq (plain_formula f) (plain_formula g))
    same_formula_laws = record {
      refl = λ f. itself (plain_formula f);
      symm = λ f g. either (plain_formula f) (plain_formula g);
      congr = λ f g h. alike (plain_formula f) (plain_formula g) (plain_formula h);
    }

  -- equal formulas hold where their atoms say the same
  module _ (holds : A → Bool) (equal : (a b : A) → eq a b ≡ true → holds a ≡ holds b) where
    mutual
      pub same_holds : (f g : Formula A) → same_formula eq f g ≡ true → formula_holds holds f ≡ formula_holds holds g
      same_holds yes yes e = refl
      same_holds no no e = refl
      same_holds (atom a) (atom b) e = equal a b e
      same_holds (negation f) (negation g) e = ap not (same_holds f g e)
      same_holds (all_of fs) (all_of gs) e = same_all_hold fs gs e
      same_holds (some_of fs) (some_of gs) e = same_some_hold fs gs e
      same_holds f g e = cc

      same_all_hold : (fs gs : Formulas A) → same_formulas eq fs gs ≡ true → all_hold holds fs ≡ all_hold holds gs
      same_all_hold no_formulas no_formulas e = refl
      same_all_hold (formula f fs) (formula g gs) e = let both = both_true (same_formula eq f g) (same_formulas eq fs gs) e in λ i. same_holds f g both.0 i && same_all_hold fs gs both.1 i
      same_all_hold fs gs e = cc

      same_some_hold : (fs gs : Formulas A) → same_formulas eq fs gs ≡ true → some_hold holds fs ≡ some_hold holds gs
      same_some_hold no_formulas no_formulas e = refl
      same_some_hold (formula f fs) (formula g gs) e = let both = both_true (same_formula eq f g) (same_formulas eq fs gs) e in λ i. same_holds f g both.0 i || same_some_hold fs gs both.1 i
      same_some_hold fs gs e = cc

  -- what is so of each atom is so of an equal formula's
  module _ (P : A → Type 0) (equal : (a b : A) → eq a b ≡ true → P a → P b) where
    mutual
      pub same_every : (f g : Formula A) → same_formula eq f g ≡ true → EveryAtom P f → EveryAtom P g
      same_every yes yes e h = tt
      same_every no no e h = tt
      same_every (atom a) (atom b) e h = equal a b e h
      same_every (negation f) (negation g) e h = same_every f g e h
      same_every (all_of fs) (all_of gs) e h = same_every_of_all fs gs e h
      same_every (some_of fs) (some_of gs) e h = same_every_of_all fs gs e h
      same_every f g e h = absurd cc

      same_every_of_all : (fs gs : Formulas A) → same_formulas eq fs gs ≡ true → EveryAtomOfAll P fs → EveryAtomOfAll P gs
      same_every_of_all no_formulas no_formulas e h = tt
      same_every_of_all (formula f fs) (formula g gs) e h = let both = both_true (same_formula eq f g) (same_formulas eq fs gs) e in (same_every f g both.0 h.0, same_every_of_all fs gs both.1 h.1)
      same_every_of_all fs gs e h = absurd cc
