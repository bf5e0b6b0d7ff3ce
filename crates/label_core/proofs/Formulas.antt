-- A formula's parts as a list.
use Rattle.std.proofs.Common.{◌≡◌, ℕ, zero, suc, ◌+◌, ◌<◌, ◌≤◌, Bool, true, false, not, ◌&&◌, ◌||◌, List, [], ◌∷◌, map, length, drop, get_or, Box, Vec, Global, All, refl, sym, ap, ◌∙◌, subst, arith}
use Rattle.std.proofs.Math.Bool.{beq}
use Rattle.std.specs.List.{list_all, list_any}
use Rattle.std.proofs.lemmas.List.{at_drop_more, at_drop_all}
use Rattle.std.proofs.lemmas.List.Elements.{All-nil, All-cons}
use Rattle.model_tree.specs.Formula as plain
use Rattle.model_tree.specs.Formula.{yes, no, atom, no_formulas, negation, all_of, some_of, formulas_of, formula, formula_holds, all_hold, some_hold, EveryAtom, EveryAtomOfAll}
use Rattle.label_core.specs.Formula.{plain_formula, plain_formulas, joined}
use Rattle.label_core.specs.declared.formula.Formula.{Formula, Row_of-Formula, end_of-Formula, more_of-Formula, items-the_row-Formula, items_hidden-the_row-Formula-0}
use Rattle.label_core.specs.declared.formula.Formula.TheVariants.{Not, And, Or}
use Rattle.label_core.specs.declared.formula.Formula.TheBlock.{hidden-the_row-Formula-0}

module _ {A : Type 0} where
  plain_formulas-items : {n : _} (fs : Row_of-Formula A n) → plain_formulas fs ≡ formulas_of (map plain_formula (items-the_row-Formula A _ fs))
  plain_formulas-items end_of-Formula = refl
  plain_formulas-items (more_of-Formula f fs) = ap (formula (plain_formula f)) (plain_formulas-items fs)

  parts : (v : Vec (Formula A) Global) → plain_formulas (hidden-the_row-Formula-0 A v) ≡ formulas_of (map plain_formula v.items)
  parts v = plain_formulas-items (hidden-the_row-Formula-0 A v) ∙ ap (λ fs. formulas_of (map plain_formula fs)) (items_hidden-the_row-Formula-0 A v)

  pub plain_and : (v : Vec (Formula A) Global) → plain_formula (And v) ≡ all_of (formulas_of (map plain_formula v.items))
  plain_and v = ap all_of (parts v)

  pub plain_or : (v : Vec (Formula A) Global) → plain_formula (Or v) ≡ some_of (formulas_of (map plain_formula v.items))
  plain_or v = ap some_of (parts v)

  -- the same where the formula and its parts go by other names
  pub not_of : (f : Formula A) (b : Box (Formula A) Global) (g : Formula A) → f ≡ Not b → g ≡ b.value → negation (plain_formula g) ≡ plain_formula f
  not_of f b g is same = ap (λ h. negation (plain_formula h)) same ∙ sym (ap plain_formula is)

  pub and_of : (f : Formula A) (v : Vec (Formula A) Global) (fs : List (Formula A)) → f ≡ And v → fs ≡ v.items → all_of (formulas_of (map plain_formula fs)) ≡ plain_formula f
  and_of f v fs is same = ap (λ gs. all_of (formulas_of (map plain_formula gs))) same ∙ sym (ap plain_formula is ∙ plain_and v)

  pub or_of : (f : Formula A) (v : Vec (Formula A) Global) (fs : List (Formula A)) → f ≡ Or v → fs ≡ v.items → some_of (formulas_of (map plain_formula fs)) ≡ plain_formula f
  or_of f v fs is same = ap (λ gs. some_of (formulas_of (map plain_formula gs))) same ∙ sym (ap plain_formula is ∙ plain_or v)

  -- formulas of the same meaning, joined
  pub joined_same : (every : Bool) (fs gs : List (Formula A)) → map plain_formula fs ≡ map plain_formula gs → joined every fs ≡ joined every gs
  joined_same true fs gs e = ap (λ ps. all_of (formulas_of ps)) e
  joined_same false fs gs e = ap (λ ps. some_of (formulas_of ps)) e

module _ {A : Type 0} where
  abbrev mutual
    -- how many parts a formula has, at all depths
    pub weight : plain.Formula A → ℕ
    weight yes = 0
    weight no = 0
    weight (atom a) = 0
    weight (negation f) = weight f + 1
    weight (all_of fs) = weights fs + 1
    weight (some_of fs) = weights fs + 1

    pub weights : plain.Formulas A → ℕ
    weights no_formulas = 0
    weights (formula f fs) = weight f + weights fs

  abbrev pub parts_weight : List (Formula A) → ℕ
  parts_weight parts = weights (formulas_of (map plain_formula parts))

  pub part_lighter : (parts : List (Formula A)) (i : ℕ) (f : Formula A) → i < length parts → f ≡ get_or parts i f → weight (plain_formula f) ≤ parts_weight parts
  part_lighter [] i f low is = absurd (omega arith)
  part_lighter (g ∷ parts) zero f low is = let same : weight (plain_formula f) ≡ weight (plain_formula g) = ap (λ h. weight (plain_formula h)) is in omega arith
  part_lighter (g ∷ parts) (suc i) f low is = let rest = part_lighter parts i f (omega arith) is in omega (arith, rest)

-- two truth values that compare as equal, and two that do not
pub same : (a b : Bool) → not (beq a b) ≡ false → a ≡ b
same true true e = refl
same true false e = cc
same false true e = cc
same false false e = refl

pub other : (a b : Bool) → not (beq a b) ≡ true → a ≡ b → ⊥
other a b e is = let no : true ≡ false = sym e ∙ ap (λ c. not (beq a c)) (sym is) ∙ itself a in cc
  where
    itself : (c : Bool) → not (beq c c) ≡ false
    itself true = refl
    itself false = refl

module _ {A : Type 0} (holds : A → Bool) where
  pub all_hold_of_list : (fs : List (Formula A)) → all_hold holds (formulas_of (map plain_formula fs)) ≡ list_all (λ f. formula_holds holds (plain_formula f)) fs
  all_hold_of_list [] = refl
  all_hold_of_list (f ∷ fs) = ap (λ b. formula_holds holds (plain_formula f) && b) (all_hold_of_list fs)

  pub some_hold_of_list : (fs : List (Formula A)) → some_hold holds (formulas_of (map plain_formula fs)) ≡ list_any (λ f. formula_holds holds (plain_formula f)) fs
  some_hold_of_list [] = refl
  some_hold_of_list (f ∷ fs) = ap (λ b. formula_holds holds (plain_formula f) || b) (some_hold_of_list fs)

  -- whether the formulas hold, joined
  abbrev pub holds_joined : Bool → List (Formula A) → Bool
  holds_joined every fs = formula_holds holds (joined every fs)

  one_found : (every b : Bool) (f : Formula A) (fs : List (Formula A)) → b ≡ formula_holds holds (plain_formula f) → (b ≡ every → ⊥) → holds_joined every (f ∷ fs) ≡ not every
  one_found true true f fs is other = absurd (other refl)
  one_found true false f fs is other = sym (ap (λ c. c && all_hold holds (formulas_of (map plain_formula fs))) is)
  one_found false true f fs is other = sym (ap (λ c. c || some_hold holds (formulas_of (map plain_formula fs))) is)
  one_found false false f fs is other = absurd (other refl)

  one_more : (every b : Bool) (f : Formula A) (fs : List (Formula A)) → b ≡ formula_holds holds (plain_formula f) → b ≡ every → holds_joined every (f ∷ fs) ≡ holds_joined every fs
  one_more true b f fs is same = ap (λ c. c && all_hold holds (formulas_of (map plain_formula fs))) (sym is ∙ same)
  one_more false b f fs is same = ap (λ c. c || some_hold holds (formulas_of (map plain_formula fs))) (sym is ∙ same)

  module _ (every : Bool) (parts : List (Formula A)) (i : ℕ) where
    -- what the formulas from an index on say, where those before it decide nothing
    abbrev pub SayAll : Type 0
    SayAll = holds_joined every (drop i parts) ≡ holds_joined every parts

    pub no_more : length parts ≤ i → SayAll → every ≡ holds_joined every parts
    no_more low before = none every ∙ sym (at_drop_all (holds_joined every) parts i low) ∙ before
      where
        none : (e : Bool) → e ≡ holds_joined e []
        none true = refl
        none false = refl

    module _ (f : Formula A) (low : i < length parts) (is : f ≡ get_or parts i f) (b : Bool) (told : b ≡ formula_holds holds (plain_formula f)) (before : SayAll) where
      here : holds_joined every (f ∷ drop (i + 1) parts) ≡ holds_joined every parts
      here = ap (λ g. holds_joined every (g ∷ drop (i + 1) parts)) is ∙ sym (at_drop_more (holds_joined every) parts i f low) ∙ before

      pub found : (b ≡ every → ⊥) → not every ≡ holds_joined every parts
      found other = sym (one_found every b f (drop (i + 1) parts) told other) ∙ here

      pub more : b ≡ every → holds_joined every (drop (i + 1) parts) ≡ holds_joined every parts
      more same = sym (one_more every b f (drop (i + 1) parts) told same) ∙ here

module _ {A : Type 0} (P : A → Type 0) where
  every : (fs : List (Formula A)) → EveryAtomOfAll P (formulas_of (map plain_formula fs)) → All (λ f. EveryAtom P (plain_formula f)) fs
  every [] h = All-nil (λ f. EveryAtom P (plain_formula f))
  every (f ∷ fs) h = All-cons (λ g. EveryAtom P (plain_formula g)) f fs h.0 (every fs h.1)

  pub every_and : (f : Formula A) (v : Vec (Formula A) Global) (fs : List (Formula A)) → f ≡ And v → fs ≡ v.items → EveryAtom P (plain_formula f) → All (λ g. EveryAtom P (plain_formula g)) fs
  every_and f v fs is same h = every fs (subst (EveryAtom P) (sym (and_of f v fs is same)) h)

  pub every_or : (f : Formula A) (v : Vec (Formula A) Global) (fs : List (Formula A)) → f ≡ Or v → fs ≡ v.items → EveryAtom P (plain_formula f) → All (λ g. EveryAtom P (plain_formula g)) fs
  every_or f v fs is same h = every fs (subst (EveryAtom P) (sym (or_of f v fs is same)) h)

  pub every_not : (f : Formula A) (b : Box (Formula A) Global) (g : Formula A) → f ≡ Not b → g ≡ b.value → EveryAtom P (plain_formula f) → EveryAtom P (plain_formula g)
  every_not f b g is same h = subst (EveryAtom P) (sym (not_of f b g is same)) h

  pub every_part : (fs : List (Formula A)) (i : ℕ) (f : Formula A) → i < length fs → f ≡ get_or fs i f → All (λ g. EveryAtom P (plain_formula g)) fs → EveryAtom P (plain_formula f)
  every_part fs i f low is each = subst (λ g. EveryAtom P (plain_formula g)) (sym is) (each i f low)

pub ruleset on_parts = (plain_and, plain_or)
