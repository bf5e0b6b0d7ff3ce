-- What is made of a formula's parts, joined.
use Rattle.std.proofs.Common.{◌≡◌, ◌⊎◌, inl, inr, ℕ, zero, suc, ◌+◌, ◌<◌, Bool, true, false, not, ◌&&◌, ◌||◌, List, [], ◌∷◌, ◌++◌, map, length, take, get_or, All, Contains, Box, Vec, Global, refl, sym, ap, ap₂, ◌∙◌, subst, arith}
use Rattle.std.proofs.Math.IntN.{ℤ}
use Rattle.std.specs.List.{list_all, list_any}
use Rattle.std.proofs.lemmas.List.{take_more, map-append}
use Rattle.std.proofs.lemmas.List.Elements.{All-nil, All-cons, All-head, All-tail, All-append, Contains-append_left, Contains-append_right, Contains-append_cases}
use Rattle.model_tree.specs.Label.{Label}
use Rattle.model_tree.specs.Formula as plain
use Rattle.model_tree.specs.Formula.{yes, no, atom, negation, all_of, some_of, formulas_of, no_formulas, formula, formula_holds, all_hold, some_hold, EveryAtom, EveryAtomOfAll}
use Rattle.label_core.specs.Formula.{plain_formula, joined, atoms_in, atoms_in_all}
use Rattle.label_core.specs.Maps.{IsPut}
use Rattle.label_core.specs.Meaning.{Meaning}
use Rattle.label_core.specs.Puts.{IsOverMade, OfSome, OfSomePart, IsPutFor, IsDenied, AreEachPut}
use Rattle.label_core.specs.declared.formula.Formula.{Formula}
use Rattle.label_core.specs.declared.labels.Put.{Put}
use Rattle.label_core.specs.declared.labels.Put.TheVariants as put
use Rattle.label_core.specs.declared.formula.Formula.TheVariants.{Not, And, Or}
use Rattle.label_core.proofs.Formulas.{all_hold_of_list, some_hold_of_list, every_not, every_and, every_or}

module _ {X Y : Type 0} (p : X → Bool) (q : Y → Bool) where
  all_as : (xs : List X) (ys : List Y) → map p xs ≡ map q ys → list_all p xs ≡ list_all q ys
  all_as [] [] e = refl
  all_as [] (y ∷ ys) e = cc
  all_as (x ∷ xs) [] e = cc
  all_as (x ∷ xs) (y ∷ ys) e =
      let first : p x ≡ q y = cc in
      let later : map p xs ≡ map q ys = cc in
      λ i. first i && all_as xs ys later i

  any_as : (xs : List X) (ys : List Y) → map p xs ≡ map q ys → list_any p xs ≡ list_any q ys
  any_as [] [] e = refl
  any_as [] (y ∷ ys) e = cc
  any_as (x ∷ xs) [] e = cc
  any_as (x ∷ xs) (y ∷ ys) e =
      let first : p x ≡ q y = cc in
      let later : map p xs ≡ map q ys = cc in
      λ i. first i || any_as xs ys later i

module _ {A : Type 0} (P : A → Type 0) where
  every_of : (fs : List (Formula A)) → All (λ f. EveryAtom P (plain_formula f)) fs → EveryAtomOfAll P (formulas_of (map plain_formula fs))
  every_of [] h = tt
  every_of (f ∷ fs) h = (All-head (λ g. EveryAtom P (plain_formula g)) f fs h, every_of fs (All-tail (λ g. EveryAtom P (plain_formula g)) f fs h))

module _ {A : Type 0} (P Q : A → Type 0) (weaker : (a : A) → P a → Q a) where
  mutual
    every_weaker : (f : plain.Formula A) → EveryAtom P f → EveryAtom Q f
    every_weaker yes h = tt
    every_weaker no h = tt
    every_weaker (atom a) h = weaker a h
    every_weaker (negation f) h = every_weaker f h
    every_weaker (all_of fs) h = every_weaker_all fs h
    every_weaker (some_of fs) h = every_weaker_all fs h

    every_weaker_all : (fs : plain.Formulas A) → EveryAtomOfAll P fs → EveryAtomOfAll Q fs
    every_weaker_all no_formulas h = tt
    every_weaker_all (formula f fs) h = (every_weaker f h.0, every_weaker_all fs h.1)

module _ {T A : Type 0} (is_into : T → Type 0) (fits : T → A → Type 0) where
  all_over : (made : T) → is_into made → (parts : List (Formula A)) → All (λ g. EveryAtom (fits made) (plain_formula g)) parts → All (λ g. IsOverMade is_into fits (plain_formula g)) parts
  all_over made into parts each = λ k d low. record { made = made; into = into; fit = each k d low }

  pub over_and : (f : Formula A) (v : Vec (Formula A) Global) (parts : List (Formula A)) → f ≡ And v → parts ≡ v.items → IsOverMade is_into fits (plain_formula f) → All (λ g. IsOverMade is_into fits (plain_formula g)) parts
  over_and f v parts is same over = all_over over.made over.into parts (every_and (fits over.made) f v parts is same over.fit)

  pub over_or : (f : Formula A) (v : Vec (Formula A) Global) (parts : List (Formula A)) → f ≡ Or v → parts ≡ v.items → IsOverMade is_into fits (plain_formula f) → All (λ g. IsOverMade is_into fits (plain_formula g)) parts
  over_or f v parts is same over = all_over over.made over.into parts (every_or (fits over.made) f v parts is same over.fit)

  pub over_not : (f : Formula A) (b : Box (Formula A) Global) (g : Formula A) → f ≡ Not b → g ≡ b.value → IsOverMade is_into fits (plain_formula f) → IsOverMade is_into fits (plain_formula g)
  over_not f b g is same over = record {
    made = over.made;
    into = over.into;
    fit = every_not (fits over.made) f b g is same over.fit;
  }

  pub over_part : (parts : List (Formula A)) (i : ℕ) (f : Formula A) → i < length parts → f ≡ get_or parts i f → All (λ g. IsOverMade is_into fits (plain_formula g)) parts → IsOverMade is_into fits (plain_formula f)
  over_part parts i f low is each = subst (λ g. IsOverMade is_into fits (plain_formula g)) (sym is) (each i f low)

module _ {A X : Type 0} (of_atom : A → X → Type 0) where
  -- an atom of a part is one of all
  of_part : (parts : List (Formula A)) (i : ℕ) (f : Formula A) (x : X) → i < length parts → f ≡ get_or parts i f → OfSome of_atom (plain_formula f) x → OfSomePart of_atom parts x
  of_part [] i f x low is some = absurd (omega arith)
  of_part (g ∷ parts) zero f x low is (a, there, so) = (a, Contains-append_left (atoms_in (plain_formula g)) (atoms_in_all (formulas_of (map plain_formula parts))) a (subst (λ h. Contains (atoms_in (plain_formula h)) a) is there), so)
  of_part (g ∷ parts) (suc i) f x low is some =
      let (a, there, so) = of_part parts i f x (omega arith) is some in
      (a, Contains-append_right (atoms_in (plain_formula g)) (atoms_in_all (formulas_of (map plain_formula parts))) a there, so)

  -- an atom of all is one of a part
  none_of : (parts : List (Formula A)) → All (λ f. (x : X) → OfSome of_atom (plain_formula f) x → ⊥) parts → (x : X) → OfSomePart of_atom parts x → ⊥
  none_of [] each x (a, there, so) = absurd (omega (arith, there.1))
  none_of (f ∷ parts) each x (a, there, so) =
      by (Contains-append_cases (atoms_in (plain_formula f)) (atoms_in_all (formulas_of (map plain_formula parts))) a there) (λ later. none_of parts (All-tail (λ g. (y : X) → OfSome of_atom (plain_formula g) y → ⊥) f parts each) x (a, later, so))
    where
      by : Contains (atoms_in (plain_formula f)) a ⊎ Contains (atoms_in_all (formulas_of (map plain_formula parts))) a → (Contains (atoms_in_all (formulas_of (map plain_formula parts))) a → ⊥) → ⊥
      by (inl here) none = All-head (λ g. (y : X) → OfSome of_atom (plain_formula g) y → ⊥) f parts each x (a, here, so)
      by (inr later) none = none later

module _ {A V W : Type 0} {label_of : V → Label} {holds : A → Label → Bool} (M : Meaning label_of holds W) (fits : A → Type 0) (of_kind : A → A → Type 0) (outside : A → ℤ → Type 0) (says : A → Label → Bool) where
  pub none_put : (parts : List (Formula A)) → AreEachPut M fits of_kind outside says parts [] []
  none_put parts = record { hold = λ l h. refl; fit = All-nil (λ f. EveryAtom fits (plain_formula f)); of_parts = All-nil (λ f. EveryAtom (OfSomePart of_kind parts) (plain_formula f)); none = All-nil (λ f. (n : ℤ) → OfSome outside (plain_formula f) n → ⊥) }

  module _ (parts : List (Formula A)) (i : ℕ) (f : Formula A) (low : i < length parts) (is : f ≡ get_or parts i f) where
    abbrev held : Label → List Bool → List (Formula A) → Type 0
    held l bs fs = bs ≡ map (λ g. formula_holds (λ a. says a l) (plain_formula g)) fs

    taken : take (i + 1) parts ≡ take i parts ++ f ∷ []
    taken = take_more parts i f low ∙ ap (λ g. take i parts ++ g ∷ []) (sym is)

    pub more_put : (made new : List (Formula A)) (g : Formula A) → new ≡ made ++ g ∷ [] → AreEachPut M fits of_kind outside says parts (take i parts) made → IsPutFor M fits of_kind outside says (plain_formula f) (put.Formula g) → AreEachPut M fits of_kind outside says parts (take (i + 1) parts) new
    more_put made new g pushed before own =
        subst (λ fs. AreEachPut M fits of_kind outside says parts (take (i + 1) parts) fs) (sym pushed) (subst (λ fs. AreEachPut M fits of_kind outside says parts fs (made ++ g ∷ [])) (sym taken) (record {
          hold = λ l h. map-append (λ k. formula_holds (λ a. holds a l) (plain_formula k)) made (g ∷ []) ∙ ap₂ (λ bs b. bs ++ b ∷ []) (before.hold l h) (own.0 l h) ∙ sym (map-append (λ k. formula_holds (λ a. says a l) (plain_formula k)) (take i parts) (f ∷ []));
          fit = All-append (λ k. EveryAtom fits (plain_formula k)) made (g ∷ []) before.fit (All-cons (λ k. EveryAtom fits (plain_formula k)) g [] own.1 (All-nil (λ k. EveryAtom fits (plain_formula k))));
          of_parts = All-append (λ k. EveryAtom (OfSomePart of_kind parts) (plain_formula k)) made (g ∷ []) before.of_parts
              (All-cons (λ k. EveryAtom (OfSomePart of_kind parts) (plain_formula k)) g [] (every_weaker (OfSome of_kind (plain_formula f)) (OfSomePart of_kind parts) (λ b. of_part of_kind parts i f b low is) (plain_formula g) own.2) (All-nil (λ k. EveryAtom (OfSomePart of_kind parts) (plain_formula k))));
          none = All-append (λ k. (n : ℤ) → OfSome outside (plain_formula k) n → ⊥) (take i parts) (f ∷ []) before.none (All-cons (λ k. (n : ℤ) → OfSome outside (plain_formula k) n → ⊥) f [] own.3 (All-nil (λ k. (n : ℤ) → OfSome outside (plain_formula k) n → ⊥)));
        }))

    pub outside_part : (every : Bool) (n : ℤ) → OfSome outside (plain_formula f) n → OfSome outside (joined every parts) n
    outside_part true n = of_part outside parts i f n low is
    outside_part false n = of_part outside parts i f n low is

  -- the formulas joined
  module _ (parts made : List (Formula A)) (each : AreEachPut M fits of_kind outside says parts parts made) where
    put_all : (g : Formula A) → plain_formula g ≡ all_of (formulas_of (map plain_formula made)) → IsPutFor M fits of_kind outside says (all_of (formulas_of (map plain_formula parts))) (put.Formula g)
    put_all g is = (
      (λ l h. ap (formula_holds (λ a. holds a l)) is ∙ all_hold_of_list (λ a. holds a l) made ∙ all_as (λ f. formula_holds (λ a. holds a l) (plain_formula f)) (λ f. formula_holds (λ a. says a l) (plain_formula f)) made parts (each.hold l h) ∙ sym (all_hold_of_list (λ a. says a l) parts)),
      subst (EveryAtom fits) (sym is) (every_of fits made each.fit),
      subst (EveryAtom (OfSomePart of_kind parts)) (sym is) (every_of (OfSomePart of_kind parts) made each.of_parts),
      none_of outside parts each.none,
    )

    put_some : (g : Formula A) → plain_formula g ≡ some_of (formulas_of (map plain_formula made)) → IsPutFor M fits of_kind outside says (some_of (formulas_of (map plain_formula parts))) (put.Formula g)
    put_some g is = (
      (λ l h. ap (formula_holds (λ a. holds a l)) is ∙ some_hold_of_list (λ a. holds a l) made ∙ any_as (λ f. formula_holds (λ a. holds a l) (plain_formula f)) (λ f. formula_holds (λ a. says a l) (plain_formula f)) made parts (each.hold l h) ∙ sym (some_hold_of_list (λ a. says a l) parts)),
      subst (EveryAtom fits) (sym is) (every_of fits made each.fit),
      subst (EveryAtom (OfSomePart of_kind parts)) (sym is) (every_of (OfSomePart of_kind parts) made each.of_parts),
      none_of outside parts each.none,
    )

    pub put_joined : (every : Bool) (g : Formula A) → plain_formula g ≡ joined every made → IsPutFor M fits of_kind outside says (joined every parts) (put.Formula g)
    put_joined true g is = put_all g is
    put_joined false g is = put_some g is

  put_not : (f : plain.Formula A) (g h : Formula A) → plain_formula h ≡ negation (plain_formula g) → IsPutFor M fits of_kind outside says f (put.Formula g) → IsPutFor M fits of_kind outside says (negation f) (put.Formula h)
  put_not f g h is own = (
    (λ l has. ap (formula_holds (λ a. holds a l)) is ∙ ap not (own.0 l has)),
    subst (EveryAtom fits) (sym is) own.1,
    subst (EveryAtom (OfSome of_kind f)) (sym is) own.2,
    own.3,
  )

  pub put_denied : (f : plain.Formula A) (s r : Put A) → IsPutFor M fits of_kind outside says f s → IsDenied s r → IsPutFor M fits of_kind outside says (negation f) r
  put_denied f (put.Formula g) r own is = subst (IsPutFor M fits of_kind outside says (negation f)) (sym is.1) (put_not f g is.0 is.2 own)
  put_denied f (put.Range n) r own is = subst (IsPutFor M fits of_kind outside says (negation f)) (sym is) own

  pub put_atom : (a : A) (r : Put A) → IsPut M fits (of_kind a) (outside a) (λ l. says a l) r → IsPutFor M fits of_kind outside says (atom a) r
  put_atom a (put.Formula g) own = (
    own.0,
    own.1,
    every_weaker (of_kind a) (OfSome of_kind (atom a)) (λ b so. (a, (0, omega arith, refl), so)) (plain_formula g) own.2,
    λ n some. own.3 n (subst (λ b. outside b n) (only some.0 some.1) some.2),
  )
    where
      only : (b : A) → Contains (a ∷ []) b → b ≡ a
      only b (zero, low, e) = sym e
      only b (suc k, low, e) = absurd (omega (arith, low))
  put_atom a (put.Range n) own = (a, (0, omega arith, refl), own)
