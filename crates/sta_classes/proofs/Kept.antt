-- The guards of those rules that a test keeps.
use Rattle.std.proofs.Common.{ℕ, suc, ◌≡◌, ◌<◌, ◌+◌, ◌==◌, Bool, true, false, cond, All, get_or, ◌++◌, arith, List, [], ◌∷◌, map, filter, length, take, refl, sym, ap, ap₂, ◌∙◌, eqb-true, append-nil, append_assoc}
use Rattle.std.proofs.lemmas.List.{take_more, map-append}
use Rattle.std.proofs.lemmas.List.Elements.{filter-append}
use Rattle.model_tree.specs.Formula.{Formula, EveryAtom}
use Rattle.model_sta.specs.Sets.{Each}
use Rattle.label_core.specs.Formula.{plain_formula}
use Rattle.label_core.specs.declared.formula.Formula as code
use Rattle.sta_core.specs.Machine.{PlainRule}
use Rattle.sta_classes.specs.Guards.{all_guards, GuardsFit}

pub not_equal : (m n : ℕ) → ¬ (m ≡ n) → false ≡ (m == n)
not_equal m n other = by (m == n) refl
  where
    by : (b : Bool) → (m == n) ≡ b → false ≡ b
    by true e = absurd (other (eqb-true m n e))
    by false e = refl

module _ {A : Type 0} (test : PlainRule A → Bool) where
  abbrev kept : List (PlainRule A) → List (Formula A)
  kept rs = map (λ r. r.guard) (filter test rs)

  kept_one : (b : Bool) (r : PlainRule A) → map (λ x. x.guard) (cond b (r ∷ []) []) ≡ cond b (r.guard ∷ []) []
  kept_one true r = refl
  kept_one false r = refl

  kept_push : (rs : List (PlainRule A)) (r : PlainRule A) → kept (rs ++ r ∷ []) ≡ kept rs ++ cond (test r) (r.guard ∷ []) []
  kept_push rs r =
      ap (map (λ x. x.guard)) (filter-append test rs (r ∷ [])) ∙ map-append (λ x. x.guard) (filter test rs) (cond (test r) (r ∷ []) [])
      ∙ ap (λ z. kept rs ++ z) (kept_one (test r) r)

  module _ {X : Type 0} (f : X → PlainRule A) (xs : List X) (i : ℕ) (x : X) (low : i < length xs) (at : x ≡ get_or xs i x) where
    taken : (b : Bool) → b ≡ test (f x) → kept (map f (take (i + 1) xs)) ≡ kept (map f (take i xs)) ++ cond b ((f x).guard ∷ []) []
    taken b e =
        ap kept (ap (map f) (take_more xs i x low ∙ ap (λ z. take i xs ++ z ∷ []) (sym at)) ∙ map-append f (take i xs) (x ∷ []))
        ∙ kept_push (map f (take i xs)) (f x) ∙ ap (λ z. kept (map f (take i xs)) ++ cond z ((f x).guard ∷ []) []) (sym e)

    module _ (all : List (Formula A)) (before after : List (code.Formula A)) (begun : map plain_formula before ≡ all ++ kept (map f (take i xs))) where
      -- a copy of the guard of a rule that is kept, and none of another
      pub guard_added : (copy : code.Formula A) → true ≡ test (f x) → after ≡ before ++ copy ∷ [] → plain_formula copy ≡ (f x).guard → map plain_formula after ≡ all ++ kept (map f (take (i + 1) xs))
      guard_added copy e is same =
          ap (map plain_formula) is ∙ map-append plain_formula before (copy ∷ []) ∙ ap₂ (λ gs g. gs ++ g ∷ []) begun same
          ∙ append_assoc all (kept (map f (take i xs))) ((f x).guard ∷ []) ∙ ap (λ z. all ++ z) (sym (taken true e))

      pub guard_passed : false ≡ test (f x) → after ≡ before → map plain_formula after ≡ all ++ kept (map f (take (i + 1) xs))
      guard_passed e is = ap (map plain_formula) is ∙ begun ∙ ap (λ z. all ++ z) (sym (taken false e ∙ append-nil (kept (map f (take i xs)))))

pub each_split : {X : Type 0} (P : X → Type 0) (xs ys : List X) → Each P (xs ++ ys) → Each P xs × Each P ys
each_split P [] ys a = (tt, a)
each_split P (x ∷ xs) ys a = let (b, c) = each_split P xs ys a.1 in ((a.0, b), c)

pub each_join : {X : Type 0} (P : X → Type 0) (xs ys : List X) → Each P xs → Each P ys → Each P (xs ++ ys)
each_join P [] ys a b = b
each_join P (x ∷ xs) ys a b = (a.0, each_join P xs ys a.1 b)

-- what holds of each guard holds of each that is kept
module _ {A : Type 0} (P : Formula A → Type 0) where
  one_kept : (b : Bool) (r : PlainRule A) (rs : List (PlainRule A)) → P r.guard → Each P (map (λ x. x.guard) rs) → Each P (map (λ x. x.guard) (cond b (r ∷ rs) rs))
  one_kept true r rs h k = (h, k)
  one_kept false r rs h k = k

  pub each_kept : (test : PlainRule A → Bool) (rs : List (PlainRule A)) → Each P (map (λ r. r.guard) rs) → Each P (map (λ r. r.guard) (filter test rs))
  each_kept test [] h = tt
  each_kept test (r ∷ rs) h = one_kept (test r) r (filter test rs) h.0 (each_kept test rs h.1)

module _ {A : Type 0} (F : A → Type 0) where
  state_fit : (rs : List (PlainRule A)) → All (λ r. EveryAtom F r.guard) rs → Each (EveryAtom F) (map (λ r. r.guard) rs)
  state_fit [] h = tt
  state_fit (r ∷ rs) h = (h 0 r (omega arith), state_fit rs (λ k d l. h (suc k) d (omega (arith, l))))

  pub each_fits : (rules : List (List (PlainRule A))) → GuardsFit F rules → Each (EveryAtom F) (all_guards rules)
  each_fits [] h = tt
  each_fits (rs ∷ rules) h = each_join (EveryAtom F) (map (λ r. r.guard) rs) (all_guards rules) (state_fit rs (h 0 rs (omega arith))) (each_fits rules (λ k d l. h (suc k) d (omega (arith, l))))
