-- What is known of a formula is true, and where all its atoms are known, so is it.
use Rattle.std.proofs.Common.{◌≡◌, Bool, true, false, not, ◌&&◌, ◌||◌, Option, Some, None, IsSome, IfSome, List, [], ◌∷◌, All, map, length, ℕ, zero, suc, ◌+◌, refl, sym, ap, ap₂, ◌∙◌, arith, get_or, take, drop, ◌++◌, ◌<◌, ◌≤◌, subst}
use mathlib.Core.Bool.{beq}
use Rattle.std.proofs.lemmas.List.{take_more, at_drop_more, map-append, take_all}
use Rattle.std.proofs.lemmas.List.Elements.{All-nil, All-cons, All-append}
use Rattle.model_tree.specs.Formula as plain
use Rattle.model_tree.specs.Formula.{yes, no, atom, negation, all_of, some_of, no_formulas, formula, formulas_of, formula_holds, all_hold, some_hold, EveryAtom, EveryAtomOfAll}
use Rattle.label_core.specs.Formula.{plain_formula}
use Rattle.label_core.specs.declared.formula.Formula.{Formula}
use Rattle.label_split.specs.Known.{denied, if_false, if_true, both, either, formula_known, all_known, some_known, Agrees, known_at, truth_at, Follows, holds_at, settled}
use Rattle.label_split.specs.Numbers.{HaveSigns, IsUnsettled, IsWrong}

agrees_not : (x : Option Bool) (b : Bool) → Agrees x b → Agrees (denied x) (not b)
agrees_not None b h = tt
agrees_not (Some a) b h = ap not h

agrees_if_false : (y : Option Bool) (b c : Bool) → Agrees y c → Agrees (if_false y) (b && c)
agrees_if_false None b c h = tt
agrees_if_false (Some true) b c h = tt
agrees_if_false (Some false) true c h = h
agrees_if_false (Some false) false c h = refl

agrees_if_true : (y : Option Bool) (b c : Bool) → Agrees y c → Agrees (if_true y) (b || c)
agrees_if_true None b c h = tt
agrees_if_true (Some true) true c h = refl
agrees_if_true (Some true) false c h = h
agrees_if_true (Some false) b c h = tt

agrees_both : (x y : Option Bool) (b c : Bool) → Agrees x b → Agrees y c → Agrees (both x y) (b && c)
agrees_both None y b c h i = agrees_if_false y b c i
agrees_both (Some true) y true c h i = i
agrees_both (Some true) y false c h i = cc
agrees_both (Some false) y true c h i = cc
agrees_both (Some false) y false c h i = refl

agrees_either : (x y : Option Bool) (b c : Bool) → Agrees x b → Agrees y c → Agrees (either x y) (b || c)
agrees_either None y b c h i = agrees_if_true y b c i
agrees_either (Some true) y true c h i = refl
agrees_either (Some true) y false c h i = cc
agrees_either (Some false) y true c h i = cc
agrees_either (Some false) y false c h i = i

module _ {A : Type 0} (k : A → Option Bool) (h : A → Bool) (follows : (a : A) → Agrees (k a) (h a)) where
  mutual
    pub known_is_true : (f : plain.Formula A) → Agrees (formula_known k f) (formula_holds h f)
    known_is_true yes = refl
    known_is_true no = refl
    known_is_true (atom a) = follows a
    known_is_true (negation f) = agrees_not (formula_known k f) (formula_holds h f) (known_is_true f)
    known_is_true (all_of fs) = known_of_all fs
    known_is_true (some_of fs) = known_of_some fs

    known_of_all : (fs : plain.Formulas A) → Agrees (all_known k fs) (all_hold h fs)
    known_of_all no_formulas = refl
    known_of_all (formula f fs) = agrees_both (formula_known k f) (all_known k fs) (formula_holds h f) (all_hold h fs) (known_is_true f) (known_of_all fs)

    known_of_some : (fs : plain.Formulas A) → Agrees (some_known k fs) (some_hold h fs)
    known_of_some no_formulas = refl
    known_of_some (formula f fs) = agrees_either (formula_known k f) (some_known k fs) (formula_holds h f) (some_hold h fs) (known_is_true f) (known_of_some fs)

pub some_not : (x : Option Bool) → IsSome x → IsSome (denied x)
some_not None h = h
some_not (Some a) h = h

some_both : (x y : Option Bool) → IsSome x → IsSome y → IsSome (both x y)
some_both None y h i = cc
some_both (Some true) y h i = i
some_both (Some false) y h i = h

some_either : (x y : Option Bool) → IsSome x → IsSome y → IsSome (either x y)
some_either None y h i = cc
some_either (Some true) y h i = h
some_either (Some false) y h i = i

module _ {A : Type 0} (k : A → Option Bool) where
  mutual
    pub known_in_full : (f : plain.Formula A) → EveryAtom (λ a. IsSome (k a)) f → IsSome (formula_known k f)
    known_in_full yes h = refl
    known_in_full no h = refl
    known_in_full (atom a) h = h
    known_in_full (negation f) h = some_not (formula_known k f) (known_in_full f h)
    known_in_full (all_of fs) h = all_in_full fs h
    known_in_full (some_of fs) h = some_in_full fs h

    all_in_full : (fs : plain.Formulas A) → EveryAtomOfAll (λ a. IsSome (k a)) fs → IsSome (all_known k fs)
    all_in_full no_formulas h = refl
    all_in_full (formula f fs) h = some_both (formula_known k f) (all_known k fs) (known_in_full f h.0) (all_in_full fs h.1)

    some_in_full : (fs : plain.Formulas A) → EveryAtomOfAll (λ a. IsSome (k a)) fs → IsSome (some_known k fs)
    some_in_full no_formulas h = refl
    some_in_full (formula f fs) h = some_either (formula_known k f) (some_known k fs) (known_in_full f h.0) (some_in_full fs h.1)

-- parts that are all settled
pub all_settled : {A : Type 0} (k : A → Option Bool) (fs : List (Formula A)) → All (λ f. IsSome (formula_known k (plain_formula f))) fs → IsSome (all_known k (formulas_of (map plain_formula fs)))
all_settled k [] h = refl
all_settled k (f ∷ fs) h = some_both (formula_known k (plain_formula f)) (all_known k (formulas_of (map plain_formula fs))) (h 0 f (omega arith)) (all_settled k fs (λ i d b. h (suc i) d (omega (arith, b))))

pub some_settled : {A : Type 0} (k : A → Option Bool) (fs : List (Formula A)) → All (λ f. IsSome (formula_known k (plain_formula f))) fs → IsSome (some_known k (formulas_of (map plain_formula fs)))
some_settled k [] h = refl
some_settled k (f ∷ fs) h = some_either (formula_known k (plain_formula f)) (some_known k (formulas_of (map plain_formula fs))) (h 0 f (omega arith)) (some_settled k fs (λ i d b. h (suc i) d (omega (arith, b))))

-- a formula that is settled has that truth value
pub settled_holds : (known : List (Option Bool)) (truths : List Bool) (f : Formula ℕ) (b : Bool) → settled known f ≡ Some b → Follows known truths → holds_at truths f ≡ b
settled_holds known truths f b e follows = sym (subst (λ x. Agrees x (holds_at truths f)) e (known_is_true (known_at known) (truth_at truths) follows (plain_formula f)))

-- a settled formula that isn't settled to have the truth value never has it
pub never_holds : (known : List (Option Bool)) (truths : List Bool) (f : Formula ℕ) (b : Bool) → IsSome (settled known f) → ¬ (settled known f ≡ Some b) → Follows known truths → ¬ (holds_at truths f ≡ b)
never_holds known truths f b some other follows e = by (settled known f) refl some
  where
    by : (x : Option Bool) → settled known f ≡ x → IsSome x → ⊥
    by None is s = cc
    by (Some c) is s = other (is ∙ ap Some (sym (settled_holds known truths f c is follows) ∙ e))

-- what the signs of a list say of one formula
pub sign_at : (formulas : List (Formula ℕ)) (signs truths : List Bool) (k : ℕ) (f : Formula ℕ) → k < length formulas → f ≡ get_or formulas k f → HaveSigns formulas signs truths → holds_at truths f ≡ get_or signs k false
sign_at [] signs truths k f low is h = absurd (omega arith)
sign_at (g ∷ gs) [] truths k f low is h = cc
sign_at (g ∷ gs) (b ∷ bs) truths zero f low is h =
    let first : holds_at truths g ≡ b = cc in ap (holds_at truths) is ∙ first
sign_at (g ∷ gs) (b ∷ bs) truths (suc k) f low is h =
    let others : HaveSigns gs bs truths = cc in sign_at gs bs truths k f (omega arith) is others

pub same_bools : (a b : Bool) → beq a b ≡ true → a ≡ b
same_bools true true h = refl
same_bools true false h = cc
same_bools false true h = cc
same_bools false false h = refl

pub other_bools : (a b : Bool) → beq a b ≡ false → ¬ (a ≡ b)
other_bools true true h e = cc
other_bools true false h e = cc
other_bools false true h e = cc
other_bools false false h e = cc

pub not_other : (a b : Bool) → not (beq a b) ≡ false → a ≡ b
not_other true true h = refl
not_other true false h = cc
not_other false true h = cc
not_other false false h = refl

pub not_same : (a b : Bool) → not (beq a b) ≡ true → ¬ (a ≡ b)
not_same true true h e = cc
not_same true false h e = cc
not_same false true h e = cc
not_same false false h e = cc

-- a formula that has another sign isn't settled to have its own
pub unsettled_by_wrong : (formulas : List (Formula ℕ)) (signs : List Bool) (known : List (Option Bool)) (truths : List Bool) (k : ℕ) → Follows known truths → IsWrong formulas signs truths k → IsUnsettled formulas signs known k
unsettled_by_wrong formulas signs known truths k follows wrong = record {
  low = wrong.low;
  unsettled = λ d e. wrong.other d (settled_holds known truths (get_or formulas k d) (get_or signs k false) e follows);
}

-- one more formula has its sign
pub signs_further : (truths : List Bool) (fs : List (Formula ℕ)) (bs : List Bool) (i : ℕ) (f : Formula ℕ) → i < length fs → length bs ≡ length fs → f ≡ get_or fs i f → holds_at truths f ≡ get_or bs i false → HaveSigns (take i fs) (take i bs) truths → HaveSigns (take (i + 1) fs) (take (i + 1) bs) truths
signs_further truths fs bs i f low same is s h =
    let low' : i < length bs = omega arith in
    ap (map (holds_at truths)) (take_more fs i f low ∙ ap (λ g. take i fs ++ g ∷ []) (sym is)) ∙ map-append (holds_at truths) (take i fs) (f ∷ []) ∙ ap₂ (λ xs x. xs ++ x ∷ []) h s ∙ sym (take_more bs i false low')

-- formulas that have their signs, and the one before them
pub signs_before : (truths : List Bool) (fs : List (Formula ℕ)) (bs : List Bool) (k i : ℕ) (f : Formula ℕ) → k + 1 ≡ i → i ≤ length fs → length bs ≡ length fs → f ≡ get_or fs k f → holds_at truths f ≡ get_or bs k false → HaveSigns (drop i fs) (drop i bs) truths → HaveSigns (drop k fs) (drop k bs) truths
signs_before truths fs bs k i f next low same is s h =
    let here : k < length fs = omega arith in
    let here' : k < length bs = omega arith in
    let rest : HaveSigns (drop (k + 1) fs) (drop (k + 1) bs) truths = subst (λ n. HaveSigns (drop n fs) (drop n bs) truths) (sym next) h in
    ap (map (holds_at truths)) (at_drop_more (λ us. us) fs k f here ∙ ap (λ g. g ∷ drop (k + 1) fs) (sym is)) ∙ ap₂ (λ x xs. x ∷ xs) s rest ∙ sym (at_drop_more (λ us. us) bs k false here')

-- what holds of the first elements and of the next
pub all_further : {X : Type 0} (P : X → Type 0) (xs : List X) (i : ℕ) (x : X) → i < length xs → x ≡ get_or xs i x → All P (take i xs) → P x → All P (take (i + 1) xs)
all_further P xs i x low is h p = subst (All P) (sym (take_more xs i x low ∙ ap (λ y. take i xs ++ y ∷ []) (sym is))) (All-append P (take i xs) (x ∷ []) h (All-cons P x [] p (All-nil P)))

pub all_taken : {X : Type 0} (P : X → Type 0) (xs : List X) (i : ℕ) → length xs ≤ i → All P (take i xs) → All P xs
all_taken P xs i high h = subst (All P) (take_all i xs high) h

pub copied : {X : Type 0} (xs : List X) (n : ℕ) (x y : X) → x ≡ y → y ≡ get_or xs n y → x ≡ get_or xs n x
copied xs n x y e is = e ∙ is ∙ ap (get_or xs n) (sym e)

pub some_as : {X : Type 0} (P Q : X → Type 0) → ((x : X) → P x → Q x) → (o : Option X) → IfSome o P → IfSome o Q
some_as P Q to None h = tt
some_as P Q to (Some x) h = to x h
