-- What follows for atoms from what formulas are.
use Rattle.std.proofs.Common.{◌≡◌, ◌≢◌, Bool, true, false, not, ◌&&◌, ◌||◌, Option, Some, None, IsSome, List, [], ◌∷◌, All, length, ℕ, zero, suc, ◌<◌, ◌⊎◌, inl, inr, refl, sym, ap, ◌∙◌, subst, get_or, arith, Box, Vec, Global}
use mathlib.Core.Bool.{beq}
use Rattle.std.proofs.Math.ListN.{set}
use Rattle.std.proofs.lemmas.List.{length-set, get_or-map, get_or-set_same, get_or-set_other}
use Rattle.std.specs.List.{list_all, list_any}
use Rattle.std.proofs.lemmas.Bool.{cases_eq}
use Rattle.model_tree.specs.Label.{Label}
use Rattle.model_tree.specs.Formula.{formula_holds}
use Rattle.label_core.specs.declared.formula.Formula.{Formula}
use Rattle.label_core.specs.declared.formula.Formula.TheVariants.{Atom, Not, And, Or}
use Rattle.label_core.proofs.Formulas.{not_of, and_of, or_of, all_hold_of_list, some_hold_of_list}
use Rattle.label_split.specs.Known.{Agrees, known_at, truth_at, Follows, holds_at, joined, Forces, IsOnly}
use Rattle.label_split.specs.Numbers.{truths_at, HaveSigns, IsWrong}
use Rattle.label_split.proofs.Truths.{settled_holds, sign_at, not_same}

pub forces_none : (P : List Bool → Type 0) (known : List (Option Bool)) → Forces P known known
forces_none P known = record { many = refl; grown = λ i s. refl; follow = λ truths p h. h }

pub forces_more : (P : List Bool → Type 0) (a b c : List (Option Bool)) → Forces P a b → Forces P b c → Forces P a c
forces_more P a b c f g = record {
  many = g.many ∙ f.many;
  grown = λ i s. g.grown i (subst IsSome (sym (f.grown i s)) s) ∙ f.grown i s;
  follow = λ truths p h. g.follow truths p (f.follow truths p h);
}

pub forces_by : (P Q : List Bool → Type 0) (a b : List (Option Bool)) → ((truths : List Bool) → P truths → Follows a truths → Q truths) → Forces Q a b → Forces P a b
forces_by P Q a b to f = record { many = f.many; grown = f.grown; follow = λ truths p h. f.follow truths (to truths p h) h }

-- what a formula says where it has its sign
pub forces_sign : (formulas : List (Formula ℕ)) (signs : List Bool) (k : ℕ) (f : Formula ℕ) → k < length formulas → f ≡ get_or formulas k f → (old new : List (Option Bool)) → Forces (λ truths. holds_at truths (get_or formulas k f) ≡ get_or signs k false) old new → Forces (HaveSigns formulas signs) old new
forces_sign formulas signs k f low is old new = forces_by (HaveSigns formulas signs) (λ truths. holds_at truths (get_or formulas k f) ≡ get_or signs k false) old new (λ truths have follows. ap (holds_at truths) (sym is) ∙ sign_at formulas signs truths k f low is have)

some_none : (x : Option Bool) → x ≡ None → ¬ IsSome x
some_none None e s = cc
some_none (Some b) e s = cc

module _ (P : List Bool → Type 0) (known : List (Option Bool)) (k : ℕ) (b : Bool) (low : k < length known) (unknown : known_at known k ≡ None) where
  one_grown : (i : ℕ) → (i ≡ k) ⊎ (i ≢ k) → IsSome (known_at known i) → known_at (set known k (Some b)) i ≡ known_at known i
  one_grown i (inl e) s = let none : known_at known i ≡ None = ap (known_at known) e ∙ unknown in absurd (some_none (known_at known i) none s)
  one_grown i (inr n) s = get_or-set_other known k i (Some b) None n

  one_follows : (truths : List Bool) → truth_at truths k ≡ b → Follows known truths → (i : ℕ) → (i ≡ k) ⊎ (i ≢ k) → Agrees (known_at (set known k (Some b)) i) (truth_at truths i)
  one_follows truths t f i (inl e) = subst (λ x. Agrees x (truth_at truths i)) (sym (ap (known_at (set known k (Some b))) e ∙ get_or-set_same known k (Some b) None low)) (sym t ∙ ap (truth_at truths) (sym e))
  one_follows truths t f i (inr n) = subst (λ x. Agrees x (truth_at truths i)) (sym (get_or-set_other known k i (Some b) None n)) (f i)

  pub forces_one : ((truths : List Bool) → P truths → truth_at truths k ≡ b) → Forces P known (set known k (Some b))
  forces_one to = record {
    many = length-set known k (Some b);
    grown = λ i s. one_grown i (cases_eq i k) s;
    follow = λ truths p f. λ i. one_follows truths (to truths p) f i (cases_eq i k);
  }

and_left : (a b : Bool) → (a && b) ≡ true → a ≡ true
and_left true b e = refl
and_left false b e = cc

and_right : (a b : Bool) → (a && b) ≡ true → b ≡ true
and_right true b e = e
and_right false b e = cc

or_left : (a b : Bool) → (a || b) ≡ false → a ≡ false
or_left true b e = cc
or_left false b e = refl

or_right : (a b : Bool) → (a || b) ≡ false → b ≡ false
or_right true b e = cc
or_right false b e = e

-- parts that are all neutral
pub each_of_joined : (value : Bool) (truths : List Bool) (fs : List (Formula ℕ)) (k : ℕ) (f : Formula ℕ) → k < length fs → f ≡ get_or fs k f → joined value truths fs ≡ value → holds_at truths f ≡ value
each_of_joined value truths [] k f low is e = absurd (omega arith)
each_of_joined true truths (g ∷ gs) zero f low is e = ap (holds_at truths) is ∙ and_left (holds_at truths g) (list_all (holds_at truths) gs) e
each_of_joined false truths (g ∷ gs) zero f low is e = ap (holds_at truths) is ∙ or_left (holds_at truths g) (list_any (holds_at truths) gs) e
each_of_joined true truths (g ∷ gs) (suc k) f low is e = each_of_joined true truths gs k f (omega arith) is (and_right (holds_at truths g) (list_all (holds_at truths) gs) e)
each_of_joined false truths (g ∷ gs) (suc k) f low is e = each_of_joined false truths gs k f (omega arith) is (or_right (holds_at truths g) (list_any (holds_at truths) gs) e)

-- where all parts have the neutral value, so has the whole
all_joined : (value : Bool) (truths : List Bool) (fs : List (Formula ℕ)) → All (λ f. holds_at truths f ≡ value) fs → joined value truths fs ≡ value
all_joined true truths [] h = refl
all_joined false truths [] h = refl
all_joined true truths (f ∷ fs) h = λ i. h 0 f (omega arith) i && all_joined true truths fs (λ k d b. h (suc k) d (omega (arith, b))) i
all_joined false truths (f ∷ fs) h = λ i. h 0 f (omega arith) i || all_joined false truths fs (λ k d b. h (suc k) d (omega (arith, b))) i

only_one : (a value : Bool) → ¬ (a ≡ value) → a ≡ not value
only_one true true n = absurd (n refl)
only_one true false n = refl
only_one false true n = refl
only_one false false n = absurd (n refl)

pub same_default : {X : Type 0} (xs : List X) (k : ℕ) (d e : X) → k < length xs → get_or xs k d ≡ get_or xs k e
same_default [] k d e l = absurd (omega arith)
same_default (x ∷ xs) zero d e l = refl
same_default (x ∷ xs) (suc k) d e l = same_default xs k d e (omega arith)

-- where the whole has the other value, and all parts but one the neutral one, that part has the other
pub only_of_joined : (value holds : Bool) (truths : List Bool) (known : List (Option Bool)) (fs : List (Formula ℕ)) (k : ℕ) (f : Formula ℕ) → IsOnly known value fs k → f ≡ get_or fs k f → ¬ (holds ≡ value) → Follows known truths → joined value truths fs ≡ holds → holds_at truths f ≡ not value
only_of_joined value holds truths known fs k f only is differs follows e =
    only_one (holds_at truths f) value (λ here. differs (sym e ∙ all_joined value truths fs (λ m d low. by here m d low (cases_eq m k))))
  where
    by : holds_at truths f ≡ value → (m : ℕ) (d : Formula ℕ) → m < length fs → (m ≡ k) ⊎ (m ≢ k) → holds_at truths (get_or fs m d) ≡ value
    by here m d low (inl e) = ap (holds_at truths) (ap (λ n. get_or fs n d) e ∙ same_default fs k d f only.low ∙ sym is) ∙ here
    by here m d low (inr n) = settled_holds known truths (get_or fs m d) value (only.others m d low n) follows

-- what a formula says by its parts
pub forces_and : (holds : Bool) (f : Formula ℕ) (v : Vec (Formula ℕ) Global) (fs : List (Formula ℕ)) → f ≡ And v → fs ≡ v.items → (a b : List (Option Bool)) → Forces (λ truths. joined true truths fs ≡ holds) a b → Forces (λ truths. holds_at truths f ≡ holds) a b
forces_and holds f v fs is same a b = forces_by (λ truths. holds_at truths f ≡ holds) (λ truths. joined true truths fs ≡ holds) a b (λ truths e follows. sym (all_hold_of_list (truth_at truths) fs) ∙ ap (formula_holds (truth_at truths)) (and_of f v fs is same) ∙ e)

pub forces_or : (holds : Bool) (f : Formula ℕ) (v : Vec (Formula ℕ) Global) (fs : List (Formula ℕ)) → f ≡ Or v → fs ≡ v.items → (a b : List (Option Bool)) → Forces (λ truths. joined false truths fs ≡ holds) a b → Forces (λ truths. holds_at truths f ≡ holds) a b
forces_or holds f v fs is same a b = forces_by (λ truths. holds_at truths f ≡ holds) (λ truths. joined false truths fs ≡ holds) a b (λ truths e follows. sym (some_hold_of_list (truth_at truths) fs) ∙ ap (formula_holds (truth_at truths)) (or_of f v fs is same) ∙ e)

pub forces_not : (holds : Bool) (f : Formula ℕ) (b : Box (Formula ℕ) Global) (g : Formula ℕ) → f ≡ Not b → g ≡ b.value → (a c : List (Option Bool)) → Forces (λ truths. holds_at truths g ≡ not holds) a c → Forces (λ truths. holds_at truths f ≡ holds) a c
forces_not holds f b g is same a c = forces_by (λ truths. holds_at truths f ≡ holds) (λ truths. holds_at truths g ≡ not holds) a c (λ truths e follows. turned (holds_at truths g) holds (ap (formula_holds (truth_at truths)) (not_of f b g is same) ∙ e))
  where
    turned : (x y : Bool) → not x ≡ y → x ≡ not y
    turned true true e = cc
    turned true false e = refl
    turned false true e = refl
    turned false false e = cc

-- what was put down isn't both
pub true_isnt_false : {X : Type 0} → true ≡ false → X
true_isnt_false e = absurd (cc)

-- a formula whose truth value isn't its sign
pub is_wrong : (formulas : List (Formula ℕ)) (signs truths : List Bool) (k : ℕ) (f : Formula ℕ) (b : Bool) → k < length formulas → f ≡ get_or formulas k f → b ≡ holds_at truths f → not (beq b (get_or signs k false)) ≡ true → IsWrong formulas signs truths k
is_wrong formulas signs truths k f b low is holds differs = record {
  low = low;
  other = λ d e. not_same b (get_or signs k false) differs (holds ∙ ap (holds_at truths) (is ∙ same_default formulas k f d low) ∙ e);
}

-- the truth value of an atom
pub holds_inside : {A : Type 0} (holds : A → Label → Bool) (atoms : List A) (l : Label) (f : Formula ℕ) (i : ℕ) (a : A) (b : Bool) → f ≡ Atom i → i < length atoms → a ≡ get_or atoms i a → b ≡ holds a l → b ≡ holds_at (truths_at holds atoms l) f
holds_inside holds atoms l f i a b is low at e = e ∙ ap (λ x. holds x l) at ∙ sym (get_or-map (λ x. holds x l) atoms i a false low) ∙ ap (holds_at (truths_at holds atoms l)) (sym is)
