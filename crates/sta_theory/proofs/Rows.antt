-- Sets of states as classes of languages.
use Rattle.std.proofs.Common.{ℕ, zero, suc, ◌+◌, ◌≡◌, ◌<◌, inl, inr, Bool, true, false, cond, ◌==◌, List, [], ◌∷◌, get_or, length, Contains, refl, sym, ap, ap₂, ◌∙◌, arith, eqb-true, eq-eqb}
use Rattle.std.proofs.lemmas.List.{length-map}
use Rattle.model_tree.specs.Tree.{Tree, node}
use Rattle.model_sta.specs.Automaton.{Rule, is_accepted}
use Rattle.model_sta.specs.Sets.{Each, Row, has, set_of}
use Rattle.model_sta.proofs.Sets.{set_is_accepted}
use Rattle.model_sta.specs.Operations.{Auto, Class, AreStates, HasAll, HasNone, IsClassOf, InOne, Alike, OfClasses}
use Rattle.sta_theory.proofs.Lists.{none_in, first_in, later_in}

-- the states of a set, and those not in it, the first being k
abbrev inside : ℕ → Row → List ℕ
inside k [] = []
inside k (b ∷ q) = cond b (k ∷ inside (suc k) q) (inside (suc k) q)

abbrev outside : ℕ → Row → List ℕ
outside k [] = []
outside k (b ∷ q) = cond b (outside (suc k) q) (k ∷ outside (suc k) q)

abbrev pub class_of : Row → Class
class_of q = record { inside = inside 0 q; outside = outside 0 q; other_inside = []; other_outside = [] }

-- one class for each set of block i
abbrev pub classes_of : (Row → ℕ) → ℕ → List Row → List Class
classes_of block i [] = []
classes_of block i (q ∷ known) = cond (block q == i) (class_of q ∷ classes_of block i known) (classes_of block i known)

pub rows_same : (p q : Row) → length p ≡ length q → ((s : ℕ) → s < length q → has p s ≡ has q s) → p ≡ q
rows_same [] [] e h = refl
rows_same [] (b ∷ q) e h = absurd (omega (arith, e))
rows_same (a ∷ p) [] e h = absurd (omega (arith, e))
rows_same (a ∷ p) (b ∷ q) e h = ap₂ (λ x xs. x ∷ xs) (h 0 (omega arith)) (rows_same p q (omega (arith, e)) (λ s low. h (suc s) (omega arith)))

pub set_long : {L : Type 0} (rules : List (List (Rule L))) (t : Tree L) → length (set_of rules t) ≡ length rules
set_long rules (node c l ts) = length-map rules _

module _ {L : Type 0} (a : Auto L) where
  inside_are : (k : ℕ) (q : Row) → k + length q ≡ length a.rules → AreStates a.rules (inside k q)
  inside_are k [] e = tt
  inside_are k (true ∷ q) e = (omega (arith, e), inside_are (suc k) q (omega (arith, e)))
  inside_are k (false ∷ q) e = inside_are (suc k) q (omega (arith, e))

  outside_are : (k : ℕ) (q : Row) → k + length q ≡ length a.rules → AreStates a.rules (outside k q)
  outside_are k [] e = tt
  outside_are k (true ∷ q) e = outside_are (suc k) q (omega (arith, e))
  outside_are k (false ∷ q) e = (omega (arith, e), outside_are (suc k) q (omega (arith, e)))

  module _ (t : Tree L) where
    abbrev Agrees : ℕ → Row → Type 0
    Agrees k q = (s : ℕ) → s < length q → is_accepted a.rules t (k + s) ≡ has q s

    agrees_more : (k : ℕ) (b : Bool) (q : Row) → is_accepted a.rules t k ≡ b → Agrees (suc k) q → Agrees k (b ∷ q)
    agrees_more k b q here later zero low = ap (is_accepted a.rules t) (let e : k + 0 ≡ k = omega arith in e) ∙ here
    agrees_more k b q here later (suc s) low = ap (is_accepted a.rules t) (let e : k + suc s ≡ suc k + s = omega arith in e) ∙ later s (omega arith)

    agrees_rest : (k : ℕ) (b : Bool) (q : Row) → Agrees k (b ∷ q) → Agrees (suc k) q
    agrees_rest k b q h s low = ap (is_accepted a.rules t) (let e : suc k + s ≡ k + suc s = omega arith in e) ∙ h (suc s) (omega arith)

    agrees_here : (k : ℕ) (b : Bool) (q : Row) → Agrees k (b ∷ q) → is_accepted a.rules t k ≡ b
    agrees_here k b q h = ap (is_accepted a.rules t) (let e : k ≡ k + 0 = omega arith in e) ∙ h 0 (omega arith)

    is_false : (b : Bool) → ¬ (b ≡ true) → b ≡ false
    is_false true none = absurd (none refl)
    is_false false none = refl

    to_agrees : (k : ℕ) (q : Row) → HasAll a.rules (inside k q) t → HasNone a.rules (outside k q) t → Agrees k q
    to_agrees k [] h none = λ s low. absurd (omega arith)
    to_agrees k (true ∷ q) h none = agrees_more k true q h.0 (to_agrees (suc k) q h.1 none)
    to_agrees k (false ∷ q) h none = agrees_more k false q (is_false (is_accepted a.rules t k) none.0) (to_agrees (suc k) q h none.1)

    all_inside : (k : ℕ) (q : Row) → Agrees k q → HasAll a.rules (inside k q) t
    all_inside k [] h = tt
    all_inside k (true ∷ q) h = (agrees_here k true q h, all_inside (suc k) q (agrees_rest k true q h))
    all_inside k (false ∷ q) h = all_inside (suc k) q (agrees_rest k false q h)

    none_outside : (k : ℕ) (q : Row) → Agrees k q → HasNone a.rules (outside k q) t
    none_outside k [] h = tt
    none_outside k (true ∷ q) h = none_outside (suc k) q (agrees_rest k true q h)
    none_outside k (false ∷ q) h = ((λ e. cc (agrees_here k false q h, e)), none_outside (suc k) q (agrees_rest k false q h))

    -- a tree of the class has the set
    set_from_class : (q : Row) → length q ≡ length a.rules → HasAll a.rules (inside 0 q) t → HasNone a.rules (outside 0 q) t → set_of a.rules t ≡ q
    set_from_class q long h none =
        rows_same (set_of a.rules t) q (set_long a.rules t ∙ sym long)
        (λ s low. set_is_accepted a.rules t s ∙ ap (is_accepted a.rules t) (let e : s ≡ 0 + s = omega arith in e) ∙ to_agrees 0 q h none s low)

    class_from_set : (q : Row) → set_of a.rules t ≡ q → Agrees 0 q
    class_from_set q is s low = ap (is_accepted a.rules t) (let e : 0 + s ≡ s = omega arith in e) ∙ sym (set_is_accepted a.rules t s) ∙ ap (λ p. has p s) is

  module _ (block : Row → ℕ) (i : ℕ) where
    are_classes : (known : List Row) → ((q : Row) → Contains known q → length q ≡ length a.rules) → Each (IsClassOf a.rules a.rules) (classes_of block i known)
    are_classes [] long = tt
    are_classes (q ∷ known) long = chosen (block q == i) (inside_are 0 q (omega (arith, long q (first_in q known))), outside_are 0 q (omega (arith, long q (first_in q known))), tt, tt) (are_classes known (λ r at. long r (later_in q r known at)))
      where
        chosen : (b : Bool) → (AreStates a.rules (inside 0 q) × AreStates a.rules (outside 0 q) × Unit {0} × Unit {0}) → Each (IsClassOf a.rules a.rules) (classes_of block i known) → Each (IsClassOf a.rules a.rules) (cond b (class_of q ∷ classes_of block i known) (classes_of block i known))
        chosen true x xs = (x, xs)
        chosen false x xs = xs

    module _ (t : Tree L) where
      abbrev IsIn : Row → Type 0
      IsIn q = (block q ≡ i) × (set_of a.rules t ≡ q)

      in_class : (known : List Row) → ((q : Row) → Contains known q → length q ≡ length a.rules) → InOne a.rules a.rules (classes_of block i known) t → (q : Row) × Contains known q × IsIn q
      in_class [] long h = absurd h
      in_class (q ∷ known) long h = found (λ later. (let (r, at, is) = in_class known (λ r at. long r (later_in q r known at)) later in (r, later_in q r known at, is))) (block q == i) refl h
        where
          found : (InOne a.rules a.rules (classes_of block i known) t → (r : Row) × Contains (q ∷ known) r × IsIn r) → (b : Bool) → (block q == i) ≡ b → InOne a.rules a.rules (cond b (class_of q ∷ classes_of block i known) (classes_of block i known)) t → (r : Row) × Contains (q ∷ known) r × IsIn r
          found old true e (inl x) = (q, first_in q known, (eqb-true (block q) i e, set_from_class t q (long q (first_in q known)) x.0 x.1))
          found old true e (inr later) = old later
          found old false e later = old later

      -- and each tree with one of the sets is in a class
      class_in : (known : List Row) (q : Row) → Contains known q → IsIn q → InOne a.rules a.rules (classes_of block i known) t
      class_in [] q at is = absurd (none_in q at)
      class_in (r ∷ known) q at is = go (λ later. class_in known q later is) at.0 at.1 at.2
        where
          here : (b : Bool) → (block r == i) ≡ b → r ≡ q → InOne a.rules a.rules (cond b (class_of r ∷ classes_of block i known) (classes_of block i known)) t
          here true e same = (let agrees : Agrees t 0 r = class_from_set t r (is.1 ∙ sym same) in inl (all_inside t 0 r agrees, none_outside t 0 r agrees, tt, tt))
          here false e same = absurd (cc (e, eq-eqb (block r) i (ap block same ∙ is.0)))

          later : (b : Bool) → InOne a.rules a.rules (classes_of block i known) t → InOne a.rules a.rules (cond b (class_of r ∷ classes_of block i known) (classes_of block i known)) t
          later true h = inr h
          later false h = h

          go : (Contains known q → InOne a.rules a.rules (classes_of block i known) t) → (k : ℕ) → k < suc (length known) → get_or (r ∷ known) k q ≡ q → InOne a.rules a.rules (cond (block r == i) (class_of r ∷ classes_of block i known) (classes_of block i known)) t
          go old zero low e = here (block r == i) refl e
          go old (suc k) low e = later (block r == i) (old (k, omega arith, e))

    -- the trees of a block are those of its classes
    pub of_block : (Typed : Tree L → Type 0) (known : List Row) (P : Tree L → Type 0) → ((q : Row) → Contains known q → length q ≡ length a.rules) → ((t : Tree L) → Typed t → Contains known (set_of a.rules t))
        → Alike Typed P (λ t. block (set_of a.rules t) ≡ i) → OfClasses Typed a.rules a.rules P
    of_block Typed known P long complete same = (
      classes_of block i known,
      are_classes known long,
      λ t typed. (
        (λ p. class_in t known (set_of a.rules t) (complete t typed) ((same t typed).0 p, refl)),
        (λ h. (let (q, at, is) = in_class t known long h in (same t typed).1 (ap block is.1 ∙ is.0))),
      ),
    )
