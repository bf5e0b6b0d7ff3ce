-- More sets than some number are more trees that states tell apart.
use Rattle.std.proofs.Common.{ℕ, zero, suc, ◌≡◌, ◌<◌, true, false, List, [], ◌∷◌, get_or, length, All, refl, sym, ap, ◌∙◌, arith}
use Rattle.std.proofs.lemmas.List.{length-map}
use Rattle.std.proofs.lemmas.List.Elements.{All-nil, All-cons, All-head, All-tail}
use Rattle.model_tree.specs.Tree.{Tree, node}
use Rattle.model_sta.specs.Automaton.{Rule}
use Rattle.model_sta.specs.Sets.{Row, has, set_of, Fits}
use Rattle.model_sta.specs.Reached.{Apart, IsReached, HasMoreSets}
use Rattle.model_sta.specs.EachTwo.{EachTwo}
use Rattle.model_sta.specs.Told.{AreTold, HasMoreApart}
use Rattle.model_sta.proofs.Sets.{set_is_accepted}

-- two sets that are not one differ in some state
differing : (p q : Row) → length p ≡ length q → ¬ (p ≡ q) → (k : ℕ) × (k < length p) × ¬ (has p k ≡ has q k)
differing [] [] long other = absurd (other refl)
differing [] (b ∷ q) long other = absurd (omega (arith, long))
differing (a ∷ p) [] long other = absurd (omega (arith, long))
differing (true ∷ p) (false ∷ q) long other = (0, omega arith, λ e. cc)
differing (false ∷ p) (true ∷ q) long other = (0, omega arith, λ e. cc)
differing (true ∷ p) (true ∷ q) long other = let (k, low, differ) = differing p q (omega (arith, long)) (λ e. other (ap (λ r. true ∷ r) e)) in (suc k, omega (arith, low), differ)
differing (false ∷ p) (false ∷ q) long other = let (k, low, differ) = differing p q (omega (arith, long)) (λ e. other (ap (λ r. false ∷ r) e)) in (suc k, omega (arith, low), differ)

module _ {L : Type 0} (rules : List (List (Rule L))) where
  pub set_long : (t : Tree L) → length (set_of rules t) ≡ length rules
  set_long (node c l ts) = length-map rules _

  sets_told : (s t : Tree L) → ¬ (set_of rules s ≡ set_of rules t) → AreTold rules s t
  sets_told s t other =
      let (k, low, differ) = differing (set_of rules s) (set_of rules t) (set_long s ∙ sym (set_long t)) other in
      (k, omega (arith, low, set_long s), λ e. differ (set_is_accepted rules s k ∙ e ∙ sym (set_is_accepted rules t k)))

module _ {L : Type 0} (ranks : List ℕ) (D : L → Type 0) (rules : List (List (Rule L))) where
  -- a tree for each set
  record Shown (qs : List Row) : Type 0 where
    trees : List (Tree L)
    many : length trees ≡ length qs
    fit : All (Fits ranks D) trees
    sets : (k : ℕ) → k < length trees → (d : Tree L) → set_of rules (get_or trees k d) ≡ get_or qs k []
    told : EachTwo (AreTold rules) trees

  shown : (qs : List Row) → All (IsReached ranks D rules) qs → Apart qs → Shown qs
  shown [] reached apart = record { trees = []; many = refl; fit = All-nil (Fits ranks D); sets = λ k low. absurd (omega arith); told = tt }
  shown (q ∷ qs) reached apart =
      let (t, fits, is) = All-head (IsReached ranks D rules) q qs reached in
      let more : Shown qs = shown qs (All-tail (IsReached ranks D rules) q qs reached) (λ i j less low. apart (suc i) (suc j) (omega arith) (omega arith)) in
      record {
        trees = t ∷ more.trees;
        many = ap suc more.many;
        fit = All-cons (Fits ranks D) t more.trees fits more.fit;
        sets = sets_more t q more.trees qs is more.sets;
        told = (
          (λ k d low. sets_told rules t (get_or more.trees k d) (λ e. apart 0 (suc k) (omega arith) (omega (arith, low, more.many)) (sym is ∙ e ∙ more.sets k low d))),
          more.told,
        );
      }
    where
      sets_more : (t : Tree L) (q : Row) (ts : List (Tree L)) (qs : List Row) → set_of rules t ≡ q → ((k : ℕ) → k < length ts → (d : Tree L) → set_of rules (get_or ts k d) ≡ get_or qs k [])
          → (k : ℕ) → k < length (t ∷ ts) → (d : Tree L) → set_of rules (get_or (t ∷ ts) k d) ≡ get_or (q ∷ qs) k []
      sets_more t q ts qs is h zero low d = is
      sets_more t q ts qs is h (suc k) low d = h k (omega arith) d

  pub more_told : (most : ℕ) → HasMoreSets ranks D rules most → HasMoreApart (Fits ranks D) (AreTold rules) most
  more_told most (qs, are, more) =
      let all : Shown qs = shown qs are.reached are.apart in
      record { trees = all.trees; typed = all.fit; apart = all.told; more = omega (arith, more, all.many) }
