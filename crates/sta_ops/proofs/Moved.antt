-- Rules where states have other numbers, or the same.
use Rattle.std.proofs.Common.{ℕ, zero, suc, ◌≡◌, ◌<◌, ◌+◌, Vec, List, [], ◌∷◌, ◌++◌, map, take, get_or, length, refl, ap, ap₂, ◌∙◌, sym, zero-add, add-one, arith}
use Rattle.std.proofs.lemmas.Simd.{map-map}
use Rattle.std.proofs.lemmas.List.{get_or-map, map-append, length-map}
use Rattle.model_tree.specs.Formula.{Formula}
use Rattle.sta_core.specs.Machine.{PlainRule, plain_rule}
use Rattle.sta_core.specs.declared.StaRule.{StaRule}
use Rattle.sta_classes.specs.Rules.{plain_rules}
use Rattle.sta_ops.specs.Rules.{moved, beside, joined, rules_at}
use Rattle.sta_core.specs.declared.Lang.{Lang}

map_none : {X : Type 0} (f : X → X) → ((x : X) → f x ≡ x) → (xs : List X) → map f xs ≡ xs
map_none f same [] = refl
map_none f same (x ∷ xs) = ap₂ (λ y ys. y ∷ ys) (same x) (map_none f same xs)

pub right_end : {X : Type 0} (xs : List X) → xs ++ [] ≡ xs
right_end [] = refl
right_end (x ∷ xs) = ap (λ r. x ∷ r) (right_end xs)

module _ {A : Type 0} where
  abbrev made : ℕ → Formula A → List (List ℕ) → PlainRule A
  made k f ds = record { constructor = k; guard = f; demands = ds }

  pub same_parts : (k : ℕ) (f g : Formula A) (ds es : List (List ℕ)) → f ≡ g → ds ≡ es → made k f ds ≡ made k g es
  same_parts k f g ds es p q = ap₂ (made k) p q

  -- by nothing
  pub moved_none : (r : PlainRule A) → moved 0 r ≡ r
  moved_none r = ap (made r.constructor r.guard) (map_none (map (λ s. 0 + s)) (map_none (λ s. 0 + s) zero-add) r.demands)

  pub copied : (xs : List (StaRule A)) → map (λ r. moved 0 (plain_rule r)) xs ≡ map plain_rule xs
  copied xs = λ i. map (λ r. moved_none (plain_rule r) i) xs

  all_moved : {G : Type 0} (n : ℕ) (xs : List (Vec (StaRule A) G)) → map (λ those. map (λ r. moved n (plain_rule r)) those.items) xs ≡ map (map (moved n)) (plain_rules xs)
  all_moved n [] = refl
  all_moved n (x ∷ xs) = ap₂ (λ y ys. y ∷ ys) (sym (map-map (moved n) plain_rule x.items)) (all_moved n xs)

  -- all states by nothing
  pub copied_states : {G : Type 0} (xs : List (Vec (StaRule A) G)) (none one : List (List (PlainRule A))) → none ≡ [] → one ≡ none ++ map (λ those. map (λ r. moved 0 (plain_rule r)) those.items) xs → one ≡ plain_rules xs
  copied_states xs none one empty is = is ∙ ap₂ (λ a b. a ++ b) empty (all_moved 0 xs ∙ map_none (map (moved 0)) (map_none (moved 0) moved_none) (plain_rules xs))

  -- both automata, the first one by nothing
  pub placed : {G : Type 0} (first second : List (List (PlainRule A))) (xs ys : List (Vec (StaRule A) G)) (none one two : List (List (PlainRule A))) (n : ℕ) → plain_rules xs ≡ first → plain_rules ys ≡ second → none ≡ [] → n ≡ length first
      → one ≡ none ++ map (λ those. map (λ r. moved 0 (plain_rule r)) those.items) xs → two ≡ one ++ map (λ those. map (λ r. moved n (plain_rule r)) those.items) ys → two ≡ beside first second
  placed first second xs ys none one two n are_first are_second empty many is_one is_two =
      is_two
      ∙ ap₂ (λ a b. a ++ b) (is_one ∙ ap₂ (λ a b. a ++ b) empty (all_moved 0 xs ∙ map_none (map (moved 0)) (map_none (moved 0) moved_none) (plain_rules xs) ∙ are_first)) (all_moved n ys ∙ ap₂ (λ k rs. map (map (moved k)) rs) many are_second)

-- what is demanded of one more child
joined_taken : {X : Type 0} (f : X → List ℕ) (xs ys : List X) (i : ℕ) (x y : X) → i < length xs → i < length ys → x ≡ get_or xs i x → y ≡ get_or ys i y
    → joined (map f (take (suc i) xs)) (map f (take (suc i) ys)) ≡ joined (map f (take i xs)) (map f (take i ys)) ++ (f x ++ f y) ∷ []
joined_taken f [] ys i x y low low' at_x at_y = absurd (omega arith)
joined_taken f (a ∷ xs) [] i x y low low' at_x at_y = absurd (omega arith)
joined_taken f (a ∷ xs) (b ∷ ys) zero x y low low' at_x at_y = ap₂ (λ u v. (f u ++ f v) ∷ []) (sym at_x) (sym at_y)
joined_taken f (a ∷ xs) (b ∷ ys) (suc i) x y low low' at_x at_y = ap (λ r. (f a ++ f b) ∷ r) (joined_taken f xs ys i x y (omega arith) (omega arith) at_x at_y)

pub joined_more : {X : Type 0} (f : X → List ℕ) (xs ys : List X) (i : ℕ) (x y : X) → i < length xs → i < length ys → x ≡ get_or xs i x → y ≡ get_or ys i y
    → joined (map f (take (i + 1) xs)) (map f (take (i + 1) ys)) ≡ joined (map f (take i xs)) (map f (take i ys)) ++ (f x ++ f y) ∷ []
joined_more f xs ys i x y low low' at_x at_y = ap (λ k. joined (map f (take k xs)) (map f (take k ys))) (add-one i) ∙ joined_taken f xs ys i x y low low' at_x at_y

-- the second state's rules where they are moved
pub moved_at : {A : Type 0} (n k : ℕ) (ys : List (StaRule A)) (rs : List (PlainRule A)) → n ≡ k → map plain_rule ys ≡ rs → map (λ r. moved n (plain_rule r)) ys ≡ map (moved k) rs
moved_at n k ys rs e are = sym (map-map (moved n) plain_rule ys) ∙ ap₂ (λ m qs. map (moved m) qs) e are

module _ {A G : Type 0} where
  -- the rules of a state that is looked up
  pub state_at : (xs : List (Vec (StaRule A) G)) (i : ℕ) (v : Vec (StaRule A) G) (rs : List (StaRule A)) → i < length xs → v ≡ get_or xs i v → rs ≡ v.items → map plain_rule rs ≡ get_or (plain_rules xs) i []
  state_at xs i v rs low at is = ap (map plain_rule) (is ∙ ap (λ u. u.items) at) ∙ sym (get_or-map (λ those. map plain_rule those.items) xs i v [] low)

  -- the rules of both with one more state
  pub with_start : (rules new : List (Vec (StaRule A) G)) (start : Vec (StaRule A) G) (first second : List (List (PlainRule A))) (one : List (PlainRule A)) → plain_rules rules ≡ beside first second → new ≡ rules ++ start ∷ [] → map plain_rule start.items ≡ one
      → plain_rules new ≡ beside first second ++ one ∷ []
  with_start rules new start first second one are is starts = ap plain_rules is ∙ map-append (λ those. map plain_rule those.items) rules (start ∷ []) ∙ ap₂ (λ a b. a ++ b ∷ []) are starts

  -- the rules of both with a state that is made of the two states' rules
  pub made_of_both : (make : List (PlainRule A) → List (PlainRule A) → List (PlainRule A)) (a b : Lang A) (first second rules new : List (Vec (StaRule A) G)) (v w : Vec (StaRule A) G) (xs ys : List (StaRule A)) (start : Vec (StaRule A) G)
      → plain_rules first ≡ a.sta.rules → plain_rules second ≡ b.sta.rules → a.state < length a.sta.rules → b.state < length b.sta.rules → v ≡ get_or first a.state v → w ≡ get_or second b.state w → xs ≡ v.items → ys ≡ w.items
      → plain_rules rules ≡ beside (plain_rules first) (plain_rules second) → map plain_rule start.items ≡ make (map plain_rule xs) (map (λ r. moved (length first) (plain_rule r)) ys) → new ≡ rules ++ start ∷ []
      → plain_rules new ≡ beside a.sta.rules b.sta.rules ++ make (rules_at a.sta.rules a.state) (map (moved (length a.sta.rules)) (rules_at b.sta.rules b.state)) ∷ []
  made_of_both make a b first second rules new v w xs ys start are_a are_b low_a low_b at_v at_w is_x is_y both_are starts more =
      let many : length first ≡ length a.sta.rules = sym (length-map first (λ those. map plain_rule those.items)) ∙ ap length are_a in
      let many_b : length second ≡ length b.sta.rules = sym (length-map second (λ those. map plain_rule those.items)) ∙ ap length are_b in
      let at_a : map plain_rule xs ≡ rules_at a.sta.rules a.state = state_at first a.state v xs (omega (arith, low_a, many)) at_v is_x ∙ ap (λ rs. rules_at rs a.state) are_a in
      let at_b : map plain_rule ys ≡ rules_at b.sta.rules b.state = state_at second b.state w ys (omega (arith, low_b, many_b)) at_w is_y ∙ ap (λ rs. rules_at rs b.state) are_b in
      with_start rules new start a.sta.rules b.sta.rules (make (rules_at a.sta.rules a.state) (map (moved (length a.sta.rules)) (rules_at b.sta.rules b.state))) (both_are ∙ ap₂ beside are_a are_b) more
      (starts ∙ ap₂ make at_a (moved_at (length first) (length a.sta.rules) ys (rules_at b.sta.rules b.state) many at_b))
