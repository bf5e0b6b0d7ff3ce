-- The test of acceptance by its parts.
use Rattle.std.specs.Prelude.{⊤}
use Rattle.std.specs.List.{list_any, list_all}
use Rattle.std.proofs.Common.{ℕ, zero, suc, ◌≡◌, Bool, true, false, ◌&&◌, ◌||◌, ◌==◌, List, [], ◌∷◌, ◌++◌, get_or, Contains, refl, sym, ap, ◌∙◌, arith}
use Rattle.std.proofs.lemmas.Bool.{and_parts, and_from, or_left, or_right}
use Rattle.std.proofs.lemmas.Bool.Decides.{nat_tests}
use Rattle.model_tree.specs.Tree.{node, Trees, no_trees, tree}
use Rattle.model_sta.specs.Automaton.{Rule, rules_of, is_accepted, meet_demands, rule_applies}
use Rattle.model_sta.specs.Sets.{Each}
use Rattle.model_sta.specs.Operations.{Has, HasAll}
use Rattle.sttr_theory.proofs.Each.{each_both, each_split}

pub or_split : {P : Type 0} (a b : Bool) → (a ≡ true → P) → (b ≡ true → P) → (a || b) ≡ true → P
or_split true b f g h = f refl
or_split false b f g h = g h

pub bool_same : (a b : Bool) → (a ≡ true → b ≡ true) → (b ≡ true → a ≡ true) → a ≡ b
bool_same true b f g = sym (f refl)
bool_same false true f g = g refl
bool_same false false f g = refl

pub same_number : (m n : ℕ) → (m == n) ≡ true → m ≡ n
same_number m n h = grind (arith, nat_tests)

pub number_same : (m n : ℕ) → m ≡ n → (m == n) ≡ true
number_same m n h = grind (arith, nat_tests)

pub other_number : (m n : ℕ) → ¬ (m ≡ n) → (m == n) ≡ false
other_number m n h = grind (arith, nat_tests)

module _ {X : Type 0} (p : X → Bool) where
  pub any_out : (xs : List X) → list_any p xs ≡ true → (x : X) × Contains xs x × (p x ≡ true)
  any_out [] h = cc
  any_out (x ∷ xs) h =
      or_split (p x) (list_any p xs) (λ e. (x, (0, omega arith, refl), e))
      (λ e. let (y, (k, lt, eq), is) = any_out xs e in (y, (suc k, omega arith, eq), is)) h

  pub any_in : (xs : List X) (x : X) → Contains xs x → p x ≡ true → list_any p xs ≡ true
  any_in [] x c h = absurd (omega arith)
  any_in (y ∷ ys) x (zero, lt, e) h = or_left (p y) (list_any p ys) (ap p e ∙ h)
  any_in (y ∷ ys) x (suc k, lt, e) h = or_right (p y) (list_any p ys) (any_in ys x (k, omega arith, e) h)

  pub all_out : (xs : List X) → list_all p xs ≡ true → Each (λ x. p x ≡ true) xs
  all_out [] h = tt
  all_out (x ∷ xs) h = let (a, b) = and_parts (p x) (list_all p xs) h in (a, all_out xs b)

  pub all_in : (xs : List X) → Each (λ x. p x ≡ true) xs → list_all p xs ≡ true
  all_in [] h = refl
  all_in (x ∷ xs) h = and_from (p x) (list_all p xs) h.0 (all_in xs h.1)

module _ {L : Type 0} where
  -- the constructor is right and the guard holds
  abbrev pub Fires : Rule L → ℕ → L → Type 0
  Fires r c l = (r.constructor ≡ c) × (r.guard l ≡ true)

  -- of child j
  abbrev pub wants : Rule L → ℕ → List ℕ
  wants r j = get_or r.demands j []

module _ {L : Type 0} (A : List (List (Rule L))) where
  -- each tree is accepted by what is demanded of it
  abbrev pub AccEach : (ℕ → List ℕ) → Trees L → Type 0
  AccEach E no_trees = ⊤
  AccEach E (tree t ts) = HasAll A (E 0) t × AccEach (λ j. E (suc j)) ts

  pub acc_both : (E F : ℕ → List ℕ) (us : Trees L) → AccEach E us → AccEach F us → AccEach (λ j. E j ++ F j) us
  acc_both E F no_trees a b = tt
  acc_both E F (tree u us) a b = (each_both (λ s. Has A s u) (E 0) (F 0) a.0 b.0, acc_both (λ j. E (suc j)) (λ j. F (suc j)) us a.1 b.1)

  pub acc_split : (E F : ℕ → List ℕ) (us : Trees L) → AccEach (λ j. E j ++ F j) us → AccEach E us × AccEach F us
  acc_split E F no_trees a = (tt, tt)
  acc_split E F (tree u us) a =
      let (x, y) = each_split (λ s. Has A s u) (E 0) (F 0) a.0 in
      let (xs, ys) = acc_split (λ j. E (suc j)) (λ j. F (suc j)) us a.1 in
      ((x, xs), (y, ys))

  pub acc_none : (us : Trees L) → AccEach (λ j. []) us
  acc_none no_trees = tt
  acc_none (tree u us) = (tt, acc_none us)

  pub meets_out : (ts : Trees L) (ds : List (List ℕ)) → meet_demands A ts ds ≡ true → AccEach (λ j. get_or ds j []) ts
  meets_out no_trees ds h = tt
  meets_out (tree t ts) [] h = acc_none (tree t ts)
  meets_out (tree t ts) (d ∷ ds) h =
      let (a, b) = and_parts (list_all (is_accepted A t) d) (meet_demands A ts ds) h in
      (all_out (is_accepted A t) d a, meets_out ts ds b)

  pub meets_in : (ts : Trees L) (ds : List (List ℕ)) → AccEach (λ j. get_or ds j []) ts → meet_demands A ts ds ≡ true
  meets_in no_trees ds h = refl
  meets_in (tree t ts) [] h = refl
  meets_in (tree t ts) (d ∷ ds) h = and_from (list_all (is_accepted A t) d) (meet_demands A ts ds) (all_in (is_accepted A t) d h.0) (meets_in ts ds h.1)

  -- the rule applies
  pub applies_out : (c : ℕ) (l : L) (ts : Trees L) (r : Rule L) → rule_applies A (node c l ts) r ≡ true → Fires r c l × AccEach (wants r) ts
  applies_out c l ts r h =
      let (a, b) = and_parts (r.constructor == c) (r.guard l && meet_demands A ts r.demands) h in
      let (d, e) = and_parts (r.guard l) (meet_demands A ts r.demands) b in
      ((same_number r.constructor c a, d), meets_out ts r.demands e)

  pub applies_in : (c : ℕ) (l : L) (ts : Trees L) (r : Rule L) → Fires r c l → AccEach (wants r) ts → rule_applies A (node c l ts) r ≡ true
  applies_in c l ts r f a =
      and_from (r.constructor == c) (r.guard l && meet_demands A ts r.demands) (number_same r.constructor c f.0)
      (and_from (r.guard l) (meet_demands A ts r.demands) f.1 (meets_in ts r.demands a))

  -- some rule of the state does
  pub has_out : (c : ℕ) (l : L) (ts : Trees L) (s : ℕ) → Has A s (node c l ts) → (r : Rule L) × Contains (rules_of A s) r × Fires r c l × AccEach (wants r) ts
  has_out c l ts s h =
      let (r, here, a) = any_out (rule_applies A (node c l ts)) (rules_of A s) h in
      let (f, e) = applies_out c l ts r a in
      (r, here, f, e)

  pub has_in : (c : ℕ) (l : L) (ts : Trees L) (s : ℕ) (r : Rule L) → Contains (rules_of A s) r → Fires r c l → AccEach (wants r) ts → Has A s (node c l ts)
  has_in c l ts s r here f e = any_in (rule_applies A (node c l ts)) (rules_of A s) r here (applies_in c l ts r f e)
