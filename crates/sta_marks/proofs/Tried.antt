-- A row in which each rule of a constructor was tried is the set of states of the node.
use Rattle.std.proofs.Common.{ℕ, zero, suc, ◌≡◌, ◌≢◌, ◌<◌, ◌≤◌, ◌==◌, ◌&&◌, ◌||◌, Bool, true, false, cond, List, [], ◌∷◌, All, map, get_or, set, drop, length, refl, sym, ap, ap₂, subst, ◌∙◌, arith, inl, inr, eq-eqb}
use Rattle.std.specs.List.{list_any}
use Rattle.std.proofs.Math.Bool.{or_assoc}
use Rattle.std.proofs.Math.ListN.{get_or-map}
use Rattle.std.proofs.lemmas.Bool.{cases_eq, cases_lt, ne_eqb}
use Rattle.std.proofs.lemmas.List.{length-map, length-set, get_or-set_same, get_or-set_other, get_or_past, set-get_or, drop_all, ext_get_or}
use Rattle.model_tree.specs.Label.{Label}
use Rattle.model_sta.specs.Automaton.{Rule}
use Rattle.model_sta.specs.Sets.{Row, has, fires, step, rows_meet}
use Rattle.sta_core.specs.Machine.{Machine, PlainRule}
use Rattle.sta_core.specs.Sta.{automaton_of, rule_meaning}
use Rattle.sta_core.proofs.Meaning.{rules_of_automaton}
use Rattle.sta_marks.specs.Rows.{Marked, no_state, with_state, with_row, rows_at}
use Rattle.sta_marks.specs.Rules.{applies, owned_from}
use Rattle.sta_marks.specs.Filled.{tried, tried_each}
use Rattle.model_sta.proofs.Tabled.{tabulate_length, tabulate_at}
use Rattle.sta_marks.proofs.Grouped.{of_state, of_constructor, grouped_any, owned_low}

pub with_state_length : (s : ℕ) (b : Bool) (row : Row) → length (with_state s b row) ≡ length row
with_state_length s true row = length-set row s true
with_state_length s false row = refl

or_true : (b : Bool) → (b || true) ≡ true
or_true true = refl
or_true false = refl

or_false : (b : Bool) → (b || false) ≡ b
or_false true = refl
or_false false = refl

-- whether a state is in a row with another one
with_state_has : (k : ℕ) (b : Bool) (row : Row) (s : ℕ) → k < length row → has (with_state k b row) s ≡ (has row s || ((k == s) && b))
with_state_has k true row s low = elim (cases_eq s k) [
  | inl same ↦
      ap (λ j. get_or (set row k true) j false) same ∙ get_or-set_same row k true false low ∙ sym (or_true (has row s)) ∙ ap (λ d. has row s || (d && true)) (sym (eq-eqb k s (sym same)))
  | inr other ↦ get_or-set_other row k s true false other ∙ sym (or_false (has row s)) ∙ ap (λ d. has row s || (d && true)) (sym (ne_eqb k s (λ e. other (sym e))))
]
with_state_has k false row s low = sym (or_false (has row s)) ∙ ap (λ d. has row s || d) (sym (nothing (k == s)))
  where
    nothing : (d : Bool) → (d && false) ≡ false
    nothing true = refl
    nothing false = refl

-- a state that is there already isn't added
pub there_already : (k : ℕ) (b : Bool) (row : Row) → has row k ≡ true → with_state k b row ≡ row
there_already k true [] is = refl
there_already zero true (x ∷ row) is = ap (λ y. y ∷ row) (sym is)
there_already (suc k) true (x ∷ row) is = ap (λ r. x ∷ r) (there_already k true row is)
there_already k false row is = refl

any_map : {X Y : Type 0} (p : Y → Bool) (f : X → Y) (xs : List X) → list_any p (map f xs) ≡ list_any (λ x. p (f x)) xs
any_map p f [] = refl
any_map p f (x ∷ xs) = ap (λ b. p (f x) || b) (any_map p f xs)

tail_of : {X : Type 0} (P : X → Type 0) (x : X) (xs : List X) → All P (x ∷ xs) → All P xs
tail_of P x xs h k d low = h (suc k) d (omega arith)

module _ {A : Type 0} (holds : A → Label → Bool) (l : Label) (qs : List Row) where
  abbrev IsApplied : PlainRule A → Bool
  IsApplied r = applies l qs (rule_meaning holds r)

  pub tried_length : (row : Row) (ps : List (ℕ × PlainRule A)) → length (tried_each holds l qs row ps) ≡ length row
  tried_length row [] = refl
  tried_length row (p ∷ ps) = tried_length (tried holds l qs row p) ps ∙ with_state_length p.0 (IsApplied p.1) row

  tried_has : (row : Row) (ps : List (ℕ × PlainRule A)) (s : ℕ) → All (λ p. p.0 < length row) ps → has (tried_each holds l qs row ps) s ≡ (has row s || list_any (of_state s IsApplied) ps)
  tried_has row [] s low = sym (or_false (has row s))
  tried_has row (p ∷ ps) s low =
      tried_has (tried holds l qs row p) ps s (λ k d h. (let e = with_state_length p.0 (IsApplied p.1) row in omega (arith, e, tail_of (λ q. q.0 < length row) p ps low k d h)))
      ∙ ap (λ b. b || list_any (of_state s IsApplied) ps) (with_state_has p.0 (IsApplied p.1) row s (low 0 p (omega arith)))
      ∙ or_assoc (has row s) (of_state s IsApplied p) (list_any (of_state s IsApplied) ps)

  -- tried from the row of no state on, the rules of a constructor give what a node with it has
  pub tried_is_step : (m : Machine A) (c states : ℕ) → states ≡ length m.rules → All (λ p. p.0 < states) (owned_from c 0 m.rules)
      → tried_each holds l qs (no_state states) (owned_from c 0 m.rules) ≡ step (automaton_of holds m) c l qs
  tried_is_step m c states same low =
      ext_get_or false (tried_each holds l qs (no_state states) (owned_from c 0 m.rules)) (step (automaton_of holds m) c l qs) (long ∙ many)
      (λ s small. tried_has (no_state states) (owned_from c 0 m.rules) s (λ k d h. (let n = tabulate_length states (λ j. false) in omega (arith, n, low k d h)))
      ∙ ap (λ b. b || list_any (of_state s IsApplied) (owned_from c 0 m.rules)) (tabulate_at states (λ j. false) s false (omega (arith, small, long)))
      ∙ grouped_any c s IsApplied m.rules
      ∙ sym (any_map (fires c l qs) (rule_meaning holds) (get_or m.rules s [])) ∙ ap (list_any (fires c l qs)) (sym (rules_of_automaton holds m s)) ∙ sym (get_or-map (list_any (fires c l qs)) (automaton_of holds m) s []))
    where
      long : length (tried_each holds l qs (no_state states) (owned_from c 0 m.rules)) ≡ states
      long = tried_length (no_state states) (owned_from c 0 m.rules) ∙ tabulate_length states (λ j. false)

      many : states ≡ length (step (automaton_of holds m) c l qs)
      many = same ∙ sym (length-map (automaton_of holds m) (list_any (fires c l qs)) ∙ length-map m.rules (map (rule_meaning holds)))

-- ---- one more rule that is tried

other_rows : (m : Marked) (node : ℕ) (row : Row) (children : List ℕ) → All (λ k. k ≢ node) children → rows_at (with_row m node row) children ≡ rows_at m children
other_rows m node row [] apart = refl
other_rows m node row (k ∷ ks) apart = ap₂ (λ x xs. x ∷ xs) (get_or-set_other m.rows node k row [] (apart 0 k (omega arith))) (other_rows m node row ks (tail_of (λ j. j ≢ node) k ks apart))

set_again : (rows : List Row) (node : ℕ) (r s : Row) → set (set rows node r) node s ≡ set rows node s
set_again [] node r s = refl
set_again (q ∷ rows) zero r s = refl
set_again (q ∷ rows) (suc node) r s = ap (λ xs. q ∷ xs) (set_again rows node r s)

module _ {A : Type 0} (holds : A → Label → Bool) (l : Label) (start : Marked) (node : ℕ) (children : List ℕ) where
  -- only the row of the node has changed, and once the other rules are tried it is the whole row
  pub record IsTried (now : Marked) (left : List (ℕ × PlainRule A)) (whole : Row) : Type 0 where
    pub node_alone : now ≡ with_row start node (get_or now.rows node [])
    pub left_is : tried_each holds l (rows_at start children) (get_or now.rows node []) left ≡ whole

  pub tried_more : node < length start.rows → All (λ k. k ≢ node) children → (now new : Marked) (p : ℕ × PlainRule A) (left : List (ℕ × PlainRule A)) (whole : Row) → IsTried now (p ∷ left) whole
      → new ≡ with_row now node (tried holds l (rows_at now children) (get_or now.rows node []) p) → IsTried new left whole
  tried_more low apart now new p left whole h is =
      let row = get_or now.rows node [] in
      let next = tried holds l (rows_at start children) row p in
      let same : rows_at now children ≡ rows_at start children = ap (λ m. rows_at m children) h.node_alone ∙ other_rows start node row children apart in
      let new_is : new ≡ with_row start node next =
      is ∙ ap (λ qs. with_row now node (tried holds l qs row p)) same ∙ ap (λ m. with_row m node next) h.node_alone ∙ ap (λ rs. record { states = start.states; rows = rs }) (set_again start.rows node row next) in
      let row_is : get_or new.rows node [] ≡ next = ap (λ m. get_or m.rows node []) new_is ∙ get_or-set_same start.rows node next [] low in
      record {
        node_alone = new_is ∙ ap (with_row start node) (sym row_is);
        left_is = ap (λ r. tried_each holds l (rows_at start children) r left) row_is ∙ h.left_is;
      }

  pub none_tried : (whole : Row) (left : List (ℕ × PlainRule A)) → tried_each holds l (rows_at start children) (get_or start.rows node []) left ≡ whole → IsTried start left whole
  none_tried whole left is = record { node_alone = ap (λ rs. record { states = start.states; rows = rs }) (sym (set-get_or start.rows node [])); left_is = is }

  pub all_tried : (now : Marked) (left : List (ℕ × PlainRule A)) (whole : Row) → left ≡ [] → IsTried now left whole → now ≡ with_row start node whole
  all_tried now left whole none h = h.node_alone ∙ ap (with_row start node) (ap (tried_each holds l (rows_at start children) (get_or now.rows node [])) (sym none) ∙ h.left_is)

  pub tried_low : (now : Marked) (left : List (ℕ × PlainRule A)) (whole : Row) → IsTried now left whole → node < length start.rows → node < length now.rows
  tried_low now left whole h low =
      let n = ap (λ m. length m.rows) h.node_alone in
      let k = length-set start.rows node (get_or now.rows node []) in
      omega (arith, n, k, low)

  pub tried_states : (now : Marked) (left : List (ℕ × PlainRule A)) (whole : Row) → IsTried now left whole → now.states ≡ start.states
  tried_states now left whole h = ap (λ m. m.states) h.node_alone

-- ---- demands

-- children without demands meet them
pub rows_meet_done : {X : Type 0} (f : X → List ℕ) (qs : List Row) (ds : List X) (i : ℕ) → length ds ≤ i → rows_meet qs (map f (drop i ds)) ≡ true
rows_meet_done f qs ds i past = ap (λ d. rows_meet qs (map f d)) (drop_all i ds past) ∙ nothing qs
  where
    nothing : (rs : List Row) → rows_meet rs [] ≡ true
    nothing [] = refl
    nothing (r ∷ rs) = refl

-- ---- the root of a tree

module _ {A : Type 0} (holds : A → Label → Bool) (l : Label) (m : Machine A) (c : ℕ) (marks : Marked) (node : ℕ) (children : List ℕ) (states : marks.states ≡ length m.rules) (blank : get_or marks.rows node [] ≡ no_state marks.states) where
  abbrev root_row : Row
  root_row = step (automaton_of holds m) c l (rows_at marks children)

  pub root_tried : (list : List (ℕ × PlainRule A)) → list ≡ owned_from c 0 m.rules → tried_each holds l (rows_at marks children) (get_or marks.rows node []) list ≡ root_row
  root_tried list is =
      ap₂ (tried_each holds l (rows_at marks children)) blank is
      ∙ tried_is_step holds l (rows_at marks children) m c marks.states states (subst (λ n. All (λ p. p.0 < n) (owned_from c 0 m.rules)) (sym states) (owned_low c m.rules))

  -- where there is no rule
  pub root_alone : [] ≡ owned_from c 0 m.rules → marks ≡ with_row marks node root_row
  root_alone none = ap (λ rs. record { states = marks.states; rows = rs }) (sym (set-get_or marks.rows node [])) ∙ ap (with_row marks node) (root_tried [] none)
