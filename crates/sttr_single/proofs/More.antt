-- An automaton with more states behind its own.
use Rattle.std.proofs.Common.{ℕ, ◌≡◌, ◌+◌, ◌<◌, ◌≤◌, ◌==◌, ◌&&◌, ◌||◌, inl, inr, Vec, Bool, true, false, List, [], ◌∷◌, ◌++◌, map, get_or, length, Contains, All, refl, sym, ap, ap₂, subst, ◌∙◌, arith}
use Rattle.std.specs.List.{list_any, list_all}
use Rattle.std.proofs.lemmas.List.{get_or_append_left, get_or-append-add, length-append, length-map, map-append, get_or-map, get_or_past}
use Rattle.std.proofs.lemmas.Bool.{cases_lt}
use Rattle.std.proofs.lemmas.Simd.{map-map}
use Rattle.std.proofs.Math.ListN.{get_or-map as get_or-map_past}
use Rattle.model_tree.specs.Label.{Label}
use Rattle.model_tree.specs.Tree.{Tree, node, Trees, no_trees, tree}
use Rattle.model_sta.specs.Automaton.{Rule, rules_of, is_accepted, meet_demands, rule_applies}
use Rattle.model_sta.specs.Told.{AreOwn}
use Rattle.model_sta.proofs.Reached.{same_default}
use Rattle.model_sta.proofs.Automata.{accepted_by_a_rule}
use Rattle.sta_core.specs.Fits.{RuleFits, RulesFit}
use Rattle.sta_core.specs.Machine.{Machine, PlainRule, plain_rule}
use Rattle.sta_core.specs.Sta.{automaton_of, rule_meaning}
use Rattle.sta_core.specs.declared.StaRule.{StaRule}
use Rattle.sta_classes.specs.Rules.{plain_rules}
use Rattle.sta_ops.proofs.EachRule.{EachRule, all_in, only}
use Rattle.sta_ops.proofs.Fitting.{PlainFits, fit_each, each_fit, rules_fit, fits_among, machine_fits, fits_plain}
use Rattle.sta_theory.proofs.Beside.{first_accepts}
use Rattle.model_sta.proofs.Beside.{any_mapped}
use Rattle.sta_theory.proofs.Lists.{none_in, first_in, later_in, append_member, map_member}
use Rattle.sta_ops.proofs.Trimming.{at_place}
use Rattle.sttr_single.specs.declared.joints.Joint.{Joint}
use Rattle.sttr_single.specs.Joints.{rules_in, DemandsOwn, with_more, with_one, with_each, joint_applies}

all_same : {X : Type 0} (p q : X → Bool) (xs : List X) → ((x : X) → Contains xs x → p x ≡ q x) → list_all p xs ≡ list_all q xs
all_same p q [] same = refl
all_same p q (x ∷ xs) same = ap₂ (λ a b. a && b) (same x (first_in x xs)) (all_same p q xs (λ y at. same y (later_in x y xs at)))

-- what a list contains at a place stands in a list that there is
pub state_in : {X : Type 0} (xss : List (List X)) (q : ℕ) (x : X) → Contains (get_or xss q []) x → Contains xss (get_or xss q [])
state_in xss q x at = elim (cases_lt q (length xss)) [
  | inl low ↦ (q, low, same_default xss q (get_or xss q []) [] low)
  | inr high ↦ absurd (none_in x (subst (λ xs. Contains xs x) (get_or_past xss q [] high) at))
]

or_false : (b : Bool) → (b || false) ≡ b
or_false true = refl
or_false false = refl

-- over labels too
own_states : {A : Type 0} (holds : A → Label → Bool) (looks : Machine A) → DemandsOwn looks → AreOwn (automaton_of holds looks)
own_states holds looks own q p at j s demanded =
    let there : Contains (map (rule_meaning holds) (get_or looks.rules q [])) p = subst (λ rs. Contains rs p) (get_or-map_past (map (rule_meaning holds)) looks.rules q []) at in
    let (r, at_r, is) = map_member (rule_meaning holds) (get_or looks.rules q []) p there in
    let here : Contains (get_or r.demands j []) s = subst (λ x. Contains (get_or x.demands j []) s) (sym is) demanded in
    omega (arith, own (get_or looks.rules q []) (state_in looks.rules q r at_r) r at_r (get_or r.demands j []) (at_place r.demands j s here) s here, length-map looks.rules (map (rule_meaning holds)))

module _ {A : Type 0} (holds : A → Label → Bool) (looks : Machine A) (own : DemandsOwn looks) (more : List (List (PlainRule A))) where
  abbrev meant : PlainRule A → Rule Label
  meant = rule_meaning holds

  abbrev before : List (List (Rule Label))
  before = automaton_of holds looks

  abbrev after : List (List (Rule Label))
  after = automaton_of holds (with_more looks more)

  abbrev n : ℕ
  n = length looks.rules

  long : length before ≡ n
  long = length-map looks.rules (map meant)

  after_is : after ≡ before ++ map (map meant) more
  after_is = map-append (map meant) looks.rules more

  -- its states accept what they did
  pub accepts_as : (t : Tree Label) (s : ℕ) → s < n → is_accepted after t s ≡ is_accepted before t s
  accepts_as t s low =
      first_accepts before [] after (own_states holds looks own) (λ q r at. absurd (none_in r at))
      (record { firsts = λ k low. ap (λ rs. rules_of rs k) after_is ∙ get_or_append_left before (map (map meant) more) [] k low; seconds = λ k low. absurd (omega arith) }) t s (omega (arith, low, long))

  meets_as : (ts : Trees Label) (ds : List (List ℕ)) → ((d : List ℕ) → Contains ds d → (x : ℕ) → Contains d x → x < n) → meet_demands after ts ds ≡ meet_demands before ts ds
  meets_as no_trees ds low = refl
  meets_as (tree t ts) [] low = refl
  meets_as (tree t ts) (d ∷ ds) low = ap₂ (λ a b. a && b) (all_same (is_accepted after t) (is_accepted before t) d (λ x at. accepts_as t x (low d (first_in d ds) x at))) (meets_as ts ds (λ e at. low e (later_in d e ds at)))

  -- a rule that demands those states applies as it did
  pub applies_as : (p : PlainRule A) → ((d : List ℕ) → Contains p.demands d → (x : ℕ) → Contains d x → x < n) → (t : Tree Label) → rule_applies after t (meant p) ≡ rule_applies before t (meant p)
  applies_as p low (node c l ts) = ap (λ m. (p.constructor == c) && ((meant p).guard l && m)) (meets_as ts p.demands low)

  -- a state behind its own accepts by its rules
  pub accepts_more : (t : Tree Label) (k : ℕ) → is_accepted after t (n + k) ≡ list_any (rule_applies after t) (get_or (map (map meant) more) k [])
  accepts_more t k =
      accepted_by_a_rule after t (n + k)
      ∙ ap (list_any (rule_applies after t)) (ap (λ rs. rules_of rs (n + k)) after_is ∙ ap (λ m. get_or (before ++ map (map meant) more) (m + k) []) (sym long) ∙ get_or-append-add before (map (map meant) more) k [])

module _ {A : Type 0} (holds : A → Label → Bool) (looks : Machine A) (own : DemandsOwn looks) (xs : List (Joint A)) (fit : All (λ x. RuleFits looks.ranks (length looks.rules) x.rule) xs) where
  low : (x : Joint A) → Contains xs x → (d : List ℕ) → Contains (plain_rule x.rule).demands d → (y : ℕ) → Contains d y → y < length looks.rules
  low x at = (fits_plain looks.ranks (length looks.rules) x.rule (all_in (λ x. RuleFits looks.ranks (length looks.rules) x.rule) xs fit x at)).own

  -- the state for all joints accepts what one of them applies to
  pub accepts_one : (t : Tree Label) (s : ℕ) → s ≡ length looks.rules → is_accepted (automaton_of holds (with_one looks xs)) t s ≡ list_any (joint_applies holds looks t) xs
  accepts_one t s is =
      let rules = automaton_of holds (with_one looks xs) in
      let last : s ≡ length looks.rules + 0 = omega (arith, is) in
      ap (is_accepted rules t) last ∙ accepts_more holds looks own (rules_in xs ∷ []) t 0
      ∙ ap (list_any (rule_applies rules t)) (map-map (rule_meaning holds) (λ x. plain_rule x.rule) xs)
      ∙ any_mapped (rule_applies rules t) (λ x. rule_meaning holds (plain_rule x.rule)) (joint_applies holds looks t) xs (λ x at. applies_as holds looks own (rules_in xs ∷ []) (plain_rule x.rule) (low x at) t)

  -- the state for a joint accepts what it applies to
  pub accepts_each : (t : Tree Label) (k : ℕ) (x : Joint A) → k < length xs → x ≡ get_or xs k x → is_accepted (automaton_of holds (with_each looks xs)) t (length looks.rules + k) ≡ joint_applies holds looks t x
  accepts_each t k x inside is =
      let more : List (List (PlainRule A)) = map (λ x. plain_rule x.rule ∷ []) xs in
      let rules = automaton_of holds (with_each looks xs) in
      accepts_more holds looks own more t k
      ∙ ap (list_any (rule_applies rules t)) (ap (λ rs. get_or rs k []) (map-map (map (rule_meaning holds)) (λ x. plain_rule x.rule ∷ []) xs) ∙ get_or-map (λ x. rule_meaning holds (plain_rule x.rule) ∷ []) xs k x [] inside ∙ ap (λ y. rule_meaning holds (plain_rule y.rule) ∷ []) (sym is))
      ∙ or_false (rule_applies rules t (rule_meaning holds (plain_rule x.rule)))
      ∙ applies_as holds looks own more (plain_rule x.rule) (low x (k, inside, sym is)) t

each_of_both : {A : Type 0} (Q : PlainRule A → Type 0) (first second : List (List (PlainRule A))) → EachRule Q first → EachRule Q second → EachRule Q (first ++ second)
each_of_both Q first second f g rs at r here = elim (append_member first second rs at) [ inl one ↦ f rs one r here | inr other ↦ g rs other r here ]

module _ {A G : Type 0} (looks : Machine A) where
  -- rules that fit demand states that there are
  pub own_of_fits : (known : List (Vec (StaRule A) G)) → plain_rules known ≡ looks.rules → All (λ those. All (RuleFits looks.ranks (length looks.rules)) those.items) known → DemandsOwn looks
  own_of_fits known are fit rs at r here = (machine_fits looks known are fit rs at r here).own

  -- rules that fit still do
  pub more_fit : (given : List ℕ) (known copies more rules : List (Vec (StaRule A) G)) → given ≡ looks.ranks → plain_rules known ≡ looks.rules → All (λ those. All (RuleFits looks.ranks (length looks.rules)) those.items) known → plain_rules copies ≡ plain_rules known
      → All (λ those. All (RuleFits looks.ranks (length looks.rules)) those.items) more → rules ≡ copies ++ more → RulesFit given rules
  more_fit given known copies more rules same are fit copied fit_more is =
      let many : ℕ = length (looks.rules ++ plain_rules more) in
      let low : length looks.rules ≤ many = omega (arith, length-append looks.rules (plain_rules more)) in
      rules_fit given looks.ranks many rules (looks.rules ++ plain_rules more) same (ap plain_rules is ∙ map-append (λ those. map plain_rule those.items) copies more ∙ ap (λ l. l ++ plain_rules more) (copied ∙ are)) refl
      (each_of_both (PlainFits looks.ranks many) looks.rules (plain_rules more)
      (λ rs at r here. fits_among looks.ranks (length looks.rules) many low r (machine_fits looks known are fit rs at r here))
      (λ rs at r here. fits_among looks.ranks (length looks.rules) many low r (fit_each looks.ranks (length looks.rules) more fit_more rs at r here)))

-- the rules of joints fit as the joints do
module _ {A : Type 0} (ranks : List ℕ) (n : ℕ) (xs : List (Joint A)) (fit : All (λ x. RuleFits ranks n x.rule) xs) where
  of_joint : (p : PlainRule A) → (x : Joint A) × Contains xs x × (plain_rule x.rule ≡ p) → PlainFits ranks n p
  of_joint p (x, at, is) = subst (PlainFits ranks n) is (fits_plain ranks n x.rule (all_in (λ x. RuleFits ranks n x.rule) xs fit x at))

  pub one_fits : {G : Type 0} (states : List (Vec (StaRule A) G)) → plain_rules states ≡ rules_in xs ∷ [] → All (λ those. All (RuleFits ranks n) those.items) states
  one_fits states are = each_fit ranks n states (subst (EachRule (PlainFits ranks n)) (sym are) (λ rs at p here.
      of_joint p (map_member (λ x. plain_rule x.rule) xs p (subst (λ l. Contains l p) (sym (only (rules_in xs) rs at)) here))))

  pub each_fits : {G : Type 0} (states : List (Vec (StaRule A) G)) → plain_rules states ≡ map (λ x. plain_rule x.rule ∷ []) xs → All (λ those. All (RuleFits ranks n) those.items) states
  each_fits states are = each_fit ranks n states (subst (EachRule (PlainFits ranks n)) (sym are) (λ rs at p here.
      let (x, at_x, is) = map_member (λ x. plain_rule x.rule ∷ []) xs rs at in
      of_joint p (x, at_x, only (plain_rule x.rule) p (subst (λ l. Contains l p) (sym is) here))))
