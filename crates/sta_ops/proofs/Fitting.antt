-- Rules that are made of ones that fit do so too.
use Rattle.std.proofs.Common.{ℕ, zero, suc, Vec, Bool, ◌≡◌, ◌<◌, ◌≤◌, ◌+◌, inl, inr, List, [], ◌∷◌, ◌++◌, map, get_or, length, All, Contains, refl, sym, ap, subst, ◌∙◌, arith}
use Rattle.std.proofs.lemmas.List.{length-map, length-append}
use Rattle.std.proofs.Math.ListN.{get_or-map}
use Rattle.model_tree.specs.Label.{Label}
use Rattle.model_sta.specs.Told.{AreOwn}
use Rattle.sta_core.specs.Fits.{RuleFits, RulesFit}
use Rattle.sta_core.specs.Machine.{Machine, PlainRule, plain_rule}
use Rattle.sta_core.specs.Sta.{automaton_of, rule_meaning}
use Rattle.sta_core.specs.declared.StaRule.{StaRule}
use Rattle.sta_classes.specs.Rules.{plain_rules}
use Rattle.sta_ops.specs.Rules.{moved, beside, joined, both, rules_at, AreAsWide}
use Rattle.sta_ops.proofs.EachRule.{all_in, in_all, EachRule, each_at, each_beside}
use Rattle.sta_theory.proofs.Lists.{none_in, first_in, later_in, append_member, map_member, in_map}

-- the rule as plain data fits
pub record PlainFits {A : Type 0} (ranks : List ℕ) (states : ℕ) (r : PlainRule A) : Type 0 where
  pub low : r.constructor < length ranks
  pub wide : length r.demands ≡ get_or ranks r.constructor 0
  pub own : (d : List ℕ) → Contains r.demands d → (s : ℕ) → Contains d s → s < states

joined_long : (ds es : List (List ℕ)) → length es ≡ length ds → length (joined ds es) ≡ length ds
joined_long [] [] e = refl
joined_long [] (f ∷ es) e = absurd (omega (arith, e))
joined_long (d ∷ ds) [] e = refl
joined_long (d ∷ ds) (f ∷ es) e = ap suc (joined_long ds es (omega (arith, e)))

joined_own : (P : ℕ → Type 0) (ds es : List (List ℕ)) → ((d : List ℕ) → Contains ds d → (s : ℕ) → Contains d s → P s) → ((d : List ℕ) → Contains es d → (s : ℕ) → Contains d s → P s) → (d : List ℕ) → Contains (joined ds es) d → (s : ℕ) → Contains d s → P s
joined_own P [] es f g d at s here = g d at s here
joined_own P (e ∷ ds) [] f g d at s here = f d at s here
joined_own P (e ∷ ds) (h ∷ es) f g d at s here = elim (append_member ((e ++ h) ∷ []) (joined ds es) d at) [
  | inl first ↦ elim (append_member e h s (subst (λ x. Contains x s) (sym (first_only first.0 first.1 first.2)) here)) [ inl in_e ↦ f e (first_in e ds) s in_e | inr in_h ↦ g h (first_in h es) s in_h ]
  | inr later ↦ joined_own P ds es (λ x at_x. f x (later_in e x ds at_x)) (λ x at_x. g x (later_in h x es at_x)) d later s here
]
  where
    first_only : (k : ℕ) → k < 1 → get_or ((e ++ h) ∷ []) k d ≡ d → (e ++ h) ≡ d
    first_only zero l is = is
    first_only (suc k) l is = absurd (omega arith)

module _ {A : Type 0} (ranks : List ℕ) where
  pub fits_plain : (n : ℕ) (r : StaRule A) → RuleFits ranks n r → PlainFits ranks n (plain_rule r)
  fits_plain n r h = record {
    low = h.0;
    wide = length-map r.demands.items (λ d. d.items) ∙ h.1;
    own = λ d at s here.
        let (v, at_v, is) = map_member (λ d. d.items) r.demands.items d at in
        all_in (λ s. s < n) v.items (all_in (λ d. All (λ s. s < n) d.items) r.demands.items h.2 v at_v) s (subst (λ e. Contains e s) (sym is) here);
  }

  pub plain_fits : (n : ℕ) (r : StaRule A) → PlainFits ranks n (plain_rule r) → RuleFits ranks n r
  plain_fits n r h = (
    h.low,
    sym (length-map r.demands.items (λ d. d.items)) ∙ h.wide,
    in_all (λ d. All (λ s. s < n) d.items) r.demands.items (λ d at. in_all (λ s. s < n) d.items (λ s here. h.own d.items (in_map (λ d. d.items) r.demands.items d at) s here)),
  )

  pub fit_each : {G : Type 0} (n : ℕ) (rules : List (Vec (StaRule A) G)) → All (λ those. All (RuleFits ranks n) those.items) rules → EachRule (PlainFits ranks n) (plain_rules rules)
  fit_each n rules h rs at p here =
      let (those, at_those, is) = map_member (λ those. map plain_rule those.items) rules rs at in
      let (r, at_r, is_r) = map_member plain_rule those.items p (subst (λ qs. Contains qs p) (sym is) here) in
      subst (PlainFits ranks n) is_r (fits_plain n r (all_in (RuleFits ranks n) those.items (all_in (λ those. All (RuleFits ranks n) those.items) rules h those at_those) r at_r))

  pub each_fit : {G : Type 0} (n : ℕ) (rules : List (Vec (StaRule A) G)) → EachRule (PlainFits ranks n) (plain_rules rules) → All (λ those. All (RuleFits ranks n) those.items) rules
  each_fit n rules h = in_all (λ those. All (RuleFits ranks n) those.items) rules
      (λ those at. in_all (RuleFits ranks n) those.items (λ r here. plain_fits n r (h (map plain_rule those.items) (in_map (λ those. map plain_rule those.items) rules those at) (plain_rule r) (in_map plain_rule those.items r here))))

  pub fits_among : (n m : ℕ) → n ≤ m → (r : PlainRule A) → PlainFits ranks n r → PlainFits ranks m r
  fits_among n m le r h = record { low = h.low; wide = h.wide; own = λ d at s here. omega (arith, le, h.own d at s here) }

  pub fits_moved : (n m k : ℕ) → n + m ≤ k → (r : PlainRule A) → PlainFits ranks m r → PlainFits ranks k (moved n r)
  fits_moved n m k le r h = record {
    low = h.low;
    wide = length-map r.demands (map (λ s. n + s)) ∙ h.wide;
    own = λ d at s here.
        let (e, at_e, is) = map_member (map (λ s. n + s)) r.demands d at in
        let (t, at_t, is_t) = map_member (λ s. n + s) e s (subst (λ f. Contains f s) (sym is) here) in
        omega (arith, le, h.own e at_e t at_t, is_t);
  }

  pub fits_both : (n : ℕ) (r s : PlainRule A) → s.constructor ≡ r.constructor → PlainFits ranks n r → PlainFits ranks n s → PlainFits ranks n (both r s)
  fits_both n r s same f g = record {
    low = f.low;
    wide = joined_long r.demands s.demands (g.wide ∙ ap (λ c. get_or ranks c 0) same ∙ sym f.wide) ∙ f.wide;
    own = joined_own (λ x. x < n) r.demands s.demands f.own g.own;
  }

-- rules of one constructor are as wide, and stay so
pub as_wide : {A : Type 0} (ranks : List ℕ) (n m : ℕ) (rs ss : List (StaRule A)) → All (RuleFits ranks n) rs → All (RuleFits ranks m) ss → All (λ r. AreAsWide r ss) rs
as_wide ranks n m rs ss f g = in_all (λ r. AreAsWide r ss) rs (λ r at_r. in_all (λ s. s.constructor ≡ r.constructor → length s.demands.items ≡ length r.demands.items) ss (λ s at_s same.
    (all_in (RuleFits ranks m) ss g s at_s).1 ∙ ap (λ c. get_or ranks c 0) same ∙ sym (all_in (RuleFits ranks n) rs f r at_r).1))

pub wide_moved : {A : Type 0} (n : ℕ) (rs old new : List (StaRule A)) → map plain_rule new ≡ map (λ r. moved n (plain_rule r)) old → All (λ r. AreAsWide r old) rs → All (λ r. AreAsWide r new) rs
wide_moved n rs old new e h = in_all (λ r. AreAsWide r new) rs (λ r at_r. in_all (λ s. s.constructor ≡ r.constructor → length s.demands.items ≡ length r.demands.items) new (λ s at_s same.
    let (o, at_o, is) = map_member (λ r. moved n (plain_rule r)) old (plain_rule s) (subst (λ z. Contains z (plain_rule s)) e (in_map plain_rule new s at_s)) in
    let long : length s.demands.items ≡ length o.demands.items =
    sym (length-map s.demands.items (λ d. d.items)) ∙ sym (ap (λ z. length z.demands) is) ∙ length-map (map (λ d. d.items) o.demands.items) (map (λ s. n + s)) ∙ length-map o.demands.items (λ d. d.items) in
    long ∙ all_in (λ s. s.constructor ≡ r.constructor → length s.demands.items ≡ length r.demands.items) old (all_in (λ r. AreAsWide r old) rs h r at_r) o at_o (ap (λ z. z.constructor) is ∙ same)))

-- states of rules that fit are the automaton's own
pub own_of : {A : Type 0} (holds : A → Label → Bool) (m : Machine A) → EachRule (PlainFits m.ranks (length m.rules)) m.rules → AreOwn (automaton_of holds m)
own_of holds m fit q p at j s demanded =
    let (r, at_r, is) = map_member (rule_meaning holds) (rules_at m.rules q) p (subst (λ rs. Contains rs p) (get_or-map (map (rule_meaning holds)) m.rules q []) at) in
    let f = each_at (PlainFits m.ranks (length m.rules)) m.rules fit q r at_r in
    let here : Contains (get_or r.demands j []) s = subst (λ x. Contains (get_or x.demands j []) s) (sym is) demanded in
    let low = at_place r.demands j s here in
    omega (arith, f.own (get_or r.demands j []) low s here, length-map m.rules (map (rule_meaning holds)))
  where
    at_place : (ds : List (List ℕ)) (j s : ℕ) → Contains (get_or ds j []) s → Contains ds (get_or ds j [])
    at_place [] j s here = absurd (none_in s here)
    at_place (d ∷ ds) zero s here = first_in d ds
    at_place (d ∷ ds) (suc j) s here = later_in d (get_or ds j []) ds (at_place ds j s here)

-- the rules of a machine fit, as its code's rules do
pub machine_fits : {A G : Type 0} (m : Machine A) (rules : List (Vec (StaRule A) G)) → plain_rules rules ≡ m.rules → All (λ those. All (RuleFits m.ranks (length m.rules)) those.items) rules → EachRule (PlainFits m.ranks (length m.rules)) m.rules
machine_fits m rules are fit = subst (EachRule (PlainFits m.ranks (length m.rules))) are (fit_each m.ranks (length m.rules) rules fit)

pub rules_fit : {A G : Type 0} (given ranks : List ℕ) (n : ℕ) (rules : List (Vec (StaRule A) G)) (plain : List (List (PlainRule A))) → given ≡ ranks → plain_rules rules ≡ plain → length plain ≡ n → EachRule (PlainFits ranks n) plain → RulesFit given rules
rules_fit given ranks n rules plain same are long fit =
    let count : n ≡ length rules = sym long ∙ sym (ap length are) ∙ length-map rules (λ those. map plain_rule those.items) in
    each_fit given (length rules) rules (subst (EachRule (PlainFits given (length rules))) (sym are) (subst (λ k. EachRule (PlainFits given k) plain) count (subst (λ rs. EachRule (PlainFits rs n) plain) (sym same) fit)))

-- the code's rules fit, in number
pub known_fit : {A G : Type 0} (m : Machine A) (given : List ℕ) (rules : List (Vec (StaRule A) G)) → given ≡ m.ranks → plain_rules rules ≡ m.rules → All (λ those. All (RuleFits m.ranks (length m.rules)) those.items) rules → RulesFit given rules
known_fit m given rules same are fit =
    subst (λ n. All (λ those. All (RuleFits given n) those.items) rules) (sym (ap length are) ∙ length-map rules (λ those. map plain_rule those.items))
    (subst (λ rs. All (λ those. All (RuleFits rs (length m.rules)) those.items) rules) (sym same) fit)

-- both automata in one list fit
pub beside_fits : {A G : Type 0} (given ranks : List ℕ) (first second rules : List (Vec (StaRule A) G)) → RulesFit ranks first → RulesFit ranks second → given ≡ ranks → plain_rules rules ≡ beside (plain_rules first) (plain_rules second) → RulesFit given rules
beside_fits given ranks first second rules f g same are =
    let many : length (plain_rules first) ≡ length first = length-map first (λ those. map plain_rule those.items) in
    let more : length (map (map (moved (length (plain_rules first)))) (plain_rules second)) ≡ length second = length-map (plain_rules second) (map (moved (length (plain_rules first)))) ∙ length-map second (λ those. map plain_rule those.items) in
    rules_fit given ranks (length first + length second) rules (beside (plain_rules first) (plain_rules second)) same are (length-append (plain_rules first) (map (map (moved (length (plain_rules first)))) (plain_rules second)) ∙ omega (arith, many, more))
    (each_beside (PlainFits ranks (length first)) (PlainFits ranks (length second)) (PlainFits ranks (length first + length second)) (plain_rules first) (plain_rules second) (fits_among ranks (length first) (length first + length second) (omega arith))
    (fits_moved ranks (length (plain_rules first)) (length second) (length first + length second) (omega (arith, many))) (fit_each ranks (length first) first f) (fit_each ranks (length second) second g))
