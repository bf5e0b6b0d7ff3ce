-- Parts of automata accept what they did, and are made of the same.
use Rattle.std.proofs.Common.{ℕ, zero, suc, ◌+◌, ◌≡◌, ◌<◌, ◌≤◌, inl, inr, Bool, true, false, true≢false, if◌then◌else◌, List, [], ◌∷◌, ◌++◌, map, take, get_or, length, All, Contains, Vec, refl, sym, ap, ap₂, subst, ◌∙◌, arith, eqb-true, eq-eqb, append-nil, append_assoc}
use Rattle.std.specs.Cmp.{IsEquivalence}
use Rattle.std.specs.List.{list_any, IsDistinct}
use Rattle.std.proofs.lemmas.Bool.{cases_lt}
use Rattle.std.proofs.lemmas.List.{get_or_append_left, get_or_at, get_or_past, length_push, map-append, length-append, length-map}
use Rattle.std.proofs.lemmas.List.Elements.{Contains-push_cases}
use Rattle.std.proofs.lemmas.Map.Keys.{apart_from_distinct}
use Rattle.std.proofs.lemmas.Map.Steps.{length-le_from_distinct_below}
use Rattle.std.proofs.lemmas.Simd.{map-map}
use Rattle.std.proofs.Math.Dec.{eqb}
use Rattle.std.proofs.Math.ListN.{get_or-map}
use Rattle.indexmap.specs.IndexSet.{insert_key}
use Rattle.indexmap.proofs.CallerLemmas.{Contains-list_any}
use Rattle.model_tree.specs.Label.{Label}
use Rattle.model_tree.specs.Tree.{LabelTree}
use Rattle.model_tree.specs.Formula.{Formula}
use Rattle.model_sta.specs.Automaton.{Rule, rules_of}
use Rattle.model_sta.specs.Operations.{IsMadeOf}
use Rattle.model_sta.proofs.Reached.{same_default}
use Rattle.label_core.specs.Atoms.{EachHasEqual}
use Rattle.label_core.specs.Meaning.{Meaning}
use Rattle.sta_core.specs.Fits.{RuleFits, RulesFit}
use Rattle.sta_core.specs.Machine.{Machine, PlainRule, plain_rule}
use Rattle.sta_core.specs.declared.StaRule.{StaRule}
use Rattle.sta_core.specs.Sta.{automaton_of, rule_meaning}
use Rattle.sta_core.specs.declared.Lang.{Lang}
use Rattle.sta_classes.specs.Rules.{plain_rules}
use Rattle.sta_classes.specs.Guards.{all_guards, atoms_of_all}
use Rattle.sta_theory.specs.Parts.{IsPart, renamed as renamed_rule}
use Rattle.sta_theory.proofs.Lists.{none_in, first_in, later_in, append_member, map_member, in_map}
use Rattle.sta_theory.proofs.Parts.{part_is_made, part_keeps}
use Rattle.sta_ops.specs.Rules.{rules_at}
use Rattle.sta_ops.specs.Languages.{auto_of, IsMadeOfBoth}
use Rattle.sta_ops.specs.Trimmed.{state_named, states_named, Meets, AreNamed, AreNamesOfAll, DemandedBy, DemandedByAny, renamed, IsNamedRule, AreNamedRules, IsReachedFromAny, among, demanded, AreAllNamed, IsTrimmed, ReachesAll}
use Rattle.sta_ops.proofs.Growing.{mapped}
use Rattle.sta_ops.proofs.EachRule.{only, all_in, EachRule, each_at}
use Rattle.sta_ops.proofs.Fitting.{PlainFits, fits_plain, rules_fit, machine_fits}
use Rattle.sta_ops.proofs.Atoms.{Guarded, IsAmong, from_fit, to_fit, each_equal, each_among}

pub meets_none : (keys new : List ℕ) (W : ℕ → Type 0) → new ≡ keys → Meets keys new W
meets_none keys new W e = record { more = []; behind = e ∙ sym (append-nil keys); wanted = λ s at. absurd (none_in s at) }

pub meets_then : (a b d : List ℕ) (V W U : ℕ → Type 0) → Meets a b V → Meets b d W → ((s : ℕ) → V s → U s) → ((s : ℕ) → W s → U s) → Meets a d U
meets_then a b d V W U f g v w = record {
  more = f.more ++ g.more;
  behind = g.behind ∙ ap (λ l. l ++ g.more) f.behind ∙ append_assoc a f.more g.more;
  wanted = λ s at. elim (append_member f.more g.more s at) [ inl x ↦ v s (f.wanted s x) | inr y ↦ w s (g.wanted s y) ];
}

-- one more key
pub meets_key : (eq : ℕ → ℕ → Bool) (keys new : List ℕ) (s : ℕ) → new ≡ insert_key eq keys s → Meets keys new (λ t. s ≡ t)
meets_key eq keys new s is = subst (λ l. Meets keys l (λ t. s ≡ t)) (sym is) (by (list_any (eq s) keys))
  where
    by : (b : Bool) → Meets keys (if b then keys else keys ++ s ∷ []) (λ t. s ≡ t)
    by true = meets_none keys keys (λ t. s ≡ t) refl
    by false = record { more = s ∷ []; behind = refl; wanted = λ t at. only s t at }

map_same_in : {X Y : Type 0} (f g : X → Y) (xs : List X) → ((x : X) → Contains xs x → f x ≡ g x) → map f xs ≡ map g xs
map_same_in f g [] h = refl
map_same_in f g (x ∷ xs) h = ap₂ (λ y ys. y ∷ ys) (h x (first_in x xs)) (map_same_in f g xs (λ y at. h y (later_in x y xs at)))

-- things that have names stay so where more states are met
module _ {X : Type 0} (name : List ℕ → X → X) (Has : X → ℕ → Type 0) (stays : (met more : List ℕ) (x : X) → ((k : ℕ) → Has x k → k < length met) → name (met ++ more) x ≡ name met x) where
  named_more : (old new : List ℕ) (W : ℕ → Type 0) (xs ns : List X) → Meets old new W → AreNamed name Has old xs ns → AreNamed name Has new xs ns
  named_more old new W xs ns m h = record {
    named = map_same_in (name new) (name old) ns (λ x at. ap (λ l. name l x) m.behind ∙ stays old m.more x (h.low x at)) ∙ h.named;
    low = λ x at k d. omega (arith, h.low x at k d, ap length m.behind, length-append old m.more);
  }

  named_push : (met : List ℕ) (xs ns : List X) (x n : X) → AreNamed name Has met xs ns → name met n ≡ x → ((k : ℕ) → Has n k → k < length met) → AreNamed name Has met (xs ++ x ∷ []) (ns ++ n ∷ [])
  named_push met xs ns x n h is low = record {
    named = map-append (name met) ns (n ∷ []) ∙ ap₂ (λ a b. a ++ b ∷ []) h.named is;
    low = λ y at. elim (Contains-push_cases ns n y at) [ inl old ↦ h.low y old | inr e ↦ subst (λ z. (k : ℕ) → Has z k → k < length met) e low ];
  }

  -- one more of a list that is gone over
  module _ {T U : Type 0} (f : T → X) (g : U → X) (ts : List T) (i : ℕ) (t : T) (within : i < length ts) (at : t ≡ get_or ts i t) where
    pub named_next : (old new : List ℕ) (W : ℕ → Type 0) (us us' : List U) (u : U) → us' ≡ us ++ u ∷ [] → Meets old new W → name new (g u) ≡ f t → ((k : ℕ) → Has (g u) k → k < length new)
        → AreNamed name Has old (map f (take i ts)) (map g us) → AreNamed name Has new (map f (take (i + 1) ts)) (map g us')
    named_next old new W us us' u put m is low h =
        subst (λ l. AreNamed name Has new (map f (take (i + 1) ts)) l) (sym (ap (map g) put ∙ map-append g us (u ∷ [])))
        (subst (λ l. AreNamed name Has new l (map g us ++ g u ∷ [])) (sym (mapped f ts i t within at))
        (named_push new (map f (take i ts)) (map g us) (f t) (g u) (named_more old new W (map f (take i ts)) (map g us) m h) is low))

  pub named_none : (met : List ℕ) (ns : List X) → ns ≡ [] → AreNamed name Has met [] ns
  named_none met ns e = subst (AreNamed name Has met []) (sym e) (record { named = refl; low = λ x at. absurd (none_in x at) })

pub map_own : {X : Type 0} (xs : List X) → map (λ x. x) xs ≡ xs
map_own [] = refl
map_own (x ∷ xs) = ap (λ l. x ∷ l) (map_own xs)

pub state_stays : (met more : List ℕ) (s : ℕ) → ((k : ℕ) → s ≡ k → k < length met) → state_named (met ++ more) s ≡ state_named met s
state_stays met more s low = get_or_append_left met more 0 s (low s refl)

pub states_stay : (met more d : List ℕ) → ((k : ℕ) → Contains d k → k < length met) → states_named (met ++ more) d ≡ states_named met d
states_stay met more d low = map_same_in (state_named (met ++ more)) (state_named met) d (λ s at. get_or_append_left met more 0 s (low s at))

pub rule_stays : {A : Type 0} (met more : List ℕ) (r : PlainRule A) → ((k : ℕ) → DemandedBy r.demands k → k < length met) → renamed (met ++ more) r ≡ renamed met r
rule_stays {A} met more r low = ap rule (map_same_in (states_named (met ++ more)) (states_named met) r.demands (λ d at. states_stay met more d (λ k here. low k (d, at, here))))
  where
    rule : List (List ℕ) → PlainRule A
    rule ds = record { constructor = r.constructor; guard = r.guard; demands = ds }

-- of the first so many states that are met the rules are named
pub record AreNamedTo {A : Type 0} (whole : List (List (PlainRule A))) (first met : List ℕ) (rules : List (List (PlainRule A))) (count : ℕ) : Type 0 where
  pub more : List ℕ
  pub behind : met ≡ first ++ more
  pub many : length rules ≡ count
  pub within : count ≤ length met
  pub old : (s : ℕ) → Contains met s → s < length whole
  pub reached : (s : ℕ) → Contains met s → IsReachedFromAny whole first s
  pub rules_are : (q : ℕ) → q < count → AreNamedRules met (rules_at whole (state_named met q)) (rules_at rules q)

module _ {A : Type 0} (whole : List (List (PlainRule A))) (first : List ℕ) where
  pub none_named : (rules : List (List (PlainRule A))) → rules ≡ [] → ((s : ℕ) → Contains first s → s < length whole) → AreNamedTo whole first first rules 0
  none_named rules e low = subst (λ l. AreNamedTo whole first first l 0) (sym e) (record { more = []; behind = sym (append-nil first); many = refl; within = omega arith; old = low; reached = λ s at. among s at; rules_are = λ q below. absurd (omega arith) })

  pub state_named_more : (met met' : List ℕ) (rules : List (List (PlainRule A))) (count s : ℕ) (new : List (PlainRule A)) → AreNamedTo whole first met rules count → count < length met → state_named met count ≡ s → Meets met met' (DemandedByAny (rules_at whole s)) → AreNamedRules met' (rules_at whole s) new
      → ((t : ℕ) → DemandedByAny (rules_at whole s) t → t < length whole) → (rules' : List (List (PlainRule A))) → rules' ≡ rules ++ new ∷ [] → AreNamedTo whole first met' rules' (count + 1)
  state_named_more met met' rules count s new h low is m named own rules' put =
      let at_s : Contains met s = (count, low, same_default met count s 0 low ∙ is) in
      let same : (q : ℕ) → q < length met → state_named met' q ≡ state_named met q = λ q below. ap (λ l. state_named l q) m.behind ∙ get_or_append_left met m.more 0 q below in
      record {
        more = h.more ++ m.more;
        behind = m.behind ∙ ap (λ l. l ++ m.more) h.behind ∙ append_assoc first h.more m.more;
        many = ap length put ∙ length_push rules new ∙ ap (λ k. k + 1) h.many;
        within = omega (arith, low, ap length m.behind, length-append met m.more);
        old = λ t at. elim (append_member met m.more t (subst (λ l. Contains l t) m.behind at)) [ inl before ↦ h.old t before | inr now ↦ own t (m.wanted t now) ];
        reached = λ t at. elim (append_member met m.more t (subst (λ l. Contains l t) m.behind at)) [ inl before ↦ h.reached t before | inr now ↦ demanded s t (h.reached s at_s) (m.wanted t now) ];
        rules_are = λ q below. elim (cases_lt q count) [
          | inl before ↦
              subst (λ k. AreNamedRules met' (rules_at whole k) (rules_at rules' q)) (sym (same q (omega (arith, before, low))))
              (subst (AreNamedRules met' (rules_at whole (state_named met q))) (sym (ap (λ l. rules_at l q) put ∙ get_or_append_left rules (new ∷ []) [] q (omega (arith, before, h.many))))
              (named_more renamed (λ r k. DemandedBy r.demands k) rule_stays met met' (DemandedByAny (rules_at whole s)) (rules_at whole (state_named met q)) (rules_at rules q) m (h.rules_are q before)))
          | inr past ↦ (
              let here : count ≡ q = omega (arith, past, below) in
              subst (λ k. AreNamedRules met' (rules_at whole k) (rules_at rules' q)) (sym (same q (omega (arith, here, low)) ∙ ap (state_named met) (sym here) ∙ is))
              (subst (AreNamedRules met' (rules_at whole s)) (sym (ap (λ l. rules_at l q) put ∙ get_or_at rules new [] [] q (h.many ∙ here))) named))
        ];
      }

  pub all_named : (met : List ℕ) (rules : List (List (PlainRule A))) (count : ℕ) → AreNamedTo whole first met rules count → IsDistinct eqb met → length met ≤ count → AreAllNamed whole first met rules
  all_named met rules count h once done = record {
    more = h.more;
    behind = h.behind;
    many = omega (arith, h.many, h.within, done);
    once = once;
    old = h.old;
    reached = h.reached;
    rules_are = λ q low. h.rules_are q (omega (arith, low, done));
  }

  -- there are no more of them than states
  pub few_met : (met : List ℕ) (rules : List (List (PlainRule A))) (count : ℕ) → AreNamedTo whole first met rules count → IsDistinct eqb met → length met ≤ length whole
  few_met met rules count h once = length-le_from_distinct_below met (length whole) once (λ s at. h.old s (Contains-list_any eqb eqb-true met s at))

module _ {A : Type 0} where
  -- one of several lists of numbers
  pub rule_named : (met : List ℕ) (r named : PlainRule A) → AreNamesOfAll met r.demands named.demands → named.constructor ≡ r.constructor → named.guard ≡ r.guard → IsNamedRule met r named
  rule_named met r named h e f = record {
    is = made e f h.named;
    low = λ k d. h.low d.0 d.1 k d.2;
  }
    where
      rule : ℕ → Formula A → List (List ℕ) → PlainRule A
      rule b g ds = record { constructor = b; guard = g; demands = ds }

      made : {b b' : ℕ} {g g' : Formula A} {ds ds' : List (List ℕ)} → b ≡ b' → g ≡ g' → ds ≡ ds' → rule b g ds ≡ rule b' g' ds'
      made p q r = λ i. rule (p i) (q i) (r i)

pub at_place : (ds : List (List ℕ)) (j s : ℕ) → Contains (get_or ds j []) s → Contains ds (get_or ds j [])
at_place [] j s here = absurd (none_in s here)
at_place (d ∷ ds) zero s here = first_in d ds
at_place (d ∷ ds) (suc j) s here = later_in d (get_or ds j []) ds (at_place ds j s here)

-- each is met once
pub met_once : (met : List ℕ) → IsDistinct eqb met → (q r : ℕ) → q < length met → r < length met → state_named met q ≡ state_named met r → q ≡ r
met_once met distinct q r q_low r_low same = elim (cases_lt q r) [
  | inl before ↦ absurd (true≢false (sym (eq-eqb (state_named met q) (state_named met r) same) ∙ apart_from_distinct eqb met q r 0 distinct before r_low))
  | inr past ↦ elim (cases_lt r q) [
    | inl after ↦ absurd (true≢false (sym (eq-eqb (state_named met r) (state_named met q) (sym same)) ∙ apart_from_distinct eqb met r q 0 distinct after q_low))
    | inr over ↦ omega (arith, past, over)
  ]
]

module _ {A : Type 0} (whole : List (List (PlainRule A))) (first met : List ℕ) (rules : List (List (PlainRule A))) (all : AreAllNamed whole first met rules) where
  -- a rule of the part is one of the whole, with other numbers
  source : (q : ℕ) → q < length rules → (r : PlainRule A) → Contains (rules_at rules q) r → Contains (rules_at whole (state_named met q)) (renamed met r)
  source q low r at =
      let named = all.rules_are q (omega (arith, low, all.many)) in
      subst (λ l. Contains l (renamed met r)) named.named (in_map (renamed met) (rules_at rules q) r at)

  pub each_named : (Q R : PlainRule A → Type 0) → EachRule Q whole → ((r : PlainRule A) → ((k : ℕ) → DemandedBy r.demands k → k < length rules) → Q (renamed met r) → R r) → EachRule R rules
  each_named Q R h turn rs at r here =
      let q : ℕ = at.0 in
      let there : Contains (rules_at rules q) r = subst (λ l. Contains l r) (sym (same_default rules q [] rs at.1 ∙ at.2)) here in
      let named = all.rules_are q (omega (arith, at.1, all.many)) in
      turn r (λ k d. omega (arith, named.low r there k d, all.many)) (each_at Q whole h (state_named met q) (renamed met r) (source q at.1 r there))

  pub named_fits : (ranks : List ℕ) → EachRule (PlainFits ranks (length whole)) whole → EachRule (PlainFits ranks (length rules)) rules
  named_fits ranks fit = each_named (PlainFits ranks (length whole)) (PlainFits ranks (length rules)) fit (λ r low f.
      let long : length (map (states_named met) r.demands) ≡ length r.demands = length-map r.demands (states_named met) in
      record { low = f.low; wide = sym long ∙ f.wide; own = λ d at s here. low s (d, at, here) })

-- what rules that fit demand
pub rules_own : {A : Type 0} (ranks : List ℕ) (n : ℕ) (rules : List (StaRule A)) → All (RuleFits ranks n) rules → (t : ℕ) → DemandedByAny (map plain_rule rules) t → t < n
rules_own ranks n rules fit t (p, at, (d, at_d, here)) =
    let (r, at_r, is) = map_member plain_rule rules p at in
    (fits_plain ranks n r (all_in (RuleFits ranks n) rules fit r at_r)).own d (subst (λ z. Contains z.demands d) (sym is) at_d) t here

module _ {A : Type 0} (a c : Lang A) (is : IsTrimmed a c) where
  pub trimmed_guarded : (P : A → Type 0) → EachRule (Guarded P) a.sta.rules → EachRule (Guarded P) c.sta.rules
  trimmed_guarded P h = each_named a.sta.rules (a.state ∷ []) is.met c.sta.rules is.all (Guarded P) (Guarded P) h (λ r low g. g)

  module _ (holds : A → Label → Bool) where
    abbrev meant : PlainRule A → Rule Label
    meant = rule_meaning holds

    rules_at_meant : (m : Lang A) (s : ℕ) → rules_of (automaton_of holds m.sta) s ≡ map meant (rules_at m.sta.rules s)
    rules_at_meant m s = get_or-map (map meant) m.sta.rules s []

    long : (m : Lang A) → length (automaton_of holds m.sta) ≡ length m.sta.rules
    long m = length-map m.sta.rules (map meant)

    pub is_part : IsPart (state_named is.met) (automaton_of holds a.sta) (automaton_of holds c.sta)
    is_part = record {
      low = λ q low. omega (arith, is.all.old (state_named is.met q) (q, omega (arith, low, long c, is.all.many), same_default is.met q (state_named is.met q) 0 (omega (arith, low, long c, is.all.many))), long a);
      once = λ q r q_low r_low same. met_once is.met is.all.once q r (omega (arith, q_low, long c, is.all.many)) (omega (arith, r_low, long c, is.all.many)) same;
      own = λ q r at j s demanded.
          let (p, at_p, p_is) = map_member meant (rules_at c.sta.rules q) r (subst (λ l. Contains l r) (rules_at_meant c q) at) in
          let here : Contains (get_or p.demands j []) s = subst (λ z. Contains (get_or z.demands j []) s) (sym p_is) demanded in
          elim (cases_lt q (length c.sta.rules)) [
            | inl low ↦ omega (arith, (is.all.rules_are q (omega (arith, low, is.all.many))).low p at_p s (get_or p.demands j [], at_place p.demands j s here, here), is.all.many, long c)
            | inr past ↦ absurd (none_in p (subst (λ l. Contains l p) (get_or_past c.sta.rules q [] past) at_p))
          ];
      rules_are = λ q low.
          rules_at_meant a (state_named is.met q) ∙ ap (map meant) (sym (is.all.rules_are q (omega (arith, low, long c, is.all.many))).named)
          ∙ map-map meant (renamed is.met) (rules_at c.sta.rules q) ∙ sym (map-map (renamed_rule (state_named is.met)) meant (rules_at c.sta.rules q))
          ∙ ap (map (renamed_rule (state_named is.met))) (sym (rules_at_meant c q));
    }

module _ {A V W : Type 0} {label_of : V → Label} {holds : A → Label → Bool} (M : Meaning label_of holds W) (E : A → A → Bool) (own_equal : M.equal ≡ E) (laws : IsEquivalence E) (fits : A → Type 0) (whole part : Lang A) (is : IsTrimmed whole part) where
  met_some : 0 < length is.met
  met_some = omega (arith, ap length is.all.behind, length-append (whole.state ∷ []) is.all.more)

  low_plain : part.state < length part.sta.rules
  low_plain = omega (arith, is.state_is, met_some, is.all.many)

  low_meant : part.state < length (automaton_of holds part.sta)
  low_meant = omega (arith, low_plain, length-map part.sta.rules (map (rule_meaning holds)))

  start_is : state_named is.met part.state ≡ whole.state
  start_is = ap (state_named is.met) is.state_is ∙ ap (λ l. state_named l 0) is.all.behind

  -- what the whole is made of the part is
  pub part_made : (Typed : LabelTree → Type 0) (Q : (LabelTree → Type 0) → Type 0) (P : LabelTree → Type 0) → IsMadeOf Typed Q (auto_of holds whole) P → IsMadeOf Typed Q (auto_of holds part) P
  part_made Typed Q P made = part_is_made Typed (state_named is.met) (auto_of holds whole) (auto_of holds part) (is_part whole part is holds) low_meant start_is Q P made

  -- and the part owes what the whole does
  pub part_owed : (a b : Lang A) → IsMadeOfBoth M fits a b whole → IsMadeOfBoth M fits a b part
  part_owed a b owed = record {
    ranks = is.ranks_are ∙ owed.ranks;
    low = low_plain;
    fit = to_fit fits part.sta (trimmed_guarded whole part is fits (from_fit fits whole.sta owed.fit));
    guards = part_keeps (λ t. Unit {0}) (state_named is.met) (auto_of holds whole) (auto_of holds part) (is_part whole part is holds) low_meant start_is (auto_of holds a) (auto_of holds b) owed.guards;
    atoms = each_equal M.equal laws' guards part.sta.rules (trimmed_guarded whole part is (IsAmong M.equal laws' guards) (among_more owed.atoms));
  }
    where
      laws' : IsEquivalence M.equal
      laws' = subst IsEquivalence (sym own_equal) laws

      guards : List (Formula A)
      guards = all_guards a.sta.rules ++ all_guards b.sta.rules

      among_more : EachHasEqual M.equal (atoms_of_all (all_guards whole.sta.rules)) (atoms_of_all guards) → EachRule (Guarded (IsAmong M.equal laws' guards)) whole.sta.rules
      among_more h = each_among M.equal laws' guards whole.sta.rules h

-- the rules of a part fit
pub part_fits : {A G H : Type 0} (m : Machine A) (first met : List ℕ) (xs : List (Vec (StaRule A) G)) (rules : List (Vec (StaRule A) H)) → plain_rules xs ≡ m.rules → All (λ those. All (RuleFits m.ranks (length m.rules)) those.items) xs → AreAllNamed m.rules first met (plain_rules rules) → RulesFit m.ranks rules
part_fits m first met xs rules are fit all = rules_fit m.ranks m.ranks (length (plain_rules rules)) rules (plain_rules rules) refl refl refl (named_fits m.rules first met (plain_rules rules) all m.ranks (machine_fits m xs are fit))

-- of a part of what one state reaches no state is out of its reach
module _ {A : Type 0} (whole : List (List (PlainRule A))) (start : ℕ) (met : List ℕ) (rules : List (List (PlainRule A))) (all : AreAllNamed whole (start ∷ []) met rules) where
  -- the state has a number that is reached
  abbrev Stands : ℕ → Type 0
  Stands s = (q : ℕ) × (q < length met) × (state_named met q ≡ s) × IsReachedFromAny rules (0 ∷ []) q

  stands : (s : ℕ) → IsReachedFromAny whole (start ∷ []) s → Stands s
  stands _ (among s at) = (0, omega (arith, ap length all.behind, length-append (start ∷ []) all.more), ap (λ l. state_named l 0) all.behind ∙ only start s at, among 0 (first_in 0 []))
  stands _ (demanded s t from by) =
      let (q, low, is, reached) = stands s from in
      let (r, at_r, (d, at_d, at_t)) = by in
      let named = all.rules_are q low in
      let (p, at_p, p_is) = map_member (renamed met) (rules_at rules q) r (subst (λ l. Contains l r) (ap (rules_at whole) (sym is) ∙ sym named.named) at_r) in
      let (e, at_e, e_is) = map_member (states_named met) p.demands d (subst (λ z. Contains z.demands d) (sym p_is) at_d) in
      let (k, at_k, k_is) = map_member (state_named met) e t (subst (λ l. Contains l t) (sym e_is) at_t) in
      (k, named.low p at_p k (e, at_e, at_k), k_is, demanded q k reached (p, at_p, (e, at_e, at_k)))

  all_reached : (q : ℕ) → q < length rules → IsReachedFromAny rules (0 ∷ []) q
  all_reached q within =
      let low : q < length met = omega (arith, within, all.many) in
      let (k, k_low, k_is, reached) = stands (state_named met q) (all.reached (state_named met q) (q, low, same_default met q (state_named met q) 0 low)) in
      subst (IsReachedFromAny rules (0 ∷ [])) (met_once met all.once k q k_low low k_is) reached

pub trimmed_reaches : {A : Type 0} (a c : Lang A) → IsTrimmed a c → ReachesAll c
trimmed_reaches a c is s low = subst (λ z. IsReachedFromAny c.sta.rules (z ∷ []) s) (sym is.state_is) (all_reached a.sta.rules a.state is.met c.sta.rules is.all s low)
