-- An automaton with a state for "not s" beside each state s has the complement.
use Rattle.std.proofs.Common.{ℕ, zero, suc, ◌+◌, ◌-◌, ◌≡◌, ◌<◌, inl, inr, not, Bool, true, false, List, [], ◌∷◌, ◌++◌, map, get_or, length, Contains, Vec, append-nil, append_assoc, refl, sym, ap, subst, ◌∙◌, arith}
use Rattle.std.specs.Cmp.{IsEquivalence}
use Rattle.std.proofs.lemmas.Bool.{cases_lt}
use Rattle.std.proofs.lemmas.List.{get_or_append_left, get_or_at, get_or-append-add, length_push, length-map, length-append}
use Rattle.std.proofs.Math.ListN.{get_or-map}
use Rattle.model_tree.specs.Label.{Label}
use Rattle.model_tree.specs.Formula.{EveryAtom}
use Rattle.model_sta.specs.Automaton.{Rule, rules_of}
use Rattle.model_sta.specs.Sets.{Row, has}
use Rattle.model_sta.specs.Reached.{IsComplete}
use Rattle.model_sta.proofs.Reached.{same_default}
use Rattle.label_core.specs.Meaning.{Meaning}
use Rattle.sta_core.specs.Fits.{RulesFit}
use Rattle.sta_core.specs.Machine.{Machine, PlainRule, plain_rule}
use Rattle.sta_core.specs.declared.StaRule.{StaRule}
use Rattle.sta_classes.specs.Rules.{plain_rules}
use Rattle.sta_core.specs.Sta.{automaton_of, rule_meaning, AtomsFit}
use Rattle.sta_core.specs.declared.Lang.{Lang}
use Rattle.sta_theory.specs.Opposite.{signed, AreOpposites, IsDoubled}
use Rattle.sta_theory.proofs.Complement.{is_complement}
use Rattle.sta_theory.proofs.Guards.{doubled_keeps}
use Rattle.sta_theory.proofs.Lists.{none_in, first_in, later_in, append_member, map_member, in_map}
use Rattle.sta_ops.specs.Numbers.{AreNumbered}
use Rattle.sta_ops.specs.Opposites.{opposite_in, AreNotRules}
use Rattle.sta_ops.specs.Doubled.{AddsOpposites, IsDoubledBy}
use Rattle.sta_ops.specs.Rules.{rules_at}
use Rattle.sta_ops.specs.Languages.{auto_of, HasComplement, IsMadeOfBoth}
use Rattle.sta_ops.proofs.EachRule.{EachRule, each_at}
use Rattle.sta_ops.proofs.Fitting.{PlainFits, own_of, fits_among, fit_each, rules_fit}
use Rattle.sta_ops.proofs.Atoms.{Guarded, in_each}
use Rattle.sta_ops.proofs.NotRules.{not_guarded}
use Rattle.sta_ops.proofs.Owed.{owed}

module _ {A : Type 0} (ranks : List ℕ) (rows : List Row) (numbers fresh : List ℕ) (rules doubled : List (List (PlainRule A))) (numbered : AreNumbered rows (length rules) (length rules) numbers fresh)
    (adds : AddsOpposites numbers fresh ranks rows rules rules doubled) where
  abbrev n : ℕ
  n = length rules

  pub doubled_long : length doubled ≡ n + length fresh
  doubled_long = ap length adds.behind ∙ length-append rules adds.added ∙ ap (λ k. n + k) adds.many

  same_at : (s : ℕ) → s < n → rules_at doubled s ≡ rules_at rules s
  same_at s low = ap (λ rs. rules_at rs s) adds.behind ∙ get_or_append_left rules adds.added [] s low

  new_at : (f : ℕ) → rules_at doubled (n + f) ≡ get_or adds.added f []
  new_at f = ap (λ rs. rules_at rs (n + f)) adds.behind ∙ get_or-append-add rules adds.added f []

  pub number_low : (s : ℕ) → s < n → get_or numbers s 0 < length doubled
  number_low s low = elim (numbered.each s low) [
    | inl there ↦ omega (arith, there.0, doubled_long)
    | inr fresh_one ↦ (let (f, f_low, is, at) = fresh_one in omega (arith, f_low, at, doubled_long))
  ]

  -- what holds of each rule
  pub each_doubled : (Q : PlainRule A → Type 0) → EachRule Q rules → ((f : ℕ) → f < length fresh → (r : PlainRule A) → Contains (get_or adds.added f []) r → Q r) → EachRule Q doubled
  each_doubled Q old new rs at r here = elim (append_member rules adds.added rs (subst (λ l. Contains l rs) adds.behind at)) [
    | inl before ↦ old rs before r here
    | inr now ↦ new now.0 (omega (arith, now.1, adds.many)) r (subst (λ l. Contains l r) (sym (same_default adds.added now.0 [] rs now.1 ∙ now.2)) here)
  ]

  module _ (own : EachRule (PlainFits ranks n) rules) where
    owned : (f : ℕ) → f < length fresh → (r : PlainRule A) → Contains (get_or adds.added f []) r → PlainFits ranks (length doubled) r
    owned f low r at =
        let are = adds.each f low in
        let is = are.each r at in
        let s : ℕ = get_or fresh f 0 in
        record {
          low = is.low;
          wide = is.wide;
          own = λ d at_d x at_x.
              let meant = rule_meaning {A = A} (λ a l. false) in
              let (c, qs, long, opposite) = (are.are_opposites (λ a l. false)).sound (meant r) (in_map meant (get_or adds.added f []) r at) in
              let j : ℕ = at_d.0 in
              let c_is : r.constructor ≡ c = opposite.constructor_is in
              let j_low : j < length qs = omega (arith, at_d.1, is.wide, long, ap (λ k. get_or ranks k 0) c_is) in
              let here : Contains (get_or r.demands j []) x = subst (λ e. Contains e x) (sym (same_default r.demands j [] d at_d.1 ∙ at_d.2)) at_x in
              let (t, asked, x_is) = (opposite.demands_are j j_low x).0 here in
              let (p, at_p, p_c, met, demanded) = asked in
              let (q, at_q, q_is) = map_member meant (rules_at rules s) p at_p in
              let t_low : t < n = below q j t (subst (λ z. Contains (get_or z.demands j []) t) (sym q_is) demanded) (each_at (PlainFits ranks n) rules own s q at_q) in
              subst (λ k. k < length doubled) (sym x_is) (signed_low (has (get_or qs j []) t) t t_low);
        }
      where
        signed_low : (b : Bool) (t : ℕ) → t < n → signed (opposite_in numbers) b t < length doubled
        signed_low true t low = omega (arith, low, doubled_long)
        signed_low false t low = number_low t low

        below : (q : PlainRule A) (j t : ℕ) → Contains (get_or q.demands j []) t → PlainFits ranks n q → t < n
        below q j t at fits = fits.own (get_or q.demands j []) (at_place q.demands j t at) t at
          where
            at_place : (ds : List (List ℕ)) (j s : ℕ) → Contains (get_or ds j []) s → Contains ds (get_or ds j [])
            at_place [] j s here = absurd (none_in s here)
            at_place (d ∷ ds) zero s here = first_in d ds
            at_place (d ∷ ds) (suc j) s here = later_in d (get_or ds j []) ds (at_place ds j s here)

    pub doubled_fits : EachRule (PlainFits ranks (length doubled)) doubled
    doubled_fits = each_doubled (PlainFits ranks (length doubled)) (λ rs at r here. fits_among ranks n (length doubled) (omega (arith, doubled_long)) r (own rs at r here)) owned

  pub doubled_guarded : (P : A → Type 0) → EachRule (Guarded P) rules → EachRule (Guarded P) doubled
  doubled_guarded P h = each_doubled (Guarded P) h (λ f low r at.
      let s : ℕ = get_or fresh f 0 in
      not_guarded P ranks (rules_at rules s) r ((adds.each f low).each r at)
      (in_each (EveryAtom P) (map (λ x. x.guard) (rules_at rules s)) (λ g at_g. (let (q, at_q, is) = map_member (λ x. x.guard) (rules_at rules s) g at_g in subst (EveryAtom P) is (each_at (Guarded P) rules h s q at_q)))))

  module _ (holds : A → Label → Bool) where
    abbrev meant : PlainRule A → Rule Label
    meant = rule_meaning holds

    abbrev meaning : List (List (PlainRule A)) → List (List (Rule Label))
    meaning rs = map (map meant) rs

    meant_at : (rs : List (List (PlainRule A))) (s : ℕ) → rules_of (meaning rs) s ≡ map meant (rules_at rs s)
    meant_at rs s = get_or-map (map meant) rs s []

    long : (rs : List (List (PlainRule A))) → length (meaning rs) ≡ length rs
    long rs = length-map rs (map meant)

    fresh_opposites : (s f : ℕ) → f < length fresh → get_or fresh f 0 ≡ s → AreOpposites (opposite_in numbers) (rules_of (meaning rules) s) ranks rows (rules_of (meaning doubled) (n + f))
    fresh_opposites s f low is =
        subst (λ l. AreOpposites (opposite_in numbers) l ranks rows (rules_of (meaning doubled) (n + f))) (sym (meant_at rules s))
        (subst (AreOpposites (opposite_in numbers) (map meant (rules_at rules s)) ranks rows) (sym (meant_at doubled (n + f) ∙ ap (map meant) (new_at f)))
        (subst (λ k. AreOpposites (opposite_in numbers) (map meant (rules_at rules k)) ranks rows (map meant (get_or adds.added f []))) is ((adds.each f low).are_opposites holds)))

    pub is_doubled : IsDoubled (opposite_in numbers) ranks rows (meaning rules) (meaning doubled)
    is_doubled = record {
      more = omega (arith, long rules, long doubled, doubled_long);
      same = λ s low. meant_at doubled s ∙ ap (map meant) (same_at s (omega (arith, low, long rules))) ∙ sym (meant_at rules s);
      low = λ s low. omega (arith, number_low s (omega (arith, low, long rules)), long doubled);
      opposite = λ s low. elim (numbered.each s (omega (arith, low, long rules))) [
        | inl there ↦ inl (omega (arith, there.0, long rules), λ q at. subst (λ r. has r (get_or numbers s 0) ≡ not (has r s)) (same_default rows at.0 [] q at.1 ∙ at.2) (there.1 at.0 at.1))
        | inr fresh_one ↦ (
            let (f, f_low, is, at) = fresh_one in
            inr (subst (λ k. AreOpposites (opposite_in numbers) (rules_of (meaning rules) s) ranks rows (rules_of (meaning doubled) k)) (sym at) (fresh_opposites s f f_low is)))
      ];
      each_new = λ q high low.
          let f : ℕ = q - n in
          let q_is : q ≡ n + f = omega (arith, high, long rules) in
          let f_low : f < length fresh = omega (arith, q_is, low, long doubled, doubled_long) in
          let s : ℕ = get_or fresh f 0 in (
            s,
            omega (arith, numbered.fresh_low f f_low, long rules),
            q_is ∙ sym (numbered.fresh_at f f_low),
            subst (λ k. AreOpposites (opposite_in numbers) (rules_of (meaning rules) s) ranks rows (rules_of (meaning doubled) k)) (sym q_is) (fresh_opposites s f f_low refl),
          );
    }

-- one more opposite
pub adds_none : {A : Type 0} (numbers ranks : List ℕ) (rows : List Row) (rules old : List (List (PlainRule A))) → AddsOpposites numbers [] ranks rows rules old old
adds_none numbers ranks rows rules old = record { added = []; behind = sym (append-nil old); many = refl; each = λ f low. absurd (omega arith) }

pub adds_push : {A : Type 0} (numbers fresh ranks : List ℕ) (rows : List Row) (rules old mid new : List (List (PlainRule A))) (s : ℕ) (those : List (PlainRule A)) → AddsOpposites numbers fresh ranks rows rules old mid → AreNotRules numbers ranks rows (rules_at rules s) those → new ≡ mid ++ those ∷ []
    → AddsOpposites numbers (fresh ++ s ∷ []) ranks rows rules old new
adds_push numbers fresh ranks rows rules old mid new s those h are is = record {
  added = h.added ++ those ∷ [];
  behind = is ∙ ap (λ l. l ++ those ∷ []) h.behind ∙ append_assoc old h.added (those ∷ []);
  many = length_push h.added those ∙ ap (λ k. k + 1) h.many ∙ sym (length_push fresh s);
  each = λ f low. elim (cases_lt f (length fresh)) [
    | inl before ↦
        subst (λ k. AreNotRules numbers ranks rows (rules_at rules k) (get_or (h.added ++ those ∷ []) f [])) (sym (get_or_append_left fresh (s ∷ []) 0 f before))
        (subst (AreNotRules numbers ranks rows (rules_at rules (get_or fresh f 0))) (sym (get_or_append_left h.added (those ∷ []) [] f (omega (arith, before, h.many)))) (h.each f before))
    | inr past ↦ (
        let here : length fresh ≡ f = omega (arith, past, low, length_push fresh s) in
        subst (λ k. AreNotRules numbers ranks rows (rules_at rules k) (get_or (h.added ++ those ∷ []) f [])) (sym (get_or_at fresh s [] 0 f here))
        (subst (AreNotRules numbers ranks rows (rules_at rules s)) (sym (get_or_at h.added those [] [] f (h.many ∙ here))) are))
  ];
}

pub doubled_rules_fit : {A G : Type 0} (given ranks : List ℕ) (rows : List Row) (numbers fresh : List ℕ) (xs new : List (Vec (StaRule A) G)) → given ≡ ranks → RulesFit ranks xs → AreNumbered rows (length xs) (length xs) numbers fresh
    → AddsOpposites numbers fresh ranks rows (plain_rules xs) (plain_rules xs) (plain_rules new) → RulesFit given new
doubled_rules_fit given ranks rows numbers fresh xs new same fit numbered adds =
    let long : length (plain_rules xs) ≡ length xs = length-map xs (λ those. map plain_rule those.items) in
    rules_fit given ranks (length (plain_rules new)) new (plain_rules new) same refl refl
    (doubled_fits ranks rows numbers fresh (plain_rules xs) (plain_rules new) (subst (λ n. AreNumbered rows n n numbers fresh) (sym long) numbered) adds
    (subst (λ n. EachRule (PlainFits ranks n) (plain_rules xs)) (sym long) (fit_each ranks (length xs) xs fit)))

pub known_double : {A : Type 0} (rows : List Row) (m : Machine A) (ranks : List ℕ) (rules : List (List (PlainRule A))) (state : ℕ) (c : Lang A) → ranks ≡ m.ranks → rules ≡ m.rules → IsDoubledBy rows ranks rules state c → IsDoubledBy rows m.ranks m.rules state c
known_double rows m ranks rules state c same are h = subst (λ rs. IsDoubledBy rows m.ranks rs state c) are (subst (λ rs. IsDoubledBy rows rs rules state c) same h)

module _ {A V W : Type 0} {label_of : V → Label} {holds : A → Label → Bool} (M : Meaning label_of holds W) (E : A → A → Bool) (own_equal : M.equal ≡ E) (laws : IsEquivalence E) (fits : A → Type 0) (rows : List Row) (a c : Lang A)
    (fit : EachRule (PlainFits a.sta.ranks (length a.sta.rules)) a.sta.rules) (low : a.state < length a.sta.rules) (is : IsDoubledBy rows a.sta.ranks a.sta.rules a.state c) where
  doubles : IsDoubled (opposite_in is.numbers) a.sta.ranks rows (automaton_of holds a.sta) (automaton_of holds c.sta)
  doubles = is_doubled a.sta.ranks rows is.numbers is.fresh a.sta.rules c.sta.rules is.numbered is.adds holds

  pub complement_is : IsComplete a.sta.ranks M.has (automaton_of holds a.sta) rows → HasComplement M a c
  complement_is complete =
      is_complement (opposite_in is.numbers) a.sta.ranks M.has rows (auto_of holds a) (auto_of holds c) (own_of holds a.sta fit) complete doubles (omega (arith, low, length-map a.sta.rules (map (rule_meaning holds)))) is.state_is

  pub complement_owed : AtomsFit fits a.sta → IsMadeOfBoth M fits a a c
  complement_owed atoms =
      owed M E own_equal laws fits a a c fit fit atoms atoms is.ranks_are
      (subst (λ k. k < length c.sta.rules) (sym is.state_is) (number_low a.sta.ranks rows is.numbers is.fresh a.sta.rules c.sta.rules is.numbered is.adds a.state low))
      (doubled_keeps (opposite_in is.numbers) a.sta.ranks rows (auto_of holds a) (auto_of holds c) doubles)
      (λ P f g. doubled_guarded a.sta.ranks rows is.numbers is.fresh a.sta.rules c.sta.rules is.numbered is.adds P f)
