-- Labels that agree on the guards of one automaton agree on those of another.
use Rattle.std.proofs.Common.{ℕ, ◌≡◌, ◌≤◌, inl, inr, not, ◌&&◌, ◌||◌, ◌==◌, List, [], ◌∷◌, length, Contains, refl, sym, ap, ap₂, subst, ◌∙◌}
use Rattle.std.proofs.lemmas.Bool.{cases_lt}
use Rattle.std.proofs.lemmas.List.{get_or_past}
use Rattle.std.specs.List.{list_any}
use Rattle.model_sta.specs.Automaton.{Rule, rules_of}
use Rattle.model_sta.specs.Sets.{Row, fires, rows_meet, step}
use Rattle.sta_theory.specs.Opposite.{IsOpposite, IsDoubled}
use Rattle.model_sta.specs.Operations.{Auto, KeepsGuards}
use Rattle.sta_theory.proofs.Lists.{none_in, first_in, later_in, map_same}

module _ {L : Type 0} (l m : L) where
  -- the guards of these rules have the same truth values
  abbrev pub AgreeOn : List (Rule L) → Type 0
  AgreeOn rs = (r : Rule L) → Contains rs r → r.guard l ≡ r.guard m

  -- so the same rules fire
  pub same_label_fires : (c : ℕ) (qs : List Row) (rs : List (Rule L)) → AgreeOn rs → list_any (fires c l qs) rs ≡ list_any (fires c m qs) rs
  same_label_fires c qs [] agree = refl
  same_label_fires c qs (r ∷ rs) agree =
      ap₂ (λ x y. ((r.constructor == c) && (x && rows_meet qs r.demands)) || y) (agree r (first_in r rs)) (same_label_fires c qs rs (λ s at. agree s (later_in r s rs at)))

  -- and a node has the same set
  pub same_label_step : (c : ℕ) (qs : List Row) (rules : List (List (Rule L))) → ((t : ℕ) → AgreeOn (rules_of rules t)) → step rules c l qs ≡ step rules c m qs
  same_label_step c qs rules agree = map_same (list_any (fires c l qs)) (list_any (fires c m qs)) rules [] (λ t. same_label_fires c qs (rules_of rules t) (agree t))

  opposite_agrees : (opp : ℕ → ℕ) (rs : List (Rule L)) (c : ℕ) (qs : List Row) (r : Rule L) → IsOpposite opp rs c qs r → AgreeOn rs → r.guard l ≡ r.guard m
  opposite_agrees opp rs c qs r is agree = is.guard_is l ∙ ap not (same_label_fires c qs rs agree) ∙ sym (is.guard_is m)

  -- no rule stands past the last state
  pub none_past : (rules : List (List (Rule L))) (q : ℕ) → length rules ≤ q → AgreeOn (rules_of rules q)
  none_past rules q high r at = absurd (none_in r (subst (λ rs. Contains rs r) (get_or_past rules q [] high) at))

  doubled_agree : (opp : ℕ → ℕ) (ranks : List ℕ) (known : List Row) (rules doubled : List (List (Rule L))) → IsDoubled opp ranks known rules doubled
      → ((q : ℕ) → AgreeOn (rules_of rules q)) → (q : ℕ) → AgreeOn (rules_of doubled q)
  doubled_agree opp ranks known rules doubled is agree q r at = elim (cases_lt q (length rules)) [
    | inl low ↦ agree q r (subst (λ rs. Contains rs r) (is.same q low) at)
    | inr high ↦ elim (cases_lt q (length doubled)) [
      | inl low ↦ (
          let (s, s_low, q_is, are) = is.each_new q high low in
          let (c, qs, long, opposite) = are.sound r at in
          opposite_agrees opp (rules_of rules s) c qs r opposite (agree s))
      | inr past ↦ none_past doubled q past r at
    ]
  ]

-- labels that agree on the guards of an automaton agree on those of its complement
pub doubled_keeps : {L : Type 0} (opp : ℕ → ℕ) (ranks : List ℕ) (known : List Row) (a c : Auto L) → IsDoubled opp ranks known a.rules c.rules → KeepsGuards a a c
doubled_keeps opp ranks known a c is l m agree _ = doubled_agree l m opp ranks known a.rules c.rules is agree
