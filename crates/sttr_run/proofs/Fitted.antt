-- Rules that stand fit.
use Rattle.std.proofs.Common.{ℕ, ◌<◌, ◌≡◌, inl, inr, Bool, List, [], ◌∷◌, map, get_or, length, All, Contains, Vec, sym, subst, arith}
use Rattle.std.proofs.lemmas.List.Elements.{All-tail}
use Rattle.model_tree.specs.Label.{Label}
use Rattle.model_sta.specs.Automaton.{Rule, rules_of}
use Rattle.model_sta.specs.Operations.{AreStates}
use Rattle.model_sta.specs.Sets.{Each}
use Rattle.model_sttr.specs.Plain.{PlainOut}
use Rattle.model_sttr.specs.Terms.{Term, on, build, Parts, no_parts, part, Occurs, OccursIn, with_maps, parts_with_maps}
use Rattle.model_sttr.specs.Transducer.{Head, identity, run, OutRule, Sttr, out_rules, IsHead, OutRuleFits, SttrFits}
use Rattle.sta_core.specs.Fits.{RuleFits}
use Rattle.sta_core.specs.Machine.{Machine, PlainRule, plain_rule}
use Rattle.sta_core.specs.Sta.{rule_meaning}
use Rattle.sta_core.specs.declared.StaRule.{StaRule}
use Rattle.sta_core.proofs.Meaning.{rules_of_automaton}
use Rattle.sttr_core.specs.Machine.{OutMachine, transducer_of}
use Rattle.sttr_core.proofs.Meaning.{meaning_of, rule_held, of_place, uses_as_with_maps}
use Rattle.sttr_theory.proofs.Members.{of_mapped}
use Rattle.sttr_theory.proofs.Each.{each_map}
use Rattle.sttr_run.specs.Fits.{SttrStands, OutStands, LooksStand}
use Rattle.sttr_run.proofs.Members.{all_at, all_of}
use Rattle.sttr_run.proofs.Weights.{mapped_length}

each_of_all : {X : Type 0} (P : X → Type 0) (xs : List X) → All P xs → Each P xs
each_of_all P [] all = tt
each_of_all P (x ∷ xs) all = (all 0 x (omega arith), each_of_all P xs (All-tail P x xs all))

-- demands of states, as many as there are
demands_low : (n m : ℕ) → n ≡ m → (ds : List (List ℕ)) → All (All (λ s. s < n)) ds → Each (Each (λ s. s < m)) ds
demands_low n m e ds all = each_map (All (λ s. s < n)) (Each (λ s. s < m)) (λ d low. subst (λ k. Each (λ s. s < k) d) e (each_of_all (λ s. s < n) d low)) ds (each_of_all (All (λ s. s < n)) ds all)

-- states that there are
pub are_states : {A M : Type 0} (holds : A → Label → Bool) (make : M → Label → Label) (d : OutMachine A M) (all : List ℕ) → All (λ s. s < length d.looks.rules) all → AreStates (transducer_of holds make d).looks all
are_states holds make d all low = subst (λ n. Each (λ s. s < n) all) (sym (mapped_length (map (rule_meaning holds)) d.looks.rules)) (each_of_all (λ s. s < length d.looks.rules) all low)

module _ {H M N : Type 0} (f : M → N) (h : H) (j : ℕ) where
  mutual
    occurs_as : (p : Term H M) → Occurs h j (with_maps f p) → Occurs h j p
    occurs_as (on k i) o = o
    occurs_as (build c m ps) o = occurs_as_in ps o

    occurs_as_in : (ps : Parts H M) → OccursIn h j (parts_with_maps f ps) → OccursIn h j ps
    occurs_as_in no_parts o = o
    occurs_as_in (part p ps) (inl o) = inl (occurs_as p o)
    occurs_as_in (part p ps) (inr o) = inr (occurs_as_in ps o)

module _ {A M : Type 0} (holds : A → Label → Bool) (make : M → Label → Label) (d : OutMachine A M) (looks : LooksStand d.looks) (stands : SttrStands d) where
  abbrev T : Sttr Label
  T = transducer_of holds make d

  many_looks : length d.looks.rules ≡ length T.looks
  many_looks = sym (mapped_length (map (rule_meaning holds)) d.looks.rules)

  many_states : length d.rules ≡ length T.rules
  many_states = sym (mapped_length (map (meaning_of holds make)) d.rules)

  look_fits : (s : ℕ) (r : Rule Label) → Contains (rules_of T.looks s) r → Each (Each (λ s. s < length T.looks)) r.demands
  look_fits s r at =
      let (x, in_x, is) = of_mapped (rule_meaning holds) (get_or d.looks.rules s []) r (subst (λ rs. Contains rs r) (rules_of_automaton holds d.looks s) at) in
      subst (λ (r : Rule Label). Each (Each (λ s. s < length T.looks)) r.demands) is
      (demands_low (length d.looks.rules) (length T.looks) many_looks x.demands (of_place (λ r. All (All (λ s. s < length d.looks.rules)) r.demands) d.looks.rules s x looks in_x))

  heads : (q : ℕ) (x : PlainOut (PlainRule A) M) → Contains (out_rules T q) (meaning_of holds make x) → OutStands d.looks.ranks (length d.looks.rules) (length d.rules) x → (h : Head) (j : ℕ) → Occurs h j (with_maps make x.term) → IsHead T h
  heads q x at s identity j o = (q, meaning_of holds make x, at, j, o)
  heads q x at s (run p) j o = subst (λ n. p < n) many_states (s.calls p j (occurs_as make (run p) j x.term o))

  rule_fits : (q : ℕ) (r : OutRule Label) → Contains (out_rules T q) r → OutRuleFits T d.looks.ranks r
  rule_fits q r at =
      let (x, in_x, is) = rule_held holds make d q r at in
      let s = of_place (OutStands d.looks.ranks (length d.looks.rules) (length d.rules)) d.rules q x stands in_x in
      subst (OutRuleFits T d.looks.ranks) is (record {
        children = λ j u. s.children j (uses_as_with_maps make j x.term u);
        heads = heads q x (subst (Contains (out_rules T q)) (sym is) at) s;
        demands = demands_low (length d.looks.rules) (length T.looks) many_looks x.rule.demands s.rule.demands;
      })

  -- the transducer over labels fits
  pub stands_fit : SttrFits T d.looks.ranks
  stands_fit = record { looks = look_fits; rules = rule_fits }

-- the rules of an automaton stand
pub rules_stand : {A G : Type 0} (m : Machine A) (rules : List (Vec (StaRule A) G)) → map (λ those. map plain_rule those.items) rules ≡ m.rules → All (λ those. All (RuleFits m.ranks (length m.rules)) those.items) rules → LooksStand m
rules_stand {A} m rules e fit =
    all_of (All (λ r. All (All (λ s. s < length m.rules)) r.demands)) m.rules (λ those at.
    let (u, in_rules, is) = of_mapped (λ those. map plain_rule those.items) rules those (subst (λ rs. Contains rs those) (sym e) at) in
    subst (All (λ (r : PlainRule A). All (All (λ s. s < length m.rules)) r.demands)) is
    (all_of (λ (r : PlainRule A). All (All (λ s. s < length m.rules)) r.demands) (map plain_rule u.items) (λ r in_r.
    let (x, in_x, is') = of_mapped plain_rule u.items r in_r in
    let fits = all_at (RuleFits m.ranks (length m.rules)) u.items x (all_at (λ those. All (RuleFits m.ranks (length m.rules)) those.items) rules u fit in_rules) in_x in
    subst (λ (r : PlainRule A). All (All (λ s. s < length m.rules)) r.demands) is'
    (all_of (All (λ s. s < length m.rules)) (map (λ d. d.items) x.demands.items) (λ d in_d.
    let (v, in_v, is'') = of_mapped (λ d. d.items) x.demands.items d in_d in
    subst (All (λ s. s < length m.rules)) is'' (all_at (λ d. All (λ s. s < length m.rules) d.items) x.demands.items v fits.2 in_v))))))
