-- The states of a part of an automaton accept what they did.
use Rattle.std.proofs.Common.{ℕ, suc, ◌≡◌, ◌<◌, inl, inr, true, ◌&&◌, ◌==◌, List, [], ◌∷◌, map, get_or, length, Contains, refl, sym, ap, ap₂, subst, ◌∙◌}
use Rattle.std.proofs.lemmas.Bool.{cases_lt}
use Rattle.std.specs.List.{list_any}
use Rattle.model_tree.specs.Tree.{Tree, node, Trees, no_trees, tree}
use Rattle.model_sta.specs.Automaton.{Rule, rules_of, is_accepted, meet_demands}
use Rattle.model_sta.specs.Operations.{Auto, AgreeIn, KeepsGuards, Has, Alike, IsMadeOf}
use Rattle.sta_theory.specs.Parts.{renamed, IsPart}
use Rattle.model_sta.proofs.Beside.{all_mapped, any_mapped}
use Rattle.sta_theory.proofs.Lists.{in_map}
use Rattle.sta_theory.proofs.Guards.{none_past}

module _ {L : Type 0} (old : ℕ → ℕ) (whole part : List (List (Rule L))) (is : IsPart old whole part) where
  abbrev Below : List (List ℕ) → Type 0
  Below ds = (j s : ℕ) → Contains (get_or ds j []) s → s < length part

  mutual
    pub part_accepts : (t : Tree L) (q : ℕ) → q < length part → is_accepted whole t (old q) ≡ is_accepted part t q
    part_accepts (node c l ts) q low =
        ap (list_any (λ r. (r.constructor == c) && (r.guard l && meet_demands whole ts r.demands))) (is.rules_are q low)
        ∙ any_mapped (λ r. (r.constructor == c) && (r.guard l && meet_demands whole ts r.demands)) (renamed old) (λ r. (r.constructor == c) && (r.guard l && meet_demands part ts r.demands)) (rules_of part q)
        (λ r at. ap (λ m. (r.constructor == c) && (r.guard l && m)) (part_meets ts r.demands (is.own q r at)))

    part_meets : (ts : Trees L) (ds : List (List ℕ)) → Below ds → meet_demands whole ts (map (map old) ds) ≡ meet_demands part ts ds
    part_meets no_trees ds own = refl
    part_meets (tree t ts) [] own = refl
    part_meets (tree t ts) (d ∷ ds) own =
        ap₂ (λ a b. a && b) (all_mapped (is_accepted whole t) old (is_accepted part t) d (λ s at. part_accepts t s (own 0 s at))) (part_meets ts ds (λ j. own (suc j)))

  -- labels that agree on the guards of the whole agree on those of the part
  pub part_agrees : (l m : L) → AgreeIn whole l m → AgreeIn part l m
  part_agrees l m agree q r at = elim (cases_lt q (length part)) [
    | inl low ↦ agree (old q) (renamed old r) (subst (λ rs. Contains rs (renamed old r)) (sym (is.rules_are q low)) (in_map (renamed old) (rules_of part q) r at))
    | inr past ↦ none_past l m part q past r at
  ]

module _ {L : Type 0} (Typed : Tree L → Type 0) (old : ℕ → ℕ) (whole part : Auto L) (is : IsPart old whole.rules part.rules) (low : part.start < length part.rules) (start : old part.start ≡ whole.start) where
  same_has : (q : ℕ) → q < length part.rules → Has whole.rules (old q) ≡ Has part.rules q
  same_has q below = λ i t. part_accepts old whole.rules part.rules is t q below i ≡ true

  -- the part with the same start is made of the same
  pub part_is_made : (Q : (Tree L → Type 0) → Type 0) (P : Tree L → Type 0) → IsMadeOf Typed Q whole P → IsMadeOf Typed Q part P
  part_is_made Q P made = record {
    in_range = low;
    means = subst (λ H. Alike Typed H P) (ap (Has whole.rules) (sym start) ∙ same_has part.start low) made.means;
    each_state = λ q below. elim (made.each_state (old q) (is.low q below)) [
      | inl at_start ↦ inl (is.once q part.start below low (at_start ∙ sym start))
      | inr of ↦ inr (subst Q (same_has q below) of)
    ];
  }

  -- and labels that agree on guards agree on those of the part
  pub part_keeps : (a b : Auto L) → KeepsGuards a b whole → KeepsGuards a b part
  part_keeps a b keeps l m f g = part_agrees old whole.rules part.rules is l m (keeps l m f g)
