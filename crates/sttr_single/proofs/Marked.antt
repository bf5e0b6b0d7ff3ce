-- Which joints apply to a tree, by the marks of their states.
use Rattle.std.proofs.Common.{ℕ, ◌≡◌, ◌+◌, ◌-◌, ◌<◌, Bool, true, false, List, [], ◌∷◌, map, get_or, length, All, refl, sym, ap, ◌∙◌, arith}
use Rattle.std.specs.List.{list_any}
use Rattle.std.proofs.lemmas.List.{length-append, length-map}
use Rattle.model_tree.specs.Label.{Label}
use Rattle.model_tree.specs.Tree.{Tree, node, LabelTree}
use Rattle.model_sta.specs.Automaton.{Rule, is_accepted}
use Rattle.model_sta.specs.Sets.{Row, has, set_of}
use Rattle.model_sta.proofs.Sets.{set_is_accepted}
use Rattle.sta_core.specs.Fits.{RuleFits}
use Rattle.sta_core.specs.Machine.{Machine, plain_rule}
use Rattle.sta_core.specs.Sta.{automaton_of}
use Rattle.sta_marks.specs.Nodes.{marks_of}
use Rattle.sta_theory.proofs.Lists.{any_member}
use Rattle.sttr_single.specs.declared.joints.Joint.{Joint}
use Rattle.sttr_single.specs.Joints.{DemandsOwn, with_each, joint_applies}
use Rattle.sttr_single.specs.Shown.{HasNoneFrom, IsOneFrom}
use Rattle.sttr_single.proofs.More.{accepts_each}

-- the first row is that of the root
root_row : {L : Type 0} (rules : List (List (Rule L))) (t : Tree L) → get_or (marks_of rules t) 0 [] ≡ set_of rules t
root_row rules (node c l ts) = refl

module _ {A : Type 0} (holds : A → Label → Bool) (looks : Machine A) (own : DemandsOwn looks) (xs : List (Joint A)) (fit : All (λ x. RuleFits looks.ranks (length looks.rules) x.rule) xs) (sta : Machine A) (sta_is : sta ≡ with_each looks xs)
    (t : LabelTree) (rows : List Row) (rows_are : rows ≡ marks_of (automaton_of holds sta) t) (from end : ℕ) (from_is : from ≡ length looks.rules) (end_is : end ≡ length sta.rules) where
  abbrev row : Row
  row = get_or rows 0 []

  end_more : end ≡ from + length xs
  end_more = end_is ∙ ap (λ m. length m.rules) sta_is ∙ omega (arith, length-append looks.rules (map (λ x. plain_rule x.rule ∷ []) xs), length-map xs (λ x. plain_rule x.rule ∷ []), from_is)

  -- a joint has the mark of its state where it applies
  marked : (k : ℕ) (x : Joint A) → k < length xs → x ≡ get_or xs k x → has row (from + k) ≡ joint_applies holds looks t x
  marked k x low is =
      ap (λ rs. has (get_or rs 0 []) (from + k)) rows_are
      ∙ ap (λ q. has q (from + k)) (root_row (automaton_of holds sta) t)
      ∙ set_is_accepted (automaton_of holds sta) t (from + k)
      ∙ ap (λ m. is_accepted (automaton_of holds m) t (from + k)) sta_is
      ∙ ap (λ n. is_accepted (automaton_of holds (with_each looks xs)) t (n + k)) from_is
      ∙ accepts_each holds looks own xs fit t k x low is

  pub none_marked : HasNoneFrom row from end → list_any (joint_applies holds looks t) xs ≡ true → ⊥
  none_marked none some =
      let (x, (k, low, is), e) = any_member (joint_applies holds looks t) xs some in
      let no : false ≡ true = sym (none (from + k) (omega arith) (omega (arith, low, end_more))) ∙ marked k x low (sym is) ∙ e in
      absurd (cc)

  module _ (s : ℕ) (one : IsOneFrom row from end s) where
    pub place_low : s - from < length xs
    place_low = omega (arith, one.0, one.1, end_more)

    pub applies_there : (x : Joint A) → x ≡ get_or xs (s - from) x → joint_applies holds looks t x ≡ true
    applies_there x is =
        let back : from + (s - from) ≡ s = omega (arith, one.0) in
        sym (marked (s - from) x place_low is) ∙ ap (has row) back ∙ one.2
