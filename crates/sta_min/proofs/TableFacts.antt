-- What is made of a table is a table of kinds.
use Rattle.std.proofs.Common.{ℕ, ◌≡◌, ◌<◌, ◌≤◌, inl, inr, Bool, List, [], map, get_or, length, Contains, refl, sym, ap, subst, ◌∙◌, arith}
use Rattle.std.proofs.lemmas.Bool.{cases_lt}
use Rattle.std.proofs.lemmas.List.{length-map, get_or_past}
use Rattle.model_tree.specs.Label.{Label}
use Rattle.model_sta.specs.Sets.{Each}
use Rattle.model_sta.specs.Least.{rows_of}
use Rattle.model_sta.specs.Reached.{Covers}
use Rattle.model_sta.proofs.Reached.{same_default}
use Rattle.label_core.specs.Meaning.{Meaning}
use Rattle.sta_core.specs.Sta.{automaton_of, rule_meaning}
use Rattle.sta_classes.specs.Meant.{IsTableOf}
use Rattle.sta_classes.specs.Plain.{PlainTable, class_row, HasKinds}
use Rattle.sta_theory.specs.Kinds.{OneKind, Represents}
use Rattle.sta_theory.specs.Blocks.{KindTable, IsKindTable}
use Rattle.sta_theory.specs.Made.{numbers}
use Rattle.sta_theory.proofs.Lists.{none_in, map_member, in_map}
use Rattle.sta_theory.proofs.Tables.{kind_table as is_kind_table}
use Rattle.sta_ops.proofs.Atoms.{in_each}
use Rattle.sta_ops.proofs.EachRule.{all_in}
use Rattle.sta_theory.proofs.Written.{number_in, number_low}
use Rattle.sta_min.specs.Kinds.{AreOfPlaces, AreOfAllKinds}
use Rattle.sta_min.specs.Tables.{listed, kind_table}
use Rattle.sta_min.specs.Values.{TellAllApart}

module _ {A V W : Type 0} {label_of : V → Label} {holds : A → Label → Bool} (M : Meaning label_of holds W) (t : PlainTable A V) (table : IsTableOf M t.machine t) (has_kinds : HasKinds holds t) (keeps_labels : (l : Label) → M.keeps l → M.has l)
    (values : List (List V)) (tell : TellAllApart M t.machine.rules (length t.machine.ranks) values) (kinds : List (List (List ℕ))) (kinds_many : length kinds ≡ length t.machine.ranks)
    (of_kinds : (c : ℕ) → c < length t.machine.ranks → AreOfPlaces t c (get_or t.machine.ranks c 0) (get_or kinds c [])) where
  abbrev K : KindTable Label
  K = kind_table label_of holds t values kinds

  covers : Covers t.machine.ranks M.has (automaton_of holds t.machine) K.values
  covers c low l d =
      let (v, at, agree) = (tell.each c low).complete l d in (
        label_of v,
        in_map label_of (get_or values c []) v at,
        in_each (Each (λ r. r.constructor ≡ c → r.guard l ≡ r.guard (label_of v))) (automaton_of holds t.machine) (λ rs at_rs.
            let (ps, at_ps, same) = map_member (map (rule_meaning holds)) t.machine.rules rs at_rs in
            in_each (λ r. r.constructor ≡ c → r.guard l ≡ r.guard (label_of v)) rs (λ r at_r own.
            let (p, at_p, is) = map_member (rule_meaning holds) ps r (subst (λ z. Contains z r) (sym same) at_r) in
            subst (λ z. z.guard l ≡ z.guard (label_of v)) is (agree ps at_ps p at_p (ap (λ z. z.constructor) is ∙ own)))),
      )

  labels : (c : ℕ) (l : Label) → Contains (K.values c) l → M.has l
  labels c l at = elim (cases_lt c (length values)) [
    | inl low ↦ (
        let (v, at_v, is) = map_member label_of (get_or values c []) l at in
        subst M.has is (keeps_labels (label_of v) (all_in (λ x. M.keeps (label_of x)) (get_or values c []) (tell.each c (omega (arith, low, tell.many))).kept v at_v)))
    | inr past ↦ absurd (none_in l (subst (λ z. Contains (map label_of z) l) (get_or_past values c [] past) at))
  ]

  -- what is listed where there is a place, and where there is none
  listed_there : (c j : ℕ) → c < length t.machine.ranks → j < get_or t.machine.ranks c 0 → listed label_of holds t values kinds c j ≡ get_or (get_or kinds c []) j []
  listed_there c j low within = same_default (get_or kinds c []) j (numbers (length t.found)) [] (omega (arith, within, (of_kinds c low).many))

  listed_past : (c j : ℕ) → (c < length t.machine.ranks → get_or t.machine.ranks c 0 ≤ j) → listed label_of holds t values kinds c j ≡ numbers (length t.found)
  listed_past c j past = elim (cases_lt c (length t.machine.ranks)) [
    | inl low ↦ get_or_past (get_or kinds c []) j (numbers (length t.found)) (omega (arith, past low, (of_kinds c low).many))
    | inr out ↦ ap (λ z. get_or z j (numbers (length t.found))) (get_or_past kinds c [] (omega (arith, out, kinds_many)))
  ]

  stands : (c j k : ℕ) → k < length t.found → (i : ℕ) × Contains (listed label_of holds t values kinds c j) i × OneKind (automaton_of holds t.machine) c j (class_row t k) (class_row t i)
  stands c j k k_low = elim (cases_lt c (length t.machine.ranks)) [
    | inl low ↦ elim (cases_lt j (get_or t.machine.ranks c 0)) [
      | inl within ↦ (
          let are : AreOfAllKinds t c j (length t.found) (get_or (get_or kinds c []) j []) = (of_kinds c low).each j within in
          let (i, at, same) = are.all k k_low in
          (i, subst (λ z. Contains z i) (sym (listed_there c j low within)) at, (has_kinds.same c j k i low within k_low (are.low i at)).0 (sym same)))
      | inr past ↦ (k, subst (λ z. Contains z k) (sym (listed_past c j (λ l. past))) (number_in (length t.found) k k_low), λ s x d. refl)
    ]
    | inr out ↦ (k, subst (λ z. Contains z k) (sym (listed_past c j (λ l. absurd (omega (arith, l, out))))) (number_in (length t.found) k k_low), λ s x d. refl)
  ]

  pub listed_low : (c j k : ℕ) → Contains (listed label_of holds t values kinds c j) k → k < length t.found
  listed_low c j k at = elim (cases_lt c (length t.machine.ranks)) [
    | inl low ↦ elim (cases_lt j (get_or t.machine.ranks c 0)) [
      | inl within ↦ ((of_kinds c low).each j within).low k (subst (λ z. Contains z k) (listed_there c j low within) at)
      | inr past ↦ number_low (length t.found) k (subst (λ z. Contains z k) (listed_past c j (λ l. past)) at)
    ]
    | inr out ↦ number_low (length t.found) k (subst (λ z. Contains z k) (listed_past c j (λ l. absurd (omega (arith, l, out)))) at)
  ]

  pub class_known : (k : ℕ) → k < length t.found → Contains (rows_of t.found) (class_row t k)
  class_known k low = (k, omega (arith, low, length-map t.found (λ f. f.row)), same_default (rows_of t.found) k (class_row t k) [] (omega (arith, low, length-map t.found (λ f. f.row))))

  represents : Represents (automaton_of holds t.machine) (rows_of t.found) K.of_kinds
  represents c j q at =
      let (k, low, is) = at in
      let here : class_row t k ≡ q = same_default (rows_of t.found) k [] q low ∙ is in
      let (i, at_i, kind) = stands c j k (omega (arith, low, length-map t.found (λ f. f.row))) in
      (class_row t i, in_map (class_row t) (listed label_of holds t values kinds c j) i at_i, subst (λ r. OneKind (automaton_of holds t.machine) c j r (class_row t i)) here kind)

  pub facts : IsKindTable M.has K
  facts =
      is_kind_table M.has M.keeps K keeps_labels table covers labels represents
      (λ c j q at. (let (k, at_k, is) = map_member (class_row t) (listed label_of holds t values kinds c j) q at in subst (Contains (rows_of t.found)) is (class_known k (listed_low c j k at_k))))
