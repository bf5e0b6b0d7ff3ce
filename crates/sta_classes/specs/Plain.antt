-- A table as contracts see it: plain data.
use Rattle.std.specs.Prelude.{ℕ, ◌≡◌, ◌<◌, ◌≤◌, ◌↔◌, Bool, List, [], get_or, length, All, Vec}
use Rattle.std.specs.Coded.{Coded, code_by, coded×, coded_ℕ, coded_bool, coded_list}
use Rattle.std.proofs.Common.{refl}
use Rattle.model_tree.specs.Label.{Label}
use Rattle.model_sta.specs.Sets.{Row, step}
use Rattle.model_sta.specs.Least.{Found, rows_of, rows_at}
use Rattle.sta_core.specs.Machine.{Machine, coded_machine}
use Rattle.sta_core.specs.Sta.{automaton_of}
use Rattle.sta_theory.specs.Kinds.{OneKind}
use Rattle.sta_classes.specs.Rows.{lists_of}
use Rattle.sta_classes.specs.declared.place.Place.{Place}

-- of how many kinds the classes are at a place, and of which each is
pub record PlainPlace : Type 0 where
  pub count : ℕ
  pub kinds : List ℕ

-- an automaton, the classes that its trees have, and their kinds at each place of each constructor
pub record PlainTable (A V : Type 0) : Type 0 where
  pub machine : Machine A
  pub found : List (Found V)
  pub places : List (List PlainPlace)

module _ {A V : Type 0} where
  -- the set of the class with this number
  abbrev pub class_row : PlainTable A V → ℕ → Row
  class_row t class = get_or (rows_of t.found) class []

  abbrev pub place_of : PlainTable A V → ℕ → ℕ → PlainPlace
  place_of t c j = get_or (get_or t.places c []) j (record { count = 0; kinds = [] })

  -- how many kinds there are at the place of the constructor, and that of the class with this number
  abbrev pub kind_count : PlainTable A V → ℕ → ℕ → ℕ
  kind_count t c j = (place_of t c j).count

  abbrev pub kind_at : PlainTable A V → ℕ → ℕ → ℕ → ℕ
  kind_at t c j k = get_or (place_of t c j).kinds k 0

abbrev pub plain_place : Place → PlainPlace
plain_place p = record { count = length p.firsts.items; kinds = p.kind_of.items }

-- there is a place for each child of each constructor, with a kind for each class
pub record AreShaped {G : Type 0} (ranks : List ℕ) (classes : ℕ) (places : List (Vec Place G)) : Type 0 where
  pub many : length places ≡ length ranks
  pub wide : (c : ℕ) → c < length ranks → length (get_or (lists_of places) c []) ≡ get_or ranks c 0
  pub each : (c j : ℕ) (p : Place) → c < length ranks → j < get_or ranks c 0 → get_or (get_or (lists_of places) c []) j p ≡ p
      → (length p.kind_of.items ≡ classes) × (length p.firsts.items ≤ classes) × ((k : ℕ) → k < classes → get_or p.kind_of.items k 0 < length p.firsts.items)

abbrev pub coded_found : {V : Type 0} → Coded V → Coded (Found V)
coded_found {V} v = code_by (List Bool × (ℕ × (ℕ × (V × List ℕ)))) (coded× (coded_list coded_bool) (coded× coded_ℕ (coded× coded_ℕ (coded× v (coded_list coded_ℕ))))) (λ f. (f.row, (f.nodes, (f.constructor, (f.label, f.children))))) (λ p. record { row = p.0; nodes = p.1.0; constructor = p.1.1.0; label = p.1.1.1.0; children = p.1.1.1.1 }) (λ _. refl)

abbrev pub coded_place : Coded PlainPlace
coded_place = code_by (ℕ × List ℕ) (coded× coded_ℕ (coded_list coded_ℕ)) (λ p. (p.count, p.kinds)) (λ p. record { count = p.0; kinds = p.1 }) (λ _. refl)

abbrev pub coded_table : {A V : Type 0} → Coded A → Coded V → Coded (PlainTable A V)
coded_table {A} {V} a v = code_by (Machine A × (List (Found V) × List (List PlainPlace))) (coded× (coded_machine a) (coded× (coded_list (coded_found v)) (coded_list (coded_list coded_place)))) (λ t. (t.machine, (t.found, t.places))) (λ p. record { machine = p.0; found = p.1.0; places = p.1.1 }) (λ _. refl)

-- the kinds at each place are numbered, and two classes are of one kind exactly where they have the same of the states
-- that some rule of the constructor demands at the place
pub record HasKinds {A V : Type 0} (holds : A → Label → Bool) (t : PlainTable A V) : Type 0 where
  pub low : (c j k : ℕ) → c < length t.machine.ranks → j < get_or t.machine.ranks c 0 → k < length t.found → kind_at t c j k < kind_count t c j
  pub all : (c j i : ℕ) → c < length t.machine.ranks → j < get_or t.machine.ranks c 0 → i < kind_count t c j → (k : ℕ) × (k < length t.found) × (kind_at t c j k ≡ i)
  pub same : (c j k m : ℕ) → c < length t.machine.ranks → j < get_or t.machine.ranks c 0 → k < length t.found → m < length t.found
      → (kind_at t c j k ≡ kind_at t c j m) ↔ OneKind (automaton_of holds t.machine) c j (class_row t k) (class_row t m)

-- children of the same kinds, place by place
abbrev pub SameKinds : {A V : Type 0} → PlainTable A V → ℕ → List ℕ → List ℕ → Type 0
SameKinds t c ks js = (length ks ≡ length js) × ((j : ℕ) → j < length ks → kind_at t c j (get_or ks j 0) ≡ kind_at t c j (get_or js j 0))

-- such children make a tree of a class with the same labels, which the formulas of both say then
abbrev pub KindsAreEnough : (A V : Type 0) → (A → Label → Bool) → Type 0
KindsAreEnough A V holds =
    (t : PlainTable A V) → HasKinds holds t → (c : ℕ) → c < length t.machine.ranks → (ks js : List ℕ) → length ks ≡ get_or t.machine.ranks c 0
    → All (λ k. k < length t.found) ks → All (λ k. k < length t.found) js → SameKinds t c ks js → (class : ℕ) (l : Label)
    → (step (automaton_of holds t.machine) c l (rows_at t.found ks) ≡ class_row t class) ↔ (step (automaton_of holds t.machine) c l (rows_at t.found js) ≡ class_row t class)
