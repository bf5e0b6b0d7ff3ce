-- The kinds that a table tells.
use Rattle.std.proofs.Common.{ℕ, Vec, ◌≡◌, ◌<◌, ◌≤◌, Bool, List, [], length, map, get_or, refl, sym, ap, subst, subst₂, ◌∙◌, arith}
use Rattle.std.proofs.lemmas.List.{length-map}
use Rattle.std.proofs.lemmas.Simd.{map-map}
use Rattle.model_tree.specs.Label.{Label}
use Rattle.model_sta.specs.Least.{rows_of}
use Rattle.sta_core.specs.Machine.{Machine}
use Rattle.sta_core.specs.Sta.{automaton_of}
use Rattle.sta_core.specs.declared.StaRule.{StaRule}
use Rattle.sta_theory.specs.Kinds.{OneKind}
use Rattle.sta_classes.specs.Rules.{plain_rules, meaning_of}
use Rattle.sta_classes.specs.Rows.{plain_class, class_rows, lists_of}
use Rattle.sta_classes.specs.Places.{AreAsked, IsNumbered}
use Rattle.sta_classes.specs.Plain.{PlainTable, PlainPlace, plain_place, place_of, kind_count, kind_at, class_row, AreShaped, HasKinds}
use Rattle.sta_classes.specs.Searched.{ArePlaces, AreKinds}
use Rattle.sta_classes.specs.declared.class.Class.{Class}
use Rattle.sta_classes.specs.declared.place.Place.{Place}
use Rattle.sta_classes.proofs.Rows.{list_at}
use Rattle.sta_classes.proofs.Listed.{map_at}
use Rattle.sta_classes.proofs.Firsts.{element_at, one_number}

abbrev pub plain_places : {G : Type 0} → List (Vec Place G) → List (List PlainPlace)
plain_places places = map (λ those. map plain_place those.items) places

-- a place in the code and in the table that is seen
place_seen : {A V G : Type 0} (t : PlainTable A V) (places : List (Vec Place G)) (c j : ℕ) (p : Place) → plain_places places ≡ t.places → c < length places → j < length (get_or (lists_of places) c []) → get_or (get_or (lists_of places) c []) j p ≡ p → place_of t c j ≡ plain_place p
place_seen t places c j p is c_low j_low at =
    ap (λ ps. get_or (get_or ps c []) j (record { count = 0; kinds = [] })) (sym is)
    ∙ ap (λ l. get_or l j (record { count = 0; kinds = [] })) (sym (ap (λ z. get_or z c []) (map-map (map plain_place) (λ v. v.items) places)) ∙ map_at (map plain_place) (lists_of places) c [] [] (omega (arith, c_low, length-map places (λ v. v.items))))
    ∙ map_at plain_place (get_or (lists_of places) c []) j p (record { count = 0; kinds = [] }) j_low ∙ ap plain_place at

module _ {A V G : Type 0} (m : Machine A) (cs : List (Class V)) (places : List (Vec Place G)) (t : PlainTable A V) (is_view : record { machine = m; found = map plain_class cs; places = map (λ those. map plain_place those.items) places } ≡ t) (shape : AreShaped m.ranks (length cs) places)
    (c j : ℕ) (c_low : c < length t.machine.ranks) (j_low : j < get_or t.machine.ranks c 0) where
  in_ranks : c < length m.ranks
  in_ranks = subst (λ z. c < length z.machine.ranks) (sym is_view) c_low

  in_rank : j < get_or m.ranks c 0
  in_rank = subst (λ z. j < get_or z.machine.ranks c 0) (sym is_view) j_low

  pub in_places : c < length places
  in_places = omega (arith, in_ranks, shape.many)

  module _ (v : Vec Place G) (at : v ≡ get_or places c v) where
    list_is : v.items ≡ get_or (lists_of places) c []
    list_is = list_at places c v v.items in_places at refl

    pub in_place : j < length v.items
    in_place = omega (arith, in_rank, ap length list_is, shape.wide c in_ranks)

    module _ (p : Place) (here : p ≡ get_or v.items j p) where
      at_place : get_or (get_or (lists_of places) c []) j p ≡ p
      at_place = ap (λ l. get_or l j p) (sym list_is) ∙ sym here

      seen : place_of t c j ≡ plain_place p
      seen = place_seen t places c j p (ap (λ z. z.places) is_view) in_places (subst (λ l. j < length l) list_is in_place) at_place

      pub fits : (length p.kind_of.items ≡ length cs) × (length p.firsts.items ≤ length cs) × ((k : ℕ) → k < length cs → get_or p.kind_of.items k 0 < length p.firsts.items)
      fits = shape.each c j p in_ranks in_rank at_place

      pub count_is : length p.firsts.items ≡ kind_count t c j
      count_is = sym (ap (λ z. z.count) seen)

      pub kind_is : (k : ℕ) → get_or p.kind_of.items k 0 ≡ kind_at t c j k
      kind_is k = sym (ap (λ z. get_or z.kinds k 0) seen)

      pub class_low : (k : ℕ) → k < length t.found → k < length cs
      class_low k low = omega (arith, subst (λ z. k < length z.found) (sym is_view) low, length-map cs plain_class)

module _ {A V G H : Type 0} (holds : A → Label → Bool) (ranks : List ℕ) (rules : List (Vec (StaRule A) G)) (classes : List (Class V)) (places : List (Vec Place H)) (kinds : AreKinds ranks rules classes places) where
  -- the places have the table's shape
  pub shaped : AreShaped ranks (length classes) places
  shaped = record {
    many = kinds.many;
    wide = λ c low. (kinds.each c low).many;
    each = λ c j p c_low j_low at.
        let of : ArePlaces rules (class_rows classes) c (get_or ranks c 0) (get_or (lists_of places) c []) = kinds.each c c_low in
        let (are, n) = of.each j p (omega (arith, j_low, of.many)) at in
        let rows : length (class_rows classes) ≡ length classes = length-map classes (λ z. z.row) in
        (n.many ∙ rows, omega (arith, n.few, rows), λ k low. omega (arith, n.low k (omega (arith, low, rows)), n.one_each));
  }

  module _ (m : Machine A) (same_ranks : ranks ≡ m.ranks) (same_rules : plain_rules rules ≡ m.rules) where
    -- and the table tells the kinds
    pub has_kinds : HasKinds holds (record { machine = m; found = map plain_class classes; places = map (λ those. map plain_place those.items) places })
    has_kinds = record {
      low = λ c j k c_low j_low k_low.
          let (p, (are, (n, seen))) = at c j c_low j_low in
          let low : k < length (class_rows classes) = omega (arith, k_low, length-map classes plain_class, rows) in
          omega (arith, n.low k low, n.one_each, ap (λ z. z.count) seen, ap (λ z. get_or z.kinds k 0) seen);
      all = λ c j i c_low j_low i_low.
          let (p, (are, (n, seen))) = at c j c_low j_low in
          let low : i < length p.firsts.items = omega (arith, i_low, ap (λ z. z.count) seen) in
          (get_or p.firsts.items i 0, omega (arith, n.firsts_low i low, length-map classes plain_class, rows), ap (λ z. get_or z.kinds (get_or p.firsts.items i 0) 0) seen ∙ n.firsts_are i low);
      same = λ c j k l c_low j_low k_low l_low.
          let (p, (are, (n, seen))) = at c j c_low j_low in
          let k_in : k < length classes = omega (arith, k_low, length-map classes plain_class) in
          let l_in : l < length classes = omega (arith, l_low, length-map classes plain_class) in
          let kind_k = ap (λ z. get_or z.kinds k 0) seen in
          let kind_l = ap (λ z. get_or z.kinds l 0) seen in
          let tell = one_number holds ranks rules classes places kinds c j p are n k l k_in l_in in (
            (λ e. to c j k l (tell.0 (sym kind_k ∙ e ∙ kind_l))),
            (λ one. kind_k ∙ tell.1 (from c j k l one) ∙ sym kind_l),
          );
    }
      where
        t : PlainTable A V
        t = record { machine = m; found = map plain_class classes; places = map (λ those. map plain_place those.items) places }

        rows : length (class_rows classes) ≡ length classes
        rows = length-map classes (λ z. z.row)

        at : (c j : ℕ) → c < length m.ranks → j < get_or m.ranks c 0 → (p : Place) × (AreAsked rules c j p.states.items × (IsNumbered (class_rows classes) p × (place_of t c j ≡ plain_place p)))
        at c j c_low j_low =
            let low : c < length ranks = omega (arith, c_low, ap length same_ranks) in
            let of : ArePlaces rules (class_rows classes) c (get_or ranks c 0) (get_or (lists_of places) c []) = kinds.each c low in
            let j_in : j < length (get_or (lists_of places) c []) = omega (arith, j_low, of.many, ap (λ r. get_or r c 0) same_ranks) in
            let (p, is) = element_at (get_or (lists_of places) c []) j j_in in
            let (are, n) = of.each j p j_in is in
            (p, (are, (n, place_seen t places c j p refl (omega (arith, low, kinds.many)) j_in is)))

        row_is : class_rows classes ≡ rows_of (map plain_class classes)
        row_is = sym (map-map (λ f. f.row) plain_class classes)

        meaning : meaning_of holds (plain_rules rules) ≡ automaton_of holds m
        meaning = ap (meaning_of holds) same_rules

        to : (c j k l : ℕ) → OneKind (meaning_of holds (plain_rules rules)) c j (get_or (class_rows classes) k []) (get_or (class_rows classes) l []) → OneKind (automaton_of holds m) c j (class_row t k) (class_row t l)
        to c j k l h = subst₂ (λ r q. OneKind r c j (get_or q k []) (get_or q l [])) meaning row_is h

        from : (c j k l : ℕ) → OneKind (automaton_of holds m) c j (class_row t k) (class_row t l) → OneKind (meaning_of holds (plain_rules rules)) c j (get_or (class_rows classes) k []) (get_or (class_rows classes) l [])
        from c j k l h = subst₂ (λ r q. OneKind r c j (get_or q k []) (get_or q l [])) (sym meaning) (sym row_is) h
