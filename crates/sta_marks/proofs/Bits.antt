-- Facts on rows of bits in words.
use Rattle.std.proofs.Common.{ℕ, ◌≡◌, ◌<◌, ◌≤◌, ◌+◌, ◌-◌, ◌*◌, ◌/◌, ◌%◌, ◌^◌, ◌==◌, ◌++◌, true, false, List, [], ◌∷◌, get_or, set, length, replicate, refl, sym, ap, ◌∙◌, arith, inl, inr, w64, length-append}
use Rattle.std.specs.Prelude.{bit_or}
use Rattle.std.specs.Int.{bit_at}
use Rattle.std.proofs.lemmas.Bool.{cases_lt, cases_eq}
use Rattle.std.proofs.lemmas.Nat.{mul-add-lt}
use Rattle.std.proofs.lemmas.Nat.Bits.{bit_at-zero, bit_at_set_same, bit_at_set_other}
use Rattle.std.proofs.lemmas.List.{get_or_past, length-set, get_or-set_same, get_or-set_other, get_or_append_left, get_or-append_right, get_or_at, get_or-replicate, length-replicate}
use Rattle.model_sta.specs.Sets.{Row, has}
use Rattle.model_sta.specs.Tabled.{tabulate}
use Rattle.model_sta.proofs.Tabled.{tabulate_length, tabulate_at, tabulated}
use Rattle.sta_marks.specs.Rows.{Marked, width, bit_in, rows_in, no_state}

same_table : {X : Type 0} (n : ℕ) (f g : ℕ → X) (d : X) → ((i : ℕ) → i < n → f i ≡ g i) → tabulate n f ≡ tabulate n g
same_table n f g d h = tabulated (tabulate n f) n g d (tabulate_length n f) (λ i low. tabulate_at n f i d low ∙ h i low)

-- the word of a bit is one of the words
pub word_low : (states nodes n s : ℕ) → n < nodes → s < states → n * width states + s / 64 < nodes * width states
word_low states nodes n s node state = omega (arith, mul-add-lt n (width states) (s / 64) nodes node (omega arith))

module _ (states nodes : ℕ) (words : List ℕ) where
  pub rows_length : length (rows_in states nodes words) ≡ nodes
  rows_length = tabulate_length nodes (λ n. tabulate states (bit_in states words n))

  row_at : (n : ℕ) → n < nodes → get_or (rows_in states nodes words) n [] ≡ tabulate states (bit_in states words n)
  row_at n low = tabulate_at nodes (λ k. tabulate states (bit_in states words k)) n [] low

  pub bit_there : (n s : ℕ) → n < nodes → s < states → has (get_or (rows_in states nodes words) n []) s ≡ bit_in states words n s
  bit_there n s node state = ap (λ r. has r s) (row_at n node) ∙ tabulate_at states (bit_in states words n) s false state

  pub no_node : (n s : ℕ) → nodes ≤ n → has (get_or (rows_in states nodes words) n []) s ≡ false
  no_node n s above = ap (λ r. has r s) (get_or_past (rows_in states nodes words) n [] (omega (arith, rows_length)))

  row_past : (row : Row) (s : ℕ) → length row ≤ s → has row s ≡ false
  row_past row s above = get_or_past row s false above

  pub no_bit : (n s : ℕ) → states ≤ s → has (get_or (rows_in states nodes words) n []) s ≡ false
  no_bit n s above = elim (cases_lt n nodes) [
    | inl node ↦ ap (λ r. has r s) (row_at n node) ∙ row_past (tabulate states (bit_in states words n)) s (omega (arith, tabulate_length states (bit_in states words n)))
    | inr past ↦ no_node n s past
  ]

  -- what is seen of such rows
  pub node_low : (m : Marked) → record { states = states; rows = rows_in states nodes words } ≡ m → (n : ℕ) → n < length m.rows → n < nodes
  node_low m is n low = let e = ap (λ k. length k.rows) is in omega (arith, rows_length, e, low)

  pub state_low : (m : Marked) → record { states = states; rows = rows_in states nodes words } ≡ m → (s : ℕ) → s < m.states → s < states
  state_low m is s low = let e = ap (λ k. k.states) is in omega (arith, e, low)

  module _ (many : length words ≡ nodes * width states) where
    -- ---- one node more

    abbrev longer : List ℕ
    longer = words ++ replicate (width states) 0

    as_before : (n : ℕ) → n < nodes → tabulate states (bit_in states longer n) ≡ tabulate states (bit_in states words n)
    as_before n node = same_table states (bit_in states longer n) (bit_in states words n) false (λ s state.
        ap (λ w. bit_at w (s % 64) == 1) (get_or_append_left words (replicate (width states) 0) 0 (n * width states + s / 64) (omega (arith, many, word_low states nodes n s node state))))

    abbrev zeros : List ℕ
    zeros = replicate (width states) 0

    zeros_length : length zeros ≡ width states
    zeros_length = length-replicate (width states) 0

    zero_at : (k : ℕ) (z : ℕ) → z ≡ 0 → get_or zeros k z ≡ z
    zero_at k z e = elim (cases_lt k (width states)) [
      | inl low ↦ get_or-replicate (width states) k 0 z low ∙ sym e
      | inr past ↦ get_or_past zeros k z (omega (arith, zeros_length))
    ]

    blank : tabulate states (bit_in states longer nodes) ≡ no_state states
    blank = same_table states (bit_in states longer nodes) (λ s. false) false (λ s state.
        ap (λ w. bit_at w (s % 64) == 1) (get_or-append_right words (replicate (width states) 0) (length words) (nodes * width states + s / 64) 0 refl (omega (arith, many)) ∙ zero_at (nodes * width states + s / 64 - length words) 0 refl)
        ∙ ap (λ b. b == 1) (bit_at-zero (s % 64)))

    pub rows_more : rows_in states (nodes + 1) longer ≡ rows_in states nodes words ++ no_state states ∷ []
    rows_more =
        sym (tabulated (rows_in states nodes words ++ no_state states ∷ []) (nodes + 1) (λ n. tabulate states (bit_in states longer n)) [] (length-append (rows_in states nodes words) (no_state states ∷ []) ∙ ap (λ n. n + 1) rows_length)
        (λ n low. elim (cases_lt n nodes) [
          | inl node ↦ get_or_append_left (rows_in states nodes words) (no_state states ∷ []) [] n (omega (arith, node, rows_length)) ∙ row_at n node ∙ sym (as_before n node)
          | inr past ↦
              let here : n ≡ nodes = omega (arith, past, low) in
              ap (λ k. get_or (rows_in states nodes words ++ no_state states ∷ []) k []) here ∙ get_or_at (rows_in states nodes words) (no_state states) [] [] nodes rows_length ∙ sym blank ∙ ap (λ k. tabulate states (bit_in states longer k)) (sym here)
        ]))

    -- ---- one bit more

    module _ (node state : ℕ) (node_low : node < nodes) (state_low : state < states) where
      abbrev place : ℕ
      place = node * width states + state / 64

      abbrev word : ℕ
      word = bit_or (get_or words place 0) (1 * 2 ^ (state % 64) % 2 ^ 64)

      abbrev marked : List ℕ
      marked = set words place word

      inside : place < length words
      inside = omega (arith, many, word_low states nodes node state node_low state_low)

      -- the place of another node's bit is another one
      other_row : (n s : ℕ) → s < states → ¬ (n ≡ node) → ¬ (n * width states + s / 64 ≡ place)
      other_row n s low other e = elim (cases_lt n node) [
        | inl below ↦ absurd (omega (arith, e, mul-add-lt n (width states) (s / 64) node below (omega arith)))
        | inr above ↦ absurd (omega (arith, e, mul-add-lt node (width states) (state / 64) n (omega (arith, above, other)) (omega arith)))
      ]

      bit_same : bit_in states marked node state ≡ true
      bit_same = ap (λ w. bit_at w (state % 64) == 1) (get_or-set_same words place word 0 inside) ∙ ap (λ b. b == 1) (bit_at_set_same w64 (get_or words place 0) (state % 64) (omega arith))

      bit_other : (s : ℕ) → ¬ (s ≡ state) → bit_in states marked node s ≡ bit_in states words node s
      bit_other s other = elim (cases_eq (s / 64) (state / 64)) [
        | inl same ↦
            let at : node * width states + s / 64 ≡ place = ap (λ k. node * width states + k) same in
            ap (λ k. bit_at (get_or marked k 0) (s % 64) == 1) at ∙ ap (λ w. bit_at w (s % 64) == 1) (get_or-set_same words place word 0 inside)
            ∙ ap (λ b. b == 1) (bit_at_set_other w64 (get_or words place 0) (state % 64) (omega arith) (s % 64) (λ e. other (omega (arith, e, same)))) ∙ ap (λ k. bit_at (get_or words k 0) (s % 64) == 1) (sym at)
        | inr apart ↦ ap (λ w. bit_at w (s % 64) == 1) (get_or-set_other words place (node * width states + s / 64) word 0 (λ e. apart (omega (arith, e))))
      ]

      own_row : tabulate states (bit_in states marked node) ≡ set (tabulate states (bit_in states words node)) state true
      own_row =
          sym (tabulated (set (tabulate states (bit_in states words node)) state true) states (bit_in states marked node) false (length-set (tabulate states (bit_in states words node)) state true ∙ tabulate_length states (bit_in states words node))
          (λ s low. elim (cases_eq s state) [
            | inl same ↦
                ap (λ k. get_or (set (tabulate states (bit_in states words node)) state true) k false) same ∙ get_or-set_same (tabulate states (bit_in states words node)) state true false (omega (arith, tabulate_length states (bit_in states words node), state_low))
                ∙ sym bit_same ∙ ap (bit_in states marked node) (sym same)
            | inr other ↦ get_or-set_other (tabulate states (bit_in states words node)) state s true false other ∙ tabulate_at states (bit_in states words node) s false low ∙ sym (bit_other s other)
          ]))

      other_rows : (n : ℕ) → ¬ (n ≡ node) → tabulate states (bit_in states marked n) ≡ tabulate states (bit_in states words n)
      other_rows n other = same_table states (bit_in states marked n) (bit_in states words n) false (λ s low. ap (λ w. bit_at w (s % 64) == 1) (get_or-set_other words place (n * width states + s / 64) word 0 (other_row n s low other)))

      pub rows_put : rows_in states nodes marked ≡ set (rows_in states nodes words) node (set (get_or (rows_in states nodes words) node []) state true)
      rows_put =
          sym (tabulated (set (rows_in states nodes words) node (set (get_or (rows_in states nodes words) node []) state true)) nodes (λ n. tabulate states (bit_in states marked n)) []
          (length-set (rows_in states nodes words) node (set (get_or (rows_in states nodes words) node []) state true) ∙ rows_length)
          (λ n low. elim (cases_eq n node) [
            | inl same ↦
                ap (λ k. get_or (set (rows_in states nodes words) node (set (get_or (rows_in states nodes words) node []) state true)) k []) same
                ∙ get_or-set_same (rows_in states nodes words) node (set (get_or (rows_in states nodes words) node []) state true) [] (omega (arith, rows_length, node_low))
                ∙ ap (λ r. set r state true) (row_at node node_low) ∙ sym own_row ∙ ap (λ k. tabulate states (bit_in states marked k)) (sym same)
            | inr other ↦ get_or-set_other (rows_in states nodes words) node n (set (get_or (rows_in states nodes words) node []) state true) [] other ∙ row_at n low ∙ sym (other_rows n other)
          ]))
