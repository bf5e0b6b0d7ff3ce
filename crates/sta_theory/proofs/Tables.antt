-- What programs over tables need: kinds by their states, and facts in the words of code.
use Rattle.std.proofs.Common.{ℕ, zero, suc, ◌≡◌, ◌<◌, ◌⊎◌, ◌↔◌, inl, inr, Bool, true, false, List, [], ◌∷◌, get_or, set, map, length, All, Contains, refl, sym, ap, ap₂, subst, ◌∙◌, arith}
use Rattle.std.proofs.lemmas.Bool.{cases_lt, cases_eq}
use Rattle.std.proofs.lemmas.List.{get_or_past, length-set, get_or-set_same, get_or-set_other}
use Rattle.std.proofs.lemmas.List.Elements.{All-contains, All-get_or}
use Rattle.model_sta.specs.Automaton.{Rule, rules_of}
use Rattle.model_sta.specs.Sets.{Row, has, step}
use Rattle.model_sta.specs.Reached.{Apart, IsReached, Covers, IsTable}
use Rattle.model_sta.proofs.Reached.{fits_more}
use Rattle.sta_theory.specs.Kinds.{IsDemanded, OneKind, Represents}
use Rattle.model_sta.specs.Told.{AreOwn}
use Rattle.sta_theory.specs.Blocks.{KindTable, IsKindTable, AreOfKinds, StepsAlike, StepsApart}
use Rattle.sta_theory.specs.Rounds.{row_is, block_of}
use Rattle.sta_theory.proofs.Lists.{first_in, later_in, none_in}
use Rattle.sta_theory.proofs.Rounds.{is_row, row_same, block_other}
use Rattle.sta_theory.proofs.Fires.{step_same_kinds}

-- ---- kinds by the list of the states that are demanded

abbrev rest : List Bool → List Bool
rest [] = []
rest (b ∷ bs) = bs

bits_at : (p q : Row) (ds : List ℕ) → map (has p) ds ≡ map (has q) ds → (s k : ℕ) → k < length ds → get_or ds k s ≡ s → has p s ≡ has q s
bits_at p q [] e s k low at = absurd (omega arith)
bits_at p q (d ∷ ds) e s zero low at = subst (λ x. has p x ≡ has q x) at (ap (λ bs. get_or bs 0 (has p d)) e)
bits_at p q (d ∷ ds) e s (suc k) low at = bits_at p q ds (ap rest e) s k (omega arith) at

same_bits : (p q : Row) (ds : List ℕ) → ((s : ℕ) → Contains ds s → has p s ≡ has q s) → map (has p) ds ≡ map (has q) ds
same_bits p q [] h = refl
same_bits p q (d ∷ ds) h = ap₂ (λ b bs. b ∷ bs) (h d (first_in d ds)) (same_bits p q ds (λ s at. h s (later_in d s ds at)))

-- sets are of one kind where they have the same of these states
pub one_kind_is : {L : Type 0} (rules : List (List (Rule L))) (c j : ℕ) (ds : List ℕ) → ((s : ℕ) → Contains ds s ↔ ((t : ℕ) × IsDemanded (rules_of rules t) c j s)) → (p q : Row) → (map (has p) ds ≡ map (has q) ds) ↔ OneKind rules c j p q
one_kind_is rules c j ds are p q = (
  (λ e t s d. (let at : Contains ds s = (are s).1 (t, d) in bits_at p q ds e s at.0 at.1 at.2)),
  (λ same. same_bits p q ds (λ s at. (let (t, d) = (are s).0 at in same t s d))),
)

-- ---- facts in the words of code

-- rules whose demands are all below the number of states
pub own_from_all : {L : Type 0} (rules : List (List (Rule L))) → All (λ rs. All (λ r. All (λ d. All (λ s. s < length rules) d) r.demands) rs) rules → AreOwn rules
own_from_all rules h t r at j s asked = elim (cases_lt t (length rules)) [
  | inl low ↦ (
      let those : All (λ r. All (λ d. All (λ s. s < length rules) d) r.demands) (rules_of rules t) = All-get_or (λ rs. All (λ r. All (λ d. All (λ s. s < length rules) d) r.demands) rs) rules t [] low h in
      let ds : All (λ d. All (λ s. s < length rules) d) r.demands = All-contains (λ r. All (λ d. All (λ s. s < length rules) d) r.demands) (rules_of rules t) r those at in
      elim (cases_lt j (length r.demands)) [
        | inl within ↦ All-contains (λ s. s < length rules) (get_or r.demands j []) s (All-get_or (λ d. All (λ s. s < length rules) d) r.demands j [] within ds) asked
        | inr past ↦ absurd (none_in s (subst (λ d. Contains d s) (get_or_past r.demands j [] past) asked))
      ])
  | inr high ↦ absurd (none_in r (subst (λ rs. Contains rs r) (get_or_past rules t [] high) at))
]

-- the table of classes, where trees of kept labels have the sets and the laws range over all labels of the meaning
pub kind_table : {L : Type 0} (has keeps : L → Type 0) (table : KindTable L) → ((l : L) → keeps l → has l) → IsTable table.ranks has keeps table.rules table.known → Covers table.ranks has table.rules table.values
    → ((c : ℕ) (v : L) → Contains (table.values c) v → has v) → Represents table.rules table.known table.of_kinds → ((c j : ℕ) (q : Row) → Contains (table.of_kinds c j) q → Contains table.known q) → IsKindTable has table
kind_table has keeps table more is covers labels represents known = record {
  reached = λ q at. (let (t, fits, is_set) = All-contains (IsReached table.ranks keeps table.rules) table.known q is.sets.reached at in (t, fits_more table.ranks keeps has more t fits, is_set));
  complete = is.complete;
  covers = covers;
  labels = labels;
  represents = represents;
  of_kinds_known = known;
}

module _ {L : Type 0} (rules : List (List (Rule L))) (c : ℕ) where
  -- at a place of a node only the kind of a set counts
  pub step_of_kind : (v : L) (qs : List Row) (p : ℕ) (q r : Row) → p < length qs → OneKind rules c p q r → step rules c v (set qs p q) ≡ step rules c v (set qs p r)
  step_of_kind v qs p q r low same =
      step_same_kinds rules c v (set qs p q) (set qs p r) (
        length-set qs p q ∙ sym (length-set qs p r),
        λ j within t s d. elim (cases_eq j p) [
          | inl here ↦
              ap (λ u. has u s) (ap (λ k. get_or (set qs p q) k []) here ∙ get_or-set_same qs p q [] low) ∙ same t s (subst (λ k. IsDemanded (rules_of rules t) c k s) here d)
              ∙ sym (ap (λ u. has u s) (ap (λ k. get_or (set qs p r) k []) here ∙ get_or-set_same qs p r [] low))
          | inr other ↦ ap (λ u. has u s) (get_or-set_other qs p j q [] other) ∙ sym (ap (λ u. has u s) (get_or-set_other qs p j r [] other))
        ],
      )

-- so a program compares the blocks of nodes over one set of each kind
module _ {L : Type 0} (D : L → Type 0) (table : KindTable L) (block : Row → ℕ) (q r : Row) (one_q one_r : ℕ → ℕ → Row) (is_q : (c p : ℕ) → OneKind table.rules c p q (one_q c p)) (is_r : (c p : ℕ) → OneKind table.rules c p r (one_r c p)) where
  abbrev block_at : ℕ → L → List Row → ℕ → Row → ℕ
  block_at c v qs p u = block (step table.rules c v (set qs p u))

  pub alike_by_kinds : ((c : ℕ) → c < length table.ranks → (v : L) → Contains (table.values c) v → (qs : List Row) → AreOfKinds D table c qs → (p : ℕ) → p < length qs → block_at c v qs p (one_q c p) ≡ block_at c v qs p (one_r c p))
      → StepsAlike D table block q r
  alike_by_kinds same c low v given qs are p at =
      ap block (step_of_kind table.rules c v qs p q (one_q c p) at (is_q c p)) ∙ same c low v given qs are p at ∙ sym (ap block (step_of_kind table.rules c v qs p r (one_r c p) at (is_r c p)))

  pub apart_by_kinds : (c : ℕ) → c < length table.ranks → (v : L) → Contains (table.values c) v → (qs : List Row) → AreOfKinds D table c qs → (p : ℕ) → p < length qs → ¬ (block_at c v qs p (one_q c p) ≡ block_at c v qs p (one_r c p)) → StepsApart D table block q r
  apart_by_kinds c low v given qs are p at other = record {
    constructor = c;
    low = low;
    label = v;
    given = given;
    siblings = qs;
    are_of_kinds = are;
    place = p;
    within = at;
    differ = λ e. other (sym (ap block (step_of_kind table.rules c v qs p q (one_q c p) at (is_q c p))) ∙ e ∙ ap block (step_of_kind table.rules c v qs p r (one_r c p) at (is_r c p)));
  }

-- a node's set is in a block where it is one of the block's sets
pub block_by_sets : (known : List Row) (bs : List ℕ) (other i : ℕ) (q : Row) → length bs ≡ length known → ¬ (other ≡ i) → Apart known
    → (block_of known bs other q ≡ i) ↔ ((r : Row) × Contains known r × (block_of known bs other r ≡ i) × (q ≡ r))
block_by_sets known bs other i q long differ apart = (to, λ h. (let (r, at, is, same) = h in ap (block_of known bs other) same ∙ is))
  where
    found : (ks : List Row) → (Contains ks q) ⊎ (¬ Contains ks q)
    found [] = inr (none_in q)
    found (r ∷ ks) = either (row_is r q) refl (found ks)
      where
        either : (b : Bool) → row_is r q ≡ b → (Contains ks q) ⊎ (¬ Contains ks q) → (Contains (r ∷ ks) q) ⊎ (¬ Contains (r ∷ ks) q)
        either true e h = inl (0, omega arith, is_row r q e)
        either false e (inl at) = inl (later_in r q ks at)
        either false e (inr not_later) = inr (λ at. not_first at.0 at.1 at.2)
          where
            not_first : (k : ℕ) → k < suc (length ks) → get_or (r ∷ ks) k q ≡ q → ⊥
            not_first zero low same = cc (e, same, row_same q)
            not_first (suc k) low same = not_later (k, omega arith, same)

    to : block_of known bs other q ≡ i → (r : Row) × Contains known r × (block_of known bs other r ≡ i) × (q ≡ r)
    to e = elim (found known) [
      | inl at ↦ (q, at, e, refl)
      | inr not_in ↦ absurd (differ (sym (block_other known bs other q not_in) ∙ e))
    ]
