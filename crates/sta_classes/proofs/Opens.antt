-- Trees over children that are opened.
use Rattle.std.proofs.Common.{ℕ, Vec, ◌≡◌, ◌<◌, ◌≤◌, ◌-◌, ◌↔◌, ◌&&◌, not, Bool, true, List, [], length, map, get_or, All, Contains, sym, ap, ap₂, subst, ◌∙◌, arith}
use Rattle.std.proofs.lemmas.List.{length-map, get_or-map}
use Rattle.std.proofs.lemmas.List.Elements.{All-contains}
use Rattle.model_tree.specs.Label.{Label}
use Rattle.model_sta.specs.Automaton.{Rule}
use Rattle.model_sta.specs.Sets.{Row, has, rows_meet, step}
use Rattle.model_sta.specs.Least.{counts_of, rows_at, nodes_at, cost, IsMade}
use Rattle.model_sta.proofs.Reached.{same_default}
use Rattle.model_sta.proofs.Least.{numbered_at}
use Rattle.label_core.specs.Meaning.{Meaning}
use Rattle.sta_core.specs.Machine.{plain_rule}
use Rattle.sta_core.specs.declared.StaRule.{StaRule}
use Rattle.sta_classes.specs.Applying.{is_fixed, truth_at, AreOwned, IsRules, IsTakenTo, IsFired}
use Rattle.sta_classes.specs.Bits.{both}
use Rattle.sta_classes.specs.Rules.{plain_rules, meaning_of}
use Rattle.sta_classes.specs.Rows.{found_of, founds, class_rows_at, class_counts_at, lists_of}
use Rattle.sta_classes.specs.Lists.{IsNewList}
use Rattle.sta_classes.specs.Pending.{IsMet}
use Rattle.sta_classes.specs.Searched.{firsts_of, AreKinds, IsSound, IsOpened, IsOver, IsTold}
use Rattle.sta_classes.specs.declared.class.Class.{Class}
use Rattle.sta_classes.specs.declared.class.TheConstants.{CAP}
use Rattle.sta_classes.specs.declared.place.Place.{Place}
use Rattle.sta_classes.specs.declared.pending.Pending.{Pending}
use Rattle.sta_classes.specs.declared.rules.Owned.{Owned}
use Rattle.sta_classes.specs.declared.rules.Rules.{Rules}
use Rattle.sta_classes.specs.declared.splits.Told.{Told}
use Rattle.sta_classes.proofs.Rows.{rows_are, counts_are, all_each}
use Rattle.sta_classes.proofs.Applying.{element, states_low, row_is_step, same_step, told_apart, same_everywhere}
use Rattle.sta_classes.proofs.Meet.{both_maps}
use Rattle.sta_classes.proofs.Listed.{cost_above}
use Rattle.sta_classes.proofs.Firsts.{listed_low}
use Rattle.sta_classes.proofs.Told.{all_to_map}

-- the states of the rules with these numbers
module _ {A : Type 0} (list : List (Owned A)) (states : List ℕ) (are : states ≡ map (λ x. x.state) list) where
  pub states_below : {G : Type 0} (rules : List (Vec (StaRule A) G)) (c : ℕ) → AreOwned rules c list → All (λ n. n < length rules) states
  states_below rules c own = subst (All (λ n. n < length rules)) (sym are) (all_to_map (λ n. n < length rules) (λ x. x.state) list (states_low rules c list own))

  pub fired_by : (numbers row : Row) → ((s : ℕ) → has row s ≡ true ↔ IsTakenTo (λ n. n) states numbers s) → (s : ℕ) → has row s ≡ true ↔ IsFired list numbers s
  fired_by numbers row h s =
      let there = subst (λ ns. has row s ≡ true ↔ IsTakenTo (λ n. n) ns numbers s) are (h s) in (
        (λ e.
            let (i, low, is, n, at, to) = there.0 e in
            let inside : i < length list = omega (arith, low, length-map list (λ x. x.state)) in
            let (x, x_at) = element list i inside in
            (i, inside, is, x, x_at, ap (λ z. z.state) (sym x_at) ∙ sym (get_or-map (λ z. z.state) list i x n inside) ∙ at ∙ to)),
        (λ w.
            let (i, low, is, x, at, to) = w in
            there.1 (i, omega (arith, low, length-map list (λ x. x.state)), is, x.state, get_or-map (λ z. z.state) list i x x.state low ∙ ap (λ z. z.state) at, to)),
      )

pub all_by_place : (P : ℕ → Type 0) (ks : List ℕ) → ((j : ℕ) → j < length ks → P (get_or ks j 0)) → All P ks
all_by_place P ks h i d low = subst P (same_default ks i 0 d low) (h i low)

module _ {A V W G : Type 0} {label_of : V → Label} {holds : A → Label → Bool} (M : Meaning label_of holds W) (ranks : List ℕ) (rules : List (Vec (StaRule A) G)) (found : List (Class V)) (c : ℕ) (R : Rules A) {eq : A → A → Bool} (is : IsRules eq rules c R) (ks : List ℕ) (key : Row) (told : List (Told V)) (are : IsTold M R (class_rows_at found ks) key told) where
  abbrev meets : Owned A → Bool
  meets x = rows_meet (class_rows_at found ks) (plain_rule x.rule.now).demands

  abbrev own_set : Label → Row
  own_set l = step (meaning_of holds (plain_rules rules)) c l (class_rows_at found ks)

  same_set : (l : Label) → own_set l ≡ step (meaning_of holds (plain_rules rules)) c l (rows_at (founds label_of found) ks)
  same_set l = ap (λ rs. step (meaning_of holds (plain_rules rules)) c l (map (λ k. get_or rs k []) ks)) (sym (rows_are label_of found))

  fired_key : (t : Told V) → t.holds ≡ map (truth_at holds (label_of t.value)) R.list.items → both key t.holds ≡ map (λ x. meets x && truth_at holds (label_of t.value) x) R.list.items
  fired_key t held = ap₂ both are.0 held ∙ both_maps meets (truth_at holds (label_of t.value)) R.list.items

  -- the states of the rules that fire are the set
  pub row_made : (t : Told V) → Contains told t → (row : Row) → length row ≡ length rules → ((s : ℕ) → has row s ≡ true ↔ IsFired R.list.items (both key t.holds) s) → row ≡ own_set (label_of t.value)
  row_made t there row wide fired =
      let held = All-contains (λ z. z.holds ≡ map (truth_at holds (label_of z.value)) R.list.items) told t are.1.held there in
      row_is_step holds rules c R.list.items is.owned (class_rows_at found ks) (label_of t.value) row wide (subst (λ z. (s : ℕ) → has row s ≡ true ↔ IsFired R.list.items z s) (fired_key t held) fired)

  -- the tree over these children with this label
  pub made_over : (nodes : ℕ) (t : Told V) (row : Row) → c < length ranks → length ks ≡ get_or ranks c 0 → All (λ k. k < length found) ks → Contains told t → row ≡ own_set (label_of t.value) → nodes ≡ cost CAP (nodes_at (founds label_of found) ks)
      → IsMade CAP ranks M.keeps (meaning_of holds (plain_rules rules)) (founds label_of found) (length found) (record { row = row; nodes = nodes; constructor = c; label = label_of t.value; children = ks })
  made_over nodes t row low wide lows there row_is count = record {
    low = low;
    is_label = All-contains (λ z. M.keeps (label_of z.value)) told t are.1.kept there;
    wide = wide;
    earlier = all_each (λ k. k < length found) ks lows;
    row_is = row_is ∙ same_set (label_of t.value);
    nodes_are = count;
  }

  one_set : (l m : Label) → both (both R.guarded key) (map (truth_at holds l) R.list.items) ≡ both (both R.guarded key) (map (truth_at holds m) R.list.items) → own_set l ≡ own_set m
  one_set l m e =
      same_step holds rules c R.list.items is.owned (class_rows_at found ks) l m
      (sym (both_maps meets (truth_at holds l) R.list.items)
      ∙ told_apart (λ x. not (is_fixed (plain_rule x.rule.now).guard)) meets (truth_at holds l) (truth_at holds m) R.list.items (same_everywhere holds l m)
      (ap₂ (λ g k. both (both g k) (map (truth_at holds l) R.list.items)) (sym is.guarded_are) (sym are.0) ∙ e ∙ ap₂ (λ g k. both (both g k) (map (truth_at holds m) R.list.items)) is.guarded_are are.0)
      ∙ both_maps meets (truth_at holds m) R.list.items)

  -- where the trees with each of the labels are met, those with all labels are
  pub opened_by : (s : Pending V) (nodes : ℕ) → nodes ≡ cost CAP (nodes_at (founds label_of found) ks)
      → ((i : ℕ) (t : Told V) → i < length told → get_or told i t ≡ t → IsMet s (step (meaning_of holds (plain_rules rules)) c (label_of t.value) (rows_at (founds label_of found) ks)) nodes)
      → IsOpened ranks M.has M.keeps (meaning_of holds (plain_rules rules)) label_of found s c ks
  opened_by s nodes count met l d =
      let (t, (i, i_low, at), same) = are.1.complete l d in
      subst (IsMet s (step (meaning_of holds (plain_rules rules)) c l (rows_at (founds label_of found) ks))) count
      (subst (λ q. IsMet s q nodes) (sym (same_set (label_of t.value)) ∙ sym (one_set l (label_of t.value) same) ∙ same_set l) (met i t i_low at))

module _ {V : Type 0} (ranks : List ℕ) (has keeps : Label → Type 0) (meaning : List (List (Rule Label))) (label : V → Label) (found : List (Class V)) (s : Pending V) (h : IsSound ranks has keeps meaning label found s) where
  capped : (k : ℕ) → k < length found → get_or (counts_of (founds label found)) k 0 ≤ CAP
  capped k low =
      let (f, made, row, nodes) = numbered_at (IsMade CAP ranks keeps meaning (founds label found)) (founds label found) k (omega (arith, low, length-map found (found_of label))) h.classes.made in
      omega (arith, nodes, made.nodes_are)

  -- a list with the last class costs no less than any class
  pub above_all : (ks : List ℕ) → Contains ks (length found - 1) → (k : ℕ) → k < length found → get_or (counts_of (founds label found)) k 0 ≤ cost CAP (nodes_at (founds label found) ks)
  above_all ks at k low =
      let last : length found - 1 < length found = omega arith in
      omega (arith, h.rising k (length found - 1) (omega arith) last, cost_above (founds label found) CAP (length found - 1) ks at (capped (length found - 1) last))

-- children of a new list of kinds
pub new_over : {A V W G H : Type 0} {label_of : V → Label} {holds : A → Label → Bool} (M : Meaning label_of holds W) (ranks : List ℕ) (rules : List (Vec (StaRule A) G)) (classes : List (Class V)) (places : List (Vec Place H)) (s : Pending V) → IsSound ranks M.has M.keeps (meaning_of holds (plain_rules rules)) label_of classes s → AreKinds ranks rules classes places
    → (c : ℕ) (ks : List ℕ) → c < length ranks → IsNewList (firsts_of (get_or (lists_of places) c [])) (length classes) ks → IsOver label_of ranks classes c ks
new_over {label_of = label_of} {holds = holds} M ranks rules classes places s sound kinds c ks low new =
    let wide : length ks ≡ get_or ranks c 0 = new.0 ∙ length-map (get_or (lists_of places) c []) (λ p. p.firsts.items) ∙ (kinds.each c low).many in
    record {
      low = low;
      wide = wide;
      children = all_by_place (λ k. k < length classes) ks (λ j j_low. listed_low holds ranks rules classes places kinds c j (get_or ks j 0) low (omega (arith, j_low, wide)) (new.1 j (omega (arith, j_low, new.0))));
      above = λ k k_low. above_all ranks M.has M.keeps (meaning_of holds (plain_rules rules)) label_of classes s sound ks (new.2 (omega (arith, k_low))) k k_low;
    }

pub counts_as : {V : Type 0} (label : V → Label) (classes cs : List (Class V)) (ks : List ℕ) (nodes : ℕ) → cs ≡ classes → nodes ≡ cost CAP (class_counts_at cs ks) → nodes ≡ cost CAP (nodes_at (founds label classes) ks)
counts_as label classes cs ks nodes same e = e ∙ ap (λ z. cost CAP (class_counts_at z ks)) same ∙ ap (λ ns. cost CAP (map (λ k. get_or ns k 0) ks)) (sym (counts_are label classes))
