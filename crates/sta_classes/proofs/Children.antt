-- What counts of the classes of children that a loop goes over.
use Rattle.std.proofs.Common.{ℕ, suc, ◌≡◌, ◌≤◌, ◌<◌, ◌+◌, ◌-◌, ◌&&◌, List, [], ◌∷◌, length, get_or, map, drop, min, drop-cons, add-one, sym, ap, ap₂, ◌∙◌, arith}
use Rattle.std.specs.List.{list_all}
use Rattle.std.proofs.lemmas.List.{get_or-map}
use Rattle.model_sta.specs.Sets.{has, rows_meet}
use Rattle.model_sta.specs.Least.{total}
use Rattle.sta_classes.specs.Rows.{class_rows_at, class_counts_at}
use Rattle.sta_classes.specs.declared.class.Class.{Class}

-- the next one, and those behind it
next_of : {X : Type 0} (xs : List X) (i : ℕ) (x : X) → i < length xs → drop i xs ≡ get_or xs i x ∷ drop (i + 1) xs
next_of xs i x low = rw add-one (drop-cons xs i x low)

module _ {V : Type 0} (found : List (Class V)) (children : List ℕ) (i : ℕ) (c : Class V) (inside : i < length children) (low : get_or children i 0 < length found) where
  pub counts_next : total (class_counts_at found (drop i children)) ≡ (get_or found (get_or children i 0) c).nodes + total (class_counts_at found (drop (i + 1) children))
  counts_next =
      ap (λ ks. total (class_counts_at found ks)) (next_of children i 0 inside)
      ∙ ap (λ n. n + total (class_counts_at found (drop (i + 1) children))) (get_or-map (λ d. d.nodes) found (get_or children i 0) c 0 low)

  pub meet_next : {X : Type 0} (f : X → List ℕ) (demands : List X) (d : X) → i < length demands → d ≡ get_or demands i d
      → rows_meet (class_rows_at found (drop i children)) (map f (drop i demands)) ≡ list_all (has (get_or found (get_or children i 0) c).row) (f d) && rows_meet (class_rows_at found (drop (i + 1) children)) (map f (drop (i + 1) demands))
  meet_next f demands d there asked =
      ap₂ (λ ks ds. rows_meet (class_rows_at found ks) (map f ds)) (next_of children i 0 inside) (next_of demands i d there ∙ ap (λ y. y ∷ drop (i + 1) demands) (sym asked))
      ∙ ap (λ q. list_all (has q) (f d) && rows_meet (class_rows_at found (drop (i + 1) children)) (map f (drop (i + 1) demands))) (get_or-map (λ d. d.row) found (get_or children i 0) c [] low)

-- the cap is reached, or one more is counted, or all are
pub capped : (cap nodes more rest all : ℕ) → nodes < cap → cap - nodes ≤ more → nodes + (more + rest) ≡ suc all → cap ≡ min cap (suc all)
capped cap nodes more rest all low high is = omega arith

pub one_more : (cap nodes more rest all : ℕ) → nodes < cap → more < cap - nodes → nodes + (more + rest) ≡ suc all → (nodes + more < cap) × ((nodes + more) + rest ≡ suc all)
one_more cap nodes more rest all low few is = (omega arith, omega arith)

pub counted : (cap nodes all : ℕ) → nodes < cap → nodes + 0 ≡ suc all → nodes ≡ min cap (suc all)
counted cap nodes all low is = omega arith
