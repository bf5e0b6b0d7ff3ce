-- Calls of states on children, how often each is to come, and what is found of them.
use Rattle.std.specs.Prelude.{ℕ, zero, suc, ◌≡◌, ◌+◌, ◌<◌, ◌==◌, cond, List, [], ◌∷◌, map, Contains, ⊤}
use Rattle.model_sttr.specs.Terms.{Term, on, build, Parts, no_parts, part}
use Rattle.model_sttr.specs.Transducer.{Head, identity, run}
use Rattle.model_tree.specs.Label.{Label}
use Rattle.apply_laws.specs.Lists.{sum_of}
use Rattle.apply_laws.specs.Meant.{meant}
use Rattle.sttr_apply.specs.Plain.{out_cut}
use Rattle.sttr_apply.specs.declared.outs.Listing.{Listing}
use Rattle.sttr_apply.specs.declared.calls.Ask.{Ask}
use Rattle.sttr_apply.specs.declared.calls.Entry.{Entry}

-- one, if both are the same
abbrev pub one : ℕ → ℕ → ℕ
one p q = cond (p == q) 1 0

-- one, if the call of state p on child j is that of q on k
abbrev pub called : ℕ → ℕ → ℕ → ℕ → ℕ
called p j q k = cond (j == k) (one p q) 0

module _ {M : Type 0} (q k : ℕ) where
  -- how often the term calls state q on child k
  abbrev mutual
    pub calls : Term Head M → ℕ
    calls (on identity j) = 0
    calls (on (run p) j) = called p j q k
    calls (build c m ps) = calls_in ps

    pub calls_in : Parts Head M → ℕ
    calls_in no_parts = 0
    calls_in (part p ps) = calls p + calls_in ps

  -- how often terms do
  abbrev pub calls_of : List (Term Head M) → ℕ
  calls_of ps = sum_of calls ps

  abbrev pub calls_each : List (List (Term Head M)) → ℕ
  calls_each pss = sum_of calls_of pss

-- how often the state is to be used, by the first that is said of it
abbrev pub used : List (ℕ × ℕ) → ℕ → ℕ
used [] q = 0
used (p ∷ ps) q = cond (p.0 == q) p.1 (used ps q)

-- the first that is said of the state is at this place
abbrev pub IsFirst : ℕ → ℕ → List (ℕ × ℕ) → Type 0
IsFirst q i [] = ⊥
IsFirst q zero (p ∷ ps) = p.0 ≡ q
IsFirst q (suc i) (p ∷ ps) = ¬ (p.0 ≡ q) × IsFirst q i ps

-- nothing is said of the state
abbrev pub IsNowhere : ℕ → List (ℕ × ℕ) → Type 0
IsNowhere q [] = ⊤
IsNowhere q (p ∷ ps) = ¬ (p.0 ≡ q) × IsNowhere q ps

abbrev pub asks_in : List Ask → List (ℕ × ℕ)
asks_in asks = map (λ a. (a.state, a.uses)) asks

module _ {V : Type 0} where
  abbrev pub uses_in : List (Entry V) → List (ℕ × ℕ)
  uses_in entries = map (λ e. (e.state, e.uses)) entries

  -- the same outputs in the second list, with labels that mean the same
  abbrev pub IsSameListing : (V → Label) → Listing V → Listing V → Type 0
  IsSameListing label x y = (map (meant label) (map out_cut x.outs.items) ≡ map (meant label) (map out_cut y.outs.items)) × (y.far ≡ x.far)

  -- so in the list of an entry of the state that has uses to come
  abbrev pub IsTaken : (V → Label) → List (Entry V) → ℕ → Listing V → Type 0
  IsTaken label entries q y = (e : Entry V) × Contains entries e × (e.state ≡ q) × (0 < e.uses) × IsSameListing label e.listing y

  -- each entry that has uses to come has its list from one that had
  abbrev pub AreStillFound : List (Entry V) → List (Entry V) → Type 0
  AreStillFound old new = (e : Entry V) → Contains new e → 0 < e.uses → (d : Entry V) × Contains old d × (d.state ≡ e.state) × (0 < d.uses) × (e.listing ≡ d.listing)
