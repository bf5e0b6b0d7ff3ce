-- Nodes that tell classes apart.
use Rattle.std.specs.Prelude.{ℕ, zero, suc, ◌≡◌, ◌<◌, ◌↔◌, List, [], ◌∷◌, take, get_or, length, Contains}
use Rattle.sta_min.specs.Lists.{IsListOf}
use Rattle.sta_min.specs.declared.probes.Probe.{Probe}

pub record PlainProbe : Type 0 where
  pub constructor : ℕ
  pub value : ℕ
  pub place : ℕ
  pub children : List ℕ

abbrev pub plain_probe : Probe → PlainProbe
plain_probe p = record { constructor = p.constructor; value = p.value; place = p.place; children = p.children.items }

-- the choices, with the first one alone at the place
abbrev pub with_one : List (List ℕ) → ℕ → List (List ℕ)
with_one [] place = []
with_one (k ∷ kinds) zero = take 1 k ∷ kinds
with_one (k ∷ kinds) (suc place) = k ∷ with_one kinds place

-- one with these children
abbrev pub IsProbeWith : ℕ → ℕ → ℕ → List ℕ → PlainProbe → Type 0
IsProbeWith c place values children p = (v : ℕ) × (v < values) × (record { constructor = c; value = v; place = place; children = children } ≡ p)

-- one at the place, over children from the choices
abbrev pub IsProbeAt : ℕ → ℕ → List (List ℕ) → ℕ → PlainProbe → Type 0
IsProbeAt c values kinds place p = (ks : List ℕ) × IsListOf (with_one kinds place) (length (with_one kinds place)) ks × IsProbeWith c place values ks p

-- one at some place
abbrev pub IsProbeOf : ℕ → ℕ → List (List ℕ) → PlainProbe → Type 0
IsProbeOf c values kinds p = (place : ℕ) × (place < length kinds) × IsProbeAt c values kinds place p

-- one of some constructor
abbrev pub IsProbe : List (List (List ℕ)) → List ℕ → PlainProbe → Type 0
IsProbe kinds values p = (c : ℕ) × (c < length kinds) × IsProbeOf c (get_or values c 0) (get_or kinds c []) p

-- exactly all of them
abbrev pub ArePlainProbes : List (List (List ℕ)) → List ℕ → List PlainProbe → Type 0
ArePlainProbes kinds values probes = (p : PlainProbe) → Contains probes p ↔ IsProbe kinds values p
