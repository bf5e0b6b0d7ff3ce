-- Maps of what runs through outputs.
use Rattle.std.proofs.Common.{◌≡◌, ◌⊎◌, inl, inr, Bool, true, ◌∙◌, All}
use Rattle.sttr_core.specs.Fits.{EveryMap, MapsAre}
use Rattle.sttr_core.specs.Machine.{OutMachine}
use Rattle.sttr_run.specs.Sources.{HasMap, GivesChild}
use Rattle.sttr_preimage.specs.Through.{IsKeptMap, IsChainedMap, IsOwnMap, IsThroughMap}
use Rattle.sttr_preimage.proofs.Atoms.{all_in}

pub maps_at : {A M : Type 0} (P : M → Type 0) (f : OutMachine A M) → MapsAre P f → (m : M) → HasMap f m → P m
maps_at P f all m (those, at, r, mine, o) = all_in (λ r. EveryMap P r.term) those (all_in (λ rules. All (λ r. EveryMap P r.term) rules) f.rules all those at) r mine m o

module _ {T A M : Type 0} (map_eq : M → M → Bool) (is_chained : M → M → M → Type 0) (map_fits : M → Type 0) (map_makes : T → M → Type 0) (f g : OutMachine A M) where
  abbrev Map : Type 0 → M → Type 0
  Map = IsThroughMap map_eq is_chained map_fits map_makes f g

  -- where an output may be given as it is in more cases
  pub map_wide : (K K' : Type 0) → (K → K' ⊎ GivesChild g) → (m : M) → Map K m → Map K' m
  map_wide K K' to m is = record { fit = is.fit; source = by is.source }
    where
      by : IsKeptMap map_eq is_chained map_fits map_makes f g K m ⊎ IsChainedMap map_eq is_chained map_fits map_makes f g m ⊎ IsOwnMap map_eq is_chained map_fits map_makes f g m → IsKeptMap map_eq is_chained map_fits map_makes f g K' m ⊎ IsChainedMap map_eq is_chained map_fits map_makes f g m ⊎ IsOwnMap map_eq is_chained map_fits map_makes f g m
      by (inl (inl k, old, has, e)) = inl (to k, old, has, e)
      by (inl (inr child, old, has, e)) = inl (inr child, old, has, e)
      by (inr more) = inr more

  module _ (congr : (x y z : M) → map_eq x y ≡ true → map_eq x z ≡ map_eq y z) (fit_same : (m n : M) → map_eq m n ≡ true → map_fits m → map_fits n) (make_same : (made : T) (m n : M) → map_eq m n ≡ true → map_makes made m → map_makes made n) where
    -- an equal map
    pub map_same : (K : Type 0) (m n : M) → Map K m → map_eq m n ≡ true → Map K n
    map_same K m n is e = record { fit = fit_same m n e is.fit; source = by is.source }
      where
        by : IsKeptMap map_eq is_chained map_fits map_makes f g K m ⊎ IsChainedMap map_eq is_chained map_fits map_makes f g m ⊎ IsOwnMap map_eq is_chained map_fits map_makes f g m → IsKeptMap map_eq is_chained map_fits map_makes f g K n ⊎ IsChainedMap map_eq is_chained map_fits map_makes f g n ⊎ IsOwnMap map_eq is_chained map_fits map_makes f g n
        by (inl (why, k, has, alike)) = inl (why, k, has, congr k m n alike ∙ e)
        by (inr (inl (k, has, i, own, c, is, alike, makes))) = inr (inl (k, has, i, own, c, is, congr c m n alike ∙ e, λ made fit. make_same made m n e (makes made fit)))
        by (inr (inr (child, k, has, alike))) = inr (inr (child, k, has, congr k m n alike ∙ e))

  -- a map of the second
  pub map_own : ((m : M) → map_eq m m ≡ true) → GivesChild f → MapsAre map_fits g → (K : Type 0) (m : M) → HasMap g m → Map K m
  map_own same child fit K m has = record { fit = maps_at map_fits g fit m has; source = inr (inr (child, m, has, same m)) }
