-- What is wanted of a child, one list of demands after the other.
use Rattle.std.proofs.Common.{ℕ, ◌+◌, ◌<◌, ◌≡◌, List, [], ◌∷◌, map, take, get_or, length, Contains, sym, subst, ap, ◌∙◌}
use Rattle.std.proofs.lemmas.List.{map-append}
use Rattle.sttr_run.specs.Picks.{wanted_in}
use Rattle.sttr_run.specs.Sets.{Grown}
use Rattle.sttr_run.proofs.Ascending.{grown_lists}
use Rattle.sttr_run.proofs.Firing.{wanted_more}
use Rattle.sttr_run.proofs.Members.{taken}

module _ {X : Type 0} (lists : X → List (List ℕ)) where
  pub wanted_step : (ds : List X) (i j : ℕ) (d : X) → i < length ds → d ≡ get_or ds i d → (old new : List ℕ) → Grown [] old (Contains (wanted_in (map lists (take i ds)) j)) → Grown old new (Contains (get_or (lists d) j [])) → Grown [] new (Contains (wanted_in (map lists (take (i + 1) ds)) j))
  wanted_step ds i j d low is old new g h =
      subst (λ ws. Grown [] new (Contains ws)) (sym (ap (λ es. wanted_in es j) (ap (map lists) (taken ds i d low is) ∙ map-append lists (take i ds) (d ∷ [])) ∙ wanted_more (map lists (take i ds)) (lists d) j))
      (grown_lists [] old new (wanted_in (map lists (take i ds)) j) (get_or (lists d) j []) g h)
