-- Guards and maps of what a second transducer does with a term of a first one.
use Rattle.std.specs.Prelude.{◌≡◌, ◌⊎◌, Option, Some, None}
use Rattle.model_sttr.specs.Terms.{Term, on, build}
use Rattle.model_sttr.specs.Transducer.{Head, identity, Sttr, GivesSame}
use Rattle.model_sttr.specs.Guards.{MakesBy, MakesByOne, AgreeOn, IsMapOf, MakesAlike}

module _ {H M : Type 0} where
  -- the map stands in the term, but not at its top
  abbrev pub MakesBelow : Term H M → M → Type 0
  MakesBelow (on h j) n = ⊥
  MakesBelow (build c m ps) n = MakesByOne ps n

  abbrev pub MakesIn : Option (Term H M) → M → Type 0
  MakesIn None n = ⊥
  MakesIn (Some p) n = MakesBy p n

-- the labels agree on g, once each map of the term made them
abbrev pub AgreeMade : {H L : Type 0} → Sttr L → Term H (L → L) → L → L → Type 0
AgreeMade {H} {L} g p l m = (n : L → L) → MakesBy p n → AgreeOn g (n l) (n m)

module _ {H L : Type 0} (D : L → Type 0) (g : Sttr L) (p : Term H (L → L)) where
  -- a map of the term may be left as it is: where the second's head k keeps the whole tree, or, below the top, where some
  -- rule of the second gives a child unchanged
  abbrev pub IsLeft : Option Head → (L → L) → Type 0
  IsLeft k m = ((k ≡ Some identity) × MakesBy p m) ⊎ (GivesSame g × MakesBelow p m)

  -- a map of the term and then one of g, or one that is left as it is
  abbrev pub IsChainOver : Option Head → (L → L) → Type 0
  IsChainOver k n =
      ((m : L → L) × MakesBy p m × (k' : L → L) × IsMapOf g k' × MakesAlike D n (λ l. k' (m l)))
      ⊎ ((m : L → L) × IsLeft k m × MakesAlike D n m)
