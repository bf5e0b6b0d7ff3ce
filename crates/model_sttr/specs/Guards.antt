-- Guards and maps of transducers, as what they say and make of labels.
use Rattle.std.specs.Prelude.{◌≡◌, ◌⊎◌, ℕ, Contains}
use Rattle.model_sta.specs.Operations.{AgreeIn}
use Rattle.model_sttr.specs.Terms.{Term, on, build, Parts, no_parts, part}
use Rattle.model_sttr.specs.Transducer.{OutRule, Sttr, out_rules, GivesSame}

module _ {H M : Type 0} where
  abbrev mutual
    -- the map stands in the term
    pub MakesBy : Term H M → M → Type 0
    MakesBy (on h j) n = ⊥
    MakesBy (build c m ps) n = (m ≡ n) ⊎ MakesByOne ps n

    pub MakesByOne : Parts H M → M → Type 0
    MakesByOne no_parts n = ⊥
    MakesByOne (part p ps) n = MakesBy p n ⊎ MakesByOne ps n

module _ {L : Type 0} where
  -- each guard of the transducer and of its lookahead has the same truth value at both labels
  pub record AgreeOn (f : Sttr L) (l m : L) : Type 0 where
    pub looks : AgreeIn f.looks l m
    pub rules : (q : ℕ) (r : OutRule L) → Contains (out_rules f q) r → r.rule.guard l ≡ r.rule.guard m

  abbrev pub IsMapOf : Sttr L → (L → L) → Type 0
  IsMapOf f n = (q : ℕ) × (r : OutRule L) × Contains (out_rules f q) r × MakesBy r.term n

  -- they agree on f; on g once each map of f made them; and on g as they are, where a child may be given unchanged
  pub record AgreeBehind (f g : Sttr L) (l m : L) : Type 0 where
    pub first : AgreeOn f l m
    pub made : (n : L → L) → IsMapOf f n → AgreeOn g (n l) (n m)
    pub unchanged : GivesSame f → AgreeOn g l m

module _ {L : Type 0} (D : L → Type 0) where
  -- the same labels are made of labels of D
  abbrev pub MakesAlike : (L → L) → (L → L) → Type 0
  MakesAlike n m = (l : L) → D l → n l ≡ m l

  -- a map of f and then one of g; or one of f where g may give a child unchanged, or one of g where f may
  abbrev pub IsChain : Sttr L → Sttr L → (L → L) → Type 0
  IsChain f g n =
      ((m : L → L) × IsMapOf f m × (k : L → L) × IsMapOf g k × MakesAlike n (λ l. k (m l)))
      ⊎ (GivesSame g × (m : L → L) × IsMapOf f m × MakesAlike n m)
      ⊎ (GivesSame f × (k : L → L) × IsMapOf g k × MakesAlike n k)
