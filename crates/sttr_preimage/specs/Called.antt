-- States that run a second transducer over outputs of a first one, as plain data, and the terms that call them.
use Rattle.std.specs.Prelude.{◌≡◌, ◌⊎◌, ◌<◌, ℕ, Bool, true, List, [], map, length, Contains, Option, Some, None}
use Rattle.model_tree.specs.Label.{Label}
use Rattle.model_sttr.specs.Terms.{Term, Occurs, StandsFor, with_maps}
use Rattle.model_sttr.specs.Transducer.{Head, identity, run, Sttr, IsHead}
use Rattle.model_sttr.specs.Guards.{MakesBy}
use Rattle.model_sttr.specs.Plain.{PlainOut}
use Rattle.label_core.specs.Formula.{plain_formula}
use Rattle.sta_core.specs.Machine.{PlainRule}
use Rattle.sttr_theory.specs.Triples.{Triple, LookName}
use Rattle.sttr_theory.specs.Lists.{IsAt, Match}
use Rattle.sttr_theory.specs.Covers.{Covers}
use Rattle.sttr_theory.specs.Built.{TripleFits}
use Rattle.sttr_theory.specs.Copies.{on_same}
use Rattle.sttr_run.specs.Plain.{plain_head, plain_way_term}
use Rattle.sttr_run.specs.declared.triples.Way.{Way}
use Rattle.sttr_run.specs.declared.triples.WayTerm.{WayTerm}
use Rattle.sttr_preimage.specs.Apart.{AreApart}
use Rattle.sttr_preimage.specs.declared.called.Called.{Called}
use Rattle.sttr_preimage.specs.declared.called.Called.TheVariants as kind
use Rattle.sttr_preimage.specs.declared.names.Side.TheVariants as side
use Rattle.sttr_preimage.specs.Names.{Adds, tidy}
use Rattle.sttr_preimage.specs.Rules.{IsCopied, IsWayMade, demands_of, way_demands}
use Rattle.sttr_preimage.specs.Tidy.{tidy_term}

-- the second's head over an output of the state that is in all of these
abbrev pub through : ℕ → List ℕ → Head → Triple
through q all h = record { first = run q; all = all; second = Some h }

abbrev pub plain_called : Called → Triple
plain_called (kind.Through q all h) = through q all.items (plain_head h)
plain_called (kind.Own r) = on_same (run r)

abbrev pub called_in : List Called → List Triple
called_in names = map plain_called names

-- the output is given as it is
abbrev pub KeepsOutput : Triple → Type 0
KeepsOutput x = x.second ≡ Some identity

-- what may run over an output: a head of the second, or, where K, nothing
abbrev pub MayRun : {L : Type 0} → Sttr L → Type 0 → Head → Type 0
MayRun g K h = IsHead g h ⊎ (K × (h ≡ identity))

-- a triple that has a state
abbrev pub IsCalledName : {L : Type 0} → Sttr L → Sttr L → Type 0 → Triple → Type 0
IsCalledName f g K = TripleFits f g (MayRun g K)

-- a triple that a term may call has a second part, and asks nothing of a child that is given as it is
pub record IsCall (d : Triple) : Type 0 where
  pub head : Head
  pub second : d.second ≡ Some head
  pub unchanged : d.first ≡ identity → d.all ≡ []

abbrev pub CallsOnly : {M : Type 0} → Term Triple M → Type 0
CallsOnly z = (d : Triple) (j : ℕ) → Occurs d j z → IsCall d

-- a child as it is, which needs no state
abbrev pub unchanged : Triple
unchanged = on_same identity

-- the term calls it, and it needs a state
abbrev pub IsCalledBy : {M : Type 0} → Term Triple M → Triple → Type 0
IsCalledBy z x = (d : Triple) × (j : ℕ) × Occurs d j z × (tidy d ≡ x) × ¬ (unchanged ≡ x)

-- the head is the state of this name
abbrev pub IsHeadOf : List Triple → Head → Triple → Type 0
IsHeadOf names identity x = unchanged ≡ x
IsHeadOf names (run q) x = IsAt names q x

-- of a way's term
abbrev pub HasTerm : {M : Type 0} → Option (WayTerm M) → Type 0
HasTerm None = ⊥
HasTerm (Some z) = CallsOnly (plain_way_term z)

abbrev pub IsCalledIn : {M : Type 0} → Option (WayTerm M) → Triple → Type 0
IsCalledIn None x = ⊥
IsCalledIn (Some z) x = IsCalledBy (plain_way_term z) x

-- what a term of the second calls over children as they are
abbrev pub IsOwnCall : {M : Type 0} → Term Head M → Triple → Type 0
IsOwnCall t x = (q : ℕ) × (j : ℕ) × Occurs (run q) j t × (on_same (run q) ≡ x)

module _ {M : Type 0} (make : M → Label → Label) (D : Label → Type 0) (map_eq : M → M → Bool) where
  -- the same term, with equal maps
  pub record IsTermCopy (t copy : Term Head M) : Type 0 where
    pub stands : StandsFor (λ h k. h ≡ k) D (with_maps make copy) (with_maps make t)
    pub maps : (k : M) → MakesBy copy k → (i : M) × MakesBy t i × (map_eq i k ≡ true)

  -- the term with the states of the triples that it calls, and equal maps
  pub record IsRenamed (old new : List Triple) (z : Term Triple M) (t : Term Head M) : Type 0 where
    pub adds : Adds old new (IsCalledBy z)
    pub stands : StandsFor (IsHeadOf new) D (with_maps make t) (tidy_term (with_maps make z))
    pub maps : (k : M) → MakesBy t k → (i : M) × MakesBy z i × (map_eq i k ≡ true)

  abbrev pub IsTermOf : List Triple → List Triple → Option (WayTerm M) → Term Head M → Type 0
  IsTermOf old new None t = ⊥
  IsTermOf old new (Some z) t = IsRenamed old new (plain_way_term z) t

  -- the second's term over children as they are
  pub record IsOwnTerm (old new : List Triple) (t made : Term Head M) : Type 0 where
    pub adds : Adds old new (IsOwnCall t)
    pub stands : StandsFor (λ k h. IsHeadOf new k (on_same h)) D (with_maps make made) (with_maps make t)
    pub maps : (k : M) → MakesBy made k → (i : M) × MakesBy t i × (map_eq i k ≡ true)

  module _ {A : Type 0} where
    -- the rule that applies where the rule and the way do, and gives the way's term
    pub record IsOutMade (names : List LookName) (called : List Triple) (r : PlainRule A) (made : PlainOut (PlainRule A) M) (y : Way A M) : Type 0 where
      pub rule : IsWayMade names r made.rule y
      pub term : IsTermOf called called y.term made.term

    pub record AreOutMade (holds : A → Label → Bool) (old new : List LookName) (before after : List Triple) (r : PlainRule A) (ys : List (Way A M)) (made : List (PlainOut (PlainRule A) M)) : Type 0 where
      pub adds : Adds old new (λ x. (y : Way A M) × Contains ys y × (j : ℕ) × (j < length r.demands) × Contains (way_demands r y.demands.items j) x)
      pub calls : Adds before after (λ x. (y : Way A M) × Contains ys y × IsCalledIn y.term x)
      pub rules : Covers (IsOutMade new after r) (λ y. AreApart holds D r.guard (plain_formula y.guard)) made ys

    -- the second's rule over the tree itself
    pub record IsOwnRule (names : List LookName) (called : List Triple) (made r : PlainOut (PlainRule A) M) : Type 0 where
      pub rule : IsCopied names side.Second made.rule r.rule
      pub term : IsOwnTerm called called r.term made.term

    pub record AreOwnRules (old new : List LookName) (before after : List Triple) (rules made : List (PlainOut (PlainRule A) M)) : Type 0 where
      pub adds : Adds old new (λ x. (r : PlainOut (PlainRule A) M) × Contains rules r × (j : ℕ) × Contains (demands_of side.Second r.rule j) x)
      pub calls : Adds before after (λ x. (r : PlainOut (PlainRule A) M) × Contains rules r × IsOwnCall r.term x)
      pub are : Match (IsOwnRule new after) made rules
