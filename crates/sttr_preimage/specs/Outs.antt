-- The states that run a second transducer over outputs while they are built, and what is known of the rules of each.
use Rattle.std.specs.Prelude.{◌≡◌, ◌<◌, ℕ, Bool, List, map, length, All, Contains, ⊤}
use Rattle.model_tree.specs.Label.{Label}
use Rattle.model_tree.specs.Formula.{EveryAtom}
use Rattle.model_sttr.specs.Terms.{with_maps}
use Rattle.model_sttr.specs.Transducer.{OutRule}
use Rattle.model_sttr.specs.Plain.{PlainOut}
use Rattle.label_core.specs.Meaning.{Meaning}
use Rattle.sta_core.specs.Machine.{PlainRule}
use Rattle.sta_core.specs.Sta.{AtomsFit}
use Rattle.sttr_core.specs.Machine.{OutMachine}
use Rattle.sttr_core.specs.Fits.{EveryMap}
use Rattle.sttr_core.specs.declared.sttr.Trans.{Trans}
use Rattle.sttr_theory.specs.Triples.{Triple, Way, LookName, AreWays}
use Rattle.sttr_theory.specs.Built.{AreRulesOver, AreRulesOfWays, AreOutRules, IsWayRule, IsWayTerm, IsPart}
use Rattle.sttr_theory.specs.Results.{IsBuiltTrans}
use Rattle.sttr_run.specs.Fits.{RuleStands}
use Rattle.sttr_preimage.specs.Names.{Adds}
use Rattle.sttr_preimage.specs.Called.{KeepsOutput, MayRun, IsCalledName}
use Rattle.sttr_preimage.specs.Images.{first_of, second_of, meant, IsLookName, RowStands}
use Rattle.sttr_preimage.specs.Through.{IsThroughAtom}
use Rattle.sttr_preimage.specs.Results.{trans_at}

module _ {A M V W : Type 0} (is_put : M → A → A → Type 0) (make : M → Label → Label) {label_of : V → Label} {holds : A → Label → Bool} (N : Meaning label_of holds W) (fits : A → Type 0) (f g : OutMachine A M) where
  -- the rule over labels applies where a rule of the first and a way do, and gives the way's term
  abbrev pub IsOutRule : List LookName → List Triple → OutRule Label → OutRule Label → Way Label → Type 0
  IsOutRule names called r ρ y =
      IsWayRule f.looks.ranks N.has (first_of holds make f g) (second_of holds make f g) names r.rule ρ y × IsWayTerm f.looks.ranks N.has (first_of holds make f g) (second_of holds make f g) called r.term y.term

  -- the triple has a state, where outputs may be given as they are if K
  abbrev pub HasState : Type 0 → Triple → Type 0
  HasState = IsCalledName (first_of holds make f g) (second_of holds make f g)

  -- Below, maps are Q K, where outputs may be given as they are if K.
  module _ (Q : Type 0 → M → Type 0) where
    -- the rule fits among so many names, and its atoms and maps are these
    pub record OutStands (K : Type 0) (states : ℕ) (r : PlainOut (PlainRule A) M) : Type 0 where
      pub rule : RowStands is_put make N fits f g ⊥ ⊤ states r.rule
      pub maps : EveryMap (Q K) r.term

    -- the rules for these ways over a rule of the first
    pub record HasOutWays (K : Type 0) (old new : List LookName) (before after : List Triple) (ρ : PlainOut (PlainRule A) M) (ys : List (Way Label)) (rules : List (PlainOut (PlainRule A) M)) : Type 0 where
      pub adds : Adds old new (IsLookName holds make f g ⊥ ⊤)
      pub calls : Adds before after (HasState K)
      pub over : AreRulesOfWays f.looks.ranks N.has (first_of holds make f g) (second_of holds make f g) (IsOutRule new after) (map (meant holds make f g) rules) (meant holds make f g ρ) ys
      pub stand : All (OutStands K (length new)) rules

    -- for all ways
    abbrev pub HasAllOuts : List LookName → List LookName → List Triple → List Triple → Triple → PlainOut (PlainRule A) M → List (PlainOut (PlainRule A) M) → Type 0
    HasAllOuts old new before after t ρ rules = (ys : List (Way Label)) × AreWays (first_of holds make f g) (second_of holds make f g) N.has (with_maps make ρ.term) t ys × HasOutWays (KeepsOutput t) old new before after ρ ys rules

    -- so far: for these rules of the first
    pub record HasOutsOver (old new : List LookName) (before after : List Triple) (t : Triple) (ρs rules : List (PlainOut (PlainRule A) M)) : Type 0 where
      pub adds : Adds old new (IsLookName holds make f g ⊥ ⊤)
      pub calls : Adds before after (HasState (KeepsOutput t))
      pub over : AreRulesOver f.looks.ranks N.has (first_of holds make f g) (second_of holds make f g) (IsOutRule new after) (map (meant holds make f g) ρs) (map (meant holds make f g) rules) t
      pub stand : All (OutStands (KeepsOutput t) (length new)) rules

    -- the rules of a state
    pub record HasOuts (old new : List LookName) (before after : List Triple) (t : Triple) (rules : List (PlainOut (PlainRule A) M)) : Type 0 where
      pub adds : Adds old new (IsLookName holds make f g ⊥ ⊤)
      pub calls : Adds before after (HasState (KeepsOutput t))
      pub are : AreOutRules f.looks.ranks N.has (first_of holds make f g) (second_of holds make f g) new after (map (meant holds make f g) rules) t
      pub stand : All (OutStands (KeepsOutput t) (length new)) rules

    -- so far: the first of the states have their rules
    pub record OutsSoFar (K : Type 0) (old new : List LookName) (before after : List Triple) (rows : List (List (PlainOut (PlainRule A) M))) (place : ℕ) : Type 0 where
      pub adds : Adds old new (IsLookName holds make f g ⊥ ⊤)
      pub calls : Adds before after (HasState K)
      pub known : (x : Triple) → Contains after x → HasState K x
      pub part : IsPart f.looks.ranks N.has (first_of holds make f g) (second_of holds make f g) new after (map (map (meant holds make f g)) rows)
      pub stand : All (All (OutStands K (length new))) rows
      pub count : length rows ≡ place

    -- the rules of all of them
    abbrev pub AreAllOuts : Type 0 → List LookName → List LookName → List Triple → List Triple → List (List (PlainOut (PlainRule A) M)) → Type 0
    AreAllOuts K old new before after rows = OutsSoFar K old new before after rows (length after)

-- a transducer over the trees of another one
module _ {A M : Type 0} (fits P : A → Type 0) (Q : M → Type 0) (f : OutMachine A M) where
  -- the rule fits among so many states of the lookahead, and its atoms and maps are these
  pub record RuleOver (states : ℕ) (r : PlainOut (PlainRule A) M) : Type 0 where
    pub stands : RuleStands f.looks.ranks states r.rule
    pub fit : EveryAtom fits r.rule.guard
    pub atoms : EveryAtom P r.rule.guard
    pub maps : EveryMap Q r.term

  pub record IsOver (d : OutMachine A M) : Type 0 where
    pub ranks : d.looks.ranks ≡ f.looks.ranks
    pub fit : AtomsFit fits d.looks
    pub atoms : AtomsFit P d.looks
    pub rules : All (All (RuleOver (length d.looks.rules))) d.rules

module _ {A M V W : Type 0} (is_put : M → A → A → Type 0) (make : M → Label → Label) {label_of : V → Label} {holds : A → Label → Bool} (N : Meaning label_of holds W) (fits : A → Type 0) (f g : OutMachine A M) (Q : Type 0 → M → Type 0) where
  -- a transducer that begins with this triple, with states for all that it calls
  pub record IsTransFor (x : Triple) (c : Trans A M) : Type 0 where
    pub looks : List LookName
    pub names : List Triple
    pub built : IsBuiltTrans f.looks.ranks N.has (first_of holds make f g) (second_of holds make f g) (MayRun (second_of holds make f g) (KeepsOutput x)) x looks names (trans_at holds make c)
    pub low : c.state < length c.sttr.rules
    pub over : IsOver fits (IsThroughAtom N.equal is_put f g) (Q (KeepsOutput x)) f c.sttr
