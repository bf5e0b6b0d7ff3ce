-- Rules of a transducer that are kept, with their demands by the numbers of names, alone or together with those of an automaton.
use Rattle.std.specs.Prelude.{◌⊎◌, ◌∷◌, ◌≡◌, ◌<◌, ℕ, Bool, List, [], ◌++◌, length, get_or, Contains}
use Rattle.model_tree.specs.Label.{Label}
use Rattle.model_sttr.specs.Plain.{PlainOut}
use Rattle.sta_core.specs.Machine.{PlainRule}
use Rattle.sttr_theory.specs.Lists.{IsAt, Match}
use Rattle.sttr_theory.specs.Triples.{LookName, of_first, of_second, middle}
use Rattle.sttr_preimage.specs.declared.names.Side.TheVariants as side
use Rattle.sttr_preimage.specs.Names.{Adds}
use Rattle.sttr_preimage.specs.Apart.{AreApart}
use Rattle.sttr_preimage.specs.Rules.{IsCopied, demands_of, both_of}
use Rattle.sttr_preimage.specs.Called.{IsTermCopy}

-- the states that the rule demands are below a number
abbrev pub IsBelow : {A : Type 0} → ℕ → PlainRule A → Type 0
IsBelow n r = (j s : ℕ) → Contains (get_or r.demands j []) s → s < n

-- a state of the lookahead or of the automaton
abbrev pub IsEither : ℕ → ℕ → LookName → Type 0
IsEither n m (of_first s) = s < n
IsEither n m (of_second s) = s < m
IsEither n m (middle q all) = ⊥

-- what both demand of a child
abbrev pub joint_demands : {A : Type 0} → PlainRule A → PlainRule A → ℕ → List LookName
joint_demands r σ j = demands_of side.First r j ++ demands_of side.Second σ j

module _ {A M : Type 0} (make : M → Label → Label) (D : Label → Type 0) (eq : M → M → Bool) where
  pub record IsKept (names : List LookName) (made r : PlainOut (PlainRule A) M) : Type 0 where
    pub rule : IsCopied names side.First made.rule r.rule
    pub term : IsTermCopy make D eq r.term made.term

  -- the rule, where one of the automaton applies as well
  pub record IsJoint (names : List LookName) (made r : PlainOut (PlainRule A) M) (σ : PlainRule A) : Type 0 where
    pub constructor : made.rule.constructor ≡ r.rule.constructor
    pub guard : made.rule.guard ≡ both_of r.rule.guard σ.guard
    pub count : length made.rule.demands ≡ length r.rule.demands
    pub each : (j : ℕ) → j < length r.rule.demands → Match (IsAt names) (get_or made.rule.demands j []) (joint_demands r.rule σ j)
    pub term : IsTermCopy make D eq r.term made.term

  module _ (n m : ℕ) where
    pub record AreKept (old new : List LookName) (rules made : List (PlainOut (PlainRule A) M)) : Type 0 where
      pub adds : Adds old new (IsEither n m)
      pub kept : Match (IsKept new) made rules

    pub record AreAllKept (old new : List LookName) (rows made : List (List (PlainOut (PlainRule A) M))) : Type 0 where
      pub adds : Adds old new (IsEither n m)
      pub count : length made ≡ length rows
      pub each : (q : ℕ) → q < length rows → Match (IsKept new) (get_or made q []) (get_or rows q [])

    -- one for each two of one constructor, but for those whose guards no label of D has together
    pub record AreJoint (holds : A → Label → Bool) (old new : List LookName) (rules : List (PlainOut (PlainRule A) M)) (others : List (PlainRule A)) (made : List (PlainOut (PlainRule A) M)) : Type 0 where
      pub adds : Adds old new (IsEither n m)
      pub only : (x : PlainOut (PlainRule A) M) → Contains made x → (r : PlainOut (PlainRule A) M) × Contains rules r × (σ : PlainRule A) × Contains others σ × (r.rule.constructor ≡ σ.constructor) × IsJoint new x r σ
      pub all : (r : PlainOut (PlainRule A) M) → Contains rules r → (σ : PlainRule A) → Contains others σ → r.rule.constructor ≡ σ.constructor → ((x : PlainOut (PlainRule A) M) × Contains made x × IsJoint new x r σ) ⊎ AreApart holds D r.rule.guard σ.guard

    -- the rules of all states, and of one more that has this state's together with those of the automaton
    pub record AreRestricted (holds : A → Label → Bool) (old new : List LookName) (rows : List (List (PlainOut (PlainRule A) M))) (q : ℕ) (others : List (PlainRule A)) (made : List (List (PlainOut (PlainRule A) M))) : Type 0 where
      pub between : List LookName
      pub kept : List (List (PlainOut (PlainRule A) M))
      pub joint : List (PlainOut (PlainRule A) M)
      pub are_kept : AreAllKept old between rows kept
      pub are_joint : AreJoint holds between new (get_or rows q []) others joint
      pub is : made ≡ kept ++ joint ∷ []
