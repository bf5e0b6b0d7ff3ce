-- The rules of blocks.
use Rattle.std.specs.Prelude.{ℕ, suc, ◌^◌, ◌≡◌, ◌<◌, ◌==◌, Bool, true, List, [], filter, length, get_or, All, Contains}
use Rattle.std.specs.List.{flat_map}
use Rattle.model_tree.specs.Label.{Label}
use Rattle.sta_core.specs.Machine.{PlainRule}
use Rattle.sta_classes.specs.Plain.{PlainTable}
use Rattle.sta_min.specs.Demands.{is_free}
use Rattle.sta_min.specs.Heads.{PlainHead, AreHeads}
use Rattle.sta_min.specs.Parents.{PlainParents, AreAllParents}
use Rattle.sta_min.specs.Targets.{IsGuardOfAny}

-- those of the classes that are in the block
abbrev pub classes_in : List ℕ → ℕ → List ℕ → List ℕ
classes_in dense block classes = filter (λ k. get_or dense k 0 == block) classes

-- none of the parents' classes is in the block
abbrev pub NoneIsIn : List ℕ → ℕ → PlainParents → Type 0
NoneIsIn dense block p = (k : ℕ) → Contains p.targets k → ¬ (get_or dense k 0 ≡ block)

module _ {A V : Type 0} (eq : A → A → Bool) (holds : A → Label → Bool) (t : PlainTable A V) where
  -- the rule is for the parents, over the labels with which they have one of the classes
  pub record IsRuleOver (p : PlainParents) (classes : List ℕ) (r : PlainRule A) : Type 0 where
    pub constructor_is : r.constructor ≡ p.constructor
    pub demands_are : r.demands ≡ p.demands
    pub guard : IsGuardOfAny eq holds t p.constructor p.children classes r.guard

  module _ (dense : List ℕ) (block : ℕ) where
    abbrev pub IsRuleFor : PlainParents → PlainRule A → Type 0
    IsRuleFor p = IsRuleOver p (classes_in dense block p.targets)

    -- one rule for each of those parents of which some are in the block
    pub record AreRulesFor (all : List PlainParents) (rules : List (PlainRule A)) : Type 0 where
      pub sound : (r : PlainRule A) → Contains rules r → (p : PlainParents) × Contains all p × IsRuleFor p r
      pub complete : (p : PlainParents) → Contains all p → (k : ℕ) → Contains p.targets k → get_or dense k 0 ≡ block → (r : PlainRule A) × Contains rules r × IsRuleFor p r

  -- the same for the first n blocks
  pub record AreRulesOfBlocks (dense : List ℕ) (all : List PlainParents) (n : ℕ) (rules : List (List (PlainRule A))) : Type 0 where
    pub many : length rules ≡ n
    pub each : (i : ℕ) → i < n → AreRulesFor dense i all (get_or rules i [])

-- the classes are known
pub record IsGoodParents {A V : Type 0} (t : PlainTable A V) (p : PlainParents) : Type 0 where
  pub children : All (λ k. k < length t.found) p.children
  pub targets : All (λ k. k < length t.found) p.targets

-- so many blocks of known classes, each of which has the number of its own
pub record AreBlocksOf {A V : Type 0} (t : PlainTable A V) (firsts dense : List ℕ) : Type 0 where
  pub few : length firsts < 2 ^ 32
  pub known : All (λ k. k < length t.found) firsts
  pub many : length dense ≡ length t.found
  pub some : (c j : ℕ) → is_free t c j ≡ true → 0 < length firsts

-- the rules of all blocks, and behind them those of the final ones together
pub record AreAllRules {A V : Type 0} (eq : A → A → Bool) (label_of : V → Label) (holds : A → Label → Bool) (t : PlainTable A V) (values : List (List V)) (firsts dense finals : List ℕ) (rules : List (List (PlainRule A))) : Type 0 where
  pub heads : List PlainHead
  pub parents : List PlainParents
  pub are_heads : AreHeads t (length firsts) (length t.machine.ranks) heads
  pub are_parents : AreAllParents label_of holds t values firsts heads (length heads) parents
  pub many : length rules ≡ suc (length firsts)
  pub blocks : (i : ℕ) → i < length firsts → AreRulesFor eq holds t dense i parents (get_or rules i [])
  pub last : get_or rules (length firsts) [] ≡ flat_map (λ i. get_or rules i []) finals
