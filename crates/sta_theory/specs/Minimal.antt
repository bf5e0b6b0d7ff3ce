-- The least deterministic and complete automaton of a language.
use Rattle.std.specs.Prelude.{ℕ, suc, ◌≡◌, ◌<◌, ◌≤◌, Bool, true, ◌==◌, List, get_or, length, map, Contains}
use Rattle.std.specs.List.{list_any, flat_map}
use Rattle.model_tree.specs.Tree.{Tree}
use Rattle.model_sta.specs.Automaton.{Rule, rules_of, is_accepted}
use Rattle.model_sta.specs.Sets.{Row, Each, has, step, Fits}
use Rattle.sta_theory.specs.Kinds.{OneKind}
use Rattle.model_sta.specs.Operations.{Auto, Has, AgreeIn, KeepsGuards, IsMinimal}
use Rattle.sta_theory.specs.Contexts.{AreToldApart, IsCount}
use Rattle.sta_theory.specs.Machines.{AreDeterministic, HasFinals}
use Rattle.sta_theory.specs.Blocks.{KindTable, AreBlocks}
use Rattle.sta_theory.specs.Rounds.{row_at, block, AreFirsts, IsSplitInto, IsDense}
use Rattle.sta_theory.specs.Built.{AreRulesOf}

abbrev pub is_among : List ℕ → ℕ → Bool
is_among finals i = list_any (λ k. i == k) finals

module _ {L : Type 0} (table : KindTable L) where
  -- the block of a node over sets of these blocks
  abbrev pub next_block : (Row → ℕ) → (ℕ → Row) → ℕ → L → List ℕ → ℕ
  next_block block one_of c l ks = block (step table.rules c l (map one_of ks))

  -- all sets are of one kind at a free place
  abbrev pub AreFree : (ℕ → ℕ → Bool) → Type 0
  AreFree free = (c j : ℕ) → free c j ≡ true → (q r : Row) → Contains table.known q → Contains table.known r → OneKind table.rules c j q r

module _ {L : Type 0} (D : L → Type 0) (table : KindTable L) (start : ℕ) where
  -- what a program has after the last round: the blocks, their first sets and numbers, and which of them have the start
  pub record IsRefined (bs firsts dense finals : List ℕ) : Type 0 where
    pub are_firsts : AreFirsts D table bs
    pub blocks : AreBlocks D table (λ q. has q start) (block D table bs)
    pub last : IsSplitInto D table bs bs
    pub numbers : IsDense (length table.known) bs firsts dense
    pub finals_are : (k : ℕ) → k < length firsts → is_among finals k ≡ has (row_at D table bs (get_or firsts k 0)) start

module _ {L : Type 0} (ranks : List ℕ) (D : L → Type 0) where
  -- the blocks are the first n states, and the last state has the rules of the final ones
  pub record IsWritten (a : Auto L) (n : ℕ) (finals : List ℕ) (next : ℕ → L → List ℕ → ℕ) (free : ℕ → ℕ → Bool) (c : Auto L) : Type 0 where
    pub many : length c.rules ≡ suc n
    pub start_is : c.start ≡ n
    pub low : Each (λ k. k < n) finals
    pub rules_are : AreRulesOf ranks D n next free c.rules
    pub guards_agree : (l m : L) → AgreeIn a.rules l m → (i : ℕ) → i < n → (r : Rule L) → Contains (rules_of c.rules i) r → r.guard l ≡ r.guard m
    pub last_are : rules_of c.rules n ≡ flat_map (rules_of c.rules) finals

  -- what the least automaton c of the language of a is, with n states beside its start
  pub record IsLeast (a c : Auto L) (n : ℕ) (finals : List ℕ) : Type 0 where
    pub many : length c.rules ≡ suc n
    pub start_is : c.start ≡ n
    pub minimal : IsMinimal (Fits ranks D) a c
    pub guards : KeepsGuards a a c
    -- the first n states are deterministic and complete, and with these final ones have the same language
    pub deterministic : AreDeterministic ranks D c.rules n
    pub same_language : HasFinals ranks D c.rules n (is_among finals) (λ t. is_accepted a.rules t a.start)
    -- each of them accepts some tree, and each two are told apart by a context
    pub inhabited : (i : ℕ) → i < n → (t : Tree L) × Fits ranks D t × Has c.rules i t
    pub apart : (i j : ℕ) → i < n → j < n → ¬ (i ≡ j) → (s t : Tree L) → Fits ranks D s → Fits ranks D t → Has c.rules i s → Has c.rules j t → AreToldApart ranks D (λ u. is_accepted a.rules u a.start) s t
    -- no such list of states is shorter
    pub shortest : (rules : List (List (Rule L))) (m : ℕ) (accepting : ℕ → Bool) → AreDeterministic ranks D rules m → HasFinals ranks D rules m accepting (λ t. is_accepted a.rules t a.start) → n ≤ m
    -- and there are as many as trees can be told apart pairwise
    pub counted : IsCount ranks D (λ t. is_accepted a.rules t a.start) n
