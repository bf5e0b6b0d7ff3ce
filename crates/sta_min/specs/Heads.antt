-- Over which blocks there are rules.
use Rattle.std.specs.Prelude.{ℕ, ◌≡◌, ◌<◌, ◌↔◌, Bool, cond, List, map, length, get_or, All, Contains}
use Rattle.sta_classes.specs.Plain.{PlainTable}
use Rattle.sta_theory.specs.Built.{keys}
use Rattle.sta_min.specs.Demands.{is_free}
use Rattle.sta_min.specs.declared.heads.Head.{Head}

pub record PlainHead : Type 0 where
  pub constructor : ℕ
  pub blocks : List ℕ
  pub demands : List (List ℕ)

abbrev pub plain_head : Head → PlainHead
plain_head h = record { constructor = h.constructor; blocks = h.blocks.items; demands = map (λ d. d.items) h.demands.items }

-- the constructor over these blocks
abbrev pub head_with : ℕ → (ℕ → Bool) → List ℕ → PlainHead
head_with c free ks = record { constructor = c; blocks = ks; demands = keys free ks }

module _ {A V : Type 0} (t : PlainTable A V) (count : ℕ) where
  -- one of so many blocks for each child, and the first one at a free place
  abbrev pub AreChosen : ℕ → List ℕ → Type 0
  AreChosen c ks = (length ks ≡ get_or t.machine.ranks c 0) × ((j : ℕ) → j < get_or t.machine.ranks c 0 → get_or ks j 0 < cond (is_free t c j) 1 count)

  abbrev pub IsHeadOf : ℕ → PlainHead → Type 0
  IsHeadOf c h = (ks : List ℕ) × AreChosen c ks × (head_with c (is_free t c) ks ≡ h)

  -- exactly those of the first n constructors
  abbrev pub AreHeads : ℕ → List PlainHead → Type 0
  AreHeads n heads = (h : PlainHead) → Contains heads h ↔ ((c : ℕ) × (c < n) × IsHeadOf c h)

  -- the blocks are among the first so many
  pub record IsGoodHead (h : PlainHead) : Type 0 where
    pub low : h.constructor < length t.machine.ranks
    pub wide : length h.blocks ≡ get_or t.machine.ranks h.constructor 0
    pub known : All (λ k. k < count) h.blocks
