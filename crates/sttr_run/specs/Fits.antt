-- Which rules a transducer may have, so that results may be made of them.
use Rattle.std.specs.Prelude.{◌≡◌, ◌<◌, ℕ, List, length, get_or, All}
use Rattle.model_sttr.specs.Plain.{PlainOut}
use Rattle.model_sttr.specs.Terms.{Uses, Occurs}
use Rattle.model_sttr.specs.Transducer.{run}
use Rattle.sta_core.specs.Machine.{Machine, PlainRule}
use Rattle.sttr_core.specs.Machine.{OutMachine}

-- the constructor is one of the ranks, there is a demand for each child, and what is demanded are states
pub record RuleStands {A : Type 0} (ranks : List ℕ) (states : ℕ) (r : PlainRule A) : Type 0 where
  pub constructor : r.constructor < length ranks
  pub children : length r.demands ≡ get_or ranks r.constructor 0
  pub demands : All (All (λ s. s < states)) r.demands

-- the term uses children that there are, and calls states
pub record OutStands {A M : Type 0} (ranks : List ℕ) (looks states : ℕ) (r : PlainOut (PlainRule A) M) : Type 0 where
  pub rule : RuleStands ranks looks r.rule
  pub children : (j : ℕ) → Uses j r.term → j < get_or ranks r.rule.constructor 0
  pub calls : (q j : ℕ) → Occurs (run q) j r.term → q < states

-- the rules of a lookahead demand states that there are, as those of each automaton do
abbrev pub LooksStand : {A : Type 0} → Machine A → Type 0
LooksStand m = All (All (λ r. All (All (λ s. s < length m.rules)) r.demands)) m.rules

abbrev pub SttrStands : {A M : Type 0} → OutMachine A M → Type 0
SttrStands d = All (All (OutStands d.looks.ranks (length d.looks.rules) (length d.rules))) d.rules
