-- The rules of an automaton for rules of a program.
use Rattle.std.specs.Prelude.{◌≡◌, ℕ, true, List, Option, Some, None}
use Rattle.model_tree.specs.Signature.{PlainField, PlainSignature}
use Rattle.model_tree.specs.Formula.{Formula, yes}
use Rattle.model_grammar.specs.Syntax.{Expr, Rule}
use Rattle.model_guard.specs.Guards.{is_guard}
use Rattle.model_sta.specs.Pairwise.{Pairwise}
use Rattle.sta_core.specs.Machine.{PlainRule}
use Rattle.record_label.specs.Rows.{RowAtom}
use Rattle.record_label.specs.Guards.{IsGuardOf}
use Rattle.fast_build.specs.Numbers.{IsNumbered, numbers_for_each}

-- the guard that is written, as a formula; one that isn't written always holds
abbrev pub IsGuardFor : List PlainField → Option Expr → Formula RowAtom → Type 0
IsGuardFor fields None f = f ≡ yes
IsGuardFor fields (Some e) f = (is_guard fields e ≡ true) × IsGuardOf fields e f

-- each name has the number that place gives it
module _ (t : PlainSignature) (place : List ℕ → ℕ) where
  -- it has the number of the constructor, the guard, and the demands on each child
  pub record IsRuleFor (p : PlainRule RowAtom) (r : Rule) : Type 0 where
    pub numbered : IsNumbered t.constructors r.ctor.text p.constructor
    pub guard : IsGuardFor t.fields r.guard p.guard
    pub demands : p.demands ≡ numbers_for_each place r.given r.vars

  abbrev pub AreRulesFor : List (PlainRule RowAtom) → List Rule → Type 0
  AreRulesFor ps rs = Pairwise IsRuleFor ps rs

  -- the same for the rules of each state
  abbrev pub AreStatesFor : List (List (PlainRule RowAtom)) → List (List Rule) → Type 0
  AreStatesFor states rules = Pairwise AreRulesFor states rules
