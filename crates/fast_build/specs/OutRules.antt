-- The rules of a transducer for rules of a program.
use Rattle.std.specs.Prelude.{◌≡◌, ℕ, true, List, All, Contains}
use Rattle.model_tree.specs.Signature.{PlainSignature}
use Rattle.model_grammar.specs.Syntax.{OutRule}
use Rattle.model_sta.specs.Pairwise.{Pairwise}
use Rattle.model_sttr.specs.Plain.{PlainOut}
use Rattle.sta_core.specs.Machine.{PlainRule}
use Rattle.record_label.specs.Rows.{RowAtom}
use Rattle.record_label.specs.declared.maps.RowMap.{RowMap}
use Rattle.fast_build.specs.Numbers.{has_ctor}
use Rattle.fast_build.specs.Reached.{demanded_by}
use Rattle.fast_build.specs.Rules.{IsRuleFor}
use Rattle.fast_build.specs.Stands.{GuardStands}
use Rattle.fast_build.specs.Terms.{IsTermFor, TermStands}

-- each language has the number that looks gives it, and each transformation the one that place gives it
module _ (from into : PlainSignature) (looks place : List ℕ → ℕ) where
  pub record IsOutRuleFor (p : PlainOut (PlainRule RowAtom) RowMap) (r : OutRule) : Type 0 where
    pub rule : IsRuleFor from looks p.rule r.rule
    pub term : IsTermFor from into place r.rule.vars r.out p.term

  -- in the order in which they are written
  abbrev pub AreOutRulesFor : List (PlainOut (PlainRule RowAtom) RowMap) → List OutRule → Type 0
  AreOutRulesFor ps rs = Pairwise IsOutRuleFor ps rs

  -- the same for the rules of each state
  abbrev pub AreOutStatesFor : List (List (PlainOut (PlainRule RowAtom) RowMap)) → List (List OutRule) → Type 0
  AreOutStatesFor states rules = Pairwise AreOutRulesFor states rules

-- a rule has a constructor of the type, a guard that stands, demands of languages among these, and a term that stands
pub record OutRuleStands (from into : PlainSignature) (looks names : List (List ℕ)) (r : OutRule) : Type 0 where
  pub ctor : has_ctor from r.rule ≡ true
  pub guard : GuardStands from.fields r.rule.guard
  pub demands : All (Contains looks) (demanded_by r.rule.given)
  pub term : TermStands from into names r.rule.vars r.out
