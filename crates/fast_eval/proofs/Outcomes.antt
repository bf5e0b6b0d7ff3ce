-- What an item gives, and the causes for which it stops, by what is found of its expressions.
use Rattle.std.proofs.Common.{◌≡◌, inl, inr, ℕ, true, List, [], refl, Option, Some, None, ap}
use Rattle.std.proofs.lemmas.Bool.{or_right}
use Rattle.std.specs.Prelude.{is_some}
use Rattle.model_grammar.specs.declared.Op1.TheVariants.{Complement, Minimize, Domain, GetWitness}
use Rattle.model_grammar.specs.Syntax.{X, named, one, two, literal, DefItem, AssertItem, Body, def, assertion, Item}
use Rattle.model_meaning.specs.Values.{Printed}
use Rattle.model_meaning.specs.Truth.{Shows}
use Rattle.meaning_laws.specs.Shapes.{has_automaton_shape}
use Rattle.model_run.specs.Items.{expressions_in, has_classes, claim_has_classes, judged_claim, by_expressions, in_expression, IsComposable, AreAllComposable}
use Rattle.model_run.specs.Causes.{AreAllLarge, HasCause, too_large}
use Rattle.model_run.specs.Outcomes.{IsDefLine}
use Rattle.fast_eval.specs.declared.stops.EvalStop.{EvalStop}
use Rattle.fast_eval.specs.declared.stops.EvalStop.TheVariants.{Classes, Wide, Range, Memory}
use Rattle.model_layers.proofs.Chosen.{first_of}
use Rattle.fast_eval.specs.Counted.{IsCounted, outcome_of}
use Rattle.fast_eval.specs.Stops.{IsStopOf, StopsExpression, IsCauseFor}

-- where the compositions of an item can be made, so can those in each of its expressions
pub each_composable : (items : List Item) (body : Body) → IsComposable items body → AreAllComposable items (expressions_in body)
each_composable items body can e at x y is = can x y (in_expression body e at is)

-- the outcome of a definition of a language by an expression that can be evaluated, by the count that it asks for
pub def_outcome : (items : List Item) (trees : List Printed) (d : DefItem) (x : X) → has_automaton_shape x ≡ true → (count : Option ℕ) → IsCounted items x count → IsDefLine items trees d x (outcome_of d.name.text count)
def_outcome items trees d (named n) form count is = ap (outcome_of d.name.text) is
def_outcome items trees d (one Complement place x) form count is = ap (outcome_of d.name.text) is
def_outcome items trees d (one Minimize place x) form None is = absurd is
def_outcome items trees d (one Minimize place x) form (Some n) is = (refl, is)
def_outcome items trees d (one Domain place x) form count is = ap (outcome_of d.name.text) is
def_outcome items trees d (one GetWitness place x) form count is = ap (outcome_of d.name.text) is
def_outcome items trees d (two op place x y) form count is = ap (outcome_of d.name.text) is
def_outcome items trees d (literal name labels xs) form count is = absurd (cc)

-- ---- causes

module _ (items : List Item) (limit : ℕ) (trees : List Printed) where
  pub claim_cause : (a : AssertItem) (s : EvalStop) → claim_has_classes a.claim ≡ true → IsStopOf items (judged_claim items a.claim) limit s → IsCauseFor items limit trees (assertion a) s
  claim_cause a Classes has stop = (refl, by_expressions (assertion a) has, stop)
  claim_cause a (Wide c) has stop = (by_expressions (assertion a) has, stop)
  claim_cause a (Range n) has (e, at, own) = (e, at, own.0, own.1, own.2)
  claim_cause a Memory has stop = tt

  pub def_cause : (d : DefItem) (s : EvalStop) → StopsExpression items d.value limit s → IsCauseFor items limit trees (def d) s
  def_cause d Classes stop = (refl, by_expressions (def d) (or_right (is_some d.into) (has_classes d.value) stop.0), stop.1)
  def_cause d (Wide c) stop = (by_expressions (def d) (or_right (is_some d.into) (has_classes d.value) stop.0), stop.1)
  def_cause d (Range n) stop = (d.value, first_of d.value [], stop.1.0, stop.1.1, stop.1.2)
  def_cause d Memory stop = tt

  pub large_cause : (a : AssertItem) → AreAllLarge (Shows items a.claim) → HasCause items limit trees (assertion a) too_large
  large_cause a large = inl (inr (inl large))
