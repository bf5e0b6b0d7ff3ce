-- The type of the sides of `in`.
use Rattle.std.proofs.Common.{◌≡◌, ◌↔◌, ℕ, true, List, Some, sym, ap, subst, ◌∙◌}
use Rattle.model_grammar.specs.Syntax.{X, Item}
use Rattle.model_tree.specs.Signature.{PlainSignature}
use Rattle.model_meaning.specs.Meaning.{IsInLanguage, input_type, signature_named}
use Rattle.model_meaning.specs.Values.{Printed, IsValue}
use Rattle.fast_eval.specs.Forms.{IsMadeOn}
use Rattle.fast_eval.proofs.Claims.{made_on}
use Rattle.tree_values.specs.declared.members.Membership.{Membership}
use Rattle.tree_values.specs.declared.stops.ValueStop.{ValueStop}
use Rattle.tree_values.specs.Members.{IsMember, IsMemberStop}
use Rattle.tree_values.specs.Stops.{IsValueStop}
use Rattle.tree_values.specs.Trees.{meant}
use Rattle.tree_values.proofs.Stopped.{stop_value}

-- the type that is told is that of the languages
pub type_is : (of type : List ℕ) → Some of ≡ Some type → type ≡ of
type_is of type e = cc

module _ (items : List Item) (of type : List ℕ) (y : X) (made : IsMadeOn items type y) (told : Some of ≡ Some type) where
  pub input_is : input_type items y ≡ signature_named items (Some of)
  input_is = ap (signature_named items) ((made_on items type y made).1 ∙ ap Some (type_is of type told))

  -- what stops the evaluation of the left side stops that of the statement
  pub left_stops : (printed : List Printed) (most : ℕ) (x : X) (s : ValueStop) → IsValueStop items printed most (signature_named items (Some of)) x s → IsMemberStop items printed most x y s
  left_stops printed most x s h = stop_value items printed most x y s (subst (λ (g : PlainSignature). IsValueStop items printed most g x s) (sym input_is) h)

  pub is_member : (printed : List Printed) (x : X) (m : Membership) → IsValue items printed (signature_named items (Some of)) x (meant m.tree) → ((m.inside ≡ true) ↔ IsInLanguage items y (meant m.tree)) → IsMember items printed x y m
  is_member printed x m is inside = record { is = subst (λ (g : PlainSignature). IsValue items printed g x (meant m.tree)) (sym input_is) is; told = inside }
