-- What an operation means, by the meanings of its operands.
use Rattle.std.proofs.Common.{◌↔◌, ◌⊎◌, List}
use Rattle.fast_fault.specs.declared.place.Pos.{Pos}
use Rattle.model_tree.specs.Tree.{LabelTree}
use Rattle.model_grammar.specs.declared.Op1.TheVariants.{Complement, Minimize, Domain}
use Rattle.model_grammar.specs.declared.Op2.TheVariants.{Intersect, Union, Difference, PreImage, Compose, Restrict, RestrictOut}
use Rattle.model_grammar.specs.Syntax.{X, one, two, Item}
use Rattle.model_meaning.specs.Meaning.{IsInLanguage, IsRelated}

module _ (items : List Item) (place : Pos) (x y : X) where
  pub union_is : (t : LabelTree) → (IsInLanguage items x t ⊎ IsInLanguage items y t) ↔ IsInLanguage items (two Union place x y) t
  union_is t = (λ h. h, λ h. h)

  pub intersection_is : (t : LabelTree) → (IsInLanguage items x t × IsInLanguage items y t) ↔ IsInLanguage items (two Intersect place x y) t
  intersection_is t = (λ h. h, λ h. h)

  pub difference_is : (t : LabelTree) → (IsInLanguage items x t × ¬ (IsInLanguage items y t)) ↔ IsInLanguage items (two Difference place x y) t
  difference_is t = (λ h. h, λ h. h)

  pub complement_is : (t : LabelTree) → (¬ (IsInLanguage items x t)) ↔ IsInLanguage items (one Complement place x) t
  complement_is t = (λ h. h, λ h. h)

  pub minimize_is : (t : LabelTree) → IsInLanguage items x t ↔ IsInLanguage items (one Minimize place x) t
  minimize_is t = (λ h. h, λ h. h)

  pub domain_is : (t : LabelTree) → ((u : LabelTree) × IsRelated items x t u) ↔ IsInLanguage items (one Domain place x) t
  domain_is t = (λ h. h, λ h. h)

  pub pre_image_is : (t : LabelTree) → ((u : LabelTree) × IsRelated items x t u × IsInLanguage items y u) ↔ IsInLanguage items (two PreImage place x y) t
  pre_image_is t = (λ h. h, λ h. h)

  pub restriction_is : (t u : LabelTree) → (IsRelated items x t u × IsInLanguage items y t) ↔ IsRelated items (two Restrict place x y) t u
  restriction_is t u = (λ h. h, λ h. h)

  pub out_restriction_is : (t u : LabelTree) → (IsRelated items x t u × IsInLanguage items y u) ↔ IsRelated items (two RestrictOut place x y) t u
  out_restriction_is t u = (λ h. h, λ h. h)

  pub composition_is : (t w : LabelTree) → ((u : LabelTree) × IsRelated items x t u × IsRelated items y u w) ↔ IsRelated items (two Compose place x y) t w
  composition_is t w = (λ h. h, λ h. h)
